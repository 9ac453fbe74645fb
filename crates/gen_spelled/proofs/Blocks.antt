-- A function that counts by a plan that fits is spellable where the function is.
use Rattle.std.proofs.Common.{◌≡◌, ℕ, suc, ◌+◌, inl, Bool, true, false, ◌==◌, List, [], ◌∷◌, ◌++◌, map, Option, Some, None, length, slice_get, refl, sym, subst, arith, zero-add}
use Rattle.std.proofs.lemmas.Bool.{ne_eqb}
use Rattle.count_plan.specs.Calls.{increments, watched}
use Rattle.count_plan.specs.Counted.{counted_blocks, counted_from, counted_function, counted_instrs, counted_pieces, new_blocks, put_on, watch_at}
use Rattle.count_plan.specs.Ways.{block_plan, new_at, renamed_phi, renaming, renamings, renamings_from}
use Rattle.count_plan.specs.declared.plan.BlockPlan.{BlockPlan}
use Rattle.count_plan.specs.declared.plan.FunctionPlan.{FunctionPlan}
use Rattle.count_plan.specs.declared.plan.NewBlock.{NewBlock}
use Rattle.counted_rules.specs.PlanFits.{IsCounter, PlanFits, put_names, watches_in}
use Rattle.gen_spelled.proofs.Calls.{Registers, increments_are, watched_are}
use Rattle.gen_spelled.proofs.Lists.{Name, among_left, among_listed, among_made, among_map, among_right, each_append, each_dropped, each_get, each_made, each_mapped, each_taken}
use Rattle.gen_spelled.proofs.Ways.{IsRenaming, phi_is, renaming_is, successors_are, term_is}
use Rattle.ir_rules.specs.Lists.{Among}
use Rattle.ir_tree.specs.Blocks.{block_with, labels}
use Rattle.ir_tree.specs.Functions.{is_declared}
use Rattle.ir_tree.specs.Names.{same}
use Rattle.ir_tree.specs.Operands.{result_name, result_names}
use Rattle.ir_tree.specs.Phis.{behind_phis, leading_phis, phi_count}
use Rattle.ir_tree.specs.Successors.{successors}
use Rattle.ir_tree.specs.declared.types.Block.{Block}
use Rattle.ir_tree.specs.declared.types.Function.{Function}
use Rattle.ir_tree.specs.declared.types.Instr.{Instr}
use Rattle.ir_tree.specs.declared.types.Module.{Module}
use Rattle.ir_tree.specs.declared.types.Prof.{Prof}
use Rattle.ir_tree.specs.declared.types.Term.TheVariants.{Br}
use Rattle.ir_tree.specs.declared.types.Ty.{Ty}
use Rattle.spellable.specs.Instructions.{IsInstr}
use Rattle.spellable.specs.Modules.{IsBlock, IsBody, IsFunction}
use Rattle.spellable.specs.Values.{Each, IsGlobal, IsLocal}

module _ (P : Prof → Type 0) (m : Module) (unit : FunctionPlan) (named : IsGlobal unit.symbol) where
  -- ---- a block

  instrs_from : (plan : BlockPlan) (i : ℕ) (xs : List Instr) → ((k : ℕ) (x : Instr) → slice_get xs k ≡ Some x → Each (IsInstr P) (watched unit (watch_at plan (i + k)) x)) → Each (IsInstr P) (increments unit plan.tail) → Each (IsInstr P) xs → Each (IsInstr P) (counted_from unit plan i xs)
  instrs_from plan i [] put last h = last
  instrs_from plan i (x ∷ xs) put last h =
      each_append (IsInstr P) (watched unit (watch_at plan i) x) (x ∷ counted_from unit plan (i + 1) xs)
      (subst (λ (n : ℕ). Each (IsInstr P) (watched unit (watch_at plan n) x)) (let s : i + 0 ≡ i = omega arith in s) (put 0 x refl))
      (h.0, instrs_from plan (i + 1) xs (λ k y at. subst (λ (n : ℕ). Each (IsInstr P) (watched unit (watch_at plan n) y)) (let s : i + suc k ≡ i + 1 + k = omega arith in s) (put (suc k) y at)) last h.1)

  put_is : (to : Name) (o : Option NewBlock) → IsLocal to → ((new : NewBlock) → o ≡ Some new → IsLocal new.label) → ((new : NewBlock) (c : ℕ) → o ≡ Some new → new.counter ≡ Some c → IsCounter m unit c) → Each (IsBlock P) (put_on unit to o)
  put_is to None local label counter = tt
  put_is to (Some new) local label counter = (record { label = label new refl; instrs = increments_are P m unit named new.counter (λ c e. counter new c refl e); term = local }, tt)

  module _ (f : Function) (fits : PlanFits m unit f) (blocks : Each (IsBlock P) f.blocks) where
    module _ (j : ℕ) (b : Block) (at : slice_get f.blocks j ≡ Some b) where
      abbrev plan : BlockPlan
      plan = block_plan unit.blocks j

      whole : IsBlock P b
      whole = each_get (IsBlock P) f.blocks j b blocks at

      -- the new names are spelled
      put_local : (n : Name) → Among n (put_names unit plan b) → IsLocal n
      put_local n put = fits.named n (among_made (λ i c. put_names unit (block_plan unit.blocks i) c) f.blocks j b n at put)

      registers_are : (i : ℕ) (x : Instr) → slice_get (behind_phis b.instrs) i ≡ Some x → Registers (watched unit (watch_at plan i) x)
      registers_are i x here y r stands e =
          put_local r (among_left (result_names (watches_in unit plan b)) (labels (new_blocks unit plan b)) r (among_listed result_name (watches_in unit plan b) y r (among_made (λ k z. watched unit (watch_at plan k) z) (behind_phis b.instrs) i x y here stands) e))

      label_is : (p : ℕ) (to : Name) (new : NewBlock) → slice_get (successors b.term) p ≡ Some to → new_at plan p ≡ Some new → IsLocal new.label
      label_is p to new here e =
          let made : Block = block_with new.label (increments unit new.counter) (Br to) in
          put_local new.label (among_right (result_names (watches_in unit plan b)) (labels (new_blocks unit plan b)) new.label (among_map (λ (q : Block). q.label) (new_blocks unit plan b) made (among_made (λ k z. put_on unit z (new_at plan k)) (successors b.term) p to made here (subst (λ (o : Option NewBlock). Among made (put_on unit to o)) (sym e) (inl refl)))))

      way_is : (p : ℕ) (to : Name) → slice_get (successors b.term) p ≡ Some to → Each (IsBlock P) (put_on unit to (new_at plan p))
      way_is p to here =
          put_is to (new_at plan p) (each_get IsLocal (successors b.term) p to (successors_are P b.term whole.term) here) (λ new e. label_is p to new here e) (λ new c e k. (fits.edge j p c b to new at here e k).0)

      new_are : Each (IsBlock P) (new_blocks unit plan b)
      new_are = each_made (λ p to. put_on unit to (new_at plan p)) (IsBlock P) (successors b.term) way_is

    renamings_are : (l : Name) → Each IsRenaming (renamings unit.blocks f.blocks l)
    renamings_are l =
        each_made (λ i c. renamings_from l (block_plan unit.blocks i) c) IsRenaming f.blocks (λ i c here.
        each_made (λ p to. renaming (same l to) c.label (new_at (block_plan unit.blocks i) p)) IsRenaming (successors c.term) (λ p to way.
        renaming_is (same l to) c.label (new_at (block_plan unit.blocks i) p) (λ new e. label_is i c here p to new way e)))

    module _ (j : ℕ) (b : Block) (at : slice_get f.blocks j ≡ Some b) where
      abbrev its : BlockPlan
      its = block_plan unit.blocks j

      abbrev old : List (Name × Name)
      old = renamings unit.blocks f.blocks b.label

      formed : IsBlock P b
      formed = each_get (IsBlock P) f.blocks j b blocks at

      instrs_are : Each (IsInstr P) (counted_instrs unit its old b.instrs)
      instrs_are =
          let own : Each (IsInstr P) (behind_phis b.instrs) = each_dropped (IsInstr P) (phi_count b.instrs) b.instrs formed.instrs in
          each_append (IsInstr P) (map (renamed_phi old) (leading_phis b.instrs)) (increments unit its.head ++ counted_from unit its 0 (behind_phis b.instrs))
          (each_mapped (IsInstr P) (IsInstr P) (renamed_phi old) (leading_phis b.instrs) (λ x. phi_is P old x (renamings_are b.label)) (each_taken (IsInstr P) (phi_count b.instrs) b.instrs formed.instrs))
          (each_append (IsInstr P) (increments unit its.head) (counted_from unit its 0 (behind_phis b.instrs)) (increments_are P m unit named its.head (λ c e. (fits.head j c b at e).0))
          (instrs_from its 0 (behind_phis b.instrs)
          (λ k x here. subst (λ (n : ℕ). Each (IsInstr P) (watched unit (watch_at its n) x)) (sym (zero-add k)) (watched_are P m unit named (watch_at its k) x (fits.watch j k b x at here) (each_get (IsInstr P) (behind_phis b.instrs) k x own here) (registers_are j b at k x here)))
          (increments_are P m unit named its.tail (λ c e. (fits.tail j c b at e).0)) own))

      pieces_are : Each (IsBlock P) (counted_pieces unit f.blocks j b)
      pieces_are = (record { label = formed.label; instrs = instrs_are; term = term_is P its b.term formed.term (label_is j b at) }, new_are j b at)

    pub blocks_are : Each (IsBlock P) (counted_blocks unit f.blocks)
    blocks_are = each_made (counted_pieces unit f.blocks) (IsBlock P) f.blocks pieces_are

  -- ---- a function

  body_blocks : (params : List (Ty × Name)) (prof : Option Prof) (bs : List Block) → IsBody P params prof bs → Each (IsBlock P) bs
  body_blocks params prof [] h = tt
  body_blocks params prof (b ∷ bs) h = h.2

  body_is : (params : List (Ty × Name)) (prof : Option Prof) (bs : List Block) → IsBody P params prof bs → Each (IsBlock P) (counted_blocks unit bs) → IsBody P params prof (counted_blocks unit bs)
  body_is params prof [] h k = h
  body_is params prof (b ∷ bs) h k = (h.0, h.1, k)

  declared_is : (params : List (Ty × Name)) (prof : Option Prof) (bs : List Block) → (length bs == 0) ≡ true → IsBody P params prof bs → IsBody P params prof (counted_blocks unit bs)
  declared_is params prof [] e h = h
  declared_is params prof (b ∷ bs) e h = absurd (let n : (length (b ∷ bs) == 0) ≡ false = ne_eqb (length (b ∷ bs)) 0 (omega arith) in let no : ⊥ = cc (e, n) in no)

  -- where the plan fits a function that is defined
  pub function_is : (f : Function) → IsFunction P f → (is_declared f ≡ false → PlanFits m unit f) → IsFunction P (counted_function unit f)
  function_is f h fits = by (is_declared f) refl
    where
      by : (d : Bool) → is_declared f ≡ d → IsFunction P (counted_function unit f)
      by true e = (h.0, declared_is f.params f.prof f.blocks e h.1)
      by false e = (h.0, body_is f.params f.prof f.blocks h.1 (blocks_are f (fits e) (body_blocks f.params f.prof f.blocks h.1)))
