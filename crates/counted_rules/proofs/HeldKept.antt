-- Registers stay held: along walks through the blocks of a function that counts, and in each block.
use Rattle.std.proofs.Common.{◌≡◌, ℕ, zero, suc, ◌+◌, ◌⊎◌, inl, inr, List, [], ◌∷◌, ◌++◌, map, Option, Some, None, slice_get, cond, refl, sym, ap, subst, arith}
use Rattle.std.specs.List.{cons_option}
use Rattle.std.specs.Option.{option_map}
use Rattle.std.proofs.lemmas.List.{take-append-drop}
use Rattle.std.proofs.lemmas.Option.{none-some, same_Some}
use Rattle.count_plan.specs.Calls.{condition_of, condition_watched, increments, target_of, target_watched, watched}
use Rattle.count_plan.specs.Counted.{counted_blocks, counted_from, counted_instrs, watch_at}
use Rattle.count_plan.specs.Ways.{led, led_to, new_at, renamed_phi, renamings}
use Rattle.count_plan.specs.declared.plan.BlockPlan.{BlockPlan}
use Rattle.count_plan.specs.declared.plan.FunctionPlan.{FunctionPlan}
use Rattle.count_plan.specs.declared.plan.NewBlock.{NewBlock}
use Rattle.count_plan.specs.declared.plan.Watch.{Watch}
use Rattle.count_plan.specs.declared.plan.Watch.TheVariants.{Nothing, Condition, Target}
use Rattle.counted_rules.proofs.Apart.{LabelsApart}
use Rattle.counted_rules.proofs.Listed.{Name, among_at, at_among, map_among, standing, stands}
use Rattle.counted_rules.proofs.NamesKept.{instr_names, same_result}
use Rattle.counted_rules.proofs.Ways.{IsWay, Made, New, Old, block_from, led_from, made_of, plan_at}
use Rattle.ir_rules.specs.Lists.{Among, times}
use Rattle.ir_rules.specs.Scopes.{term_reads}
use Rattle.ir_rules.specs.Walks.{AllHeld, HeldAt, IsBefore, Passes, Ready, Walks, entry_label}
use Rattle.ir_tree.specs.Blocks.{labels}
use Rattle.ir_tree.specs.Graphs.{is_local}
use Rattle.ir_tree.specs.Operands.{Use, result_names}
use Rattle.ir_tree.specs.Phis.{behind_phis, leading_phis, phi_count, reads}
use Rattle.ir_tree.specs.Successors.{successors}
use Rattle.ir_tree.specs.declared.types.Block.{Block}
use Rattle.ir_tree.specs.declared.types.Instr.{Instr}
use Rattle.ir_tree.specs.declared.types.Instr.TheVariants.{Binary, Compare, Convert, Freeze, Select, Phi, Alloca, Load, Store, Gep, Call, Count}
use Rattle.ir_tree.specs.declared.types.Operand.{Operand}
use Rattle.ir_tree.specs.declared.types.Operand.TheVariants.{Int, Null, Local, Global}
use Rattle.ir_tree.specs.declared.types.Ret.{Ret}
use Rattle.ir_tree.specs.declared.types.Term.{Term}
use Rattle.ir_tree.specs.declared.types.Term.TheVariants.{Br}

-- ---- walks

decide : (r : Name) (xs : List Name) → Among r xs ⊎ (Among r xs → ⊥)
decide r xs = by (times r xs) refl
  where
    by : (k : ℕ) → times r xs ≡ k → Among r xs ⊎ (Among r xs → ⊥)
    by zero e = inr (λ at. (let h = stands r xs at in absurd (omega (arith, h, e))))
    by (suc k) e = inl (standing r xs (omega (arith, e)))

walk_more : (bs : List Block) (b : Block) (to : Name) → Among b bs → Among to (successors b.term) → (w : List Block) (e : Name) → Walks bs e w b.label → Walks bs e (w ++ b ∷ []) to
walk_more bs b to at leads [] e h = (to, at, sym h, leads, refl)
walk_more bs b to at leads (x ∷ w) e h = (h.0, h.1, h.2, h.3, walk_more bs b to at leads w h.0 h.4)

passes_before : (r : Name) (b : Block) → (Among r (result_names b.instrs) → ⊥) → (w : List Block) → Passes r (w ++ b ∷ []) → Passes r w
passes_before r b none [] (inl h) = none h
passes_before r b none [] (inr h) = h
passes_before r b none (x ∷ w) (inl h) = inl h
passes_before r b none (x ∷ w) (inr h) = inr (passes_before r b none w h)

-- along an edge a register was assigned before, or this block assigns it
before_back : (bs : List Block) (b : Block) (to r : Name) → Among b bs → Among to (successors b.term) → IsBefore bs to r → IsBefore bs b.label r ⊎ Among r (result_names b.instrs)
before_back bs b to r at leads h = by (decide r (result_names b.instrs))
  where
    by : Among r (result_names b.instrs) ⊎ (Among r (result_names b.instrs) → ⊥) → IsBefore bs b.label r ⊎ Among r (result_names b.instrs)
    by (inl here) = inr here
    by (inr none) = inl (λ w walk. passes_before r b none w (h (w ++ b ∷ []) (walk_more bs b to at leads w (entry_label bs) walk)))

-- what goes back along each edge so, and doesn't hold at the entry, tells that a register is assigned before
module _ (bs : List Block) (r : Name) (H : Name → Type 0) (back : (q : Block) → Among q bs → (c : Name) → Among c (successors q.term) → H c → H q.label ⊎ Among r (result_names q.instrs)) where
  back_all : (w : List Block) (e l : Name) → Walks bs e w l → H l → Passes r w ⊎ H e
  back_all [] e l walk h = inr (subst H (sym walk) h)
  back_all (q ∷ w) e l walk h = by (back_all w walk.0 l walk.4 h)
    where
      here : H q.label ⊎ Among r (result_names q.instrs) → Passes r (q ∷ w) ⊎ H e
      here (inl k) = inr (subst H walk.2 k)
      here (inr k) = inl (inl k)

      by : Passes r w ⊎ H walk.0 → Passes r (q ∷ w) ⊎ H e
      by (inl p) = inl (inr p)
      by (inr k) = here (back q walk.1 walk.0 walk.3 k)

  before_by : (H (entry_label bs) → ⊥) → (l : Name) → H l → IsBefore bs l r
  before_by start l h w walk = by (back_all w (entry_label bs) l walk h)
    where
      by : Passes r w ⊎ H (entry_label bs) → Passes r w
      by (inl p) = p
      by (inr k) = absurd (start k)

-- ---- in the function that counts

-- held at the end of a block
abbrev pub EndOf : List Block → Block → Name → Type 0
EndOf bs b r = IsBefore bs b.label r ⊎ Among r (result_names b.instrs)

-- assigned before the block of the function that has the label, and at the end of the block from which a new one leads on
record IsHeld (unit : FunctionPlan) (bs : List Block) (r l : Name) : Type 0 where
  old : (j : ℕ) (b : Block) → slice_get bs j ≡ Some b → b.label ≡ l → IsBefore bs l r
  new : (j : ℕ) (b : Block) (p : ℕ) (to : Name) (put : NewBlock) → IsWay unit bs j b p to put → put.label ≡ l → EndOf bs b r

not_at_entry : (unit : FunctionPlan) (bs : List Block) (r : Name) (j : ℕ) (b : Block) → slice_get bs j ≡ Some b → IsHeld unit bs r (entry_label (counted_blocks unit bs)) → ⊥
not_at_entry unit [] r j b at h = absurd (none-some b at)
not_at_entry unit (c ∷ cs) r j b at h = h.old 0 c refl refl [] refl

module _ (unit : FunctionPlan) (bs : List Block) (apart : LabelsApart unit bs) (targets : (b : Block) → Among b bs → (to : Name) → Among to (successors b.term) → Among to (labels bs)) (r : Name) where
  abbrev blocks : List Block
  blocks = counted_blocks unit bs

  old_held : (j : ℕ) (b : Block) → slice_get bs j ≡ Some b → IsBefore bs b.label r → IsHeld unit bs r b.label
  old_held j b at h = record {
    old = λ i c there e. h;
    new = λ i c p to put way e. absurd (apart.mixed b i c p to put (at_among bs j b at) way (sym e));
  }

  new_held : (j : ℕ) (b : Block) (p : ℕ) (to : Name) (put : NewBlock) → IsWay unit bs j b p to put → EndOf bs b r → IsHeld unit bs r put.label
  new_held j b p to put way h = record {
    old = λ i c there e. absurd (apart.mixed c j b p to put (at_among bs i c there) way e);
    new = λ i c q on other there e. subst (λ (d : Block). EndOf bs d r) (apart.fresh j i b c p q to on put other way there (sym e)) h;
  }

  -- what a block gives, it still gives
  pub results_stay : (j : ℕ) (b : Block) → Among r (result_names b.instrs) → Among r (result_names (made_of unit bs j b).instrs)
  results_stay j b at =
      let rs = renamings unit.blocks bs b.label in
      let some = stands r (result_names b.instrs) at in
      let is = instr_names unit r (plan_at unit bs j) rs b in
      standing r (result_names (made_of unit bs j b).instrs) (omega (arith, some, is))

  at_end : (j : ℕ) (b : Block) → slice_get bs j ≡ Some b → EndOf bs b r → IsHeld unit bs r b.label ⊎ Among r (result_names (made_of unit bs j b).instrs)
  at_end j b at (inl h) = inl (old_held j b at h)
  at_end j b at (inr h) = inr (results_stay j b h)

  -- the block to which a way leads
  before_target : (b : Block) → Among b bs → (to : Name) → Among to (successors b.term) → IsHeld unit bs r to → EndOf bs b r
  before_target b at to leads h =
      let d = map_among (λ (x : Block). x.label) bs to (targets b at to leads) in
      let spot = among_at bs d.0 d.1 in
      before_back bs b to r at leads (h.old spot.0 d.0 spot.1 (sym d.2))

  back : (q : Block) → Among q blocks → (c : Name) → Among c (successors q.term) → IsHeld unit bs r c → IsHeld unit bs r q.label ⊎ Among r (result_names q.instrs)
  back q at c leads h = by (block_from unit bs q at)
    where
      through : (j : ℕ) (b : Block) → slice_get bs j ≡ Some b → (p : ℕ) (to : Name) → slice_get (successors b.term) p ≡ Some to → (o : Option NewBlock) → new_at (plan_at unit bs j) p ≡ o → c ≡ led_to o to → EndOf bs b r
      through j b here p to out None e is = before_target b (at_among bs j b here) to (at_among (successors b.term) p to out) (subst (λ (n : Name). IsHeld unit bs r n) is h)
      through j b here p to out (Some put) e is = h.new j b p to put (record { at = here; leads = out; is_new = e }) (sym is)

      from_old : (j : ℕ) (b : Block) → slice_get bs j ≡ Some b → Among c (successors (led (plan_at unit bs j) b.term)) → IsHeld unit bs r b.label ⊎ Among r (result_names (made_of unit bs j b).instrs)
      from_old j b here out = (let w = led_from (plan_at unit bs j) b.term c out in at_end j b here (through j b here w.0 w.1 w.2 (new_at (plan_at unit bs j) w.0) refl w.3))

      from_new : (j : ℕ) (b : Block) (p : ℕ) (to : Name) (put : NewBlock) → IsWay unit bs j b p to put → Among c (to ∷ []) → IsHeld unit bs r put.label
      from_new j b p to put way (inl is) = new_held j b p to put way (before_target b (at_among bs j b way.at) to (at_among (successors b.term) p to way.leads) (subst (λ (n : Name). IsHeld unit bs r n) is h))
      from_new j b p to put way (inr none) = absurd none

      by : Made unit bs q → IsHeld unit bs r q.label ⊎ Among r (result_names q.instrs)
      by (Old j b here e) =
          subst (λ (x : Block). IsHeld unit bs r x.label ⊎ Among r (result_names x.instrs)) (sym e) (from_old j b here (subst (λ (x : Block). Among c (successors x.term)) e leads))
      by (New j b p to put way e) =
          subst (λ (x : Block). IsHeld unit bs r x.label ⊎ Among r (result_names x.instrs)) (sym e) (inl (from_new j b p to put way (subst (λ (x : Block). Among c (successors x.term)) e leads)))

  pub before_stays : (j : ℕ) (b : Block) → slice_get bs j ≡ Some b → IsBefore bs b.label r → IsBefore blocks b.label r
  before_stays j b at h = before_by blocks r (IsHeld unit bs r) back (not_at_entry unit bs r j b at) b.label (old_held j b at h)

  pub before_new : (j : ℕ) (b : Block) (p : ℕ) (to : Name) (put : NewBlock) → IsWay unit bs j b p to put → EndOf bs b r → IsBefore blocks put.label r
  before_new j b p to put way h = before_by blocks r (IsHeld unit bs r) back (not_at_entry unit bs r j b way.at) put.label (new_held j b p to put way h)

-- ---- in a block

pub held_more : (H K : Name → Type 0) → ((r : Name) → H r → K r) → (o : Operand) → HeldAt H o → HeldAt K o
held_more H K more (Int value) h = tt
held_more H K more Null h = tt
held_more H K more (Local r) h = more r h
held_more H K more (Global name) h = tt

pub all_held_more : (H K : Name → Type 0) → ((r : Name) → H r → K r) → (us : List Use) → AllHeld H us → AllHeld K us
all_held_more H K more [] h = tt
all_held_more H K more (u ∷ us) h = (held_more H K more u.1 h.0, all_held_more H K more us h.1)

either_more : (H K : Name → Type 0) (ns ms : List Name) → ((r : Name) → H r → K r) → ns ≡ ms → (r : Name) → H r ⊎ Among r ns → K r ⊎ Among r ms
either_more H K ns ms more e r (inl h) = inl (more r h)
either_more H K ns ms more e r (inr h) = inr (subst (λ (xs : List Name). Among r xs) e h)

pub ready_more : (H K : Name → Type 0) → ((r : Name) → H r → K r) → (xs : List Instr) (t : Term) → Ready H xs t → Ready K xs t
ready_more H K more [] t h = all_held_more H K more (term_reads t) h
ready_more H K more (x ∷ xs) t h =
    (all_held_more H K more (reads x) h.0, ready_more (λ r. H r ⊎ Among r (result_names (x ∷ []))) (λ r. K r ⊎ Among r (result_names (x ∷ []))) (either_more H K (result_names (x ∷ [])) (result_names (x ∷ [])) more refl) xs t h.1)

condition_held : (H : Name → Type 0) (x : Instr) (o : Operand) → condition_of x ≡ Some o → AllHeld H (reads x) → HeldAt H o
condition_held H (Binary into op flags ty left right) o e h = absurd (none-some o e)
condition_held H (Compare into pred ty left right) o e h = absurd (none-some o e)
condition_held H (Convert into op flags from value to) o e h = absurd (none-some o e)
condition_held H (Freeze into ty value) o e h = absurd (none-some o e)
condition_held H (Select into c ty first second prof) o e h = subst (λ (w : Operand). HeldAt H w) (same_Some c o e) h.0
condition_held H (Phi into ty entries) o e h = absurd (none-some o e)
condition_held H (Alloca into mem) o e h = absurd (none-some o e)
condition_held H (Load into ty address) o e h = absurd (none-some o e)
condition_held H (Store ty value address) o e h = absurd (none-some o e)
condition_held H (Gep into inbounds mem address indices) o e h = absurd (none-some o e)
condition_held H (Call into ret callee args prof) o e h = absurd (none-some o e)
condition_held H (Count symbol size index step) o e h = absurd (none-some o e)

callee_held : (H : Name → Type 0) (callee o : Operand) → cond (is_local callee) (Some callee) None ≡ Some o → HeldAt H callee → HeldAt H o
callee_held H (Int value) o e h = absurd (none-some o e)
callee_held H Null o e h = absurd (none-some o e)
callee_held H (Local name) o e h = subst (λ (w : Operand). HeldAt H w) (same_Some (Local name) o e) h
callee_held H (Global name) o e h = absurd (none-some o e)

target_held : (H : Name → Type 0) (x : Instr) (o : Operand) → target_of x ≡ Some o → AllHeld H (reads x) → HeldAt H o
target_held H (Binary into op flags ty left right) o e h = absurd (none-some o e)
target_held H (Compare into pred ty left right) o e h = absurd (none-some o e)
target_held H (Convert into op flags from value to) o e h = absurd (none-some o e)
target_held H (Freeze into ty value) o e h = absurd (none-some o e)
target_held H (Select into c ty first second prof) o e h = absurd (none-some o e)
target_held H (Phi into ty entries) o e h = absurd (none-some o e)
target_held H (Alloca into mem) o e h = absurd (none-some o e)
target_held H (Load into ty address) o e h = absurd (none-some o e)
target_held H (Store ty value address) o e h = absurd (none-some o e)
target_held H (Gep into inbounds mem address indices) o e h = absurd (none-some o e)
target_held H (Call into ret callee args prof) o e h = callee_held H callee o e h.0
target_held H (Count symbol size index step) o e h = absurd (none-some o e)

phi_reads : (rs : List (Name × Name)) (x : Instr) → reads (renamed_phi rs x) ≡ reads x
phi_reads rs (Binary into op flags ty left right) = refl
phi_reads rs (Compare into pred ty left right) = refl
phi_reads rs (Convert into op flags from value to) = refl
phi_reads rs (Freeze into ty value) = refl
phi_reads rs (Select into c ty first second prof) = refl
phi_reads rs (Phi into ty entries) = refl
phi_reads rs (Alloca into mem) = refl
phi_reads rs (Load into ty address) = refl
phi_reads rs (Store ty value address) = refl
phi_reads rs (Gep into inbounds mem address indices) = refl
phi_reads rs (Call into ret callee args prof) = refl
phi_reads rs (Count symbol size index step) = refl

phi_result : (rs : List (Name × Name)) (x : Instr) → result_names (x ∷ []) ≡ result_names (renamed_phi rs x ∷ [])
phi_result rs x = ap (λ (o : Option (Name × Ret)). cons_option (option_map (λ (r : Name × Ret). r.0) o) []) (sym (same_result rs x))

module _ (unit : FunctionPlan) (plan : BlockPlan) (t u : Term) (same_reads : term_reads u ≡ term_reads t) where
  increments_ready : (K : Name → Type 0) (o : Option ℕ) (rest : List Instr) → Ready K rest u → Ready K (increments unit o ++ rest) u
  increments_ready K None rest h = h
  increments_ready K (Some c) rest h = ((tt, (tt, (tt, (tt, (tt, tt))))), ready_more K (λ r. K r ⊎ Among r []) (λ r k. inl k) rest u h)

  last_ready : (K : Name → Type 0) (o : Option ℕ) → AllHeld K (term_reads u) → Ready K (increments unit o) u
  last_ready K None h = h
  last_ready K (Some c) h = ((tt, (tt, (tt, (tt, (tt, tt))))), all_held_more K (λ r. K r ⊎ Among r []) (λ r k. inl k) (term_reads u) h)

  from_ready : (H K : Name → Type 0) → ((r : Name) → H r → K r) → (i : ℕ) (xs : List Instr) → Ready H xs t → Ready K (counted_from unit plan i xs) u
  from_ready H K more i [] h = last_ready K plan.tail (subst (λ (us : List Use). AllHeld K us) (sym same_reads) (all_held_more H K more (term_reads t) h))
  from_ready H K more i (x ∷ xs) h =
      by (watch_at plan i) (λ M grown. (all_held_more H M grown (reads x) h.0, from_ready (λ r. H r ⊎ Among r (result_names (x ∷ []))) (λ r. M r ⊎ Among r (result_names (x ∷ []))) (either_more H M (result_names (x ∷ [])) (result_names (x ∷ [])) grown refl) (i + 1) xs h.1))
    where
      by : (w : Watch) → ((M : Name → Type 0) → ((r : Name) → H r → M r) → Ready M (x ∷ counted_from unit plan (i + 1) xs) u) → Ready K (watched unit w x ++ (x ∷ counted_from unit plan (i + 1) xs)) u
      by Nothing rest = rest K more
      by (Condition n c) rest = on (condition_of x) refl
        where
          on : (o : Option Operand) → condition_of x ≡ o → Ready K (condition_watched unit n c o ++ (x ∷ counted_from unit plan (i + 1) xs)) u
          on None e = rest K more
          on (Some o) e = ((held_more H K more o (condition_held H x o e h.0), tt), ((tt, (tt, (tt, (tt, (tt, (inr (inl refl), tt)))))), rest (λ r. (K r ⊎ Among r (n ∷ [])) ⊎ Among r []) (λ r k. inl (inl (more r k)))))
      by (Target n s) rest = on (target_of x) refl
        where
          on : (o : Option Operand) → target_of x ≡ o → Ready K (target_watched unit n s o ++ (x ∷ counted_from unit plan (i + 1) xs)) u
          on None e = rest K more
          on (Some o) e = ((held_more H K more o (target_held H x o e h.0), tt), ((tt, (tt, (tt, (inr (inl refl), (tt, (tt, tt)))))), rest (λ r. (K r ⊎ Among r (n ∷ [])) ⊎ Among r []) (λ r k. inl (inl (more r k)))))

  front_ready : (rs : List (Name × Name)) (H K : Name → Type 0) → ((r : Name) → H r → K r) → (front xs : List Instr) → Ready H (front ++ xs) t → Ready K (map (renamed_phi rs) front ++ (increments unit plan.head ++ counted_from unit plan 0 xs)) u
  front_ready rs H K more [] xs h = increments_ready K plan.head (counted_from unit plan 0 xs) (from_ready H K more 0 xs h)
  front_ready rs H K more (x ∷ front) xs h = (
    subst (λ (us : List Use). AllHeld K us) (sym (phi_reads rs x)) (all_held_more H K more (reads x) h.0),
    front_ready rs (λ r. H r ⊎ Among r (result_names (x ∷ []))) (λ r. K r ⊎ Among r (result_names (renamed_phi rs x ∷ []))) (either_more H K (result_names (x ∷ [])) (result_names (renamed_phi rs x ∷ [])) more (phi_result rs x)) front xs h.1,
  )

  pub block_ready : (rs : List (Name × Name)) (H K : Name → Type 0) → ((r : Name) → H r → K r) → (xs : List Instr) → Ready H xs t → Ready K (counted_instrs unit plan rs xs) u
  block_ready rs H K more xs h = front_ready rs H K more (leading_phis xs) (behind_phis xs) (subst (λ (zs : List Instr). Ready H zs t) (sym (take-append-drop (phi_count xs) xs)) h)

-- a new block reads nothing
pub new_ready : (unit : FunctionPlan) (K : Name → Type 0) (o : Option ℕ) (to : Name) → Ready K (increments unit o) (Br to)
new_ready unit K None to = tt
new_ready unit K (Some c) to = ((tt, (tt, (tt, (tt, (tt, tt))))), tt)
