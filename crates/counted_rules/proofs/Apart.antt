-- Labels name one block each: those of the function, and those of new blocks.
use Rattle.std.proofs.Common.{◌≡◌, ℕ, ◌+◌, ◌≤◌, inl, List, [], ◌∷◌, ◌++◌, Some, slice_get, refl, sym, ap, subst, ◌∙◌, arith, zero-add}
use Rattle.std.specs.List.{flat_map}
use Rattle.std.proofs.lemmas.Option.{same_Some}
use Rattle.count_plan.specs.Counted.{new_blocks}
use Rattle.count_plan.specs.Ways.{block_plan}
use Rattle.count_plan.specs.declared.plan.FunctionPlan.{FunctionPlan}
use Rattle.count_plan.specs.declared.plan.NewBlock.{NewBlock}
use Rattle.counted_rules.proofs.Listed.{Name, among_at, among_map, among_right, at_each, one_owner, stands, times_append}
use Rattle.counted_rules.proofs.Ways.{IsWay, made_on, new_put, plan_at}
use Rattle.counted_rules.specs.PlanFits.{new_names, put_names, watches_in}
use Rattle.ir_rules.specs.Lists.{Among, times}
use Rattle.ir_rules.specs.Scopes.{block_names, names, param_names}
use Rattle.ir_tree.specs.Blocks.{labels}
use Rattle.ir_tree.specs.Operands.{result_names}
use Rattle.ir_tree.specs.declared.types.Block.{Block}
use Rattle.ir_tree.specs.declared.types.Function.{Function}
use Rattle.spec_lists.specs.Each.{each}

pub record LabelsApart (unit : FunctionPlan) (bs : List Block) : Type 0 where
  pub old : (b c : Block) → Among b bs → Among c bs → b.label ≡ c.label → b ≡ c
  pub mixed : (c : Block) (j : ℕ) (b : Block) (p : ℕ) (to : Name) (new : NewBlock) → Among c bs → IsWay unit bs j b p to new → c.label ≡ new.label → ⊥
  pub fresh : (j i : ℕ) (b c : Block) (p q : ℕ) (to on : Name) (new other : NewBlock) → IsWay unit bs j b p to new → IsWay unit bs i c q on other → new.label ≡ other.label → b ≡ c

module _ (unit : FunctionPlan) (f : Function) (apart : (n : Name) → times n (names f) + times n (new_names unit f.blocks) ≤ 1) where
  flat_each : (n : ℕ) (bs : List Block) → flat_map block_names bs ≡ each (λ k b. block_names b) n bs
  flat_each n [] = refl
  flat_each n (b ∷ bs) = ap (λ (ns : List Name). block_names b ++ ns) (flat_each (n + 1) bs)

  few_old : (n : Name) → times n (each (λ k (b : Block). block_names b) 0 f.blocks) ≤ 1
  few_old n =
      let all = apart n in
      let parts = times_append n (param_names f) (flat_map block_names f.blocks) in
      let is : times n (flat_map block_names f.blocks) ≡ times n (each (λ k (b : Block). block_names b) 0 f.blocks) = ap (λ (ns : List Name). times n ns) (flat_each 0 f.blocks) in
      omega (arith, all, parts, is)

  few_new : (n : Name) → times n (each (λ j b. put_names unit (block_plan unit.blocks j) b) 0 f.blocks) ≤ 1
  few_new n = (let all = apart n in omega (arith, all))

  at_both : (i j : ℕ) (b c : Block) → slice_get f.blocks i ≡ Some b → slice_get f.blocks j ≡ Some c → i ≡ j → b ≡ c
  at_both i j b c at there e = same_Some b c (sym at ∙ (ap (λ (k : ℕ). slice_get f.blocks k) e ∙ there))

  same_block : (b c : Block) → Among b f.blocks → Among c f.blocks → b.label ≡ c.label → b ≡ c
  same_block b c at there e =
      let x = among_at f.blocks b at in
      let y = among_at f.blocks c there in
      at_both x.0 y.0 b c x.1 y.1 (one_owner (λ k (d : Block). block_names d) b.label 0 f.blocks (few_old b.label) x.0 y.0 b c x.1 y.1 (inl refl) (inl e))

  label_put : (j : ℕ) (b : Block) (p : ℕ) (to : Name) (new : NewBlock) → IsWay unit f.blocks j b p to new → Among new.label (put_names unit (block_plan unit.blocks j) b)
  label_put j b p to new way =
      among_right (result_names (watches_in unit (plan_at unit f.blocks j) b)) (labels (new_blocks unit (plan_at unit f.blocks j) b)) new.label (among_map (λ (q : Block). q.label) (new_blocks unit (plan_at unit f.blocks j) b) (made_on unit f.blocks new to) (new_put unit f.blocks j b p to new way))

  not_mixed : (c : Block) (j : ℕ) (b : Block) (p : ℕ) (to : Name) (new : NewBlock) → Among c f.blocks → IsWay unit f.blocks j b p to new → c.label ≡ new.label → ⊥
  not_mixed c j b p to new at way e =
      let spot = among_at f.blocks c at in
      let here : 1 ≤ times c.label (each (λ k (d : Block). block_names d) 0 f.blocks) = stands c.label (each (λ k (d : Block). block_names d) 0 f.blocks) (at_each (λ k (d : Block). block_names d) f.blocks spot.0 c c.label spot.1 (inl refl)) in
      let there : 1 ≤ times c.label (new_names unit f.blocks) = stands c.label (new_names unit f.blocks) (subst (λ (n : Name). Among n (new_names unit f.blocks)) (sym e) (at_each (λ i d. put_names unit (block_plan unit.blocks i) d) f.blocks j b new.label way.at (label_put j b p to new way))) in
      let all = apart c.label in
      let parts = times_append c.label (param_names f) (flat_map block_names f.blocks) in
      let is : times c.label (flat_map block_names f.blocks) ≡ times c.label (each (λ k (b : Block). block_names b) 0 f.blocks) = ap (λ (ns : List Name). times c.label ns) (flat_each 0 f.blocks) in
      absurd (omega (arith, here, there, all, parts, is))

  one_new : (j i : ℕ) (b c : Block) (p q : ℕ) (to on : Name) (new other : NewBlock) → IsWay unit f.blocks j b p to new → IsWay unit f.blocks i c q on other → new.label ≡ other.label → b ≡ c
  one_new j i b c p q to on new other way there e =
      at_both j i b c way.at there.at (one_owner (λ k d. put_names unit (block_plan unit.blocks k) d) new.label 0 f.blocks (few_new new.label) j i b c way.at there.at
      (subst (λ (k : ℕ). Among new.label (put_names unit (block_plan unit.blocks k) b)) (sym (zero-add j)) (label_put j b p to new way))
      (subst (λ (k : ℕ). Among new.label (put_names unit (block_plan unit.blocks k) c)) (sym (zero-add i)) (subst (λ (n : Name). Among n (put_names unit (block_plan unit.blocks i) c)) (sym e) (label_put i c q on other there))))

  pub labels_apart : LabelsApart unit f.blocks
  labels_apart = record { old = same_block; mixed = not_mixed; fresh = one_new }
