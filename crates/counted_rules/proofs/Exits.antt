-- The terminators of a function that counts are well formed.
use Rattle.std.proofs.Common.{◌≡◌, ℕ, zero, suc, ◌+◌, inl, inr, false, List, [], ◌∷◌, ◌++◌, drop, Option, Some, None, slice_get, refl, sym, ap, subst, ◌∙◌, arith}
use Rattle.std.proofs.lemmas.Option.{none-some, same_Some}
use Rattle.count_plan.specs.Counted.{counted_blocks, counted_pieces, new_blocks}
use Rattle.count_plan.specs.Ways.{led, led_to, new_at}
use Rattle.count_plan.specs.declared.plan.FunctionPlan.{FunctionPlan}
use Rattle.count_plan.specs.declared.plan.NewBlock.{NewBlock}
use Rattle.counted_rules.proofs.Formed.{all_kept, made}
use Rattle.counted_rules.proofs.Listed.{Name, among_at, among_left, among_map, among_right, at_among, each_at, map_among}
use Rattle.counted_rules.proofs.Ways.{IsWay, led_from, made_of, made_on, new_put, plan_at, same_cases, same_reads, same_returns, same_typed, same_weighed}
use Rattle.counted_rules.specs.Kept.{TakesOver}
use Rattle.ir_rules.specs.Lists.{Among, are_apart}
use Rattle.ir_rules.specs.Scopes.{term_reads}
use Rattle.ir_rules.specs.WellFormed.{AllFit, TermFormed}
use Rattle.ir_tree.specs.Blocks.{labels}
use Rattle.ir_tree.specs.Operands.{Use}
use Rattle.ir_tree.specs.Successors.{successors}
use Rattle.ir_tree.specs.declared.types.Block.{Block}
use Rattle.ir_tree.specs.declared.types.Function.{Function}
use Rattle.ir_tree.specs.declared.types.Module.{Module}
use Rattle.ir_tree.specs.declared.types.Term.TheVariants.{Br}
use Rattle.spec_lists.specs.Each.{each}

-- ---- labels behind the first block

module _ (unit : FunctionPlan) (all : List Block) where
  -- the blocks that are made of these, the first of them having this number
  later_block : (n : ℕ) (bs : List Block) (l : Name) → Among l (labels bs) → Among l (labels (each (counted_pieces unit all) n bs))
  later_block n bs l at =
      let r = map_among (λ (b : Block). b.label) bs l at in
      let spot = among_at bs r.0 r.1 in
      let i : ℕ = spot.0 in
      subst (λ (k : Name). Among k (labels (each (counted_pieces unit all) n bs))) (sym r.2) (among_map (λ (b : Block). b.label) (each (counted_pieces unit all) n bs) (made_of unit all (n + i) r.0) (each_at (counted_pieces unit all) n bs i r.0 (made_of unit all (n + i) r.0) spot.1 (inl refl)))

old_later : (unit : FunctionPlan) (bs : List Block) (l : Name) → Among l (labels (drop 1 bs)) → Among l (labels (drop 1 (counted_blocks unit bs)))
old_later unit [] l at = absurd at
old_later unit (b ∷ bs) l at =
    let r = map_among (λ (q : Block). q.label) (each (counted_pieces unit (b ∷ bs)) (0 + 1) bs) l (later_block unit (b ∷ bs) (0 + 1) bs l at) in
    subst (λ (k : Name). Among k (labels (new_blocks unit (plan_at unit (b ∷ bs) 0) b ++ each (counted_pieces unit (b ∷ bs)) (0 + 1) bs))) (sym r.2) (among_map (λ (q : Block). q.label) (new_blocks unit (plan_at unit (b ∷ bs) 0) b ++ each (counted_pieces unit (b ∷ bs)) (0 + 1) bs) r.0 (among_right (new_blocks unit (plan_at unit (b ∷ bs) 0) b) (each (counted_pieces unit (b ∷ bs)) (0 + 1) bs) r.0 r.1))

new_later : (unit : FunctionPlan) (bs : List Block) (j : ℕ) (b : Block) (p : ℕ) (to : Name) (new : NewBlock) → IsWay unit bs j b p to new → Among (made_on unit bs new to) (drop 1 (counted_blocks unit bs))
new_later unit [] j b p to new way = absurd (none-some b way.at)
new_later unit (c ∷ cs) zero b p to new way =
    among_left (new_blocks unit (plan_at unit (c ∷ cs) 0) c) (each (counted_pieces unit (c ∷ cs)) (0 + 1) cs) (made_on unit (c ∷ cs) new to) (subst (λ (d : Block). Among (made_on unit (c ∷ cs) new to) (new_blocks unit (plan_at unit (c ∷ cs) 0) d)) (sym (same_Some c b way.at)) (new_put unit (c ∷ cs) 0 b p to new way))
new_later unit (c ∷ cs) (suc i) b p to new way =
    among_right (new_blocks unit (plan_at unit (c ∷ cs) 0) c) (each (counted_pieces unit (c ∷ cs)) (0 + 1) cs) (made_on unit (c ∷ cs) new to) (each_at (counted_pieces unit (c ∷ cs)) (0 + 1) cs i b (made_on unit (c ∷ cs) new to) way.at (subst (λ (k : ℕ). Among (made_on unit (c ∷ cs) new to) (counted_pieces unit (c ∷ cs) k b)) (let e : suc i ≡ 0 + 1 + i = omega arith in e) (inr (new_put unit (c ∷ cs) (suc i) b p to new way))))

-- ---- terminators

module _ (m m2 : Module) (takes : TakesOver m m2) (unit : FunctionPlan) (f : Function) where
  abbrev counting : Function
  counting = made m m2 takes unit f

  module _ (j : ℕ) (b : Block) (at : slice_get f.blocks j ≡ Some b) (formed : TermFormed m f b.term) where
    way_named : (c : Name) → Among c (successors (led (plan_at unit f.blocks j) b.term)) → Among c (labels (drop 1 counting.blocks))
    way_named c h = by (led_from (plan_at unit f.blocks j) b.term c h)
      where
        by : (p : ℕ) × (to : Name) × (slice_get (successors b.term) p ≡ Some to) × (c ≡ led_to (new_at (plan_at unit f.blocks j) p) to) → Among c (labels (drop 1 counting.blocks))
        by (p, to, leads, e) = on (new_at (plan_at unit f.blocks j) p) refl e
          where
            on : (o : Option NewBlock) → new_at (plan_at unit f.blocks j) p ≡ o → c ≡ led_to o to → Among c (labels (drop 1 counting.blocks))
            on None q is = subst (λ (n : Name). Among n (labels (drop 1 counting.blocks))) (sym is) (old_later unit f.blocks to (formed.targets to (at_among (successors b.term) p to leads)))
            on (Some new) q is = subst (λ (n : Name). Among n (labels (drop 1 counting.blocks))) (sym is) (among_map (λ (d : Block). d.label) (drop 1 counting.blocks) (made_on unit f.blocks new to) (new_later unit f.blocks j b p to new (record { at = at; leads = leads; is_new = q })))

    pub exit_formed : TermFormed m2 counting (led (plan_at unit f.blocks j) b.term)
    exit_formed = record {
      targets = way_named;
      apart = ap are_apart (same_cases (plan_at unit f.blocks j) b.term) ∙ formed.apart;
      fit = subst (λ (us : List Use). AllFit m2 counting false us) (sym (same_reads (plan_at unit f.blocks j) b.term)) (all_kept m m2 takes unit f false (term_reads b.term) formed.fit);
      typed = same_typed (plan_at unit f.blocks j) b.term ∙ formed.typed;
      returns = same_returns (plan_at unit f.blocks j) f.ret b.term ∙ formed.returns;
      weighed = same_weighed (plan_at unit f.blocks j) b.term ∙ formed.weighed;
    }

    -- the branch of a new block
    pub branch_formed : (p : ℕ) (to : Name) → slice_get (successors b.term) p ≡ Some to → TermFormed m2 counting (Br to)
    branch_formed p to leads = record {
      targets = named;
      apart = refl;
      fit = λ u h. absurd h;
      typed = refl;
      returns = refl;
      weighed = refl;
    }
      where
        named : (c : Name) → Among c (to ∷ []) → Among c (labels (drop 1 counting.blocks))
        named c (inl e) = subst (λ (n : Name). Among n (labels (drop 1 counting.blocks))) (sym e) (old_later unit f.blocks to (formed.targets to (at_among (successors b.term) p to leads)))
        named c (inr h) = absurd h
