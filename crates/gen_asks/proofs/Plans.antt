-- The counters and sites in the plan of a function are those that it has.
use Rattle.std.proofs.Common.{◌≡◌, ℕ, ◌+◌, ◌<◌, ◌==◌, inl, inr, Bool, true, false, ◌&&◌, cond, List, [], ◌∷◌, length, Option, Some, None, slice_get, refl, sym, ap, subst, ◌∙◌, arith}
use Rattle.std.specs.Option.{option_map}
use Rattle.std.proofs.lemmas.Option.{none-some, same_Some, slice_get_within}
use Rattle.count_plan.specs.Counted.{watch_at}
use Rattle.count_plan.specs.Ways.{block_plan, new_at, no_block_plan}
use Rattle.count_plan.specs.declared.plan.BlockPlan.{BlockPlan}
use Rattle.count_plan.specs.declared.plan.NewBlock.{NewBlock}
use Rattle.count_plan.specs.declared.plan.Watch.{Watch}
use Rattle.count_plan.specs.declared.plan.Watch.TheVariants.{Nothing, Condition, Target}
use Rattle.gen_asks.proofs.Listed.{first_among, from_each, index_holds}
use Rattle.gen_plan.specs.Gen.{counters_in, gen_block, gen_with, number_of, select_watch, site_watch, watch_of}
use Rattle.gen_plan.specs.Placing.{at_head, at_tail, counter_of, edge_block, enters, leaves, new_on, of_edges, on_edge}
use Rattle.ir_rules.specs.Lists.{Among}
use Rattle.ir_tree.specs.Graphs.{FlowGraph, is_select, is_site}
use Rattle.ir_tree.specs.Operands.{listed}
use Rattle.ir_tree.specs.Phis.{behind_phis, phi_count}
use Rattle.ir_tree.specs.Successors.{successors}
use Rattle.ir_tree.specs.declared.edge.Edge.{Edge}
use Rattle.ir_tree.specs.declared.types.Block.{Block}
use Rattle.ir_tree.specs.declared.types.Function.{Function}
use Rattle.ir_tree.specs.declared.types.Instr.{Instr}
use Rattle.spec_items.proofs.Made.{at_position}
use Rattle.spec_lists.specs.Each.{each, first_of}

-- a counter below so many, a site below so many
abbrev pub WatchBelow : ℕ → ℕ → Watch → Type 0
WatchBelow total sites Nothing = Unit {0}
WatchBelow total sites (Condition register counter) = counter < total
WatchBelow total sites (Target register site) = site < sites

abbrev pub CounterBelow : ℕ → Option ℕ → Type 0
CounterBelow total None = Unit {0}
CounterBelow total (Some counter) = counter < total

abbrev pub NewBelow : ℕ → Option NewBlock → Type 0
NewBelow total None = Unit {0}
NewBelow total (Some new) = CounterBelow total new.counter

pub record PlanBelow (total sites : ℕ) (plan : BlockPlan) : Type 0 where
  pub head : CounterBelow total plan.head
  pub tail : CounterBelow total plan.tail
  pub watch : (i : ℕ) → WatchBelow total sites (watch_at plan i)
  pub edge : (p : ℕ) → NewBelow total (new_at plan p)

nothing_below : (total sites : ℕ) → PlanBelow total sites no_block_plan
nothing_below total sites = record { head = tt; tail = tt; watch = λ i. tt; edge = λ p. tt }

module _ (f : Function) (g : FlowGraph) (counted : List ℕ) where
  abbrev total : ℕ
  total = counters_in g counted

  abbrev sites : ℕ
  sites = length g.sites

  rank_below : (e c : ℕ) → counter_of counted e ≡ Some c → c < total
  rank_below e c is =
      let r = at_position (λ (d : ℕ). d == e) counted c is in
      let w = slice_get_within counted c r.0 r.1 in
      omega (arith, w)

  -- what is made of one edge
  made_of : {X : Type 0} (test : Edge → Bool) (make : ℕ → Option X) (x : X) → first_of (of_edges g.edges test (λ k. listed (make k))) ≡ Some x → (k : ℕ) × (make k ≡ Some x)
  made_of {X} test make x e =
      let r = from_each (λ k d. cond (test d) (listed (make k)) []) g.edges x (first_among (of_edges g.edges test (λ k. listed (make k))) x e) in
      by r.0 (test r.1) (make r.0) refl r.3
    where
      by : (k : ℕ) (b : Bool) (o : Option X) → make k ≡ o → Among x (cond b (listed o) []) → (k : ℕ) × (make k ≡ Some x)
      by k true (Some y) q (inl s) = (k, q ∙ ap Some (sym s))
      by k true (Some y) q (inr none) = absurd none
      by k true None q h = absurd h
      by k false o q h = absurd h

  counter_below : (test : Edge → Bool) → CounterBelow total (first_of (of_edges g.edges test (λ k. listed (counter_of counted k))))
  counter_below test = by (first_of (of_edges g.edges test (λ k. listed (counter_of counted k)))) refl
    where
      by : (o : Option ℕ) → first_of (of_edges g.edges test (λ k. listed (counter_of counted k))) ≡ o → CounterBelow total o
      by None e = tt
      by (Some c) e = (let r = made_of test (λ k. counter_of counted k) c e in rank_below r.0 c r.1)

  new_below : (test : Edge → Bool) → NewBelow total (first_of (of_edges g.edges test (λ k. listed (option_map (edge_block f k) (counter_of counted k)))))
  new_below test = by (first_of (of_edges g.edges test (λ k. listed (option_map (edge_block f k) (counter_of counted k))))) refl
    where
      one : (k : ℕ) (o : Option ℕ) (new : NewBlock) → counter_of counted k ≡ o → option_map (edge_block f k) o ≡ Some new → CounterBelow total new.counter
      one k None new q e = absurd (none-some new e)
      one k (Some c) new q e = subst (λ (n : NewBlock). CounterBelow total n.counter) (same_Some (edge_block f k c) new e) (rank_below k c q)

      by : (o : Option NewBlock) → first_of (of_edges g.edges test (λ k. listed (option_map (edge_block f k) (counter_of counted k)))) ≡ o → NewBelow total o
      by None e = tt
      by (Some new) e = (let r = made_of test (λ k. option_map (edge_block f k) (counter_of counted k)) new e in one r.0 (counter_of counted r.0) new refl r.1)

  number_below : (b i k : ℕ) (places : List (ℕ × ℕ)) → number_of b i places ≡ Some k → k < length places
  number_below b i k places e = (let r = at_position (λ (at : ℕ × ℕ). at.0 == b && at.1 == i) places k e in slice_get_within places k r.0 r.1)

  watch_below : (b i : ℕ) (x : Instr) → WatchBelow total sites (watch_of f g counted b i x)
  watch_below b i x = by (is_select x) (is_site x) (number_of b i g.selects) refl (number_of b i g.sites) refl
    where
      by : (s t : Bool) (o : Option ℕ) → number_of b i g.selects ≡ o → (q : Option ℕ) → number_of b i g.sites ≡ q → WatchBelow total sites (cond s (select_watch f (length counted) o) (cond t (site_watch f q) Nothing))
      by true t None e q d = tt
      by true t (Some k) e q d = (let w = number_below b i k g.selects e in omega (arith, w))
      by false true o e None d = tt
      by false true o e (Some k) d = number_below b i k g.sites d
      by false false o e q d = tt

  block_below : (b : ℕ) (block : Block) → PlanBelow total sites (gen_block f g counted b block)
  block_below b block = record {
    head = counter_below (λ e. enters g b e && at_head g e);
    tail = counter_below (λ e. leaves b e && at_tail g e);
    watch = index_holds (WatchBelow total sites) Nothing (each (λ i x. watch_of f g counted b (phi_count block.instrs + i) x ∷ []) 0 (behind_phis block.instrs)) tt (λ w at. one_watch w (from_each (λ i x. watch_of f g counted b (phi_count block.instrs + i) x ∷ []) (behind_phis block.instrs) w at));
    edge = index_holds (NewBelow total) None (each (λ p to. new_on f g counted b p ∷ []) 0 (successors block.term)) tt (λ new at. one_new new (from_each (λ p to. new_on f g counted b p ∷ []) (successors block.term) new at));
  }
    where
      one_watch : (w : Watch) → (i : ℕ) × (x : Instr) × (slice_get (behind_phis block.instrs) i ≡ Some x) × Among w (watch_of f g counted b (phi_count block.instrs + i) x ∷ []) → WatchBelow total sites w
      one_watch w (i, x, at, inl e) = subst (WatchBelow total sites) (sym e) (watch_below b (phi_count block.instrs + i) x)
      one_watch w (i, x, at, inr none) = absurd none

      one_new : (new : Option NewBlock) → (p : ℕ) × (to : List ℕ) × (slice_get (successors block.term) p ≡ Some to) × Among new (new_on f g counted b p ∷ []) → NewBelow total new
      one_new new (p, to, at, inl e) = subst (NewBelow total) (sym e) (new_below (λ e. leaves b e && (e.position == p && on_edge g e)))
      one_new new (p, to, at, inr none) = absurd none

  pub plan_below : (hash j : ℕ) → PlanBelow total sites (block_plan (gen_with f g counted hash).blocks j)
  plan_below hash j = index_holds (PlanBelow total sites) no_block_plan (gen_with f g counted hash).blocks (nothing_below total sites) (λ plan at. one plan (from_each (λ b block. gen_block f g counted b block ∷ []) f.blocks plan at)) j
    where
      one : (plan : BlockPlan) → (b : ℕ) × (block : Block) × (slice_get f.blocks b ≡ Some block) × Among plan (gen_block f g counted b block ∷ []) → PlanBelow total sites plan
      one plan (b, block, at, inl e) = subst (PlanBelow total sites) (sym e) (block_below b block)
      one plan (b, block, at, inr none) = absurd none
