-- A block that no walk leads to stays as it is.
use Rattle.std.proofs.Common.{◌≡◌, ℕ, zero, suc, ◌+◌, ◌==◌, ◌≤◌, Bool, true, false, cond, ◌&&◌, List, [], ◌∷◌, ◌++◌, length, count_by, Option, Some, None, slice_get, slice_index_or, refl, sym, ◌∙◌, ap, subst, arith, zero-add}
use Rattle.std.specs.Option.{option_map}
use Rattle.std.specs.Cmp.Lexicographic.{bytes_decides}
use Rattle.std.proofs.lemmas.Bool.{eqb-true}
use Rattle.std.proofs.lemmas.Option.{none-some, same_Some}
use Rattle.spec_lists.specs.Each.{each, first_of}
use Rattle.spec_items.proofs.Items.{Has}
use Rattle.spec_items.proofs.Made.{AllOf, all_append, at_position, both, each_at, none_where, one_place}
use Rattle.count_plan.specs.Counted.{counted_block, counted_pieces, new_blocks}
use Rattle.count_plan.specs.Stays.{BlocksStay, PutsNothing}
use Rattle.count_plan.specs.Ways.{block_plan, new_at, no_block_plan, renaming, renamings, renamings_from}
use Rattle.count_plan.specs.declared.plan.BlockPlan.{BlockPlan}
use Rattle.count_plan.specs.declared.plan.FunctionPlan.{FunctionPlan}
use Rattle.count_plan.specs.declared.plan.NewBlock.{NewBlock}
use Rattle.count_plan.specs.declared.plan.Watch.TheVariants.{Nothing}
use Rattle.gen_plan.specs.Gen.{gen_block, gen_with, number_of, select_watch, site_watch, watch_of}
use Rattle.gen_plan.specs.Placing.{at_head, at_tail, counter_of, edge_block, enters, head_counter, leaves, new_on, on_edge, tail_counter}
use Rattle.gen_plan.proofs.Edges.{Graphed, at_label, label_at}
use Rattle.gen_plan.proofs.Ends.{leads_on, stands_from}
use Rattle.gen_plan.proofs.Lookups.{first_made, is_at_some}
use Rattle.ir_tree.specs.Blocks.{labels}
use Rattle.ir_tree.specs.Edges.{rows}
use Rattle.ir_tree.specs.Graphs.{FlowGraph, block_of, is_select, is_site, places_from, places_in, places_of}
use Rattle.ir_tree.specs.Names.{same}
use Rattle.ir_tree.specs.Operands.{listed}
use Rattle.ir_tree.specs.Phis.{behind_phis, phi_count}
use Rattle.ir_tree.specs.Reach.{IsReachable}
use Rattle.ir_tree.specs.Successors.{successors}
use Rattle.ir_tree.specs.declared.edge.Edge.{Edge}
use Rattle.ir_tree.specs.declared.types.Block.{Block}
use Rattle.ir_tree.specs.declared.types.Function.{Function}
use Rattle.ir_tree.specs.declared.types.Instr.{Instr}

-- ---- lists

none_each : {X Y : Type 0} (make : ℕ → X → List Y) (n : ℕ) (xs : List X) → ((i : ℕ) (x : X) → slice_get xs i ≡ Some x → make (n + i) x ≡ []) → each make n xs ≡ []
none_each make n [] h = refl
none_each make n (x ∷ xs) h =
    (λ i. (ap (λ k. make k x) (let q : n ≡ n + 0 = omega arith in q) ∙ h 0 x refl) i ++ each make (n + 1) xs)
    ∙ none_each make (n + 1) xs (λ i y e. ap (λ k. make k y) (let q : n + 1 + i ≡ n + suc i = omega arith in q) ∙ h (suc i) y e)

-- a list of one item for each, where each is the one that stands past its end
always : {X Y : Type 0} (h : ℕ → X → Y) (d : Y) → ((n : ℕ) (x : X) → h n x ≡ d) → (n : ℕ) (xs : List X) (k : ℕ) → slice_index_or (each (λ n x. h n x ∷ []) n xs) k d ≡ d
always h d same_all n [] k = refl
always h d same_all n (x ∷ xs) zero = same_all n x
always h d same_all n (x ∷ xs) (suc k) = always h d same_all (n + 1) xs k

all_map : {X : Type 0} (P Q : X → Type 0) → ((x : X) → P x → Q x) → (xs : List X) → AllOf P xs → AllOf Q xs
all_map P Q h [] all = tt
all_map P Q h (x ∷ xs) all = (h x all.0, all_map P Q h xs all.1)

all_at : {X : Type 0} (P : X → Type 0) (xs : List X) (i : ℕ) (x : X) → AllOf P xs → slice_get xs i ≡ Some x → P x
all_at P [] i x all e = absurd (none-some x e)
all_at P (y ∷ ys) zero x all e = subst P (same_Some y x e) all.0
all_at P (y ∷ ys) (suc i) x all e = all_at P ys i x all.1 e

-- ---- the places of instructions are in the blocks of nodes

in_block : (test : Instr → Bool) (b i : ℕ) (is : List Instr) → AllOf (λ (at : ℕ × ℕ). at.0 ≡ b) (places_from test b i is)
in_block test b i [] = tt
in_block test b i (x ∷ xs) = by (test x) (in_block test b (i + 1) xs)
  where
    by : (t : Bool) → AllOf (λ (at : ℕ × ℕ). at.0 ≡ b) (places_from test b (i + 1) xs) → AllOf (λ (at : ℕ × ℕ). at.0 ≡ b) (cond t ((b, i) ∷ places_from test b (i + 1) xs) (places_from test b (i + 1) xs))
    by true all = (refl, all)
    by false all = all

in_blocks : (test : Instr → Bool) (all : List Block) (bs : List ℕ) → AllOf (λ (at : ℕ × ℕ). Has at.0 bs) (places_of test all bs)
in_blocks test all [] = tt
in_blocks test all (b ∷ bs) =
    all_append (λ (at : ℕ × ℕ). Has at.0 (b ∷ bs)) (places_in test b (slice_get all b)) (places_of test all bs)
    (first (slice_get all b))
    (all_map (λ (at : ℕ × ℕ). Has at.0 bs) (λ (at : ℕ × ℕ). Has at.0 (b ∷ bs)) (λ at h. (suc h.0, h.1)) (places_of test all bs) (in_blocks test all bs))
  where
    first : (o : Option Block) → AllOf (λ (at : ℕ × ℕ). Has at.0 (b ∷ bs)) (places_in test b o)
    first None = tt
    first (Some block) = all_map (λ (at : ℕ × ℕ). at.0 ≡ b) (λ (at : ℕ × ℕ). Has at.0 (b ∷ bs)) (λ at e. (0, ap Some (sym e))) (places_from test b 0 block.instrs) (in_block test b 0 block.instrs)

module _ (f : Function) (g : FlowGraph) (graph : Graphed f g) (counted : List ℕ) (hash : ℕ) (distinct : (l : List ℕ) → count_by (same l) (labels f.blocks) ≤ 1) where
  abbrev unit : FunctionPlan
  unit = gen_with f g counted hash

  plan_is : (j : ℕ) (b : Block) → slice_get f.blocks j ≡ Some b → block_plan unit.blocks j ≡ gen_block f g counted j b
  plan_is j b at = each_at (gen_block f g counted) 0 f.blocks j b no_block_plan at ∙ ap (λ i. gen_block f g counted i b) (zero-add j)

  module _ (j : ℕ) (b : Block) (at : slice_get f.blocks j ≡ Some b) (unreached : IsReachable (rows f.blocks) j → ⊥) where
    -- no edge leaves the block or enters it
    no_leave : (i : ℕ) (e : Edge) → slice_get g.edges i ≡ Some e → leaves j e ≡ false
    no_leave i e there = by (leaves j e) refl
      where
        by : (s : Bool) → leaves j e ≡ s → leaves j e ≡ false
        by true l = absurd (unreached (stands_from f g graph i j e there (is_at_some j e.block l)).reachable)
        by false l = l

    no_enter : (i : ℕ) (e : Edge) → slice_get g.edges i ≡ Some e → enters g j e ≡ false
    no_enter i e there = by (enters g j e) refl
      where
        by : (s : Bool) → enters g j e ≡ s → enters g j e ≡ false
        by true l = absurd (unreached (graph.nodes e.to j (is_at_some j (block_of g e.to) l)).reachable)
        by false l = l

    tail_none : tail_counter g counted j ≡ None
    tail_none = ap first_of (none_where (λ e. leaves j e && at_tail g e) (λ i. listed (counter_of counted i)) 0 g.edges (λ i e there. ap (λ s. s && at_tail g e) (no_leave i e there)))

    head_none : head_counter g counted j ≡ None
    head_none = ap first_of (none_where (λ e. enters g j e && at_head g e) (λ i. listed (counter_of counted i)) 0 g.edges (λ i e there. ap (λ s. s && at_head g e) (no_enter i e there)))

    new_none : (p : ℕ) → new_on f g counted j p ≡ None
    new_none p = ap first_of (none_where (λ e. leaves j e && (e.position == p && on_edge g e)) (λ i. listed (option_map (edge_block f i) (counter_of counted i))) 0 g.edges (λ i e there. ap (λ s. s && (e.position == p && on_edge g e)) (no_leave i e there)))

    -- no select and no site is in it
    number_none : (i : ℕ) (places : List (ℕ × ℕ)) → AllOf (λ (x : ℕ × ℕ). Has x.0 g.blocks) places → number_of j i places ≡ None
    number_none i places all = by (number_of j i places) refl
      where
        by : (o : Option ℕ) → number_of j i places ≡ o → number_of j i places ≡ None
        by None e = e
        by (Some n) e =
            let r = at_position (λ (x : ℕ × ℕ). x.0 == j && x.1 == i) places n e in
            let h = all_at (λ (x : ℕ × ℕ). Has x.0 g.blocks) places n r.0 all r.1 in
            let is : r.0.0 ≡ j = eqb-true r.0.0 j (both (r.0.0 == j) (r.0.1 == i) r.2).0 in
            absurd (unreached (graph.nodes (suc h.0) j (h.1 ∙ ap Some is)).reachable)

    watch_none : (i : ℕ) (x : Instr) → watch_of f g counted j i x ≡ Nothing
    watch_none i x =
        (λ n. cond (is_select x) (select_watch f (length counted) (number_none i g.selects selects_in n)) (cond (is_site x) (site_watch f (number_none i g.sites sites_in n)) Nothing))
        ∙ by (is_select x) (is_site x)
      where
        selects_in : AllOf (λ (x : ℕ × ℕ). Has x.0 g.blocks) g.selects
        selects_in = subst (λ ps. AllOf (λ (x : ℕ × ℕ). Has x.0 g.blocks) ps) (sym graph.relation.selects) (in_blocks is_select f.blocks g.blocks)

        sites_in : AllOf (λ (x : ℕ × ℕ). Has x.0 g.blocks) g.sites
        sites_in = subst (λ ps. AllOf (λ (x : ℕ × ℕ). Has x.0 g.blocks) ps) (sym graph.relation.sites) (in_blocks is_site f.blocks g.blocks)

        by : (s t : Bool) → cond s (select_watch f (length counted) None) (cond t (site_watch f None) Nothing) ≡ Nothing
        by true t = refl
        by false true = refl
        by false false = refl

    puts_nothing : PutsNothing (gen_block f g counted j b)
    puts_nothing = record {
      head = head_none;
      tail = tail_none;
      watches = λ i. always (λ i x. watch_of f g counted j (phi_count b.instrs + i) x) Nothing (λ n x. watch_none (phi_count b.instrs + n) x) 0 (behind_phis b.instrs) i;
      edges = λ p. always (λ p to. new_on f g counted j p) None (λ n to. new_none n) 0 (successors b.term) p;
    }

    -- no new block leads to it
    not_from : (i : ℕ) (c : Block) → slice_get f.blocks i ≡ Some c → (p : ℕ) (to : List ℕ) → slice_get (successors c.term) p ≡ Some to → (s : Bool) → same b.label to ≡ s → (o : Option NewBlock) → new_on f g counted i p ≡ o → renaming s c.label o ≡ []
    not_from i c there p to leads false s o n = refl
    not_from i c there p to leads true s None n = refl
    not_from i c there p to leads true s (Some new) n =
        let r = first_made (λ e. leaves i e && (e.position == p && on_edge g e)) (λ k. option_map (edge_block f k) (counter_of counted k)) 0 g.edges new n in
        let from = is_at_some i r.1.block (both (leaves i r.1) (r.1.position == p && on_edge g r.1) r.3).0 in
        let next = leads_on f g graph i c there (stands_from f g graph r.0 i r.1 r.2 from).reachable p to leads in
        let t = label_at f.blocks to next.target next.place in
        let is : next.target ≡ j =
        one_place (same b.label) (labels f.blocks) (distinct b.label) j next.target b.label t.0.label (at_label f.blocks j b at) (at_label f.blocks next.target t.0 t.1)
        ((bytes_decides b.label b.label).1 refl) ((bytes_decides b.label t.0.label).1 ((bytes_decides b.label to).0 s ∙ sym t.2)) in
        absurd (unreached (subst (IsReachable (rows f.blocks)) is next.reachable))

    no_renamings : renamings unit.blocks f.blocks b.label ≡ []
    no_renamings = none_each (λ i c. renamings_from b.label (block_plan unit.blocks i) c) 0 f.blocks
        (λ i c there. none_each (λ p to. renaming (same b.label to) c.label (new_at (block_plan unit.blocks (0 + i)) p)) 0 (successors c.term)
        (λ p to leads.
        ap (renaming (same b.label to) c.label) (ap (λ k. new_at (block_plan unit.blocks k) (0 + p)) (zero-add i) ∙ ap (λ (q : BlockPlan). new_at q (0 + p)) (plan_is i c there) ∙ ap (λ k. new_at (gen_block f g counted i c) k) (zero-add p)
        ∙ each_at (λ p to. new_on f g counted i p) 0 (successors c.term) p to None leads ∙ ap (new_on f g counted i) (zero-add p))
        ∙ not_from i c there p to leads (same b.label to) refl (new_on f g counted i p) refl))

    pub stays_alone : BlocksStay → counted_pieces unit f.blocks j b ≡ b ∷ []
    stays_alone stays =
        let s = stays unit f.blocks (gen_block f g counted j b) b puts_nothing no_renamings in
        ap (λ (q : BlockPlan). counted_block unit f.blocks q b ∷ new_blocks unit q b) (plan_is j b at) ∙ (λ i. s.block i ∷ s.alone i)
