-- Where the counter of an edge stands: at one of the three places, and at no other.
use Rattle.std.proofs.Common.{◌≡◌, ℕ, zero, suc, ◌+◌, ◌==◌, ◌≤◌, Bool, true, false, not, ◌&&◌, List, [], ◌∷◌, ◌++◌, length, Option, Some, None, slice_get, refl, sym, ◌∙◌, ap, arith, zero-add}
use Rattle.std.specs.Option.{option_map}
use Rattle.std.specs.Cmp.Lexicographic.{bytes_decides}
use Rattle.std.proofs.lemmas.Bool.{eqb-true, eq-eqb}
use Rattle.std.proofs.lemmas.List.{append-nil, length-append}
use Rattle.std.proofs.lemmas.Option.{none-some, same_Some}
use Rattle.spec_lists.specs.Each.{first_of}
use Rattle.spec_items.proofs.Made.{and_off, and_on, at_position, both, none_where, one_place, only_where, position_only}
use Rattle.cfg_edges.specs.Graph.{AreApart, EachHasEdge, EdgesStand, IsFlowGraph, IsGraphOf, NodesStand, SuccessorsAreReached, successors_of}
use Rattle.count_plan.specs.declared.plan.NewBlock.{NewBlock}
use Rattle.count_likeness.specs.Fits.{counters_in, steps_in}
use Rattle.gen_plan.specs.GenImage.{edge_of}
use Rattle.gen_plan.specs.Placing.{at_head, at_tail, counter_of, edge_block, enters, head_counter, is_only_one, leaves, new_on, on_edge, tail_counter, ways_from, ways_into}
use Rattle.gen_plan.proofs.Lookups.{at_itself, first_listed, is_at_some}
use Rattle.ir_model.specs.Log.{is_at}
use Rattle.ir_tree.specs.Blocks.{block_place, labels}
use Rattle.ir_tree.specs.Graphs.{FlowGraph, block_of}
use Rattle.ir_tree.specs.Names.{same}
use Rattle.ir_tree.specs.Operands.{listed}
use Rattle.ir_tree.specs.Successors.{successors}
use Rattle.ir_tree.specs.declared.edge.Edge.{Edge}
use Rattle.ir_tree.specs.declared.types.Block.{Block}
use Rattle.ir_tree.specs.declared.types.Function.{Function}

-- what is known of the graph of a function
pub record Graphed (f : Function) (g : FlowGraph) : Type 0 where
  pub relation : IsGraphOf f g
  pub whole : IsFlowGraph g
  pub edges : EdgesStand f g
  pub each_way : EachHasEdge f g
  pub nodes : NodesStand f g
  pub onward : SuccessorsAreReached f

pub successors_at : (bs : List Block) (j : ℕ) (b : Block) → slice_get bs j ≡ Some b → successors_of bs j ≡ successors b.term
successors_at [] j b e = absurd (none-some b e)
successors_at (c ∷ cs) zero b e = ap (λ (x : Block). successors x.term) (same_Some c b e)
successors_at (c ∷ cs) (suc j) b e = successors_at cs j b e

-- a block that has a successor is there
pub block_there : (bs : List Block) (j p : ℕ) (to : List ℕ) → slice_get (successors_of bs j) p ≡ Some to → (b : Block) × (slice_get bs j ≡ Some b) × (slice_get (successors b.term) p ≡ Some to)
block_there [] j p to e = absurd (none-some to e)
block_there (c ∷ cs) zero p to e = (c, refl, e)
block_there (c ∷ cs) (suc j) p to e = block_there cs j p to e

-- the block under a label, by its number
pub label_at : (bs : List Block) (to : List ℕ) (t : ℕ) → block_place bs to ≡ Some t → (c : Block) × (slice_get bs t ≡ Some c) × (c.label ≡ to)
label_at bs to t e =
    let p = at_position (same to) (labels bs) t e in
    let c = of_label bs t p.0 p.1 in
    (c.0, c.1, c.2 ∙ sym ((bytes_decides to p.0).0 p.2))
  where
    of_label : (bs : List Block) (t : ℕ) (l : List ℕ) → slice_get (labels bs) t ≡ Some l → (c : Block) × (slice_get bs t ≡ Some c) × (c.label ≡ l)
    of_label [] t l e = absurd (none-some l e)
    of_label (b ∷ bs) zero l e = (b, refl, same_Some b.label l e)
    of_label (b ∷ bs) (suc t) l e = of_label bs t l e

pub at_label : (bs : List Block) (t : ℕ) (c : Block) → slice_get bs t ≡ Some c → slice_get (labels bs) t ≡ Some c.label
at_label [] t c e = absurd (none-some c e)
at_label (b ∷ bs) zero c e = ap (λ (x : Block). Some x.label) (same_Some b c e)
at_label (b ∷ bs) (suc t) c e = at_label bs t c e

-- ---- one edge

module _ (f : Function) (g : FlowGraph) (counted : List ℕ) where
  abbrev rank : ℕ → Option ℕ
  rank k = counter_of counted k

  module _ (j t : ℕ) (k : ℕ) (E : Edge) (at : slice_get g.edges k ≡ Some E) (from : E.block ≡ Some j) where
    leaves_it : leaves j E ≡ true
    leaves_it = ap (is_at j) from ∙ at_itself j

    tail_is : (e : Edge) → leaves j e ≡ true → at_tail g e ≡ (ways_from g j == 1)
    tail_is e l = ap (is_only_one (ways_from g)) (is_at_some j e.block l)

    -- it is the only way out
    module _ (only : (ways_from g j == 1) ≡ true) where
      one_from : (i : ℕ) (e : Edge) → slice_get g.edges i ≡ Some e → leaves j e ≡ true → i ≡ k
      one_from i e there l = one_place (leaves j) g.edges (let c = eqb-true (ways_from g j) 1 only in omega (arith, c)) k i E e at there leaves_it l

      pub tail_one : tail_counter g counted j ≡ rank k
      tail_one =
          ap first_of (only_where (λ e. leaves j e && at_tail g e) (λ i. listed (rank i)) 0 g.edges k E at (and_on (leaves j E) (at_tail g E) leaves_it (tail_is E leaves_it ∙ only))
          (λ i e there h. one_from i e there (both (leaves j e) (at_tail g e) h).0) ∙ ap (λ i. listed (rank i)) (zero-add k)) ∙ first_listed (rank k)

    module _ (more : (ways_from g j == 1) ≡ false) where
      pub tail_none : tail_counter g counted j ≡ None
      tail_none = ap first_of (none_where (λ e. leaves j e && at_tail g e) (λ i. listed (rank i)) 0 g.edges (λ i e there. and_off (leaves j e) (at_tail g e) (λ l. tail_is e l ∙ more)))

    module _ (to : block_of g E.to ≡ Some t) (apart : AreApart g.edges) where
      enters_it : enters g t E ≡ true
      enters_it = ap (is_at t) to ∙ at_itself t

      head_is : (e : Edge) → enters g t e ≡ true → is_only_one (ways_into g) (block_of g e.to) ≡ (ways_into g t == 1)
      head_is e l = ap (is_only_one (ways_into g)) (is_at_some t (block_of g e.to) l)

      at_head_is : (a b : Bool) → (ways_from g j == 1) ≡ a → (ways_into g t == 1) ≡ b → at_head g E ≡ (not a && b)
      at_head_is a b e h = λ i. not ((tail_is E leaves_it ∙ e) i) && (head_is E enters_it ∙ h) i

      same_edge : (i : ℕ) (e : Edge) → slice_get g.edges i ≡ Some e → i ≡ k → e ≡ E
      same_edge i e there is = same_Some e E (sym there ∙ ap (slice_get g.edges) is ∙ at)

      one_into : (ways_into g t == 1) ≡ true → (i : ℕ) (e : Edge) → slice_get g.edges i ≡ Some e → enters g t e ≡ true → i ≡ k
      one_into only i e there l = one_place (enters g t) g.edges (let c = eqb-true (ways_into g t) 1 only in omega (arith, c)) k i E e at there enters_it l

      -- the head has no counter, where no entering edge has it there
      no_head : ((i : ℕ) (e : Edge) → slice_get g.edges i ≡ Some e → enters g t e ≡ true → at_head g e ≡ false) → head_counter g counted t ≡ None
      no_head h = ap first_of (none_where (λ e. enters g t e && at_head g e) (λ i. listed (rank i)) 0 g.edges (λ i e there. and_off (enters g t e) (at_head g e) (h i e there)))

      not_only : (ways_into g t == 1) ≡ false → (i : ℕ) (e : Edge) → slice_get g.edges i ≡ Some e → enters g t e ≡ true → at_head g e ≡ false
      not_only more i e there l = and_off (not (at_tail g e)) (is_only_one (ways_into g) (block_of g e.to)) (λ h. head_is e l ∙ more)

      pub head_none_behind_tail : (ways_from g j == 1) ≡ true → (b : Bool) → (ways_into g t == 1) ≡ b → head_counter g counted t ≡ None
      head_none_behind_tail only true one = no_head (λ i e there l. ap (at_head g) (same_edge i e there (one_into one i e there l)) ∙ at_head_is true true only one)
      head_none_behind_tail only false more = no_head (not_only more)

      pub head_none : (ways_into g t == 1) ≡ false → head_counter g counted t ≡ None
      head_none more = no_head (not_only more)

      pub head_one : (ways_from g j == 1) ≡ false → (ways_into g t == 1) ≡ true → head_counter g counted t ≡ rank k
      head_one many only =
          ap first_of (only_where (λ e. enters g t e && at_head g e) (λ i. listed (rank i)) 0 g.edges k E at (and_on (enters g t E) (at_head g E) enters_it (at_head_is false true many only))
          (λ i e there h. one_into only i e there (both (enters g t e) (at_head g e) h).0) ∙ ap (λ i. listed (rank i)) (zero-add k)) ∙ first_listed (rank k)

      -- ---- the way out by the position of the edge

      module _ (p : ℕ) (position_is : E.position ≡ p) where
        abbrev made_of : Edge → Bool
        made_of e = leaves j e && (e.position == p && on_edge g e)

        -- it is the only edge there
        pub one_there : (i : ℕ) (e : Edge) → slice_get g.edges i ≡ Some e → leaves j e ≡ true → (e.position == p) ≡ true → i ≡ k
        one_there i e there l q = apart i k e E there at (is_at_some j e.block l ∙ sym from) (eqb-true e.position p q ∙ sym position_is)

        position_there : (E.position == p) ≡ true
        position_there = eq-eqb E.position p position_is

        pub edge_is : edge_of g j p ≡ Some k
        edge_is = position_only (λ (e : Edge). leaves j e && e.position == p) g.edges k E at (and_on (leaves j E) (E.position == p) leaves_it position_there)
            (λ i e there h. (let r = both (leaves j e) (e.position == p) h in one_there i e there r.0 r.1))

        no_new : ((i : ℕ) (e : Edge) → slice_get g.edges i ≡ Some e → leaves j e ≡ true → (e.position == p) ≡ true → on_edge g e ≡ false) → new_on f g counted j p ≡ None
        no_new h = ap first_of (none_where made_of (λ i. listed (option_map (edge_block f i) (rank i))) 0 g.edges
            (λ i e there. and_off (leaves j e) (e.position == p && on_edge g e) (λ l. and_off (e.position == p) (on_edge g e) (λ q. h i e there l q))))

        new_none_tail : (ways_from g j == 1) ≡ true → new_on f g counted j p ≡ None
        new_none_tail only = no_new (λ i e there l q. ap (λ s. not s && not (at_head g e)) (tail_is e l ∙ only))

        new_none_head : (ways_from g j == 1) ≡ false → (ways_into g t == 1) ≡ true → new_on f g counted j p ≡ None
        new_none_head many only = no_new (λ i e there l q. ap (on_edge g) (same_edge i e there (one_there i e there l q)) ∙ and_off (not (at_tail g E)) (not (at_head g E)) (λ h. ap not (at_head_is false true many only)))

        new_one : (ways_from g j == 1) ≡ false → (ways_into g t == 1) ≡ false → new_on f g counted j p ≡ option_map (edge_block f k) (rank k)
        new_one many more =
            ap first_of (only_where made_of (λ i. listed (option_map (edge_block f i) (rank i))) 0 g.edges k E at
            (and_on (leaves j E) (E.position == p && on_edge g E) leaves_it (and_on (E.position == p) (on_edge g E) position_there (λ i. not ((tail_is E leaves_it ∙ many) i) && not (at_head_is false false many more i))))
            (λ i e there h. (let r = both (leaves j e) (e.position == p && on_edge g e) h in let s = both (e.position == p) (on_edge g e) r.1 in one_there i e there r.0 s.0))
            ∙ ap (λ i. listed (option_map (edge_block f i) (rank i))) (zero-add k)) ∙ first_listed (option_map (edge_block f k) (rank k))

        -- the counters before the terminator, on the edge and at the head are that of the edge
        pub way_counters : listed (rank k) ≡ listed (tail_counter g counted j) ++ (counters_in (new_on f g counted j p) ++ listed (head_counter g counted t))
        way_counters = by (ways_from g j == 1) refl (ways_into g t == 1) refl
          where
            counters_of_new : (o : Option ℕ) → counters_in (option_map (edge_block f k) o) ≡ listed o
            counters_of_new None = refl
            counters_of_new (Some c) = refl

            by : (a : Bool) → (ways_from g j == 1) ≡ a → (b : Bool) → (ways_into g t == 1) ≡ b → listed (rank k) ≡ listed (tail_counter g counted j) ++ (counters_in (new_on f g counted j p) ++ listed (head_counter g counted t))
            by true a b e =
                sym (append-nil (listed (rank k)))
                ∙ (λ i. listed (sym (tail_one a) i) ++ (counters_in (sym (new_none_tail a) i) ++ listed (sym (head_none_behind_tail a b e) i)))
            by false a true e = λ i. listed (sym (tail_none a) i) ++ (counters_in (sym (new_none_head a e) i) ++ listed (sym (head_one a e) i))
            by false a false e =
                sym (counters_of_new (rank k)) ∙ sym (append-nil (counters_in (option_map (edge_block f k) (rank k))))
                ∙ (λ i. listed (sym (tail_none a) i) ++ (counters_in (sym (new_one a e) i) ++ listed (sym (head_none e) i)))

        -- they take three steps at most, with the terminator
        pub way_cost : suc (length (listed (tail_counter g counted j)) + (steps_in (new_on f g counted j p) + length (listed (head_counter g counted t)))) ≤ 4
        way_cost =
            let whole = ap length way_counters in
            let a = length-append (listed (tail_counter g counted j)) (counters_in (new_on f g counted j p) ++ listed (head_counter g counted t)) in
            let b = length-append (counters_in (new_on f g counted j p)) (listed (head_counter g counted t)) in
            let one = at_most (rank k) in
            let s = steps (new_on f g counted j p) in
            omega (arith, whole, a, b, one, s)
          where
            at_most : (o : Option ℕ) → length (listed o) ≤ 1
            at_most None = omega arith
            at_most (Some c) = omega arith

            steps : (o : Option NewBlock) → steps_in o ≤ suc (length (counters_in o))
            steps None = omega arith
            steps (Some new) = omega arith
