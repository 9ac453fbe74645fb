-- The edges of a function by block and position: the way to a successor, the exit, and the entry.
use Rattle.std.proofs.Common.{◌≡◌, ℕ, suc, ◌==◌, ◌<◌, max, true, ◌&&◌, List, [], length, Option, Some, None, slice_get, refl, sym, ◌∙◌, ap, subst, arith, inl, inr, ◌⊎◌}
use Rattle.std.specs.Cmp.Lexicographic.{bytes_decides}
use Rattle.std.proofs.lemmas.Bool.{eq-eqb}
use Rattle.std.proofs.lemmas.Option.{none-some, same_Some, slice_get_within}
use Rattle.spec_lists.specs.Each.{first_of}
use Rattle.spec_items.proofs.Made.{and_on, at_most_one, both, counted_at, one_place, only_where, position_only}
use Rattle.cfg_edges.specs.Graph.{IsBranch, IsExit, LeavesBlock, Stands, successors_of}
use Rattle.count_likeness.specs.Formed.{IsFormed}
use Rattle.gen_plan.specs.GenImage.{edge_of}
use Rattle.gen_plan.specs.Placing.{at_head, counter_of, enters, head_counter, is_only_one, leaves, tail_counter, ways_from, ways_into}
use Rattle.gen_plan.proofs.Edges.{Graphed, at_label, block_there, label_at, successors_at, tail_one}
use Rattle.gen_plan.proofs.Lookups.{at_itself, first_listed, is_at_some}
use Rattle.ir_model.specs.Log.{is_at}
use Rattle.ir_tree.specs.Blocks.{block_place, labels}
use Rattle.ir_tree.specs.Edges.{entry_edge, rows}
use Rattle.ir_tree.specs.Graphs.{FlowGraph, block_of}
use Rattle.ir_tree.specs.Names.{same}
use Rattle.ir_tree.specs.Operands.{listed}
use Rattle.ir_tree.specs.Reach.{IsReachable}
use Rattle.ir_tree.specs.Successors.{successors}
use Rattle.ir_tree.specs.declared.edge.Edge.{Edge}
use Rattle.ir_tree.specs.declared.types.Block.{Block}
use Rattle.ir_tree.specs.declared.types.Function.{Function}

module _ (f : Function) (g : FlowGraph) (graph : Graphed f g) where
  -- the edge for a way out of a reachable block
  pub record WayOut (j p : ℕ) : Type 0 where
    pub number : ℕ
    pub edge : Edge
    pub at : slice_get g.edges number ≡ Some edge
    pub from : edge.block ≡ Some j
    pub position : edge.position ≡ p

  pub way_out : (j p : ℕ) → IsReachable (rows f.blocks) j → p < max 1 (length (successors_of f.blocks j)) → WayOut j p
  way_out j p reachable within =
      let r = graph.each_way j p reachable within in
      record { number = r.0; edge = r.1; at = r.2; from = r.3; position = r.4 }

  -- where it leads
  pub record LeadsOn (j p : ℕ) (to : List ℕ) : Type 0 where
    pub way : WayOut j p
    pub target : ℕ
    pub place : block_place f.blocks to ≡ Some target
    pub head : block_of g way.edge.to ≡ Some target
    pub reachable : IsReachable (rows f.blocks) target

  pub stands_from : (k j : ℕ) (e : Edge) → slice_get g.edges k ≡ Some e → e.block ≡ Some j → LeavesBlock f g j e
  stands_from k j e at from = subst (λ (o : Option ℕ). Stands f g e o) from (graph.edges k e at)

  -- an edge from a block without successors is its exit
  is_exit : (j : ℕ) (e : Edge) → successors_of f.blocks j ≡ [] → IsBranch f g j e ⊎ IsExit f j e → e.position ≡ 0
  is_exit j e none (inl br) = absurd (none-some br.to (ap (λ l. slice_get l e.position) (sym none) ∙ br.successor))
  is_exit j e none (inr ex) = ex.position

  module _ (j : ℕ) (b : Block) (block_at : slice_get f.blocks j ≡ Some b) (reachable : IsReachable (rows f.blocks) j) where
    -- the block is the first of its label
    pub own_place : block_place f.blocks b.label ≡ Some j
    own_place =
        let w = way_out j 0 reachable (omega arith) in
        let n = graph.nodes w.edge.from j ((graph.whole.sound w.number w.edge w.at).owner ∙ w.from) in
        ap (λ (x : Block). block_place f.blocks x.label) (same_Some b n.block (sym block_at ∙ n.at)) ∙ n.named

    pub leads_on : (p : ℕ) (to : List ℕ) → slice_get (successors b.term) p ≡ Some to → LeadsOn j p to
    leads_on p to leads =
        let successor : slice_get (successors_of f.blocks j) p ≡ Some to = ap (λ l. slice_get l p) (successors_at f.blocks j b block_at) ∙ leads in
        let within = slice_get_within (successors_of f.blocks j) p to successor in
        let next = graph.onward j p to reachable successor in
        let w = way_out j p reachable (omega (arith, within)) in
        record { way = w; target = next.0; place = next.1; head = by w next.0 next.1 successor (stands_from w.number j w.edge w.at w.from).leads; reachable = next.2 }
      where
        by : (w : WayOut j p) (t : ℕ) → block_place f.blocks to ≡ Some t → slice_get (successors_of f.blocks j) p ≡ Some to → IsBranch f g j w.edge ⊎ IsExit f j w.edge → block_of g w.edge.to ≡ Some t
        by w t place successor (inl br) =
            let is : br.to ≡ to = same_Some br.to to (sym br.successor ∙ ap (slice_get (successors_of f.blocks j)) w.position ∙ successor) in
            br.target ∙ ap (block_place f.blocks) is ∙ place
        by w t place successor (inr ex) = absurd (none-some to (ap (λ l. slice_get l p) (sym ex.last) ∙ successor))

    -- ---- the exit

    module _ (counted : List ℕ) (nowhere : successors b.term ≡ []) where
      none_out : successors_of f.blocks j ≡ []
      none_out = successors_at f.blocks j b block_at ∙ nowhere

      pub exit_way : WayOut j 0
      exit_way = way_out j 0 reachable (omega arith)

      one_exit : (i : ℕ) (e : Edge) → slice_get g.edges i ≡ Some e → leaves j e ≡ true → i ≡ exit_way.number
      one_exit i e there l =
          let from = is_at_some j e.block l in
          let w = exit_way in
          graph.whole.apart i w.number e w.edge there w.at (from ∙ sym w.from) (is_exit j e none_out (stands_from i j e there from).leads ∙ sym w.position)

      leaves_exit : leaves j exit_way.edge ≡ true
      leaves_exit = ap (is_at j) exit_way.from ∙ at_itself j

      only_exit : (ways_from g j == 1) ≡ true
      only_exit =
          let some = counted_at (leaves j) g.edges exit_way.number exit_way.edge exit_way.at leaves_exit in
          let few = at_most_one (leaves j) g.edges exit_way.number one_exit in
          eq-eqb (ways_from g j) 1 (omega (arith, some, few))

      pub exit_counter : tail_counter g counted j ≡ counter_of counted exit_way.number
      exit_counter = tail_one f g counted j 0 exit_way.number exit_way.edge exit_way.at exit_way.from only_exit

      pub exit_edge : edge_of g j 0 ≡ Some exit_way.number
      exit_edge = position_only (λ (e : Edge). leaves j e && e.position == 0) g.edges exit_way.number exit_way.edge exit_way.at
          (and_on (leaves j exit_way.edge) (exit_way.edge.position == 0) leaves_exit (eq-eqb exit_way.edge.position 0 exit_way.position))
          (λ i e there h. one_exit i e there (both (leaves j e) (e.position == 0) h).0)

  -- ---- the entry

  module _ (formed : IsFormed f) (counted : List ℕ) where
    first_block : block_of g 1 ≡ Some 0
    first_block = graph.whole.entry

    -- no other edge leads to the first block
    not_to_first : (a : ℕ) (e : Edge) → IsBranch f g a e → block_of g e.to ≡ Some 0 → ⊥
    not_to_first a e br into =
        let first = label_at f.blocks br.to 0 (sym br.target ∙ into) in
        let tail = block_there f.blocks a e.position br.to br.successor in
        let target = formed.targets a e.position tail.0 br.to tail.1 tail.2 in
        let zero_suc : suc target.0 ≡ 0 =
        one_place (same br.to) (labels f.blocks) (formed.distinct br.to) 0 (suc target.0) first.0.label target.1.label (at_label f.blocks 0 first.0 first.1) (at_label f.blocks (suc target.0) target.1 target.2)
        ((bytes_decides br.to first.0.label).1 (sym first.2)) ((bytes_decides br.to target.1.label).1 (sym target.3)) in
        absurd (omega (arith, zero_suc))

    one_entry : (i : ℕ) (e : Edge) → slice_get g.edges i ≡ Some e → enters g 0 e ≡ true → i ≡ 0
    one_entry i e there l = by e.block refl (graph.edges i e there)
      where
        into : block_of g e.to ≡ Some 0
        into = is_at_some 0 (block_of g e.to) l

        by : (o : Option ℕ) → e.block ≡ o → Stands f g e o → i ≡ 0
        by None q is = graph.whole.apart i 0 e entry_edge there graph.whole.first (ap (λ (x : Edge). x.block) is) (ap (λ (x : Edge). x.position) is)
        by (Some a) q lb = leads lb.leads
          where
            leads : IsBranch f g a e ⊎ IsExit f a e → i ≡ 0
            leads (inl br) = absurd (not_to_first a e br into)
            leads (inr ex) = absurd (none-some 0 (ap (block_of g) (sym ex.outside) ∙ into))

    enters_first : enters g 0 entry_edge ≡ true
    enters_first = ap (is_at 0) first_block ∙ at_itself 0

    only_entry : (ways_into g 0 == 1) ≡ true
    only_entry =
        let some = counted_at (enters g 0) g.edges 0 entry_edge graph.whole.first enters_first in
        let few = at_most_one (enters g 0) g.edges 0 one_entry in
        eq-eqb (ways_into g 0) 1 (omega (arith, some, few))

    pub entry_counter : head_counter g counted 0 ≡ counter_of counted 0
    entry_counter =
        ap first_of (only_where (λ e. enters g 0 e && at_head g e) (λ i. listed (counter_of counted i)) 0 g.edges 0 entry_edge graph.whole.first
        (and_on (enters g 0 entry_edge) (at_head g entry_edge) enters_first (ap (is_only_one (ways_into g)) first_block ∙ only_entry))
        (λ i e there h. one_entry i e there (both (enters g 0 e) (at_head g e) h).0)) ∙ first_listed (counter_of counted 0)
