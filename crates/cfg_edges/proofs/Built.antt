-- The parts that the code builds are those of the graph.
use Rattle.std.proofs.Common.{◌≡◌, ℕ, ◌<◌, Bool, List, length, Some, slice_get, refl, sym, ap, subst, ◌∙◌, arith}
use Rattle.ir_tree.specs.Edges.{rows, marked_from, numbers, edges_by}
use Rattle.ir_tree.specs.Graphs.{HasGraph, flow_graph, graph_of, is_site, is_select, places_of}
use Rattle.ir_tree.specs.Reach.{row, AreRows, AreMarks, reached}
use Rattle.ir_tree.specs.declared.edge.Edge.{Edge}
use Rattle.ir_tree.specs.declared.types.Block.{Block}
use Rattle.ir_tree.specs.declared.types.Function.{Function}
use Rattle.cfg_edges.proofs.Targets.{are_rows, blocks_below, rows_size}
use Rattle.cfg_edges.proofs.Whole.{marks_size, few_blocks, few_successors, numbers_count, blocks_within}

module _ (f : Function) (graph : HasGraph f) (blocks : List Block) (bs : blocks ≡ f.blocks) where
  pub few_of_blocks : length blocks < 4294967296
  few_of_blocks = omega (arith, ap (λ (xs : List Block). length xs) bs, blocks_below f.blocks, graph.few)

  module _ (made : List (List ℕ)) (rows_made : made ≡ rows blocks) where
    rows_are : made ≡ rows f.blocks
    rows_are = rows_made ∙ ap (λ (xs : List Block). rows xs) bs

    pub rows_of_graph : AreRows made
    rows_of_graph = subst (λ (x : List (List ℕ)). AreRows x) (sym rows_are) (are_rows f graph)

    pub targets_then : (b p t : ℕ) → slice_get (row made b) p ≡ Some t → t < length made
    targets_then = rows_of_graph.targets

    module _ (marks : List Bool) (by_rounds : marks ≡ reached made) (marked : AreMarks made marks) where
      marks_are : AreMarks (rows f.blocks) marks
      marks_are = subst (λ (x : List (List ℕ)). AreMarks x marks) rows_are marked

      pub few_marks : (ms : List Bool) → ms ≡ marks → length ms < 4294967295
      few_marks ms is = omega (arith, ap (λ (xs : List Bool). length xs) is, marks_size f graph marks marks_are, few_blocks f graph marks marks_are)

      -- the numbers of the nodes
      numbers_are : (ms : List Bool) (put ns : List ℕ) → ms ≡ marks → put ≡ numbers 1 ms → ns ≡ put → ns ≡ numbers 1 marks
      numbers_are ms put ns of_marks made_of read = read ∙ made_of ∙ ap (λ (xs : List Bool). numbers 1 xs) of_marks

      pub size_then : (ms : List Bool) (put ns : List ℕ) → ms ≡ marks → put ≡ numbers 1 ms → ns ≡ put → length ns ≡ length made
      size_then ms put ns of_marks made_of read =
          ap (λ (xs : List ℕ). length xs) (numbers_are ms put ns of_marks made_of read) ∙ numbers_count f graph marks marks_are ∙ sym (ap (λ (xs : List (List ℕ)). length xs) rows_are)

      -- the reachable blocks
      listed_are : (ks : List Bool) (put bl : List ℕ) → ks ≡ marks → put ≡ marked_from 0 ks → bl ≡ put → bl ≡ marked_from 0 marks
      listed_are ks put bl of_marks made_of read = read ∙ made_of ∙ ap (λ (xs : List Bool). marked_from 0 xs) of_marks

      within_then : (ks : List Bool) (put bl : List ℕ) → ks ≡ marks → put ≡ marked_from 0 ks → bl ≡ put → (k b : ℕ) → slice_get bl k ≡ Some b → b < length (rows f.blocks)
      within_then ks put bl of_marks made_of read k b h = blocks_within f graph marks marks_are k b (subst (λ (xs : List ℕ). slice_get xs k ≡ Some b) (listed_are ks put bl of_marks made_of read) h)

      pub blocks_then : (ks : List Bool) (put bl : List ℕ) → ks ≡ marks → put ≡ marked_from 0 ks → bl ≡ put → (k b : ℕ) → slice_get bl k ≡ Some b → b < length made
      blocks_then ks put bl of_marks made_of read k b h = subst (λ (xs : List (List ℕ)). b < length xs) (sym rows_are) (within_then ks put bl of_marks made_of read k b h)

      pub places_then : (ks : List Bool) (put bl : List ℕ) → ks ≡ marks → put ≡ marked_from 0 ks → bl ≡ put → (k b : ℕ) → slice_get bl k ≡ Some b → b < length blocks
      places_then ks put bl of_marks made_of read k b h = omega (arith, within_then ks put bl of_marks made_of read k b h, rows_size f.blocks, ap (λ (xs : List Block). length xs) bs)

      pub few_then : (b : ℕ) → length (row made b) < 4294967296
      few_then = subst (λ (xs : List (List ℕ)). (b : ℕ) → length (row xs b) < 4294967296) (sym rows_are) (few_successors f graph marks marks_are)

      pub graph_then : (ms : List Bool) (numbered ns : List ℕ) (ks : List Bool) (put bl in_sites in_selects : List ℕ) (edges : List Edge) (sites selects : List (ℕ × ℕ))
          → ms ≡ marks → numbered ≡ numbers 1 ms → ns ≡ numbered → ks ≡ marks → put ≡ marked_from 0 ks → bl ≡ put → edges ≡ edges_by ns made bl → in_sites ≡ put → sites ≡ places_of is_site blocks in_sites → in_selects ≡ put → selects ≡ places_of is_select blocks in_selects
          → flow_graph put edges sites selects ≡ graph_of f
      unfolding graph_of
      graph_then ms numbered ns ks put bl in_sites in_selects edges sites selects of_ms of_numbers ns_read of_ks of_marks bl_read edges_made sites_read sites_made selects_read selects_made =
          let counted : marks ≡ reached (rows f.blocks) = by_rounds ∙ ap reached rows_are in
          let listed : put ≡ marked_from 0 (reached (rows f.blocks)) = listed_are ks put put of_ks of_marks refl ∙ ap (λ (xs : List Bool). marked_from 0 xs) counted in
          let nodes : ns ≡ numbers 1 (reached (rows f.blocks)) = numbers_are ms numbered ns of_ms of_numbers ns_read ∙ ap (λ (xs : List Bool). numbers 1 xs) counted in
          let by_edges : edges ≡ edges_by (numbers 1 (reached (rows f.blocks))) (rows f.blocks) (marked_from 0 (reached (rows f.blocks))) = edges_made ∙ (λ i. edges_by (nodes i) (rows_are i) ((bl_read ∙ listed) i)) in
          let by_sites : sites ≡ places_of is_site f.blocks (marked_from 0 (reached (rows f.blocks))) = sites_made ∙ (λ i. places_of is_site (bs i) ((sites_read ∙ listed) i)) in
          let by_selects : selects ≡ places_of is_select f.blocks (marked_from 0 (reached (rows f.blocks))) = selects_made ∙ (λ i. places_of is_select (bs i) ((selects_read ∙ listed) i)) in
          λ i. flow_graph (listed i) (by_edges i) (by_sites i) (by_selects i)
