-- The graph of a function: what holds of it, and what its edges stand for.
use Rattle.std.proofs.Common.{◌≡◌, ℕ, zero, suc, ◌+◌, ◌<◌, ◌≤◌, Bool, true, false, cond, not, nat_lt, Option, None, ◌⊎◌, inl, inr, List, [], ◌∷◌, ◌++◌, length, map, get_or, Some, slice_get, sum_by, refl, sym, ap, subst, ◌∙◌, arith}
use Rattle.std.specs.Prelude.{max}
use Rattle.std.specs.Cmp.Lexicographic.{bytes_decides}
use Rattle.std.specs.List.{count_by, position_or_len}
use Rattle.std.proofs.lemmas.List.Quantifiers.{position-Some}
use Rattle.std.specs.Option.{option_map}
use Rattle.std.proofs.lemmas.List.{length-append, length-map, nil_from_length, get_or_past, get_or-map}
use Rattle.std.proofs.lemmas.Bool.{lt-ltb}
use Rattle.std.proofs.lemmas.List.Sums.{sum_by-cons}
use Rattle.std.proofs.lemmas.Option.{none-some, same_Some, slice_get_within, slice_get-get_or, slice_get-map, get_or_from_slice_get}
use Rattle.ir_tree.specs.Names.{same}
use Rattle.ir_tree.specs.Edges.{labels, block_place, rows, marked_from, numbers, entry_edge, branch_edge, exit_edge, block_edges, edges_out_of}
use Rattle.ir_tree.specs.Graphs.{HasGraph, graph_of, graph_with, nodes, block_of, ways_out, is_site, is_select, places_from, places_in, places_of, count_in}
use Rattle.ir_tree.specs.Reach.{row, is_marked, Leads, IsReachable, AreMarks, reached}
use Rattle.ir_tree.specs.declared.edge.Edge.{Edge}
use Rattle.ir_tree.specs.declared.types.Block.{Block}
use Rattle.ir_tree.specs.declared.types.Function.{Function}
use Rattle.ir_tree.specs.declared.types.Instr.{Instr}
use Rattle.cfg_edges.specs.Graph.{IsEdge, Follows, AreApart, AreNumbered, EachHasEdge, IsFlowGraph, IsGraphOf, IsNamed, NodesStand, SuccessorsAreReached, successors_of, edges_before, IsBranch, IsExit, LeavesBlock, Stands, EdgesStand}
use Rattle.cfg_edges.proofs.Listed.{numbers_size, listed, is_listed, first_node}
use Rattle.cfg_edges.proofs.Members.{in_blocks, in_block, block_size, enough_edges, has_edge, edge_at, apart_from, at_front, out_at, behind_at}
use Rattle.cfg_edges.proofs.Targets.{place, row_at, rows_size, named_at, named_place, blocks_below, row_below}

-- ---- walks

leads_on : (rs : List (List ℕ)) (walk : List ℕ) (a b p t : ℕ) → Leads rs walk a b → slice_get (row rs b) p ≡ Some t → Leads rs (walk ++ p ∷ []) a t
leads_on rs [] a b p t e h = (t, subst (λ (x : ℕ). slice_get (row rs x) p ≡ Some t) (sym e) h, refl)
leads_on rs (q ∷ qs) a b p t w h = (w.0, w.1, leads_on rs qs w.0 b p t w.2 h)

marked_within : (marks : List Bool) (b : ℕ) → is_marked marks b ≡ true → b < length marks
marked_within marks b m = grind (arith, get_or_past)

-- ---- the number of edges

edges_below : (all blocks : List Block) (ns : List ℕ) (k : ℕ) (ms : List Bool) → length ms ≡ length blocks → ((j : ℕ) → row (rows all) (k + j) ≡ map (place all) (successors_of blocks j)) → length (edges_out_of ns (rows all) (marked_from k ms)) ≤ sum_by ways_out blocks
edges_below all blocks ns k [] size is = omega arith
edges_below all [] ns k (m ∷ ms) size is = absurd (omega (arith, size))
edges_below all (block ∷ blocks) ns k (true ∷ ms) size is =
    let next : (j : ℕ) → row (rows all) (k + 1 + j) ≡ map (place all) (successors_of blocks j) =
    λ j. ap (λ (m : ℕ). row (rows all) m) (let e : k + 1 + j ≡ k + suc j = omega arith in e) ∙ is (suc j) in
    let here : row (rows all) k ≡ map (place all) (successors_of (block ∷ blocks) 0) = ap (λ (m : ℕ). row (rows all) m) (let e : k ≡ k + 0 = omega arith in e) ∙ is 0 in
    omega (
      arith,
      edges_below all blocks ns (k + 1) ms (omega (arith, size)) next,
      block_size ns k (row (rows all) k),
      ap (λ (r : List ℕ). length r) here,
      length-map (successors_of (block ∷ blocks) 0) (place all),
      length-append (block_edges ns k (row (rows all) k)) (edges_out_of ns (rows all) (marked_from (k + 1) ms)),
      sum_by-cons ways_out block blocks,
    )
edges_below all (block ∷ blocks) ns k (false ∷ ms) size is =
    let next : (j : ℕ) → row (rows all) (k + 1 + j) ≡ map (place all) (successors_of blocks j) =
    λ j. ap (λ (m : ℕ). row (rows all) m) (let e : k + 1 + j ≡ k + suc j = omega arith in e) ∙ is (suc j) in
    omega (arith, edges_below all blocks ns (k + 1) ms (omega (arith, size)) next, sum_by-cons ways_out block blocks)

-- the places of such instructions are at most as many as there are such instructions
places_size : (test : Instr → Bool) (b i : ℕ) (instrs : List Instr) → length (places_from test b i instrs) ≡ count_by test instrs
places_size test b i [] = refl
places_size test b i (x ∷ xs) = by (test x) refl (places_size test b (i + 1) xs) (sum_by-cons (λ (y : Instr). cond (test y) 1 0) x xs)
  where
    by : (m : Bool) → test x ≡ m → length (places_from test b (i + 1) xs) ≡ count_by test xs → count_by test (x ∷ xs) ≡ cond (test x) 1 0 + count_by test xs → length (cond m ((b, i) ∷ places_from test b (i + 1) xs) (places_from test b (i + 1) xs)) ≡ count_by test (x ∷ xs)
    by true is rest all = omega (arith, rest, all, ap (λ (m : Bool). cond {A = ℕ} m 1 0) is)
    by false is rest all = omega (arith, rest, all, ap (λ (m : Bool). cond {A = ℕ} m 1 0) is)

places_below : (test : Instr → Bool) (all blocks : List Block) (k : ℕ) (ms : List Bool) → length ms ≡ length blocks → ((j : ℕ) → slice_get all (k + j) ≡ slice_get blocks j) → length (places_of test all (marked_from k ms)) ≤ count_in test blocks
places_below test all blocks k [] size is = omega arith
places_below test all [] k (m ∷ ms) size is = absurd (omega (arith, size))
places_below test all (block ∷ blocks) k (true ∷ ms) size is =
    let next : (j : ℕ) → slice_get all (k + 1 + j) ≡ slice_get blocks j = λ j. ap (λ (m : ℕ). slice_get all m) (let e : k + 1 + j ≡ k + suc j = omega arith in e) ∙ is (suc j) in
    let here : slice_get all k ≡ Some block = ap (λ (m : ℕ). slice_get all m) (let e : k ≡ k + 0 = omega arith in e) ∙ is 0 in
    omega (
      arith,
      places_below test all blocks (k + 1) ms (omega (arith, size)) next,
      ap (λ (o : Option Block). length (places_in test k o)) here,
      places_size test k 0 block.instrs,
      length-append (places_in test k (slice_get all k)) (places_of test all (marked_from (k + 1) ms)),
      sum_by-cons (λ (b : Block). count_by test b.instrs) block blocks,
    )
places_below test all (block ∷ blocks) k (false ∷ ms) size is =
    let next : (j : ℕ) → slice_get all (k + 1 + j) ≡ slice_get blocks j = λ j. ap (λ (m : ℕ). slice_get all m) (let e : k + 1 + j ≡ k + suc j = omega arith in e) ∙ is (suc j) in
    omega (arith, places_below test all blocks (k + 1) ms (omega (arith, size)) next, sum_by-cons (λ (b : Block). count_by test b.instrs) block blocks)

-- the edge of a block and a position has the number that the block's first edge plus the position gives
numbered_from : (all blocks : List Block) (ns : List ℕ) (k : ℕ) (ms : List Bool) → length ms ≡ length blocks → ((j : ℕ) → row (rows all) (k + j) ≡ map (place all) (successors_of blocks j)) → (b p : ℕ) → is_marked ms b ≡ true → p < max 1 (length (successors_of blocks b))
    → (e : Edge) × (slice_get (edges_out_of ns (rows all) (marked_from k ms)) (edges_before ms blocks b + p) ≡ Some e) × (e.block ≡ Some (k + b)) × (e.position ≡ p)
numbered_from all blocks ns k [] size is b p m h = absurd (cc)
numbered_from all [] ns k (m ∷ ms) size is b p _ h = absurd (omega (arith, size))
numbered_from all (block ∷ blocks) ns k (true ∷ ms) size is zero p m h =
    let here : row (rows all) k ≡ map (place all) (successors_of (block ∷ blocks) 0) = ap (λ (m : ℕ). row (rows all) m) (let e : k ≡ k + 0 = omega arith in e) ∙ is 0 in
    let o = out_at ns k (row (rows all) k) p (omega (arith, h, ap (λ (r : List ℕ). length r) here, length-map (successors_of (block ∷ blocks) 0) (place all))) in
    let at = edge_at ns k (row (rows all) k) p o.0 o.1 in
    let found = at_front (block_edges ns k (row (rows all) k)) (edges_out_of ns (rows all) (marked_from (k + 1) ms)) p o.0 o.1 in
    (o.0, ap (λ (n : ℕ). slice_get (edges_out_of ns (rows all) (k ∷ marked_from (k + 1) ms)) n) (let e : 0 + p ≡ p = omega arith in e) ∙ found, at.0 ∙ ap (λ (n : ℕ). Some n) (let e : k ≡ k + 0 = omega arith in e), at.1)
numbered_from all (block ∷ blocks) ns k (false ∷ ms) size is zero p m h = absurd (cc)
numbered_from all (block ∷ blocks) ns k (true ∷ ms) size is (suc b) p m h =
    let next : (j : ℕ) → row (rows all) (k + 1 + j) ≡ map (place all) (successors_of blocks j) =
    λ j. ap (λ (m : ℕ). row (rows all) m) (let e : k + 1 + j ≡ k + suc j = omega arith in e) ∙ is (suc j) in
    let here : row (rows all) k ≡ map (place all) (successors_of (block ∷ blocks) 0) = ap (λ (m : ℕ). row (rows all) m) (let e : k ≡ k + 0 = omega arith in e) ∙ is 0 in
    let size_here : length (block_edges ns k (row (rows all) k)) ≡ ways_out block =
    omega (arith, block_size ns k (row (rows all) k), ap (λ (r : List ℕ). length r) here, length-map (successors_of (block ∷ blocks) 0) (place all)) in
    let r = numbered_from all blocks ns (k + 1) ms (omega (arith, size)) next b p m h in
    let there = behind_at (block_edges ns k (row (rows all) k)) (edges_out_of ns (rows all) (marked_from (k + 1) ms)) (ways_out block) (edges_before ms blocks b + p) size_here in
    let sum : ways_out block + edges_before ms blocks b + p ≡ ways_out block + (edges_before ms blocks b + p) = omega arith in
    (r.0, ap (λ (n : ℕ). slice_get (edges_out_of ns (rows all) (k ∷ marked_from (k + 1) ms)) n) sum ∙ there ∙ r.1, r.2 ∙ ap (λ (n : ℕ). Some n) (let e : k + 1 + b ≡ k + suc b = omega arith in e), r.3)
numbered_from all (block ∷ blocks) ns k (false ∷ ms) size is (suc b) p m h =
    let next : (j : ℕ) → row (rows all) (k + 1 + j) ≡ map (place all) (successors_of blocks j) =
    λ j. ap (λ (m : ℕ). row (rows all) m) (let e : k + 1 + j ≡ k + suc j = omega arith in e) ∙ is (suc j) in
    let r = numbered_from all blocks ns (k + 1) ms (omega (arith, size)) next b p m h in
    let sum : 0 + edges_before ms blocks b + p ≡ edges_before ms blocks b + p = omega arith in
    (r.0, ap (λ (n : ℕ). slice_get (edges_out_of ns (rows all) (marked_from (k + 1) ms)) n) sum ∙ r.1, r.2 ∙ ap (λ (n : ℕ). Some n) (let e : k + 1 + b ≡ k + suc b = omega arith in e), r.3)

-- ---- the whole graph

-- ---- a reachable block is the first of its label

same_self : (x : List ℕ) → same x x ≡ true
same_self x = (bytes_decides x x).1 refl

first_named : (block : Block) (blocks : List Block) → block_place (block ∷ blocks) block.label ≡ Some 0
first_named block blocks =
    ap (λ (s : Bool). cond {A = Option ℕ} (nat_lt (cond {A = ℕ} (not s) (1 + position_or_len (same block.label) (labels blocks)) 0) (suc (length (labels blocks)))) (Some (cond {A = ℕ} (not s) (1 + position_or_len (same block.label) (labels blocks)) 0)) None) (same_self block.label)
    ∙ ap (λ (s : Bool). cond {A = Option ℕ} s (Some 0) None) (lt-ltb 0 (suc (length (labels blocks))) (omega arith))

item_at : {X : Type 0} (xs : List X) (i : ℕ) → i < length xs → (x : X) × (slice_get xs i ≡ Some x)
item_at [] i h = absurd (omega (arith, h))
item_at (x ∷ xs) zero h = (x, refl)
item_at (x ∷ xs) (suc i) h = item_at xs i (omega (arith, h))

module _ (f : Function) (graph : HasGraph f) where
  abbrev IsFirst : ℕ → Type 0
  IsFirst b = (block : Block) × (slice_get f.blocks b ≡ Some block) × (block_place f.blocks block.label ≡ Some b)

  -- what a label names has that label
  named_first : (to : List ℕ) (t : ℕ) → block_place f.blocks to ≡ Some t → IsFirst t
  named_first to t h =
      let (within, here, before) = position-Some (same to) (labels f.blocks) t [] h in
      let inside : t < length f.blocks = omega (arith, within, length-map f.blocks (λ block. block.label)) in
      let (block, at) = item_at f.blocks t inside in
      let label : get_or (labels f.blocks) t [] ≡ block.label = get_or-map (λ (b : Block). b.label) f.blocks t block [] inside ∙ ap (λ (b : Block). b.label) (get_or_from_slice_get f.blocks t block block at) in
      (block, at, subst (λ (x : List ℕ). block_place f.blocks x ≡ Some t) ((bytes_decides to (get_or (labels f.blocks) t [])).0 here ∙ label) h)

  first_of_all : (bs : List Block) → bs ≡ f.blocks → 0 < length bs → IsFirst 0
  first_of_all [] is h = absurd (omega (arith, h))
  first_of_all (block ∷ blocks) is h = (block, ap (λ (xs : List Block). slice_get xs 0) (sym is), subst (λ (xs : List Block). block_place xs block.label ≡ Some 0) is (first_named block blocks))

  firsts : (walk : List ℕ) (a b : ℕ) → IsFirst a → Leads (rows f.blocks) walk a b → IsFirst b
  firsts [] a b first e = subst IsFirst e first
  firsts (p ∷ ps) a b first w =
      let n = named_at f.blocks a p w.0 w.1 in
      let named : block_place f.blocks n.0 ≡ Some w.0 = named_place f.blocks graph.targets a p n.0 n.1 ∙ ap (λ (x : ℕ). Some x) (sym n.2) in
      firsts ps w.0 b (named_first n.0 w.0 named) w.2

  pub named_block : (b : ℕ) → IsReachable (rows f.blocks) b → IsNamed f b
  named_block b r =
      let first = firsts r.0 0 b (first_of_all f.blocks refl graph.entry) r.1 in
      record { block = first.0; at = first.1; reachable = r; named = first.2 }

module _ (f : Function) (graph : HasGraph f) (marks : List Bool) (marked : AreMarks (rows f.blocks) marks) where
  pub marks_size : length marks ≡ length f.blocks
  marks_size = marked.size ∙ rows_size f.blocks

  pub few_blocks : length f.blocks < 4294967295
  few_blocks = omega (arith, blocks_below f.blocks, graph.few)

  pub few_successors : (b : ℕ) → length (row (rows f.blocks) b) < 4294967296
  few_successors b = omega (arith, row_below f.blocks b, graph.few)

  pub numbers_count : length (numbers 1 marks) ≡ length (rows f.blocks)
  numbers_count = numbers_size 1 marks ∙ marked.size

  pub blocks_within : (k b : ℕ) → slice_get (marked_from 0 marks) k ≡ Some b → b < length (rows f.blocks)
  blocks_within k b h =
      let r = is_listed 1 0 marks k b h in
      omega (arith, r.1, marked_within marks r.0 r.2, marked.size)

  reached_on : (b p t : ℕ) → is_marked marks b ≡ true → slice_get (row (rows f.blocks) b) p ≡ Some t → is_marked marks t ≡ true
  reached_on b p t m h = let w = marked.sound b m in marked.complete t (w.0 ++ p ∷ [], leads_on (rows f.blocks) w.0 0 b p t w.1 h)

  node_at : (b : ℕ) → is_marked marks b ≡ true → (get_or (numbers 1 marks) b 0 < nodes (graph_with f.blocks marks)) × (block_of (graph_with f.blocks marks) (get_or (numbers 1 marks) b 0) ≡ Some b)
  node_at b m =
      let r = listed 1 0 marks b m in
      let is : suc r.0 ≡ get_or (numbers 1 marks) b 0 = omega (arith, r.1) in
      let there : slice_get (marked_from 0 marks) r.0 ≡ Some b = r.2 ∙ ap (λ (x : ℕ). Some x) (let e : 0 + b ≡ b = omega arith in e) in
      (omega (arith, is, slice_get_within (marked_from 0 marks) r.0 b there), subst (λ (n : ℕ). block_of (graph_with f.blocks marks) n ≡ Some b) is there)

  entry_marked : is_marked marks 0 ≡ true
  entry_marked = marked.complete 0 ([], refl)

  -- there are at least node 0 and the entry's
  two_nodes : 1 < nodes (graph_with f.blocks marks)
  two_nodes = let r = listed 1 0 marks 0 entry_marked in omega (arith, slice_get_within (marked_from 0 marks) r.0 (0 + 0) r.2)

  edge_is : (k : ℕ) (e : Edge) → slice_get (graph_with f.blocks marks).edges k ≡ Some e → (e ≡ entry_edge) ⊎ ((b : ℕ) × (is_marked marks b ≡ true) × (((row (rows f.blocks) b ≡ []) × (e ≡ exit_edge (numbers 1 marks) b)) ⊎ ((t p : ℕ) × (slice_get (row (rows f.blocks) b) p ≡ Some t) × (e ≡ branch_edge (numbers 1 marks) b p t))))
  edge_is zero e h = inl (sym (same_Some entry_edge e h))
  edge_is (suc k) e h =
      let q = in_blocks (numbers 1 marks) (rows f.blocks) (marked_from 0 marks) k e h in
      let r = is_listed 1 0 marks q.0 q.1 q.3 in
      let m : is_marked marks q.1 ≡ true = subst (λ (x : ℕ). is_marked marks x ≡ true) (let s : r.0 ≡ q.1 = omega (arith, r.1) in s) r.2 in
      inr (q.1, m, in_block (numbers 1 marks) q.1 (row (rows f.blocks) q.1) q.2 e q.4)

  exit_is : (b : ℕ) → is_marked marks b ≡ true → IsEdge (graph_with f.blocks marks) (exit_edge (numbers 1 marks) b)
  exit_is b m = record { leaves = (node_at b m).0; enters = omega (arith, two_nodes); owner = (node_at b m).1 }

  branch_is : (b p t : ℕ) → is_marked marks b ≡ true → is_marked marks t ≡ true → IsEdge (graph_with f.blocks marks) (branch_edge (numbers 1 marks) b p t)
  branch_is b p t m n = record { leaves = (node_at b m).0; enters = (node_at t n).0; owner = (node_at b m).1 }

  entry_is : IsEdge (graph_with f.blocks marks) entry_edge
  entry_is = record { leaves = omega (arith, two_nodes); enters = two_nodes; owner = refl }

  sound_edges : (k : ℕ) (e : Edge) → slice_get (graph_with f.blocks marks).edges k ≡ Some e → IsEdge (graph_with f.blocks marks) e
  sound_edges k e h = elim (edge_is k e h) [
    | inl first ↦ subst (λ (x : Edge). IsEdge (graph_with f.blocks marks) x) (sym first) entry_is
    | inr q ↦ elim q.2 [
      | inl last ↦ subst (λ (x : Edge). IsEdge (graph_with f.blocks marks) x) (sym last.1) (exit_is q.0 q.1)
      | inr r ↦ subst (λ (x : Edge). IsEdge (graph_with f.blocks marks) x) (sym r.3) (branch_is q.0 r.1 r.0 q.1 (reached_on q.0 r.1 r.0 q.1 r.2))
    ]
  ]

  -- the edges of a walk
  follows : (walk : List ℕ) (a b : ℕ) → is_marked marks a ≡ true → Leads (rows f.blocks) walk a b → (ks : List ℕ) × Follows (graph_with f.blocks marks).edges ks (get_or (numbers 1 marks) a 0) (get_or (numbers 1 marks) b 0)
  follows [] a b m e = ([], ap (λ (x : ℕ). get_or (numbers 1 marks) x 0) e)
  follows (p ∷ ps) a b m w =
      let here = listed 1 0 marks a m in
      let there : slice_get (marked_from 0 marks) here.0 ≡ Some a = here.2 ∙ ap (λ (x : ℕ). Some x) (let e : 0 + a ≡ a = omega arith in e) in
      let k = has_edge (numbers 1 marks) (rows f.blocks) (marked_from 0 marks) here.0 a p w.0 there w.1 in
      let rest = follows ps w.0 b (reached_on a p w.0 m w.1) w.2 in
      (suc k.0 ∷ rest.0, (branch_edge (numbers 1 marks) a p w.0, k.1, refl, rest.1))

  reached_nodes : (n : ℕ) → n < nodes (graph_with f.blocks marks) → (ks : List ℕ) × Follows (graph_with f.blocks marks).edges ks 0 n
  reached_nodes zero h = ([], refl)
  reached_nodes (suc i) h =
      let b : ℕ = get_or (marked_from 0 marks) i 0 in
      let r = is_listed 1 0 marks i b (slice_get-get_or (marked_from 0 marks) i 0 (omega (arith, h))) in
      let w = marked.sound r.0 r.2 in
      let rest = follows w.0 0 r.0 entry_marked w.1 in
      let last : get_or (numbers 1 marks) r.0 0 ≡ suc i = omega (arith, r.3) in
      let path : Follows (graph_with f.blocks marks).edges rest.0 1 (suc i) = subst (λ (m : ℕ). Follows (graph_with f.blocks marks).edges rest.0 1 m) last (subst (λ (m : ℕ). Follows (graph_with f.blocks marks).edges rest.0 m (get_or (numbers 1 marks) r.0 0)) (first_node 1 marks entry_marked) rest.1) in
      (0 ∷ rest.0, (entry_edge, refl, refl, path))

  all_apart : AreApart (graph_with f.blocks marks).edges
  all_apart zero zero d e hd he b p = refl
  all_apart zero (suc k) d e hd he b p =
      let r = in_blocks (numbers 1 marks) (rows f.blocks) (marked_from 0 marks) k e he in
      absurd (none-some r.1 (ap (λ (x : Edge). x.block) (same_Some entry_edge d hd) ∙ b ∙ (edge_at (numbers 1 marks) r.1 (row (rows f.blocks) r.1) r.2 e r.4).0))
  all_apart (suc j) zero d e hd he b p =
      let r = in_blocks (numbers 1 marks) (rows f.blocks) (marked_from 0 marks) j d hd in
      absurd (none-some r.1 (ap (λ (x : Edge). x.block) (same_Some entry_edge e he) ∙ sym b ∙ (edge_at (numbers 1 marks) r.1 (row (rows f.blocks) r.1) r.2 d r.4).0))
  all_apart (suc j) (suc k) d e hd he b p = ap (λ (m : ℕ). suc m) (apart_from (numbers 1 marks) (rows f.blocks) 0 marks j k d e hd he b p)

  at_zero : (j : ℕ) → row (rows f.blocks) (0 + j) ≡ map (place f.blocks) (successors_of f.blocks j)
  at_zero j = ap (λ (m : ℕ). row (rows f.blocks) m) (let e : 0 + j ≡ j = omega arith in e) ∙ row_at f.blocks j

  pub numbered : (b p : ℕ) → IsReachable (rows f.blocks) b → p < max 1 (length (successors_of f.blocks b)) → (e : Edge) × (slice_get (graph_with f.blocks marks).edges (1 + edges_before marks f.blocks b + p) ≡ Some e) × (e.block ≡ Some b) × (e.position ≡ p)
  numbered b p r h =
      let o = numbered_from f.blocks f.blocks (numbers 1 marks) 0 marks marks_size at_zero b p (marked.complete b r) h in
      let number : 1 + edges_before marks f.blocks b + p ≡ suc (edges_before marks f.blocks b + p) = omega arith in
      (o.0, ap (λ (n : ℕ). slice_get (graph_with f.blocks marks).edges n) number ∙ o.1, o.2 ∙ ap (λ (n : ℕ). Some n) (let e : 0 + b ≡ b = omega arith in e), o.3)

  pub each_has_edge : EachHasEdge f (graph_with f.blocks marks)
  each_has_edge b p r h = let o = numbered b p r h in (1 + edges_before marks f.blocks b + p, o.0, o.1, o.2, o.3)

  few_places : (test : Instr → Bool) → count_in test f.blocks < 4294967296 → length (places_of test f.blocks (marked_from 0 marks)) < 4294967296
  few_places test few =
      let same : (j : ℕ) → slice_get f.blocks (0 + j) ≡ slice_get f.blocks j = λ j. ap (λ (m : ℕ). slice_get f.blocks m) (let e : 0 + j ≡ j = omega arith in e) in
      omega (arith, few, places_below test f.blocks f.blocks 0 marks marks_size same)

  same_place : (i j b : ℕ) → slice_get (marked_from 0 marks) i ≡ Some b → slice_get (marked_from 0 marks) j ≡ Some b → i ≡ j
  same_place i j b hi hj =
      let one = is_listed 1 0 marks i b hi in
      let two = is_listed 1 0 marks j b hj in
      let same : get_or (numbers 1 marks) one.0 0 ≡ get_or (numbers 1 marks) two.0 0 = ap (λ (n : ℕ). get_or (numbers 1 marks) n 0) (let e : one.0 ≡ two.0 = omega (arith, one.1, two.1) in e) in
      omega (arith, one.3, two.3, same)

  one_each : (n k b : ℕ) → block_of (graph_with f.blocks marks) n ≡ Some b → block_of (graph_with f.blocks marks) k ≡ Some b → n ≡ k
  one_each zero k b hn hk = absurd (none-some b hn)
  one_each (suc n) zero b hn hk = absurd (none-some b hk)
  one_each (suc n) (suc k) b hn hk = ap (λ (m : ℕ). suc m) (same_place n k b hn hk)

  pub nodes_stand : NodesStand f (graph_with f.blocks marks)
  nodes_stand zero b h = absurd (none-some b h)
  nodes_stand (suc i) b h =
      let r = is_listed 1 0 marks i b h in
      let same : r.0 ≡ b = omega (arith, r.1) in
      named_block f graph b (subst (λ (x : ℕ). IsReachable (rows f.blocks) x) same (marked.sound r.0 r.2))

  first_block : (ms : List Bool) → is_marked ms 0 ≡ true → slice_get (marked_from 0 ms) 0 ≡ Some 0
  first_block [] m = absurd (cc)
  first_block (true ∷ ms) m = refl
  first_block (false ∷ ms) m = absurd (cc)

  pub whole : IsFlowGraph (graph_with f.blocks marks)
  whole = record {
    enough = omega (arith, enough_edges (numbers 1 marks) (rows f.blocks) (marked_from 0 marks));
    few = omega (arith, graph.few, edges_below f.blocks f.blocks (numbers 1 marks) 0 marks marks_size at_zero);
    sound = sound_edges;
    apart = all_apart;
    one_node = one_each;
    reached = reached_nodes;
    first = refl;
    entry = first_block marks entry_marked;
    few_sites = few_places is_site graph.few_sites;
    few_selects = few_places is_select graph.few_selects;
  }

  leaves : (b : ℕ) (e : Edge) → is_marked marks b ≡ true → IsBranch f (graph_with f.blocks marks) b e ⊎ IsExit f b e → LeavesBlock f (graph_with f.blocks marks) b e
  leaves b e m how = record { reachable = marked.sound b m; within = omega (arith, marked_within marks b m, marks_size); leads = how }

  exit_stands : (b : ℕ) → row (rows f.blocks) b ≡ [] → IsExit f b (exit_edge (numbers 1 marks) b)
  exit_stands b none = record {
    last = nil_from_length (successors_of f.blocks b) (omega (arith, ap (λ (r : List ℕ). length r) (sym (row_at f.blocks b) ∙ none), length-map (successors_of f.blocks b) (place f.blocks)));
    outside = refl;
    position = refl;
  }

  branch_stands : (b p t : ℕ) → is_marked marks b ≡ true → slice_get (row (rows f.blocks) b) p ≡ Some t → IsBranch f (graph_with f.blocks marks) b (branch_edge (numbers 1 marks) b p t)
  branch_stands b p t m h =
      let n = named_at f.blocks b p t h in
      record {
        to = n.0;
        successor = n.1;
        target = (node_at t (reached_on b p t m h)).1 ∙ ap (λ (x : ℕ). Some x) n.2 ∙ sym (named_place f.blocks graph.targets b p n.0 n.1);
      }

  pub edges_stand : EdgesStand f (graph_with f.blocks marks)
  edges_stand k e h = elim (edge_is k e h) [
    | inl first ↦ subst (λ (x : Edge). Stands f (graph_with f.blocks marks) x x.block) (sym first) refl
    | inr q ↦ elim q.2 [
      | inl last ↦ subst (λ (x : Edge). Stands f (graph_with f.blocks marks) x x.block) (sym last.1) (leaves q.0 (exit_edge (numbers 1 marks) q.0) q.1 (inr (exit_stands q.0 last.0)))
      | inr r ↦ subst (λ (x : Edge). Stands f (graph_with f.blocks marks) x x.block) (sym r.3) (leaves q.0 (branch_edge (numbers 1 marks) q.0 r.1 r.0) q.1 (inl (branch_stands q.0 r.1 r.0 q.1 r.2)))
    ]
  ]

-- ---- the graph of a function

-- a successor's label is a block's, and that block is reachable
pub successors_reached : (f : Function) → HasGraph f → SuccessorsAreReached f
successors_reached f graph b p to r h =
    let at : slice_get (row (rows f.blocks) b) p ≡ Some (place f.blocks to) =
    ap (λ (xs : List ℕ). slice_get xs p) (row_at f.blocks b) ∙ slice_get-map (place f.blocks) (successors_of f.blocks b) p ∙ ap (λ (o : Option (List ℕ)). option_map (place f.blocks) o) h in
    (place f.blocks to, named_place f.blocks graph.targets b p to h, (r.0 ++ p ∷ [], leads_on (rows f.blocks) r.0 0 b p (place f.blocks to) r.1 at))

module _ (f : Function) (graph : HasGraph f) (marked : AreMarks (rows f.blocks) (reached (rows f.blocks))) where
  pub relation_of : IsGraphOf f (graph_of f)
  unfolding graph_of
  relation_of = record { marks = reached (rows f.blocks); marked = marked; blocks = refl; edges = refl; sites = refl; selects = refl }

  pub whole_of : IsFlowGraph (graph_of f)
  unfolding graph_of
  whole_of = whole f graph (reached (rows f.blocks)) marked

  pub edges_of : EdgesStand f (graph_of f)
  unfolding graph_of
  edges_of = edges_stand f graph (reached (rows f.blocks)) marked

  pub each_of : EachHasEdge f (graph_of f)
  unfolding graph_of
  each_of = each_has_edge f graph (reached (rows f.blocks)) marked

  pub nodes_of : NodesStand f (graph_of f)
  unfolding graph_of
  nodes_of = nodes_stand f graph (reached (rows f.blocks)) marked

  pub numbered_of : AreNumbered f (graph_of f)
  unfolding graph_of
  numbered_of = numbered f graph (reached (rows f.blocks)) marked
