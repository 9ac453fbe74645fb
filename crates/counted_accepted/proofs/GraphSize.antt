-- How many edges, selects and sites the graph of a function has, at most.
use Rattle.std.proofs.Common.{◌≡◌, ℕ, zero, suc, ◌+◌, ◌≤◌, Bool, true, false, cond, if◌then◌else◌, List, [], ◌∷◌, length, count_by, sum_by, Option, Some, slice_get, refl, ap, subst, ◌∙◌, arith, zero-add}
use Rattle.std.specs.Prelude.{max}
use Rattle.std.specs.List.{flat_map}
use Rattle.std.proofs.lemmas.List.{length-append, length-map}
use Rattle.std.proofs.lemmas.List.Sums.{sum_by-cons}
use Rattle.cfg_edges.specs.Graph.{IsGraphOf}
use Rattle.cfg_tree.specs.Counted.{counted_of, is_counted}
use Rattle.ir_tree.specs.Edges.{block_edges, edges_by, marked_from, numbers, row_edges, row_of, rows}
use Rattle.ir_tree.specs.Graphs.{FlowGraph, count_in, is_select, is_site, places_from, places_in, places_of}
use Rattle.ir_tree.specs.Reach.{row}
use Rattle.ir_tree.specs.Successors.{successors, ways_out}
use Rattle.ir_tree.specs.declared.edge.Edge.{Edge}
use Rattle.ir_tree.specs.declared.types.Block.{Block}
use Rattle.ir_tree.specs.declared.types.Function.{Function}
use Rattle.ir_tree.specs.declared.types.Instr.{Instr}
use Rattle.spec_items.proofs.Items.{count_cons}
use Rattle.spec_items.proofs.Made.{map_at}

flat_length : {X Y : Type 0} (g : X → List Y) (xs : List X) → length (flat_map g xs) ≡ sum_by (λ x. length (g x)) xs
flat_length g [] = refl
flat_length g (x ∷ xs) =
    let a = length-append (g x) (flat_map g xs) in
    let rest = flat_length g xs in
    let c = sum_by-cons (λ (y : _). length (g y)) x xs in
    omega (arith, a, rest, c)

-- the weights of so many numbers from one on
run : (ℕ → ℕ) → ℕ → ℕ → ℕ
run w n zero = 0
run w n (suc k) = w n + run w (n + 1) k

marked_few : (w : ℕ → ℕ) (n : ℕ) (marks : List Bool) → sum_by w (marked_from n marks) ≤ run w n (length marks)
unfolding run
marked_few w n [] = omega arith
marked_few w n (true ∷ ms) = (let rest = marked_few w (n + 1) ms in omega (arith, rest, sum_by-cons w n (marked_from (n + 1) ms)))
marked_few w n (false ∷ ms) = (let rest = marked_few w (n + 1) ms in omega (arith, rest))

run_few : {X : Type 0} (w : ℕ → ℕ) (v : X → ℕ) (n : ℕ) (xs : List X) → ((i : ℕ) (x : X) → slice_get xs i ≡ Some x → w (n + i) ≤ v x) → run w n (length xs) ≤ sum_by v xs
unfolding run
run_few w v n [] h = omega arith
run_few w v n (x ∷ xs) h =
    let first : w n ≤ v x = subst (λ (k : ℕ). w k ≤ v x) (let e : n + 0 ≡ n = omega arith in e) (h 0 x refl) in
    let rest = run_few w v (n + 1) xs (λ i y at. subst (λ (k : ℕ). w k ≤ v y) (let e : n + suc i ≡ n + 1 + i = omega arith in e) (h (suc i) y at)) in
    omega (arith, first, rest, sum_by-cons v x xs)

places_length : (test : Instr → Bool) (b i : ℕ) (xs : List Instr) → length (places_from test b i xs) ≡ count_by test xs
places_length test b i [] = refl
places_length test b i (x ∷ xs) = by (test x) refl (places_length test b (i + 1) xs)
  where
    by : (t : Bool) → test x ≡ t → length (places_from test b (i + 1) xs) ≡ count_by test xs → length (if t then (b, i) ∷ places_from test b (i + 1) xs else places_from test b (i + 1) xs) ≡ count_by test (x ∷ xs)
    by true e rest =
        let c = count_cons test x xs in
        let here : cond {A = ℕ} (test x) 1 0 ≡ 1 = ap (λ (t : Bool). cond {A = ℕ} t 1 0) e in
        omega (arith, rest, c, here)
    by false e rest =
        let c = count_cons test x xs in
        let here : cond {A = ℕ} (test x) 1 0 ≡ 0 = ap (λ (t : Bool). cond {A = ℕ} t 1 0) e in
        omega (arith, rest, c, here)

row_length : (nodes : List ℕ) (b p : ℕ) (ts : List ℕ) → length (row_edges nodes b p ts) ≡ length ts
row_length nodes b p [] = refl
row_length nodes b p (t ∷ ts) = ap (λ (k : ℕ). suc k) (row_length nodes b (p + 1) ts)

edges_length : (nodes : List ℕ) (b : ℕ) (ts : List ℕ) → length (block_edges nodes b ts) ≡ max 1 (length ts)
edges_length nodes b [] = refl
edges_length nodes b (t ∷ ts) = (let r = row_length nodes b 0 (t ∷ ts) in omega (arith, r))

pub counted_few : (n : ℕ) (order : List ℕ) (entry_first : Bool) → length (counted_of n order entry_first) ≤ n
counted_few zero order entry_first = omega arith
counted_few (suc n) order entry_first =
    let rest = counted_few n order entry_first in
    let a = length-append (counted_of n order entry_first) (if is_counted order entry_first n then n ∷ [] else []) in
    let one = few (is_counted order entry_first n) in
    omega (arith, rest, a, one)
  where
    few : (t : Bool) → length (if t then n ∷ [] else []) ≤ 1
    few true = omega arith
    few false = omega arith

module _ (f : Function) (g : FlowGraph) (is : IsGraphOf f g) where
  as_many : length is.marks ≡ length f.blocks
  as_many = is.marked.size ∙ length-map f.blocks (row_of f.blocks)

  block_here : (test : Instr → Bool) (b : ℕ) (x : Block) → slice_get f.blocks b ≡ Some x → length (places_in test b (slice_get f.blocks b)) ≡ count_by test x.instrs
  block_here test b x at = ap (λ (o : Option Block). length (places_in test b o)) at ∙ places_length test b 0 x.instrs

  places_few : (test : Instr → Bool) → length (places_of test f.blocks (marked_from 0 is.marks)) ≤ count_in test f.blocks
  places_few test =
      let w : ℕ → ℕ = λ b. length (places_in test b (slice_get f.blocks b)) in
      let a = flat_length (λ (b : ℕ). places_in test b (slice_get f.blocks b)) (marked_from 0 is.marks) in
      let b : sum_by (λ b. length (places_in test b (slice_get f.blocks b))) (marked_from 0 is.marks) ≤ run (λ b. length (places_in test b (slice_get f.blocks b))) 0 (length is.marks) = marked_few (λ b. length (places_in test b (slice_get f.blocks b))) 0 is.marks in
      let c : run (λ b. length (places_in test b (slice_get f.blocks b))) 0 (length f.blocks) ≤ sum_by (λ (x : Block). count_by test x.instrs) f.blocks = run_few (λ b. length (places_in test b (slice_get f.blocks b))) (λ (x : Block). count_by test x.instrs) 0 f.blocks (λ i x at. here i x at) in
      let d : run (λ b. length (places_in test b (slice_get f.blocks b))) 0 (length is.marks) ≡ run (λ b. length (places_in test b (slice_get f.blocks b))) 0 (length f.blocks) = ap (λ (k : ℕ). run (λ b. length (places_in test b (slice_get f.blocks b))) 0 k) as_many in
      omega (arith, a, b, c, d)
    where
      here : (i : ℕ) (x : Block) → slice_get f.blocks i ≡ Some x → length (places_in test (0 + i) (slice_get f.blocks (0 + i))) ≤ count_by test x.instrs
      here i x at = (let e = block_here test (0 + i) x (ap (λ (k : ℕ). slice_get f.blocks k) (zero-add i) ∙ at) in omega (arith, e))

  pub selects_few : length g.selects ≤ count_in is_select f.blocks
  selects_few =
      let e : length g.selects ≡ length (places_of is_select f.blocks (marked_from 0 is.marks)) = ap (λ (xs : List (ℕ × ℕ)). length xs) is.selects ∙ ap (λ (bs : List ℕ). length (places_of is_select f.blocks bs)) is.blocks in
      let few = places_few is_select in
      omega (arith, e, few)

  pub sites_few : length g.sites ≤ count_in is_site f.blocks
  sites_few =
      let e : length g.sites ≡ length (places_of is_site f.blocks (marked_from 0 is.marks)) = ap (λ (xs : List (ℕ × ℕ)). length xs) is.sites ∙ ap (λ (bs : List ℕ). length (places_of is_site f.blocks bs)) is.blocks in
      let few = places_few is_site in
      omega (arith, e, few)

  abbrev out_of : ℕ → List Edge
  out_of b = block_edges (numbers 1 is.marks) b (row (rows f.blocks) b)

  out_few : (b : ℕ) (x : Block) → slice_get f.blocks b ≡ Some x → length (out_of b) ≤ ways_out x
  out_few b x at =
      let r : row (rows f.blocks) b ≡ row_of f.blocks x = map_at (row_of f.blocks) f.blocks b x [] at in
      let e : length (out_of b) ≡ max 1 (length (row_of f.blocks x)) = ap (λ (ts : List ℕ). length (block_edges (numbers 1 is.marks) b ts)) r ∙ edges_length (numbers 1 is.marks) b (row_of f.blocks x) in
      let l : max 1 (length (row_of f.blocks x)) ≡ ways_out x = ap (λ (k : ℕ). max 1 k) (length-map (successors x.term) _) in
      omega (arith, e, l)

  pub edges_few : length g.edges ≤ 1 + sum_by ways_out f.blocks
  edges_few =
      let e : length g.edges ≡ length (edges_by (numbers 1 is.marks) (rows f.blocks) (marked_from 0 is.marks)) = ap (λ (xs : List Edge). length xs) is.edges ∙ ap (λ (bs : List ℕ). length (edges_by (numbers 1 is.marks) (rows f.blocks) bs)) is.blocks in
      let a = flat_length out_of (marked_from 0 is.marks) in
      let b = marked_few (λ b. length (out_of b)) 0 is.marks in
      let c = run_few (λ b. length (out_of b)) ways_out 0 f.blocks (λ i x at. out_few (0 + i) x (ap (λ (k : ℕ). slice_get f.blocks k) (zero-add i) ∙ at)) in
      let d : run (λ b. length (out_of b)) 0 (length is.marks) ≡ run (λ b. length (out_of b)) 0 (length f.blocks) = ap (λ (k : ℕ). run (λ b. length (out_of b)) 0 k) as_many in
      let s : length (edges_by (numbers 1 is.marks) (rows f.blocks) (marked_from 0 is.marks)) ≡ suc (length (flat_map out_of (marked_from 0 is.marks))) = refl in
      omega (arith, e, a, b, c, d, s)
