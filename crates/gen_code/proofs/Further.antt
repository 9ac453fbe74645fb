-- The first of what is made of edges, one edge further.
use Rattle.std.proofs.Common.{◌≡◌, ℕ, ◌+◌, ◌<◌, ◌==◌, ◌&&◌, Bool, true, false, cond, List, [], ◌∷◌, ◌++◌, length, take, get_or, Option, None, Some, refl, sym, ap, ◌∙◌}
use Rattle.std.specs.Option.{option_map}
use Rattle.gen_code.proofs.Lists.{or_none}
use Rattle.gen_code.specs.Ends.{block_at, block_counter, counting_block, stands_at}
use Rattle.gen_code.specs.OnEdges.{edge_on}
use Rattle.gen_code.specs.Tables.{or_else}
use Rattle.gen_code.specs.declared.ends.End.{End}
use Rattle.gen_plan.specs.Placing.{counter_of, edge_block, leaves, new_on, of_edges, on_edge}
use Rattle.ir_model.specs.Log.{is_at}
use Rattle.ir_tree.specs.Graphs.{FlowGraph}
use Rattle.ir_tree.specs.Operands.{listed}
use Rattle.ir_tree.specs.declared.edge.Edge.{Edge}
use Rattle.ir_tree.specs.declared.types.Function.{Function}
use Rattle.spec_lists.proofs.Each.{each_taken}
use Rattle.spec_lists.specs.Each.{each, first_of}

first_append : (xs ys : List ℕ) → first_of (xs ++ ys) ≡ or_else (first_of xs) (first_of ys)
first_append [] ys = refl
first_append (x ∷ xs) ys = refl

first_if : (b : Bool) (o : Option ℕ) → first_of (cond b (listed o) []) ≡ cond b o None
first_if true None = refl
first_if true (Some n) = refl
first_if false o = refl

module _ (test : Edge → Bool) (make : ℕ → Option ℕ) where
  pub one_edge_more : (edges : List Edge) (k : ℕ) (d : Edge) → k < length edges → first_of (of_edges (take (k + 1) edges) test (λ i. listed (make i))) ≡ or_else (first_of (of_edges (take k edges) test (λ i. listed (make i)))) (cond (test (get_or edges k d)) (make k) None)
  one_edge_more edges k d h =
      let e : Edge = get_or edges k d in
      let before : List ℕ = of_edges (take k edges) test (λ i. listed (make i)) in
      ap first_of (each_taken (λ i x. cond (test x) (listed (make i)) []) edges k d h)
      ∙ first_append before (cond (test e) (listed (make k)) [])
      ∙ ap (λ (o : Option ℕ). or_else (first_of before) o) (first_if (test e) (make k))

-- ---- counters of blocks

put_here : (stands at : Bool) (old number : Option ℕ) → cond (at && stands) (or_else old number) old ≡ or_else old (cond (at && stands) number None)
put_here true true old number = refl
put_here false true old number = sym (or_none old)
put_here true false old number = sym (or_none old)
put_here false false old number = sym (or_none old)

at_standing : (stands : Bool) (b : ℕ) (block : Option ℕ) → is_at b (cond stands block None) ≡ (is_at b block && stands)
at_standing true b block = by (is_at b block)
  where
    by : (x : Bool) → x ≡ (x && true)
    by true = refl
    by false = refl
at_standing false b block = by (is_at b block)
  where
    by : (x : Bool) → false ≡ (x && false)
    by true = refl
    by false = refl

-- a number that is put at the block that counts an edge, unless it has one
pub block_more : (g : FlowGraph) (end : End) (counted : List ℕ) (edges : List Edge) (k b : ℕ) (e d : Edge) (block number old new : Option ℕ) → k < length edges → e ≡ get_or edges k d → block ≡ counting_block g end e → number ≡ counter_of counted k
    → old ≡ block_counter g end counted (take k edges) b → new ≡ cond (is_at b block) (or_else old number) old → new ≡ block_counter g end counted (take (k + 1) edges) b
block_more g end counted edges k b e d block number old new h is there rank was put =
    put
    ∙ (λ i. cond (is_at b (there i)) (or_else (was i) (rank i)) (was i))
    ∙ ap (λ (x : Bool). cond x (or_else before (counter_of counted k)) before) (at_standing (stands_at g end e) b (block_at g end e))
    ∙ put_here (stands_at g end e) (is_at b (block_at g end e)) before (counter_of counted k)
    ∙ ap (λ (x : Edge). or_else before (cond (is_at b (block_at g end x) && stands_at g end x) (counter_of counted k) None)) is
    ∙ sym (one_edge_more (λ x. is_at b (block_at g end x) && stands_at g end x) (λ i. counter_of counted i) edges k d h)
  where
    before : Option ℕ
    before = block_counter g end counted (take k edges) b

-- ---- new blocks

pub edge_more : (g : FlowGraph) (counted : List ℕ) (edges : List Edge) (k b p : ℕ) (e d : Edge) (old new : Option ℕ) → k < length edges → e ≡ get_or edges k d
    → old ≡ edge_on g counted (take k edges) b p → new ≡ or_else old (cond (leaves b e && (e.position == p && on_edge g e)) (option_map (λ c. k) (counter_of counted k)) None) → new ≡ edge_on g counted (take (k + 1) edges) b p
edge_more g counted edges k b p e d old new h is was put =
    put
    ∙ (λ i. or_else (was i) (cond (leaves b (is i) && ((is i).position == p && on_edge g (is i))) (option_map (λ c. k) (counter_of counted k)) None))
    ∙ sym (one_edge_more (λ x. leaves b x && (x.position == p && on_edge g x)) (λ i. option_map (λ c. i) (counter_of counted i)) edges k d h)

-- what is made of the first edge that is found
abbrev pub found_then : {Y : Type 0} → (ℕ → Option ℕ) → (ℕ → ℕ → Y) → Option ℕ → Option Y
found_then rank make None = None
found_then rank make (Some k) = option_map (make k) (rank k)

module _ {Y : Type 0} (test : Edge → Bool) (rank : ℕ → Option ℕ) (make : ℕ → ℕ → Y) where
  pub made_of_first : (n : ℕ) (edges : List Edge) → first_of (each (λ k e. cond (test e) (listed (option_map (make k) (rank k))) []) n edges) ≡ found_then rank make (first_of (each (λ k e. cond (test e) (listed (option_map (λ c. k) (rank k))) []) n edges))
  made_of_first n [] = refl
  made_of_first n (e ∷ es) = by (test e) (rank n) refl (made_of_first (n + 1) es)
    where
      by : (b : Bool) (o : Option ℕ) → rank n ≡ o
          → first_of (each (λ k e. cond (test e) (listed (option_map (make k) (rank k))) []) (n + 1) es) ≡ found_then rank make (first_of (each (λ k e. cond (test e) (listed (option_map (λ c. k) (rank k))) []) (n + 1) es))
          → first_of (cond b (listed (option_map (make n) o)) [] ++ each (λ k e. cond (test e) (listed (option_map (make k) (rank k))) []) (n + 1) es)
          ≡ found_then rank make (first_of (cond b (listed (option_map (λ c. n) o)) [] ++ each (λ k e. cond (test e) (listed (option_map (λ c. k) (rank k))) []) (n + 1) es))
      by true (Some c) e later = ap (option_map (make n)) (sym e)
      by true None e later = later
      by false o e later = later

-- the new block on a way out, where the edge of the way is known
pub new_found : (f : Function) (g : FlowGraph) (counted : List ℕ) (b p : ℕ) (found : Option ℕ) → edge_on g counted g.edges b p ≡ found
    → found_then (counter_of counted) (edge_block f) found ≡ new_on f g counted b p
new_found f g counted b p found is =
    ap (found_then (counter_of counted) (edge_block f)) (sym is)
    ∙ sym (made_of_first (λ e. leaves b e && (e.position == p && on_edge g e)) (counter_of counted) (edge_block f) 0 g.edges)
