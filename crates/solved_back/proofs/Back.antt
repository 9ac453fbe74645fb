-- The traversals are the one flow that their counters have.
use Rattle.std.proofs.Common.{◌≡◌, ℕ, zero, suc, ◌<◌, ◌≤◌, List, [], ◌∷◌, length, map, Option, None, Some, slice_get, slice_index, ℤ, pos, refl, sym, ap, subst, ◌∙◌, arith}
use Rattle.std.proofs.lemmas.Int.{ints}
use Rattle.std.proofs.lemmas.List.{length-map}
use Rattle.std.proofs.lemmas.Option.{get_or_from_slice_get, slice_get_within}
use Rattle.cfg_edges.specs.Graph.{IsFlowGraph}
use Rattle.flow_solve.specs.Solved.{HaveOneFlow, HasOneFlow, IsCause, IsCount, Solves}
use Rattle.flow_solve.specs.declared.answer.SolveError.{SolveError}
use Rattle.flow_solve.specs.declared.answer.SolveError.TheVariants.{Inconsistent, EntryDiffers}
use Rattle.ir_model.specs.declared.result.Call.{Call}
use Rattle.ir_tree.specs.Flows.{IsFlow}
use Rattle.ir_tree.specs.Graphs.{graph_of, nodes}
use Rattle.ir_tree.specs.declared.edge.Edge.{Edge}
use Rattle.ir_tree.specs.declared.types.Function.{Function}
use Rattle.ir_tree.specs.declared.types.Module.{Module}
use Rattle.solved_back.specs.SolvedBack.{AreSolvedBack, counters_of, times, times_of}
use Rattle.spanning_order.specs.Counted.{AreCounted}
use Rattle.spanning_order.specs.Spanning.{EndsAreNodes, IsSpanningOrder}
use Rattle.walk_flow.specs.Traversed.{edge_traversals, traversals_at}

index_map : (h : ℕ → ℕ) (xs : List ℕ) (c : ℕ) → c < length xs → slice_index (map h xs) c ≡ h (slice_index xs c)
index_map h [] c lt = absurd (omega arith)
index_map h (x ∷ xs) zero lt = refl
index_map h (x ∷ xs) (suc c) lt = index_map h xs c (omega arith)

same_pos : (a b : ℕ) → pos a ≡ pos b → a ≡ b
same_pos a b e = omega (arith, ints, e)

is_count : (a : ℕ) → a ≤ 18446744073709551615 → IsCount (pos a)
is_count a le = (omega (arith, ints), omega (arith, ints, le))

module _ (m : Module) (k : ℕ) (f : Function) (calls : List Call) (n : ℕ) (order counted : List ℕ) (whole : IsFlowGraph (graph_of f)) (flow : IsFlow (graph_of f).edges (edge_traversals m k f calls n))
    (spans : IsSpanningOrder (graph_of f).edges (nodes (graph_of f)) order) (beside : AreCounted (length (graph_of f).edges) order counted)
    (law : (edges : List Edge) (nodes : ℕ) (order counted counters : List ℕ) → HaveOneFlow edges nodes order counted counters) where
  ends : EndsAreNodes (graph_of f).edges (nodes (graph_of f))
  ends j e at = ((whole.sound j e at).leaves, (whole.sound j e at).enters)

  one : HasOneFlow (graph_of f).edges order counted (counters_of m k f calls n counted)
  one = law (graph_of f).edges (nodes (graph_of f)) order counted (counters_of m k f calls n counted) ends spans beside (length-map counted (times m k f calls n))

  -- the traversals as whole numbers and as counts
  both : (o : Option Edge) → traversals_at m k calls n o ≡ pos (times_of m k calls n o)
  both None = refl
  both (Some e) = refl

  number : (j : ℕ) → edge_traversals m k f calls n j ≡ pos (times m k f calls n j)
  number j = both (slice_get (graph_of f).edges j)

  counter : (c : ℕ) → c < length counted → slice_index (counters_of m k f calls n counted) c ≡ times m k f calls n (slice_index counted c)
  counter c lt = index_map (times m k f calls n) counted c lt

  solves : Solves (graph_of f).edges order counted (counters_of m k f calls n counted) (edge_traversals m k f calls n)
  solves = record { flow = flow; kept = λ c lt out. number (slice_index counted c) ∙ ap (λ (a : ℕ). pos a) (sym (counter c lt)) }

  only : (x : ℕ → ℤ) → Solves (graph_of f).edges order counted (counters_of m k f calls n counted) x → (j : ℕ) → j < length (graph_of f).edges → x j ≡ edge_traversals m k f calls n j
  only x s j lt = one.only x s j lt ∙ sym (one.only (edge_traversals m k f calls n) solves j lt)

  refused : ((j : ℕ) → times m k f calls n j ≤ 18446744073709551615) → (error : SolveError) → (x : ℕ → ℤ) → Solves (graph_of f).edges order counted (counters_of m k f calls n counted) x → IsCause (graph_of f).edges order counted (counters_of m k f calls n counted) x error → ⊥
  refused fits (Inconsistent j value) x s cause =
      cause.misfit (subst (λ (z : ℤ). IsCount z) (sym (only x s j cause.is_edge ∙ number j)) (is_count (times m k f calls n j) (fits j)))
  refused fits (EntryDiffers c) x s cause =
      let lt : 0 < length counted = slice_get_within counted 0 0 cause.is_counted in
      let first : slice_index counted 0 ≡ 0 = get_or_from_slice_get counted 0 0 0 cause.is_counted in
      let edge : 0 < length (graph_of f).edges = (let e = whole.enough in omega (arith, e)) in
      cause.differs (only x s 0 edge ∙ number 0 ∙ ap (λ (a : ℕ). pos a) (sym (cause.counter_is ∙ counter 0 lt ∙ ap (λ (j : ℕ). times m k f calls n j) first)))

  pub solved_back : AreSolvedBack m k f calls n order counted
  solved_back = record {
    solves = solves;
    only = only;
    counts = λ counts are j lt. same_pos (slice_index counts j) (times m k f calls n j) (only (λ i. pos (slice_index counts i)) are.solves j lt ∙ number j);
    answered = λ fits error r. refused fits error r.flow r.solves r.cause;
  }
