-- The traversals of every edge from those of the counted edges.
use Rattle.std.specs.Prelude.{◌≡◌, ℕ, ◌<◌, ◌≤◌, List, map, ℤ, length, Option, None, Some, slice_get, slice_index}
use Rattle.flow_solve.specs.Solved.{AreSolved, IsRefused, Solves}
use Rattle.flow_solve.specs.declared.answer.SolveError.{SolveError}
use Rattle.ir_model.specs.declared.result.Call.{Call}
use Rattle.ir_tree.specs.Graphs.{graph_of}
use Rattle.ir_tree.specs.declared.edge.Edge.{Edge}
use Rattle.ir_tree.specs.declared.types.Function.{Function}
use Rattle.ir_tree.specs.declared.types.Module.{Module}
use Rattle.walk_flow.specs.Traversed.{edge_traversals, traversals_of_edge}

abbrev pub times_of : Module → ℕ → List Call → ℕ → Option Edge → ℕ
times_of m k calls n None = 0
times_of m k calls n (Some e) = traversals_of_edge m k calls n e

-- how often the runs of these calls, of at most n steps each, walk the edge of function k, which is f, with a number
abbrev pub times : Module → ℕ → Function → List Call → ℕ → ℕ → ℕ
times m k f calls n j = times_of m k calls n (slice_get (graph_of f).edges j)

-- the counters that count these edges alone
abbrev pub counters_of : Module → ℕ → Function → List Call → ℕ → List ℕ → List ℕ
counters_of m k f calls n counted = map (times m k f calls n) counted

-- The traversals of all edges are the flow with the counters of the counted edges, and the only one; so counts that are
-- solved are the traversals; and where each of these fits 64 bits, no answer but counts may come
pub record AreSolvedBack (m : Module) (k : ℕ) (f : Function) (calls : List Call) (n : ℕ) (order counted : List ℕ) : Type 0 where
  pub solves : Solves (graph_of f).edges order counted (counters_of m k f calls n counted) (edge_traversals m k f calls n)
  pub only : (x : ℕ → ℤ) → Solves (graph_of f).edges order counted (counters_of m k f calls n counted) x → (j : ℕ) → j < length (graph_of f).edges → x j ≡ edge_traversals m k f calls n j
  pub counts : (counts : List ℕ) → AreSolved (graph_of f).edges order counted (counters_of m k f calls n counted) counts → (j : ℕ) → j < length (graph_of f).edges → slice_index counts j ≡ times m k f calls n j
  pub answered : ((j : ℕ) → times m k f calls n j ≤ 18446744073709551615) → (error : SolveError) → ¬ IsRefused (graph_of f).edges order counted (counters_of m k f calls n counted) error
