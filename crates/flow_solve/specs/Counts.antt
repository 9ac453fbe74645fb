-- What the code makes of the nets: a count for each edge of the order, or the edge whose value is none.
use Rattle.std.specs.Prelude.{◌≡◌, ◌≢◌, ℕ, ◌<◌, List, ℤ, pos, length, slice_index}
use Rattle.ir_tree.specs.declared.edge.Edge.{Edge}
use Rattle.flow_solve.specs.declared.answer.SolveError.{SolveError}
use Rattle.flow_solve.specs.declared.answer.SolveError.TheVariants.{Inconsistent}
use Rattle.flow_solve.specs.Ends.{edge_at}
use Rattle.flow_solve.specs.Nets.{needed}
use Rattle.flow_solve.specs.Solved.{IsCount}

-- an edge that joins a node has the value that this node needs, and another edge has 0
pub record HasValue (e : Edge) (end : ℕ) (nets : List ℤ) (count : ℕ) : Type 0 where
  pub none : end ≡ 0 → count ≡ 0
  pub value : end ≢ 0 → pos count ≡ needed e end nets

pub record HasNoValue (k : ℕ) (e : Edge) (end : ℕ) (nets : List ℤ) (error : SolveError) : Type 0 where
  pub joins : end ≢ 0
  pub misfit : ¬ IsCount (needed e end nets)
  pub told : error ≡ Inconsistent k (needed e end nets)

abbrev pub HaveValues : List Edge → List ℕ → List ℤ → List ℕ → Type 0
HaveValues edges ends nets counts = (k : ℕ) → k < length edges → HasValue (edge_at edges k) (slice_index ends k) nets (slice_index counts k)

-- the first edge that has none
pub record IsMisfit (edges : List Edge) (ends : List ℕ) (nets : List ℤ) (error : SolveError) : Type 0 where
  pub number : ℕ
  pub within : number < length edges
  pub here : HasNoValue number (edge_at edges number) (slice_index ends number) nets error
  pub before : (k : ℕ) → k < number → slice_index ends k ≢ 0 → IsCount (needed (edge_at edges k) (slice_index ends k) nets)
