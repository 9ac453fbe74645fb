-- The depth-first walk through a graph, and the edges that lead back.
use Rattle.std.specs.Prelude.{ℕ, zero, suc, Bool, true, false, List, [], ◌∷◌, length, replicate, slice_set}
use Rattle.ir_tree.specs.declared.edge.Edge.{Edge}
use Rattle.ir_tree.specs.Reach.{is_marked}
use Rattle.spanning_order.specs.Spanning.{edge_at}
use Rattle.cfg_tree.specs.Incident.{edges_out}

-- which nodes are entered and which are finished, and which edges led back to a node that was entered and not finished
pub record Seen : Type 0 where
  pub entered : List Bool
  pub finished : List Bool
  pub back : List Bool

abbrev pub seen : List Bool → List Bool → List Bool → Seen
seen entered finished back = record { entered = entered; finished = finished; back = back }

abbrev pub unseen : ℕ → ℕ → Seen
unseen nodes edges = seen (replicate nodes false) (replicate nodes false) (replicate edges false)

abbrev pub enters : ℕ → Seen → Seen
enters v s = seen (slice_set s.entered v true) s.finished s.back

abbrev pub finishes : ℕ → Seen → Seen
finishes v s = seen s.entered (slice_set s.finished v true) s.back

abbrev pub goes_back : ℕ → Seen → Seen
goes_back k s = seen s.entered s.finished (slice_set s.back k true)

-- A look at edge k, which leads to a node that is entered or not, and finished or not: it is visited if it is not entered
abbrev pub looks : (ℕ → Seen → Seen) → ℕ → ℕ → Bool → Bool → Seen → Seen
looks visit k to false finished s = visit to s
looks visit k to true false s = goes_back k s
looks visit k to true true s = s

-- a look at each of these edges in turn
abbrev pub looks_at : (ℕ → Seen → Seen) → List Edge → List ℕ → Seen → Seen
looks_at visit edges [] s = s
looks_at visit edges (k ∷ ks) s =
    looks_at visit edges ks (looks visit k (edge_at edges k).to (is_marked s.entered (edge_at edges k).to) (is_marked s.finished (edge_at edges k).to) s)

-- The visit of a node: it is entered, its edges are looked at by rising number, and it is finished. A visit in a visit in
-- a visit enters a new node each, so depth n is enough where no more than n nodes are not entered
unfoldable pub visits : ℕ → List Edge → ℕ → Seen → Seen
visits zero edges v s = s
visits (suc n) edges v s = finishes v (looks_at (visits n edges) edges (edges_out edges v) (enters v s))

-- the walk from the entry, node 1; node 0 is outside the function, and counts as finished
abbrev pub walked : ℕ → List Edge → Seen
walked nodes edges = visits nodes edges 1 (finishes 0 (enters 0 (unseen nodes (length edges))))
