-- The edges that have an end at a node.
use Rattle.std.specs.Prelude.{◌≡◌, ℕ, ◌+◌, ◌<◌, ◌==◌, if◌then◌else◌, List, [], ◌∷◌, length, slice_index}
use Rattle.std.specs.List.{count_by}
use Rattle.ir_tree.specs.declared.edge.Edge.{Edge}
use Rattle.cfg_tree.specs.declared.chains.End.{End}
use Rattle.cfg_tree.specs.declared.chains.End.TheVariants.{Head, Tail}

abbrev pub end_of : End → Edge → ℕ
end_of Tail e = e.from
end_of Head e = e.to

-- the numbers of the edges that have this end at node v, the first of these edges being number k
abbrev pub numbers_at : End → ℕ → List Edge → ℕ → List ℕ
numbers_at end k [] v = []
numbers_at end k (e ∷ es) v = if end_of end e == v then k ∷ numbers_at end (k + 1) es v else numbers_at end (k + 1) es v

-- the edges that leave a node, by rising number
abbrev pub edges_out : List Edge → ℕ → List ℕ
edges_out edges v = numbers_at Tail 0 edges v

-- how many edges leave a node, or enter it
abbrev pub degree : End → List Edge → ℕ → ℕ
degree end edges v = count_by (λ e. end_of end e == v) edges

pub record AreDegrees (end : End) (edges : List Edge) (nodes : ℕ) (degrees : List ℕ) : Type 0 where
  pub size : length degrees ≡ nodes
  pub are : (v : ℕ) → v < nodes → slice_index degrees v ≡ degree end edges v
