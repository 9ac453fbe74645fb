-- The end of each edge of an order at which it joins a new node.
use Rattle.std.specs.Prelude.{◌≡◌, ◌≢◌, ℕ, ◌==◌, if◌then◌else◌, ◌⊎◌, List, [], ◌∷◌, slice_index, slice_index_or, slice_set, ℤ, pos}
use Rattle.ir_tree.specs.declared.edge.Edge.{Edge}
pub use Rattle.spanning_order.specs.Spanning.{edge_at}
use Rattle.spanning_order.specs.Spanning.{Joins}

abbrev pub other_end : Edge → ℕ → ℕ
other_end e end = if e.to == end then e.from else e.to

abbrev pub with_net : List ℤ → ℕ → ℤ → List ℤ
with_net nets v z = slice_set nets v z

-- the end of an edge that has no mark, or its first end where its second has one
abbrev pub IsNewEnd : Edge → List ℤ → ℕ → Type 0
IsNewEnd e marks new = ((slice_index_or marks e.to (pos 0) ≡ pos 0) × (new ≡ e.to)) ⊎ ((slice_index_or marks e.to (pos 0) ≢ pos 0) × (new ≡ e.from))

-- each edge of the order joins the node that stands at its number
abbrev pub JoinsAt : List Edge → List ℕ → List ℕ → List ℕ → Type 0
JoinsAt edges ends reached [] = Unit {0}
JoinsAt edges ends reached (k ∷ ks) = Joins edges reached k (slice_index ends k) × JoinsAt edges ends (slice_index ends k ∷ reached) ks
