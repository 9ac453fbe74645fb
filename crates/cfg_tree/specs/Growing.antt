-- The tree while it grows: the marks of the reached nodes, the heap of offered edges, and the order so far.
use Rattle.std.specs.Prelude.{◌≡◌, ℕ, ◌<◌, Bool, true, false, ◌⊎◌, List, [], ◌∷◌, ◌++◌, Contains, length, Option, None, Some}
use Rattle.std.specs.BinaryHeap.{IsHeap}
use Rattle.ir_tree.specs.declared.edge.Edge.{Edge}
use Rattle.ir_tree.specs.Reach.{is_marked}
use Rattle.spanning_order.specs.Lists.{Among}
use Rattle.spanning_order.specs.Spanning.{Joins, edge_at}
use Rattle.cfg_tree.specs.Grown.{IsGrown}
use Rattle.cfg_tree.specs.Offers.{Key, key, key_cmp}

-- an offered edge has a marked end
pub record IsOffered (edges : List Edge) (weights : List ℕ) (marks : List Bool) (x : Key) : Type 0 where
  pub number : ℕ
  pub within : number < length edges
  pub is : x ≡ key weights number
  pub marked : (is_marked marks (edge_at edges number).from ≡ true) ⊎ (is_marked marks (edge_at edges number).to ≡ true)

pub record Growing (edges : List Edge) (weights : List ℕ) (marks : List Bool) (heap : List Key) (order : List ℕ) : Type 0 where
  pub reached : List ℕ
  pub marked : (v : ℕ) → is_marked marks v ≡ true → Among v reached
  pub are_marked : (v : ℕ) → Among v reached → is_marked marks v ≡ true
  pub ordered : IsHeap key_cmp heap
  pub offered : (x : Key) → Contains heap x → IsOffered edges weights marks x
  pub candidates : (k new : ℕ) → Joins edges reached k new → Contains heap (key weights k)
  pub completes : (rest : List ℕ) → IsGrown edges weights reached rest → IsGrown edges weights (0 ∷ []) (order ++ rest)

-- the end of an edge that has no mark, or none where both have one
abbrev pub IsNewEnd : Edge → List Bool → Option ℕ → Type 0
IsNewEnd e marks None = (is_marked marks e.from ≡ true) × (is_marked marks e.to ≡ true)
IsNewEnd e marks (Some v) = (is_marked marks v ≡ false) × ((v ≡ e.from) ⊎ (v ≡ e.to))
