-- Walks through a graph of blocks, and the blocks that are reachable.
use Rattle.std.specs.Prelude.{◌≡◌, ℕ, zero, suc, ◌<◌, Bool, true, false, if◌then◌else◌, List, [], ◌∷◌, length, replicate, Some, slice_get, slice_index_or, slice_set}

-- the successors of a block, by their numbers; none past the last block
abbrev pub row : List (List ℕ) → ℕ → List ℕ
row rows b = slice_index_or rows b []

-- a walk from a to b is a list of positions among successors, so two positions with one successor make two walks
abbrev pub Leads : List (List ℕ) → List ℕ → ℕ → ℕ → Type 0
Leads rows [] a b = a ≡ b
Leads rows (p ∷ ps) a b = (c : ℕ) × (slice_get (row rows a) p ≡ Some c) × Leads rows ps c b

-- a walk leads to the block from the entry, block 0
abbrev pub IsReachable : List (List ℕ) → ℕ → Type 0
IsReachable rows b = (walk : List ℕ) × Leads rows walk 0 b

-- the rows of a graph: there is an entry, and each successor is a block
pub record AreRows (rows : List (List ℕ)) : Type 0 where
  pub entry : 0 < length rows
  pub targets : (b p t : ℕ) → slice_get (row rows b) p ≡ Some t → t < length rows

abbrev pub is_marked : List Bool → ℕ → Bool
is_marked marks b = slice_index_or marks b false

-- one mark a block, on exactly the reachable ones
pub record AreMarks (rows : List (List ℕ)) (marks : List Bool) : Type 0 where
  pub size : length marks ≡ length rows
  pub sound : (b : ℕ) → is_marked marks b ≡ true → IsReachable rows b
  pub complete : (b : ℕ) → IsReachable rows b → is_marked marks b ≡ true

-- ---- the reachable blocks, computed

-- these blocks are marked also
abbrev pub marked_also : List ℕ → List Bool → List Bool
marked_also [] marks = marks
marked_also (t ∷ ts) marks = marked_also ts (slice_set marks t true)

-- the successors of the blocks that have a mark are marked also
abbrev pub marked_after : List (List ℕ) → List Bool → List Bool → List Bool
marked_after [] old marks = marks
marked_after (r ∷ rs) [] marks = marks
marked_after (r ∷ rs) (m ∷ ms) marks = marked_after rs ms (if m then marked_also r marks else marks)

abbrev pub rounds : ℕ → List (List ℕ) → List Bool → List Bool
rounds zero rows marks = marks
rounds (suc n) rows marks = rounds n rows (marked_after rows marks marks)

-- The marks of the reachable blocks: the entry has one, and then, in as many rounds as there are blocks, the successors
-- of all that have one
unfoldable pub reached : List (List ℕ) → List Bool
reached rows = rounds (length rows) rows (slice_set (replicate (length rows) false) 0 true)
