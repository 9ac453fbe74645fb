-- The state of the search: the words, and the blocks that wait until they have handed on what they have.
use Rattle.std.specs.Prelude.{◌≡◌, ℕ, ◌<◌, ◌≤◌, max, ◌==◌, ◌⊎◌, cond, List, [], ◌∷◌, ◌++◌, length, Some, slice_get, slice_index, slice_set, bit_and}
use Rattle.std.specs.Int.{bit_at}
use Rattle.block_search.specs.Search.{Among}
use Rattle.definite_assignment.specs.Assigned.{IsAvoidable}
use Rattle.ir_tree.specs.Reach.{row}

abbrev pub state : List ℕ → List ℕ → List ℕ × List ℕ
state words work = (words, work)

-- what one row makes of a state: each of its blocks keeps the bits that are handed on, and one that loses a bit waits
abbrev pub narrow : List ℕ → ℕ → List ℕ → List ℕ → List ℕ × List ℕ
narrow [] out words work = state words work
narrow (t ∷ ts) out words work = cond (bit_and (slice_index words t) out == slice_index words t) (narrow ts out words work) (narrow ts out (slice_set words t (bit_and (slice_index words t) out)) (work ++ t ∷ []))

-- a bit that is 0 is avoided, and a block waits or its successors have only bits that it has or gives
pub record Narrowing (rows : List (List ℕ)) (gives words work : List ℕ) : Type 0 where
  pub size : length words ≡ length rows
  pub entry : slice_index words 0 ≡ 0
  pub sound : (b i : ℕ) → b < length rows → i < 64 → bit_at (slice_index words b) i ≡ 0 → IsAvoidable rows gives i b
  pub waiting : (b : ℕ) → Among b work → b < length rows
  pub closed : (b p t : ℕ) → slice_get (row rows b) p ≡ Some t → Among b work ⊎ ((i : ℕ) → bit_at (slice_index words t) i ≤ max (bit_at (slice_index words b) i) (bit_at (slice_index gives b) i))
