-- Definite assignment, a bit for each register: a block has a bit where every walk to it leaves a block that gives the bit.
use Rattle.std.specs.Prelude.{◌≡◌, ℕ, ◌<◌, List, [], ◌∷◌, length, Some, slice_get, slice_index}
use Rattle.std.specs.Int.{bit_at}
use Rattle.ir_tree.specs.Reach.{row}

-- a walk from block a to block b by positions among successors, which leaves no block that gives bit i
abbrev pub Avoids : List (List ℕ) → List ℕ → ℕ → List ℕ → ℕ → ℕ → Type 0
Avoids rows gives i [] a b = a ≡ b
Avoids rows gives i (p ∷ ps) a b = (c : ℕ) × (bit_at (slice_index gives a) i ≡ 0) × (slice_get (row rows a) p ≡ Some c) × Avoids rows gives i ps c b

-- some walk from the entry to block b does
abbrev pub IsAvoidable : List (List ℕ) → List ℕ → ℕ → ℕ → Type 0
IsAvoidable rows gives i b = (walk : List ℕ) × Avoids rows gives i walk 0 b

-- one word a block, of whose 64 bits those are 0 that some walk to the block avoids
pub record AreAssigned (rows : List (List ℕ)) (gives words : List ℕ) : Type 0 where
  pub size : length words ≡ length rows
  pub avoided : (b i : ℕ) → b < length rows → i < 64 → bit_at (slice_index words b) i ≡ 0 → IsAvoidable rows gives i b
  pub avoids : (b i : ℕ) → IsAvoidable rows gives i b → bit_at (slice_index words b) i ≡ 0
