-- Chunks of 64 blocks that give.
use Rattle.std.specs.Prelude.{◌≡◌, ℕ, ◌+◌, ◌*◌, ◌/◌, ◌<◌, ◌↔◌, Bool, ◌&&◌, ◌==◌, nat_lt, cond, List, [], ◌∷◌, Option, None, Some, slice_get, slice_index}
use Rattle.std.specs.Int.{bit_at}
use Rattle.definite_assignment.specs.Uses.{is_open}
use Rattle.definite_assignment.specs.declared.givers.Tagged.{Tagged}

abbrev pub earlier : Option ℕ → Option ℕ → Option ℕ
earlier None b = b
earlier (Some i) None = Some i
earlier (Some i) (Some j) = cond (nat_lt j i) (Some j) (Some i)

abbrev pub is_open_tag : List (List ℕ) → Tagged → Bool
is_open_tag rows t = is_open rows t.giver t.at

-- the use is open, and one of chunk c; or of one of the chunks before c
abbrev pub is_open_in : List (List ℕ) → ℕ → Tagged → Bool
is_open_in rows c t = (t.slot / 64 == c) && is_open_tag rows t

abbrev pub is_open_below : List (List ℕ) → ℕ → Tagged → Bool
is_open_below rows c t = nat_lt t.slot (64 * c) && is_open_tag rows t

-- the uses stand in blocks
abbrev pub AreBlocks : ℕ → List Tagged → Type 0
AreBlocks n [] = Unit {0}
AreBlocks n (t ∷ ts) = (t.at < n) × AreBlocks n ts

-- of the first n that give, those of chunk c give bit by bit
abbrev pub Gives : ℕ → List ℕ → ℕ → List ℕ → Type 0
Gives n givers c words = (a j : ℕ) → j < 64 → (bit_at (slice_index words a) j ≡ 1) ↔ ((64 * c + j < n) × (slice_get givers (64 * c + j) ≡ Some a))
