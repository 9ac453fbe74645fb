-- Numbers of which each is above the one before it.
use Rattle.std.specs.Prelude.{ℕ, Bool, true, ◌&&◌, nat_lt, List, [], ◌∷◌, Option, None, Some}

abbrev pub is_above : Option ℕ → ℕ → Bool
is_above None n = true
is_above (Some last) n = nat_lt last n

abbrev pub rises : Option ℕ → List ℕ → Bool
rises last [] = true
rises last (n ∷ ns) = is_above last n && rises (Some n) ns
