-- Tables of numbers by place.
use Rattle.std.specs.Prelude.{ℕ, List, Option, None, Some, slice_index_or}

-- none past the last place too
abbrev pub at : List (Option ℕ) → ℕ → Option ℕ
at table place = slice_index_or table place None

abbrev pub or_else : Option ℕ → Option ℕ → Option ℕ
or_else None other = other
or_else (Some number) other = Some number
