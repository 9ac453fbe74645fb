-- Numbers by a block and a place in it.
use Rattle.std.specs.Prelude.{ℕ, ◌==◌, Bool, ◌&&◌, Option}
use Rattle.gen_code.specs.declared.numbers.Numbers.{Numbers}
use Rattle.indexmap.specs.IndexMap.{get}

abbrev pub same_place : ℕ × ℕ → ℕ × ℕ → Bool
same_place one other = one.0 == other.0 && one.1 == other.1

abbrev pub number_at : Numbers → ℕ → ℕ → Option ℕ
number_at made b i = get same_place made.numbers (b, i)
