-- Digits one after the other, as the code reads them.
use Rattle.std.specs.Prelude.{ℕ, ◌+◌, ◌*◌, List, [], ◌∷◌, Option, Some}
use Rattle.std.specs.Option.{option_and_then}
use Rattle.prof_view.specs.Words.{digit_of, fits}
use Rattle.ir_grammar.specs.Words.{when}

-- the number that a digit makes of the one before it
abbrev pub with_digit : ℕ → ℕ → ℕ → Option ℕ
with_digit radix n b = option_and_then (λ v. when (fits (n * radix + v)) (n * radix + v)) (digit_of radix b)

-- each digit onto the number of those before it
abbrev pub read_digits : ℕ → ℕ → List ℕ → Option ℕ
read_digits radix n [] = Some n
read_digits radix n (b ∷ bs) = option_and_then (λ m. read_digits radix m bs) (with_digit radix n b)
