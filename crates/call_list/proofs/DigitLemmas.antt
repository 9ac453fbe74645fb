-- Digits are a text, and `parse` reads the number that they write.
use Rattle.std.proofs.Common.{◌≡◌, ℕ, zero, suc, ◌^◌, ◌<◌, ◌≤◌, ◌&&◌, not, Bool, true, false, List, [], ◌∷◌, length, get_or, nat_eq, Option, Some, None, Result, Ok, Err, refl, sym, rules, arith}
use Rattle.std.specs.Option.{SomeIff}
use Rattle.std.specs.Result.{OkIff, result_ok}
use Rattle.std.specs.Str.{IsUtf8}
use Rattle.std.specs.Str.Parse.{digits_value, ParsesUnsigned}
use Rattle.std.proofs.lemmas.Bool.Decides.{nat_tests}
use Rattle.std.proofs.lemmas.Str.{IsUtf8-from_ascii}
use Rattle.std.proofs.lemmas.Str.Parse.{IsDigitsTest, IsNumeralModel, numerals_by_value, parse_digits}
use Rattle.std.specs.Char.{is_ascii_digit}
use Rattle.std.specs.List.{list_all}
use Rattle.ir_tree.specs.Spelling.{is_digits}

abbrev all_digits : List ℕ → Bool
all_digits ds = list_all is_ascii_digit ds

digits_test : IsDigitsTest (λ ds. all_digits ds ≡ true)
digits_test = search rules

numerals : IsNumeralModel (λ ds. all_digits ds ≡ true) (digits_value 10)
numerals = numerals_by_value (λ ds. all_digits ds ≡ true) digits_test

below_128 : (ds : List ℕ) → all_digits ds ≡ true → (i : ℕ) → get_or ds i 0 < 128
below_128 [] h i = omega arith
below_128 (d ∷ ds) h zero = let range = (digits_test.parts d ds h).0 in omega arith
below_128 (d ∷ ds) h (suc i) = below_128 ds (digits_test.parts d ds h).1 i

and_parts : (a b : Bool) → (a && b) ≡ true → (a ≡ true) × (b ≡ true)
and_parts true b h = (refl, h)
and_parts false b h = absurd (cc)

some_number : (n : ℕ) → not (nat_eq n 0) ≡ true → 0 < n
some_number n h = grind (arith, nat_tests)

pub IsUtf8-number : (ds : List ℕ) → is_digits ds ≡ true → IsUtf8 ds
unfolding is_digits
IsUtf8-number ds h = IsUtf8-from_ascii ds (below_128 ds (and_parts (not (nat_eq (length ds) 0)) (all_digits ds) h).1)

some_iff_ok : {E : Type 0} (ds : List ℕ) (r : Result ℕ E) → 0 < length ds → OkIff r ((0 < length ds) × (digits_value 10 ds < 2 ^ 64)) (digits_value 10 ds) → SomeIff (result_ok r) (digits_value 10 ds < 2 ^ 64) (digits_value 10 ds)
some_iff_ok ds (Ok n) some h = (h.0.1, h.1)
some_iff_ok ds (Err e) some h = λ small. h (some, small)

pub parses_number : {E : Type 0} (ds : List ℕ) (r : Result ℕ E) → is_digits ds ≡ true → ParsesUnsigned 64 10 ds r → SomeIff (result_ok r) (digits_value 10 ds < 2 ^ 64) (digits_value 10 ds)
unfolding is_digits
parses_number ds r h parsed =
    let (some, digits) = and_parts (not (nat_eq (length ds) 0)) (all_digits ds) h in
    some_iff_ok ds r (some_number (length ds) some) (parse_digits numerals 64 ds r parsed digits)
