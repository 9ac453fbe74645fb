-- Digits read one after the other give the number that they write.
use Rattle.std.proofs.Common.{◌≡◌, ℕ, zero, suc, ◌*◌, ◌+◌, ◌≤◌, ◌<◌, Bool, true, false, ◌&&◌, List, [], ◌∷◌, length, Option, None, refl, ◌∙◌, ap, arith}
use Rattle.std.proofs.lemmas.Bool.Decides.{nat_tests}
use Rattle.std.specs.Option.{option_and_then}
use Rattle.std.specs.Char.{digit_value, is_digit}
use Rattle.std.specs.Str.Parse.{digits_value_after}
use Rattle.ir_grammar.specs.Words.{when}
use Rattle.prof_view.specs.Words.{all_digits, fits, numeral}
use Rattle.prof_view.specs.Digits.{read_digits}

-- what the digits write behind those of n
abbrev numeral_after : ℕ → ℕ → List ℕ → Option ℕ
numeral_after radix n bs = when (all_digits radix bs && fits (digits_value_after radix n bs)) (digits_value_after radix n bs)

grows : (radix n : ℕ) (bs : List ℕ) → 0 < radix → n ≤ digits_value_after radix n bs
grows radix n [] h = omega arith
grows (suc radix) n (b ∷ bs) h =
    let more = grows (suc radix) (n * suc radix + digit_value b) bs h in
    let least : n ≤ n * suc radix = times_more n radix in
    omega (arith, more, least)
  where
    times_more : (n radix : ℕ) → n ≤ n * suc radix
    times_more n radix = grind arith
grows zero n (b ∷ bs) h = absurd (omega arith)

too_large : (n m : ℕ) → n ≤ m → fits n ≡ false → fits m ≡ false
too_large n m h e = grind (arith, nat_tests)

and_none : (a : Bool) (n : ℕ) → when (a && false) n ≡ None
and_none true n = refl
and_none false n = refl

pub digits_read : (radix n : ℕ) (bs : List ℕ) → 0 < radix → fits n ≡ true → numeral_after radix n bs ≡ read_digits radix n bs
digits_read radix n [] h small = ap (λ t. when t n) small
digits_read radix n (b ∷ bs) h small = test (is_digit b radix) refl (λ small. digits_read radix (n * radix + digit_value b) bs h small)
  where
    m : ℕ
    m = n * radix + digit_value b

    fitting : (fits m ≡ true → numeral_after radix m bs ≡ read_digits radix m bs) → (t : Bool) → fits m ≡ t → numeral_after radix m bs ≡ option_and_then (λ k. read_digits radix k bs) (when t m)
    fitting later true e = later e
    fitting later false e = ap (λ t. when (all_digits radix bs && t) (digits_value_after radix m bs)) (too_large m (digits_value_after radix m bs) (grows radix m bs h) e) ∙ and_none (all_digits radix bs) (digits_value_after radix m bs)

    test : (t : Bool) → is_digit b radix ≡ t → (fits m ≡ true → numeral_after radix m bs ≡ read_digits radix m bs)
        → when ((t && all_digits radix bs) && fits (digits_value_after radix m bs)) (digits_value_after radix m bs)
        ≡ option_and_then (λ k. read_digits radix k bs) (option_and_then (λ v. when (fits (n * radix + v)) (n * radix + v)) (when t (digit_value b)))
    test true e later = fitting later (fits m) refl
    test false e later = refl

pub numeral_some : (radix : ℕ) (bs : List ℕ) → 0 < radix → 0 < length bs → numeral radix bs ≡ read_digits radix 0 bs
unfolding numeral
numeral_some radix [] h some = absurd (omega arith)
numeral_some radix (b ∷ bs) h some = digits_read radix 0 (b ∷ bs) h refl

pub numeral_none : (radix : ℕ) (bs : List ℕ) → length bs ≡ 0 → numeral radix bs ≡ None
unfolding numeral
numeral_none radix [] h = refl
numeral_none radix (b ∷ bs) h = absurd (omega arith)
