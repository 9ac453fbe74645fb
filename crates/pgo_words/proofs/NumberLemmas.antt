-- Digits are a numeral without a sign.
use Rattle.std.proofs.Common.{◌≡◌, ℕ, ◌+◌, ◌-◌, ◌<◌, ◌≤◌, ◌^◌, ◌==◌, ◌&&◌, Bool, cond, true, false, List, [], ◌∷◌, Option, None, Some, length, drop, refl, sym, ap, ◌∙◌, arith, true≢false}
use Rattle.std.specs.Prelude.{if◌then◌else◌, nat_le}
use Rattle.std.specs.List.{list_all, slice_index}
use Rattle.std.specs.Char.{digit_value}
use Rattle.std.specs.Str.Parse.{AllDigits, IsNumeral, digits_value, without_leading_plus}
use Rattle.std.proofs.lemmas.Bool.{leb-true, lt-ltb, le-ltb, ne_eqb}
use Rattle.pgo_words.specs.Parts.{Text}
use Rattle.pgo_words.specs.Numbers.{is_digit, is_number, is_within, number_within}

both : (a b : Bool) → a && b ≡ true → (a ≡ true) × (b ≡ true)
both true true is = (refl, refl)
both true false is = absurd (true≢false (sym is))
both false b is = absurd (true≢false (sym is))

below_ten : (b : ℕ) → is_digit b ≡ true → digit_value b < 10
below_ten b is =
    let least : 48 ≤ b = leb-true 48 b (both (nat_le 48 b) (nat_le b 57) is).0 in
    let most : b ≤ 57 = leb-true b 57 (both (nat_le 48 b) (nat_le b 57) is).1 in
    let within : b < 58 = omega arith in
    rw (le-ltb b 48 least, lt-ltb b 58 within) (omega arith)

all_digits : (text : Text) → list_all is_digit text ≡ true → AllDigits 10 text
all_digits [] is = tt
all_digits (b ∷ bs) is =
    let parts = both (is_digit b) (list_all is_digit bs) is in
    (below_ten b parts.0, all_digits bs parts.1)

no_plus : (text : Text) → list_all is_digit text ≡ true → without_leading_plus text ≡ text
no_plus [] is = refl
no_plus (b ∷ bs) is =
    let parts = both (is_digit b) (list_all is_digit bs) is in
    let least : 48 ≤ b = leb-true 48 b (both (nat_le 48 b) (nat_le b 57) parts.0).0 in
    let no : (b == 43) ≡ false = ne_eqb b 43 (λ e. omega arith) in
    rw no refl

module _ (most low high : ℕ) (text : Text) (is : is_number most text ≡ true) where
  digits : list_all is_digit text ≡ true
  digits = (both (nat_le 1 (length text) && nat_le (length text) most) (list_all is_digit text) is).1

  pub is_plain : without_leading_plus text ≡ text
  is_plain = no_plus text digits

  numeral : IsNumeral 10 text
  numeral =
      let some : 1 ≤ length text = leb-true 1 (length text) (both (nat_le 1 (length text)) (nat_le (length text) most)
      (both (nat_le 1 (length text) && nat_le (length text) most) (list_all is_digit text) is).0).0 in
      (omega arith, all_digits text digits)

  -- where the text doesn't parse, the number is past the greatest
  pub past_greatest : high < 2 ^ 64 → (IsNumeral 10 (without_leading_plus text) × (digits_value 10 (without_leading_plus text) < 2 ^ 64) → ⊥) → None ≡ number_within most low high text
  past_greatest fits none = rw is (go (is_within low high (digits_value 10 text)) refl)
    where
      go : (b : Bool) → is_within low high (digits_value 10 text) ≡ b → None ≡ cond b (Some (digits_value 10 text)) None
      go false within = refl
      go true within =
          let least : digits_value 10 text ≤ high = leb-true (digits_value 10 text) high (both (nat_le low (digits_value 10 text)) (nat_le (digits_value 10 text) high) within).1 in
          let small : digits_value 10 text < 2 ^ 64 = omega arith in
          absurd (none (rw is_plain (numeral, small)))
