use Rattle.std.proofs.Common.{◌≡◌, ℕ, ◌+◌, ◌*◌, ◌^◌, ◌<◌, ◌≤◌, List, [], ◌∷◌, length, get_or, drop, arith}
use Rattle.std.proofs.lemmas.List.{at_drop_more}
use Rattle.std.specs.Char.{digit_value}
use Rattle.std.specs.Str.Parse.{digits_value_after}

-- digits behind a number make it no less
pub value_after_ge : (n : ℕ) (ds : List ℕ) → n ≤ digits_value_after 10 n ds
value_after_ge n [] = omega arith
value_after_ge n (c ∷ cs) =
    let more = value_after_ge (n * 10 + digit_value c) cs in
    omega arith

-- the value of all digits, where those from i on still stand behind this number
pub next_digit : (ds : List ℕ) (value i d : ℕ) → i < length ds → digits_value_after 10 value (drop i ds) ≡ digits_value_after 10 (value * 10 + digit_value (get_or ds i d)) (drop (i + 1) ds)
next_digit ds value i d h = at_drop_more (digits_value_after 10 value) ds i d h

pub digits_over : (ds : List ℕ) (value i d : ℕ) → i < length ds → digits_value_after 10 0 ds ≡ digits_value_after 10 value (drop i ds) → 2 ^ 64 ≤ value * 10 + digit_value (get_or ds i d) → 2 ^ 64 ≤ digits_value_after 10 0 ds
digits_over ds value i d h e over =
    let next = next_digit ds value i d h in
    let more = value_after_ge (value * 10 + digit_value (get_or ds i d)) (drop (i + 1) ds) in
    omega arith
