-- A line of digits alone, up to a line feed, is a number of the text.
use Rattle.std.proofs.Common.{◌≡◌, ◌≢◌, ◌⊎◌, inl, inr, ℕ, suc, ◌+◌, ◌<◌, ◌≤◌, Bool, true, false, cond, ◌&&◌, List, [], ◌∷◌, ◌++◌, length, get_or, take, drop, map, filter, reverse, Option, Some, None, refl, sym, ap, ◌∙◌, subst, arith}
use Rattle.std.specs.List.{All, list_all, slice_split, starts_with}
use Rattle.std.specs.Char.{is_digit}
use Rattle.std.specs.Prelude.{◌==◌, codes, nat_eq, not}
use Rattle.std.specs.Str.Parse.{digits_value}
use Rattle.std.specs.Option.{option_and_then}
use Rattle.std.proofs.lemmas.Bool.Decides.{nat_tests}
use Rattle.std.proofs.lemmas.List.{get_or-take, length-take, reverse-reverse, take-append-drop}
use Rattle.std.proofs.lemmas.List.Elements.{All-cons, All-head, All-nil, All-tail, All-weaker}
use Rattle.std.proofs.lemmas.Int.Digits.{digits_value-lt}
use Rattle.std.proofs.Math.Nat.{mod-eq_of_lt, pow-le-pow_right}
use Rattle.std.specs.Str.Parse.{AllDigits}
use Rattle.std.specs.Float.Numeral.{digits_len}
use Rattle.std.specs.Char.{digit_value, is_ascii_digit}
use Rattle.std.specs.Prelude.{◌*◌, ◌-◌, ◌%◌, ◌^◌, slice_range}
use Rattle.std.proofs.lemmas.List.Sorted.{All-permutation, IsPermutation-reverse}
use Rattle.std.proofs.lemmas.List.Splits.{slice_split_at}
use Rattle.std.proofs.Math.Seq.{drop-cons}
use Rattle.ir_grammar.specs.Rules.{one, with_rest}
use Rattle.ir_grammar.specs.Words.{when}
use Rattle.prof_view.specs.Digits.{read_digits, with_digit}
use Rattle.prof_view.specs.Grammar.{hash_line, name_line, number_line}
use Rattle.prof_view.specs.Lines.{Lines, content, counts, is_blank, is_line_feed, skip_blanks, trim}
use Rattle.prof_view.specs.Words.{all_digits, begins_colon, fits, hash_of, is_name_byte, name_of, numeral}
use Rattle.prof_view.proofs.Numerals.{numeral_some}

pub record IsDigit (b : ℕ) : Type 0 where
  pub low : 48 ≤ b
  pub high : b ≤ 57

-- # Its value

-- one digit more
pub read_push : (n : ℕ) (ds : List ℕ) (b v m : ℕ) → read_digits 10 n ds ≡ Some v → with_digit 10 v b ≡ Some m → read_digits 10 n (ds ++ b ∷ []) ≡ Some m
read_push n [] b v m e f =
    let same : n ≡ v = cc in
    ap (option_and_then (λ k. Some k)) (ap (λ x. with_digit 10 x b) same ∙ f)
read_push n (d ∷ ds) b v m e f = first (λ k e. read_push k ds b v m e f) (with_digit 10 n d) e
  where
    first : ((k : ℕ) → read_digits 10 k ds ≡ Some v → read_digits 10 k (ds ++ b ∷ []) ≡ Some m) → (o : Option ℕ) → option_and_then (λ k. read_digits 10 k ds) o ≡ Some v
        → option_and_then (λ k. read_digits 10 k (ds ++ b ∷ [])) o ≡ Some m
    first later None e = cc
    first later (Some k) e = later k e

-- # Its line

-- a byte that is seen is no blank and no line feed
pub record IsVisible (b : ℕ) : Type 0 where
  pub low : 33 ≤ b
  pub high : b ≤ 126

pub digit_visible : (b : ℕ) → IsDigit b → IsVisible b
digit_visible b d = let low = d.low in let high = d.high in record { low = omega arith; high = omega arith }

not_blank : (b : ℕ) → IsVisible b → is_blank b ≡ false
not_blank b d = let low = d.low in let high = d.high in grind (arith, nat_tests)

not_feed : (b : ℕ) → IsVisible b → is_line_feed b ≡ false
not_feed b d = let low = d.low in let high = d.high in grind (arith, nat_tests)

skip_visible : (ds : List ℕ) → All IsVisible ds → skip_blanks ds ≡ ds
skip_visible [] all = refl
skip_visible (b ∷ bs) all = ap (λ t. cond t (skip_blanks bs) (b ∷ bs)) (not_blank b (All-head IsVisible b bs all))

trim_visible : (ds : List ℕ) → All IsVisible ds → trim ds ≡ ds
unfolding trim
trim_visible ds all =
    ap (λ x. reverse (skip_blanks (reverse x))) (skip_visible ds all)
    ∙ (ap (λ x. reverse x) (skip_visible (reverse ds) (All-permutation IsVisible ds (reverse ds) (IsPermutation-reverse ds) all)) ∙ reverse-reverse ds)

content_visible : (ds rest : List ℕ) → counts ds ≡ true → All IsVisible ds → content (ds ++ 10 ∷ rest) ≡ ds ∷ content rest
unfolding content
content_visible ds rest counted all =
    ap (λ (lines : List (List ℕ)). filter counts (map trim lines)) (slice_split_at is_line_feed ds 10 rest (All-weaker IsVisible (λ b. is_line_feed b ≡ false) not_feed ds all) refl)
    ∙ (ap (λ (line : List ℕ). filter counts (line ∷ map trim (slice_split is_line_feed rest))) (trim_visible ds all)
    ∙ ap (λ t. cond t (ds ∷ filter counts (map trim (slice_split is_line_feed rest))) (filter counts (map trim (slice_split is_line_feed rest)))) counted)

counted : (ds : List ℕ) → 0 < length ds → All IsDigit ds → counts ds ≡ true
counted [] some all = absurd (omega arith)
counted (b ∷ bs) some all = let d = All-head IsDigit b bs all in let low = d.low in grind (arith, nat_tests)

content_digits : (ds rest : List ℕ) → 0 < length ds → All IsDigit ds → content (ds ++ 10 ∷ rest) ≡ ds ∷ content rest
content_digits ds rest some all = content_visible ds rest (counted ds some all) (All-weaker IsDigit IsVisible digit_visible ds all)

cut_at : (text : List ℕ) (end : ℕ) → end < length text → get_or text end 0 ≡ 10 → text ≡ take end text ++ 10 ∷ drop (end + 1) text
cut_at text end within here =
    sym (take-append-drop end text)
    ∙ ap (λ (more : List ℕ). take end text ++ more) (drop-cons text end 0 within ∙ (ap (λ (b : ℕ). b ∷ drop (suc end) text) here ∙ ap (λ (n : ℕ). 10 ∷ drop n text) (one_more end)))
  where
    one_more : (n : ℕ) → suc n ≡ n + 1
    one_more n = omega arith

-- the digits before a line feed are the number that stands at the front of the text
pub plain_read : (text : List ℕ) (end value : ℕ) → end < length text → get_or text end 0 ≡ 10 → 0 < end → All IsDigit (take end text) →
    numeral 10 (take end text) ≡ Some value → number_line.read (content text) ≡ Some (value, content (drop (end + 1) text))
unfolding number_line
plain_read text end value within here some all is =
    let ds = take end text in
    let rest = drop (end + 1) text in
    let long : 0 < length ds = omega (arith, length-take end text) in
    ap (λ (lines : Lines). (one (numeral 10)).read lines) (ap content (cut_at text end within here) ∙ content_digits ds rest long all)
    ∙ ap (λ (o : Option ℕ). with_rest o (content rest)) is

pub long_read : (text : List ℕ) (end value : ℕ) → end < length text → get_or text end 0 ≡ 10 → 0 < end → All IsDigit (take end text) →
    read_digits 10 0 (take end text) ≡ Some value → number_line.read (content text) ≡ Some (value, content (drop (end + 1) text))
long_read text end value within here some all is =
    let long : 0 < length (take end text) = omega (arith, length-take end text) in
    plain_read text end value within here some all (numeral_some 10 (take end text) (omega arith) long ∙ is)

-- # Nineteen digits

front_digit : (b : ℕ) → is_ascii_digit b ≡ true → IsDigit b
front_digit b d = record { low = grind (d, arith, nat_tests); high = grind (d, arith, nat_tests) }

digit_counts : (b : ℕ) → is_ascii_digit b ≡ true → is_digit b 10 ≡ true
digit_counts b d = let is = front_digit b d in let low = is.low in let high = is.high in grind (arith, nat_tests)

take_front : (n b : ℕ) (bs : List ℕ) → take (1 + n) (b ∷ bs) ≡ b ∷ take n bs
take_front n b bs = ap (λ k. take k (b ∷ bs)) (one_more n)
  where
    one_more : (n : ℕ) → 1 + n ≡ suc n
    one_more n = omega arith

-- the digits at the front
pub front_digits : (text : List ℕ) → All IsDigit (take (digits_len text) text)
front_digits [] = All-nil IsDigit
front_digits (b ∷ bs) = first (is_ascii_digit b) refl (front_digits bs)
  where
    first : (t : Bool) → is_ascii_digit b ≡ t → All IsDigit (take (digits_len bs) bs) → All IsDigit (take (cond t (1 + digits_len bs) 0) (b ∷ bs))
    first true d more = subst (All IsDigit) (sym (take_front (digits_len bs) b bs)) (All-cons IsDigit b (take (digits_len bs) bs) (front_digit b d) more)
    first false d more = All-nil IsDigit

all_counted : (text : List ℕ) → all_digits 10 (take (digits_len text) text) ≡ true
all_counted [] = refl
all_counted (b ∷ bs) = first (is_ascii_digit b) refl (all_counted bs)
  where
    first : (t : Bool) → is_ascii_digit b ≡ t → all_digits 10 (take (digits_len bs) bs) ≡ true → all_digits 10 (take (cond t (1 + digits_len bs) 0) (b ∷ bs)) ≡ true
    first true d more =
        ap (all_digits 10) (take_front (digits_len bs) b bs)
        ∙ (ap (λ t. t && all_digits 10 (take (digits_len bs) bs)) (digit_counts b d) ∙ more)
    first false d more = refl

digits_are : (ds : List ℕ) → all_digits 10 ds ≡ true → AllDigits 10 ds
digits_are [] all = tt
digits_are (b ∷ bs) all = (head, digits_are bs (and_right (is_digit b 10) (all_digits 10 bs) all))
  where
    and_left : (x y : Bool) → (x && y) ≡ true → x ≡ true
    and_left true y e = refl
    and_left false y e = cc

    and_right : (x y : Bool) → (x && y) ≡ true → y ≡ true
    and_right true y e = e
    and_right false y e = cc

    is : is_digit b 10 ≡ true
    is = and_left (is_digit b 10) (all_digits 10 bs) all

    head : digit_value b < 10
    head = grind (is, arith, nat_tests)

small : (n : ℕ) → n ≤ 19 → 10 ^ n ≤ 10 ^ 19
small n h = pow-le-pow_right {n = 10} (omega arith) h

-- at most 19 digits write a number below 2^64
pub few_digits : (ds : List ℕ) (value : ℕ) → 0 < length ds → length ds ≤ 19 → all_digits 10 ds ≡ true → value ≡ digits_value 10 ds % 2 ^ 64 → numeral 10 ds ≡ Some value
unfolding numeral
few_digits [] value some few all is = absurd (omega arith)
few_digits (b ∷ bs) value some few all is =
    let ds = b ∷ bs in
    let below : digits_value 10 ds < 10 ^ length ds = digits_value-lt 10 ds (digits_are ds all) in
    let less : digits_value 10 ds < 2 ^ 64 = omega (arith, below, small (length ds) few) in
    let same : value ≡ digits_value 10 ds = is ∙ mod-eq_of_lt less in
    let fit : fits (digits_value 10 ds) ≡ true = grind (less, arith, nat_tests) in
    ap (λ t. when (t && fits (digits_value 10 ds)) (digits_value 10 ds)) all
    ∙ (ap (λ t. when t (digits_value 10 ds)) fit ∙ ap (λ n. Some n) (sym same))

nothing_before : (x n : ℕ) → 0 * x + n ≡ n
nothing_before x n = grind arith

pub front_number : (text : List ℕ) (end value : ℕ) → end ≡ 0 + digits_len (drop 0 text) → value ≡ (0 * 10 ^ (end - 0) + digits_value 10 (slice_range text 0 end)) % 2 ^ 64 →
    0 < end → end ≤ 19 → end < length text → get_or text end 0 ≡ 10 → number_line.read (content text) ≡ Some (value, content (drop (end + 1) text))
front_number text end value long is some few within here =
    let at : digits_len text ≡ end = omega (arith, long) in
    let ds = take end text in
    let size : length ds ≡ end = omega (arith, length-take end text) in
    let one : end - 0 ≡ end = omega arith in
    let all : all_digits 10 ds ≡ true = ap (λ n. all_digits 10 (take n text)) (sym at) ∙ all_counted text in
    let value_is : value ≡ digits_value 10 ds % 2 ^ 64 = is ∙ (ap (λ n. n % 2 ^ 64) (nothing_before (10 ^ (end - 0)) (digits_value 10 (slice_range text 0 end)))) ∙ ap (λ n. digits_value 10 (take n text) % 2 ^ 64) one in
    plain_read text end value within here some (subst (λ n. All IsDigit (take n text)) at (front_digits text))
    (few_digits ds value (omega (arith, size)) (omega (arith, size)) all value_is)

-- # A name without blanks

name_byte : (b : ℕ) → IsVisible b → is_name_byte b ≡ true
name_byte b v = let low = v.low in let high = v.high in grind (arith, nat_tests)

name_bytes : (bs : List ℕ) → All IsVisible bs → list_all is_name_byte bs ≡ true
name_bytes [] all = refl
name_bytes (b ∷ bs) all =
    ap (λ t. t && list_all is_name_byte bs) (name_byte b (All-head IsVisible b bs all)) ∙ name_bytes bs (All-tail IsVisible b bs all)

-- the first byte of a name
abbrev pub BeginsName : ℕ → Type 0
BeginsName b = (b ≢ 35) × (b ≢ 58) × ((b < 48) ⊎ (57 < b))

no_number : (b : ℕ) → BeginsName b → IsVisible b → is_digit b 10 ≡ false
no_number b (mark, colon, inl below) v = let high = v.high in grind (below, arith, nat_tests)
no_number b (mark, colon, inr above) v = let high = v.high in grind (above, high, arith, nat_tests)

named : (ds : List ℕ) → 0 < length ds → BeginsName (get_or ds 0 0) → All IsVisible ds → (counts ds ≡ true) × (name_of ds ≡ Some ds)
unfolding name_of
named [] some begins all = absurd (omega arith)
named (b ∷ bs) some begins all =
    let mark : (b == 35) ≡ false = other b 35 begins.0 in
    let colon : (b == 58) ≡ false = other b 58 begins.1 in
    let number : is_digit b 10 ≡ false = no_number b begins (All-head IsVisible b bs all) in (
      ap not mark,
      ap (λ t. when (t && not (all_digits 10 (b ∷ bs)) && not (begins_colon (b ∷ bs))) (b ∷ bs)) (name_bytes (b ∷ bs) all)
          ∙ (ap (λ t. when (not (t && all_digits 10 bs) && not (begins_colon (b ∷ bs))) (b ∷ bs)) number
          ∙ ap (λ t. when (not t) (b ∷ bs)) colon),
    )
  where
    other : (a c : ℕ) → a ≢ c → (a == c) ≡ false
    other a c h = grind (h, arith, nat_tests)

-- the visible bytes before a line feed are the name that stands at the front of the text
pub front_name : (text : List ℕ) (end : ℕ) → end < length text → get_or text end 0 ≡ 10 → 0 < end → BeginsName (get_or text 0 0) → All IsVisible (take end text) →
    name_line.read (content text) ≡ Some (take end text, content (drop (end + 1) text))
unfolding name_line
front_name text end within here some begins all =
    let ds = take end text in
    let rest = drop (end + 1) text in
    let long : 0 < length ds = omega (arith, length-take end text) in
    let first : get_or ds 0 0 ≡ get_or text 0 0 = get_or-take end text 0 0 some in
    let is = named ds long (subst BeginsName (sym first) begins) all in
    ap (λ (lines : Lines). (one name_of).read lines) (ap content (cut_at text end within here) ∙ content_visible ds rest is.0 all)
    ∙ ap (λ (o : Option (List ℕ)). with_rest o (content rest)) is.1

-- # A hash of digits alone

and_false : (a : Bool) → (a && false) ≡ false
and_false true = refl
and_false false = refl

not_kept : (a f : Bool) (x n : ℕ) → when ((a && false) && f) x ≡ Some n → true ≡ false
not_kept true f x n e = cc
not_kept false f x n e = cc

no_digit : (c : ℕ) → nat_eq 120 c ≡ true → is_digit c 10 ≡ false
no_digit c q = let is : 120 ≡ c = grind (arith, nat_tests) in ap (λ (k : ℕ). is_digit k 10) (sym is)

digits_not_hex : (line : List ℕ) (n : ℕ) → numeral 10 line ≡ Some n → starts_with nat_eq line (codes "0x") ≡ false
unfolding numeral
digits_not_hex [] n e = refl
digits_not_hex (b ∷ []) n e = and_false (nat_eq 48 b)
digits_not_hex (b ∷ c ∷ bs) n e = test (nat_eq 120 c) refl
  where
    test : (t : Bool) → nat_eq 120 c ≡ t → (nat_eq 48 b && (t && true)) ≡ false
    test false q = and_false (nat_eq 48 b)
    test true q =
        let bad : true ≡ false =
        not_kept (is_digit b 10) (fits (digits_value 10 (b ∷ c ∷ bs))) (digits_value 10 (b ∷ c ∷ bs)) n
        (ap (λ t. when ((is_digit b 10 && (t && all_digits 10 bs)) && fits (digits_value 10 (b ∷ c ∷ bs))) (digits_value 10 (b ∷ c ∷ bs))) (sym (no_digit c q)) ∙ e) in
        cc

pub plain_hash : (lines : Lines) (n : ℕ) (rest : Lines) → number_line.read lines ≡ Some (n, rest) → hash_line.read lines ≡ Some (n, rest)
unfolding number_line hash_line hash_of
plain_hash [] n rest e = cc
plain_hash (line ∷ lines) n rest e = first (numeral 10 line) refl e
  where
    first : (o : Option ℕ) → numeral 10 line ≡ o → with_rest o lines ≡ Some (n, rest) → with_rest (cond (starts_with nat_eq line (codes "0x")) (numeral 16 (drop 2 line)) (numeral 10 line)) lines ≡ Some (n, rest)
    first None is e = cc
    first (Some m) is e = ap (λ t. with_rest (cond t (numeral 16 (drop 2 line)) (numeral 10 line)) lines) (digits_not_hex line m is) ∙ (ap (λ o. with_rest o lines) is ∙ e)
