-- What is written of a token means the token.
use Rattle.std.proofs.Common.{◌≡◌, ℕ, ◌+◌, ◌-◌, ◌*◌, ◌/◌, ◌%◌, ◌^◌, ◌<◌, ◌≤◌, Bool, true, false, ◌&&◌, ◌||◌, not, cond, eqb, ltb, leb, inl, inr, List, [], ◌∷◌, ◌++◌, length, take, drop, refl, ap, ◌∙◌, arith, length-append}
use Rattle.std.specs.Prelude.{slice_index}
use Rattle.std.specs.Char.{is_ascii_digit, digit_value}
use Rattle.std.specs.Fmt.{decimal}
use Rattle.std.specs.List.{flat_map, list_all}
use Rattle.std.specs.Str.Parse.{AllDigits, digits_value}
use Rattle.std.proofs.Math.Seq.{take-append_seam}
use Rattle.std.proofs.lemmas.Bool.{and_parts, or_parts, false≢true, agree_below, agree_below_at, cases_lt, eqb-true, ltb-true, le-ltb, lt-leb, ne_eqb}
use Rattle.std.proofs.lemmas.Fmt.{decimal_is_IsNumeral}
use Rattle.ir_tree.specs.Spelling.{is_name_first, is_name_byte, is_word_first, is_empty, is_plain, is_digits, quoted, global_text, local_text}
use Rattle.ir_lex.specs.Tokens as token
use Rattle.ir_lex.specs.Tokens.{Token}
use Rattle.ir_lex.specs.Meaning.{between, unquoted, decoded, is_negative, meaning}
use Rattle.text_pieces.specs.Written.{written, is_escaped, hex_digit, escaped, byte_text}
use Rattle.text_cuts.specs.Cut.{kind_of, can_write}
use Rattle.text_cuts.proofs.Runs.{or_none, never}
use Rattle.text_cuts.proofs.Bytes.{first_apart, digit_apart}
use Rattle.text_cuts.proofs.Longest.{digit_is}

-- # Names

between_quoted : (s : List ℕ) → between (34 ∷ (s ++ 34 ∷ [])) ≡ s
between_quoted s =
    let l = length-append s (34 ∷ []) in
    let e : length (34 ∷ (s ++ 34 ∷ [])) - 2 ≡ length s = omega arith in
    ap (λ n. take n (s ++ 34 ∷ [])) e ∙ take-append_seam s (34 ∷ [])

plain_unquoted : (name : List ℕ) → eqb (slice_index name 0) 34 ≡ false → unquoted name ≡ name
plain_unquoted name e = ap (λ x. cond x (between name) name) e

plain_first : (name : List ℕ) → is_plain name ≡ true → eqb (slice_index name 0) 34 ≡ false
unfolding is_plain is_name_byte is_name_first is_word_first
plain_first name h =
    let front = (and_parts (not (is_empty name) && is_name_first (slice_index name 0)) (list_all is_name_byte name) h).0 in
    first_apart (λ d. eqb d 34) refl (slice_index name 0) (and_parts (not (is_empty name)) (is_name_first (slice_index name 0)) front).1

digits_first : (name : List ℕ) → is_digits name ≡ true → eqb (slice_index name 0) 34 ≡ false
unfolding is_digits
digits_first [] h = absurd (false≢true h)
digits_first (b ∷ bs) h =
    let all = (and_parts (not (is_empty (b ∷ bs))) (list_all is_ascii_digit (b ∷ bs)) h).1 in
    digit_apart (λ d. eqb d 34) refl b (and_parts (is_ascii_digit b) (list_all is_ascii_digit bs) all).0

global_means : (name : List ℕ) → unquoted (global_text name) ≡ name
unfolding global_text
global_means name = go (is_plain name) refl
  where
    go : (x : Bool) → is_plain name ≡ x → unquoted (cond x name (quoted name)) ≡ name
    go true e = plain_unquoted name (plain_first name e)
    go false e = between_quoted name

local_means : (name : List ℕ) → unquoted (local_text name) ≡ name
unfolding local_text
local_means name = go (is_plain name) (is_digits name) refl refl
  where
    go : (x y : Bool) → is_plain name ≡ x → is_digits name ≡ y → unquoted (cond (x || y) name (quoted name)) ≡ name
    go true y e f = plain_unquoted name (plain_first name e)
    go false true e f = plain_unquoted name (digits_first name f)
    go false false e f = between_quoted name

label_means : (name : List ℕ) → unquoted (take (length (local_text name ++ 58 ∷ []) - 1) (local_text name ++ 58 ∷ [])) ≡ name
label_means name =
    let l = length-append (local_text name) (58 ∷ []) in
    let e : length (local_text name ++ 58 ∷ []) - 1 ≡ length (local_text name) = omega arith in
    ap (λ n. unquoted (take n (local_text name ++ 58 ∷ []))) e
    ∙ ap unquoted (take-append_seam (local_text name) (58 ∷ [])) ∙ local_means name

-- # Numbers

not_negative : (ds : List ℕ) → AllDigits 10 ds → is_negative ds ≡ false
not_negative [] h = refl
not_negative (d ∷ ds) h = digit_apart (λ c. eqb c 45) refl d (digit_is d h.0)

number_means : (minus : Bool) (n : ℕ) → n < 2 ^ 64 → meaning (kind_of (token.Number minus n)) (written (token.Number minus n)) ≡ token.Number minus n
number_means true n h = ap (λ v. token.Number true v) (decimal_is_IsNumeral n h).1
number_means false n h =
    let numeral = decimal_is_IsNumeral n h in
    ap (λ x. token.Number x (digits_value 10 (cond x (drop 1 (decimal n)) (decimal n)))) (not_negative (decimal n) numeral.0.1)
    ∙ ap (λ v. token.Number false v) numeral.1

-- # Byte strings

-- the byte that the two digits of an escape mean
abbrev escape_value : ℕ → ℕ
escape_value b = (16 * ((16 * 0 + digit_value (hex_digit (b / 16))) % 256) + digit_value (hex_digit (b % 16))) % 256

escapes : agree_below (λ b. eqb (escape_value b) b) (λ _. true) 256 ≡ true
escapes = refl

escape_past : (b : ℕ) → 256 ≤ b → is_escaped b ≡ false
escape_past b h =
    let quote = ne_eqb b 34 (λ e. let same : b ≡ 34 = e in omega arith) in
    let slash = ne_eqb b 92 (λ e. let same : b ≡ 92 = e in omega arith) in
    let high : (leb 127 b && leb b 255) ≡ false = go (leb 127 b) (lt-leb b 255 (omega arith)) in
    or_none (ltb b 32) (eqb b 34 || (eqb b 92 || (leb 127 b && leb b 255))) (le-ltb b 32 (omega arith))
    (or_none (eqb b 34) (eqb b 92 || (leb 127 b && leb b 255)) quote (or_none (eqb b 92) (leb 127 b && leb b 255) slash high))
  where
    go : (x : Bool) → leb b 255 ≡ false → (x && leb b 255) ≡ false
    go true e = e
    go false e = refl

escape_below : (b : ℕ) → is_escaped b ≡ true → b < 256
escape_below b h = elim (cases_lt b 256) [ inl lt ↦ lt | inr ge ↦ never (escape_past b ge) h ]

escape_means : (b : ℕ) → is_escaped b ≡ true → escape_value b ≡ b
escape_means b h = eqb-true (escape_value b) b (agree_below_at (λ c. eqb (escape_value c) c) (λ _. true) 256 b escapes (escape_below b h))

no_slash : (b : ℕ) → is_escaped b ≡ false → eqb b 92 ≡ false
no_slash b h =
    let behind = (or_parts (ltb b 32) (eqb b 34 || (eqb b 92 || (leb 127 b && leb b 255))) h).1 in
    (or_parts (eqb b 92) (leb 127 b && leb b 255) (or_parts (eqb b 34) (eqb b 92 || (leb 127 b && leb b 255)) behind).1).0

byte_means : (b : ℕ) (rest : List ℕ) → decoded 0 0 (byte_text b ++ rest) ≡ b ∷ decoded 0 0 rest
unfolding byte_text escaped
byte_means b rest = go (is_escaped b) refl
  where
    go : (x : Bool) → is_escaped b ≡ x → decoded 0 0 (cond x (92 ∷ hex_digit (b / 16) ∷ hex_digit (b % 16) ∷ []) (b ∷ []) ++ rest) ≡ b ∷ decoded 0 0 rest
    go true e = ap (λ c. c ∷ decoded 0 0 rest) (escape_means b e)
    go false e = ap (λ x. cond x (decoded 2 0 rest) (b ∷ decoded 0 0 rest)) (no_slash b e)

content_means : (bs : List ℕ) → decoded 0 0 (flat_map byte_text bs) ≡ bs
content_means [] = refl
content_means (b ∷ bs) = byte_means b (flat_map byte_text bs) ∙ ap (λ cs. b ∷ cs) (content_means bs)

-- # Tokens

pub written_means : (t : Token) → can_write t ≡ true → meaning (kind_of t) (written t) ≡ t
written_means (token.Word text) h = refl
written_means (token.Number minus n) h = number_means minus n (ltb-true n (2 ^ 64) h)
written_means (token.Global name) h = ap (λ n. token.Global n) (global_means name)
written_means (token.Local name) h = ap (λ n. token.Local n) (local_means name)
written_means (token.Label name) h = ap (λ n. token.Label n) (label_means name)
written_means (token.Str text) h = ap (λ s. token.Str s) (between_quoted text)
written_means (token.Bytes bytes) h = ap (λ s. token.Bytes s) (ap (decoded 0 0) (between_quoted (flat_map byte_text bytes)) ∙ content_means bytes)
written_means (token.Group digits) h = absurd (false≢true h)
written_means token.Mark h = absurd (false≢true h)
written_means (token.Sign byte) h = absurd (false≢true h)
