-- Classes of bytes that have no byte in common.
use Rattle.std.proofs.Common.{◌≡◌, ℕ, ◌<◌, ◌≤◌, Bool, true, false, ◌&&◌, ◌||◌, not, eqb, leb, inl, inr, refl, sym, ap, ◌∙◌, arith}
use Rattle.std.specs.Char.{is_ascii_digit, is_ascii_alphabetic, is_ascii_graphic}
use Rattle.std.specs.Int.{is_in_range}
use Rattle.std.proofs.lemmas.Bool.{agree_below, agree_below_at, and_parts, cases_lt, lt-leb, leb-true, ne_eqb}
use Rattle.ir_tree.specs.Spelling.{is_word_first, is_name_first, is_name_byte, is_quotable}
use Rattle.ir_lex.specs.Classes.{is_string_byte}
use Rattle.text_cuts.proofs.Runs.{and_none, or_none, never}

-- # Bytes below 128

range_past : (low high b : ℕ) → high < b → is_in_range low high b ≡ false
range_past low high b h = and_none (leb low b) (leb b high) (lt-leb b high h)

equal_past : (b c : ℕ) → c < b → eqb b c ≡ false
equal_past b c h = ne_eqb b c (λ e. let same : b ≡ c = e in omega arith)

name_past : (b : ℕ) → 128 ≤ b → is_name_byte b ≡ false
unfolding is_name_byte is_name_first is_word_first
name_past b h =
    let letter = or_none (is_in_range 65 90 b) (is_in_range 97 122 b) (range_past 65 90 b (omega arith)) (range_past 97 122 b (omega arith)) in
    let mark = or_none (eqb b 36) (eqb b 46 || eqb b 95) (equal_past b 36 (omega arith)) (or_none (eqb b 46) (eqb b 95) (equal_past b 46 (omega arith)) (equal_past b 95 (omega arith))) in
    let word = or_none (is_ascii_alphabetic b) (eqb b 36 || (eqb b 46 || eqb b 95)) letter mark in
    let first = or_none (is_word_first b) (eqb b 45) word (equal_past b 45 (omega arith)) in
    or_none (is_name_first b) (is_ascii_digit b) first (range_past 48 57 b (omega arith))

name_below : (b : ℕ) → is_name_byte b ≡ true → b < 128
name_below b h = elim (cases_lt b 128) [ inl lt ↦ lt | inr ge ↦ never (name_past b ge) h ]

-- # Names

word_in_name : (b : ℕ) → is_word_first b ≡ true → is_name_byte b ≡ true
unfolding is_name_byte is_name_first
word_in_name b h = ap (λ x. (x || eqb b 45) || is_ascii_digit b) h

first_in_name : (b : ℕ) → is_name_first b ≡ true → is_name_byte b ≡ true
unfolding is_name_byte
first_in_name b h = ap (λ x. x || is_ascii_digit b) h

or_second : (a b : Bool) → b ≡ true → (a || b) ≡ true
or_second true b e = refl
or_second false b e = e

pub digit_in_name : (b : ℕ) → is_ascii_digit b ≡ true → is_name_byte b ≡ true
unfolding is_name_byte
digit_in_name b h = or_second (is_name_first b) (is_ascii_digit b) h

-- a byte of a class of names that is in no other class with it
apart : (class other : ℕ → Bool) → ((b : ℕ) → class b ≡ true → is_name_byte b ≡ true) → agree_below (λ b. class b && other b) (λ _. false) 128 ≡ true → (b : ℕ) → class b ≡ true → other b ≡ false
apart class other sub table b h =
    sym (ap (λ x. x && other b) h) ∙ agree_below_at (λ c. class c && other c) (λ _. false) 128 b table (name_below b (sub b h))

pub word_apart : (other : ℕ → Bool) → agree_below (λ b. is_word_first b && other b) (λ _. false) 128 ≡ true → (b : ℕ) → is_word_first b ≡ true → other b ≡ false
word_apart other table b h = apart is_word_first other word_in_name table b h

pub first_apart : (other : ℕ → Bool) → agree_below (λ b. is_name_first b && other b) (λ _. false) 128 ≡ true → (b : ℕ) → is_name_first b ≡ true → other b ≡ false
first_apart other table b h = apart is_name_first other first_in_name table b h

pub digit_apart : (other : ℕ → Bool) → agree_below (λ b. is_ascii_digit b && other b) (λ _. false) 128 ≡ true → (b : ℕ) → is_ascii_digit b ≡ true → other b ≡ false
digit_apart other table b h = apart is_ascii_digit other digit_in_name table b h

-- # Quoted names

graphic_below : (b : ℕ) → is_quotable b ≡ true → b < 128
unfolding is_quotable
graphic_below b h =
    let graphic = (and_parts (is_ascii_graphic b) (not (eqb b 34 || (eqb b 35 || (eqb b 58 || eqb b 92)))) h).0 in
    let most = leb-true b 126 (and_parts (leb 33 b) (leb b 126) graphic).1 in
    omega arith

pub quotable_in_string : (b : ℕ) → is_quotable b ≡ true → is_string_byte b ≡ true
unfolding is_quotable is_string_byte
quotable_in_string b h = go (is_string_byte b) refl
  where
    table : agree_below (λ c. is_quotable c && not (is_string_byte c)) (λ _. false) 128 ≡ true
    table = refl

    go : (x : Bool) → is_string_byte b ≡ x → is_string_byte b ≡ true
    go true e = e
    go false e =
        never (agree_below_at (λ c. is_quotable c && not (is_string_byte c)) (λ _. false) 128 b table (graphic_below b h))
        (ap (λ x. x && not (is_string_byte b)) h ∙ ap not e)
