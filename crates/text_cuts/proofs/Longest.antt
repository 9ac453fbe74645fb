-- A token that can be written is the longest, where a stop stands behind it.
use Rattle.std.proofs.Common.{◌≡◌, ℕ, suc, ◌+◌, ◌-◌, ◌<◌, ◌^◌, Bool, true, false, ◌&&◌, ◌||◌, cond, eqb, leb, List, [], ◌∷◌, ◌++◌, length, take, get_or, refl, sym, ap, ◌∙◌, arith, append_assoc, append-nil, length-append}
use Rattle.std.specs.Char.{is_ascii_digit, digit_value}
use Rattle.std.specs.Str.Parse.{AllDigits}
use Rattle.std.specs.Fmt.{decimal}
use Rattle.std.proofs.Math.Seq.{take-append_seam, take-append-add}
use Rattle.std.proofs.lemmas.Bool.{and_parts, false≢true, eqb-true, ne_eqb, le-leb, ltb-true}
use Rattle.std.proofs.lemmas.Fmt.{decimal_is_IsNumeral}
use Rattle.std.proofs.lemmas.Str.Parse.{digit_from_value}
use Rattle.ir_tree.specs.Spelling.{is_word_first, is_name_first, is_name_byte, is_quotable, global_text, local_text}
use Rattle.ir_lex.specs.Classes.{is_blank, is_string_byte}
use Rattle.ir_lex.specs.Spelling.{ends, byte, many, is_digits, spells, rank, after_gap, IsLongest}
use Rattle.ir_lex.specs.declared.token.TokenKind.{TokenKind}
use Rattle.ir_lex.specs.declared.token.TokenKind.TheVariants.{Word, Number, Global, Local, Label, Str, Bytes, Group, Mark, Sign}
use Rattle.ir_lex.specs.Tokens as token
use Rattle.ir_lex.specs.Tokens.{Token}
use Rattle.std.specs.List.{flat_map}
use Rattle.text_pieces.specs.Written.{written, byte_text}
use Rattle.text_cuts.specs.Cut.{kind_of, can_write}
use Rattle.text_cuts.proofs.Runs.{run_over, run_wider}
use Rattle.text_cuts.proofs.Bytes.{word_apart, digit_apart, quotable_in_string}
use Rattle.text_cuts.proofs.Only.{Follows, IsOther, nothing_follows, word_other, word_own, digits_other, digits_own, negative_other, negative_own}
use Rattle.text_cuts.proofs.Names.{global_own, global_other, local_own, local_other, bytes_own, bytes_other, string_own, string_other}
use Rattle.text_cuts.proofs.Labels.{label_own, label_other, label_begins}

-- # What ends a token

pub record Stops (c : ℕ) : Type 0 where
  pub name : is_name_byte c ≡ false
  pub digit : is_ascii_digit c ≡ false
  pub colon : eqb c 58 ≡ false
  pub quote : eqb c 34 ≡ false

pub stops_follow : (c : ℕ) (more : List ℕ) → Stops c → Follows (c ∷ more)
stops_follow c more s = record {
  name = λ rest. ap (λ x. cond x (many is_name_byte rest more) (rest (c ∷ more))) s.name;
  digit = λ rest. ap (λ x. cond x (many is_ascii_digit rest more) (rest (c ∷ more))) s.digit;
  colon = λ rest. ap (λ x. x && rest more) s.colon;
  quote = λ rest. ap (λ x. x && rest more) s.quote;
}

-- # Kinds

kinds : List TokenKind
kinds = Word ∷ Number ∷ Global ∷ Local ∷ Label ∷ Str ∷ Bytes ∷ Group ∷ Mark ∷ Sign ∷ []

at_rank : (k : TokenKind) → get_or kinds (rank k) Word ≡ k
unfolding kinds
at_rank Word = refl
at_rank Number = refl
at_rank Global = refl
at_rank Local = refl
at_rank Label = refl
at_rank Str = refl
at_rank Bytes = refl
at_rank Group = refl
at_rank Mark = refl
at_rank Sign = refl

same_kind : (k kind : TokenKind) → eqb (rank k) (rank kind) ≡ true → k ≡ kind
same_kind k kind e = sym (at_rank k) ∙ ap (λ r. get_or kinds r Word) (eqb-true (rank k) (rank kind) e) ∙ at_rank kind

-- # The longest token

-- what is known of the bytes of a token: no other kind has them, whatever ends them, and no longer token is of their kind
pub record IsToken (kind : TokenKind) (w : List ℕ) : Type 0 where
  pub some : 0 < length w
  pub spelled : spells kind w ≡ true
  pub other : (tail : List ℕ) → Follows tail → (k : TokenKind) → IsOther kind k → spells k (w ++ tail) ≡ false
  pub own : (c : ℕ) (more : List ℕ) → Follows (c ∷ more) → spells kind (w ++ c ∷ more) ≡ false
  -- it begins with no blank and no comment
  pub gap : (tail : List ℕ) → after_gap false (w ++ tail) ≡ w ++ tail

module _ (kind : TokenKind) (w : List ℕ) (is : IsToken kind w) (c : ℕ) (stop : Stops c) where
  longer_none : (more : List ℕ) (k : TokenKind) → spells k (w ++ c ∷ more) ≡ false
  longer_none more k = go (eqb (rank k) (rank kind)) refl
    where
      go : (x : Bool) → eqb (rank k) (rank kind) ≡ x → spells k (w ++ c ∷ more) ≡ false
      go true e = ap (λ j. spells j (w ++ c ∷ more)) (same_kind k kind e) ∙ is.own c more (stops_follow c more stop)
      go false e = is.other (c ∷ more) (stops_follow c more stop) k e

  taken_none : (rest : List ℕ) (k : TokenKind) (m : ℕ) → length w < m → spells k (take m (w ++ c ∷ rest)) ≡ false
  taken_none rest k m over =
      let j = m - length w - 1 in
      let e : m ≡ length w + suc j = omega arith in
      ap (λ i. spells k (take i (w ++ c ∷ rest))) e
      ∙ ap (spells k) (take-append-add w (c ∷ rest) (suc j))
      ∙ longer_none (take j rest) k

  pub token_longest : (rest : List ℕ) → IsLongest (w ++ c ∷ rest) kind (length w)
  token_longest rest = record {
    some = is.some;
    within = let l = length-append w (c ∷ rest) in omega arith;
    spelled = ap (spells kind) (take-append_seam w (c ∷ rest)) ∙ is.spelled;
    none_longer = λ k m over within. taken_none rest k m over;
    first = λ k below.
        ap (spells k) (take-append_seam w (c ∷ rest)) ∙ ap (spells k) (sym (append-nil w))
        ∙ is.other [] nothing_follows k (ne_eqb (rank k) (rank kind) (λ e. let same : rank k ≡ rank kind = e in omega arith));
  }

-- # Each token that can be written

begins : (b : ℕ) (bs : List ℕ) → is_blank b ≡ false → eqb b 59 ≡ false → after_gap false (b ∷ bs) ≡ b ∷ bs
begins b bs blank comment =
    ap (λ x. cond x (after_gap false bs) (cond (eqb b 59) (after_gap true bs) (b ∷ bs))) blank
    ∙ ap (λ x. cond x (after_gap true bs) (b ∷ bs)) comment

word_is : (w : List ℕ) → spells Word w ≡ true → IsToken Word w
unfolding is_name_byte is_name_first is_word_first is_blank
word_is [] h = absurd (false≢true h)
word_is (b ∷ bs) h =
    let parts = and_parts (is_word_first b) (many is_name_byte ends bs) h in
    record { some = omega arith; spelled = h; other = word_other b bs parts.0 parts.1; own = word_own b bs parts.0 parts.1; gap = λ tail. begins b (bs ++ tail) (word_apart is_blank refl b parts.0) (word_apart (λ c. eqb c 59) refl b parts.0) }

pub digit_is : (c : ℕ) → digit_value c < 10 → is_ascii_digit c ≡ true
digit_is c h =
    let range = digit_from_value c h in
    ap (λ x. x && leb c 57) (le-leb 48 c range.0) ∙ le-leb c 57 range.1

all_digits : (ds : List ℕ) → AllDigits 10 ds → many is_ascii_digit ends ds ≡ true
all_digits [] h = refl
all_digits (d ∷ ds) h = ap (λ x. cond x (many is_ascii_digit ends ds) false) (digit_is d h.0) ∙ all_digits ds h.1

numeral_is : (ds : List ℕ) → 0 < length ds → AllDigits 10 ds → IsToken Number ds × IsToken Number (45 ∷ ds)
unfolding is_name_byte is_name_first is_word_first is_blank
numeral_is [] some h = absurd (omega arith)
numeral_is (d ∷ ds) some h =
    let first = digit_is d h.0 in
    let run = all_digits ds h.1 in
    let spelled : is_digits (d ∷ ds) ≡ true = ap (λ x. x && many is_ascii_digit ends ds) first ∙ run in (
      record { some = omega arith; spelled = ap (λ x. x || byte 45 is_digits (d ∷ ds)) spelled; other = digits_other d ds first run; own = digits_own d ds first run; gap = λ tail. begins d (ds ++ tail) (digit_apart is_blank refl d first) (digit_apart (λ c. eqb c 59) refl d first) },
      record { some = omega arith; spelled = spelled; other = negative_other d ds first run; own = negative_own d ds first run; gap = λ tail. refl },
    )

number_is : (minus : Bool) (n : ℕ) → n < 2 ^ 64 → IsToken Number (written (token.Number minus n))
number_is true n h = let numeral = decimal_is_IsNumeral n h in (numeral_is (decimal n) numeral.0.0 numeral.0.1).1
number_is false n h = let numeral = decimal_is_IsNumeral n h in (numeral_is (decimal n) numeral.0.0 numeral.0.1).0

global_is : (n : List ℕ) → spells Global (64 ∷ n) ≡ true → IsToken Global (64 ∷ n)
unfolding is_name_byte is_name_first is_word_first is_blank
global_is n h = record { some = omega arith; spelled = h; other = λ tail f k e. global_other (n ++ tail) k e; own = λ c more f. global_own n c more f h; gap = λ tail. refl }

local_is : (n : List ℕ) → spells Local (37 ∷ n) ≡ true → IsToken Local (37 ∷ n)
unfolding is_name_byte is_name_first is_word_first is_blank
local_is n h = record { some = omega arith; spelled = h; other = λ tail f k e. local_other (n ++ tail) k e; own = λ c more f. local_own n c more f h; gap = λ tail. refl }

label_some : (w : List ℕ) → spells Label w ≡ true → 0 < length w
label_some [] h = absurd (false≢true h)
label_some (b ∷ bs) h = omega arith

label_gap : (w : List ℕ) → spells Label w ≡ true → (tail : List ℕ) → after_gap false (w ++ tail) ≡ w ++ tail
label_gap [] h tail = absurd (false≢true h)
label_gap (b ∷ bs) h tail = let first = label_begins b bs h in begins b (bs ++ tail) first.0 first.1

label_is : (w : List ℕ) → spells Label w ≡ true → IsToken Label w
label_is w h = record { some = label_some w h; spelled = h; other = λ tail f k e. label_other w tail f h k e; own = λ c more f. label_own w c more h; gap = label_gap w h }

bytes_is : (bs : List ℕ) → spells Bytes (99 ∷ 34 ∷ bs) ≡ true → IsToken Bytes (99 ∷ 34 ∷ bs)
unfolding is_name_byte is_name_first is_word_first is_blank
bytes_is bs h = record { some = omega arith; spelled = h; other = λ tail f k e. bytes_other (bs ++ tail) k e; own = λ c more f. bytes_own (99 ∷ 34 ∷ bs) c more h; gap = λ tail. refl }

string_spelled : (s : List ℕ) → many is_quotable ends s ≡ true → spells Str (34 ∷ (s ++ 34 ∷ [])) ≡ true
unfolding is_string_byte
string_spelled s h = run_over is_string_byte (byte 34 ends) s (34 ∷ []) (run_wider is_quotable is_string_byte quotable_in_string s h) refl

string_longer : (s : List ℕ) → many is_quotable ends s ≡ true → (c : ℕ) (more : List ℕ) → spells Str (34 ∷ (s ++ 34 ∷ []) ++ c ∷ more) ≡ false
string_longer s h c more = string_own (34 ∷ (s ++ 34 ∷ [])) c more (string_spelled s h)

string_is : (s : List ℕ) → many is_quotable ends s ≡ true → IsToken Str (34 ∷ (s ++ 34 ∷ []))
unfolding is_blank
string_is s h = record {
  some = omega arith;
  spelled = string_spelled s h;
  other = λ tail f k e. ap (λ x. spells k (34 ∷ x)) (append_assoc s (34 ∷ []) tail) ∙ string_other s tail h f k e;
  own = λ c more f. string_longer s h c more;
  gap = λ tail. refl;
}

pub token_is : (t : Token) → can_write t ≡ true → IsToken (kind_of t) (written t)
token_is (token.Word text) h = word_is text h
token_is (token.Number minus n) h = number_is minus n (ltb-true n (2 ^ 64) h)
token_is (token.Global name) h = global_is (global_text name) h
token_is (token.Local name) h = local_is (local_text name) h
token_is (token.Label name) h = label_is (local_text name ++ 58 ∷ []) h
token_is (token.Str text) h = string_is text h
token_is (token.Bytes bytes) h = bytes_is (flat_map byte_text bytes ++ 34 ∷ []) h
token_is (token.Group digits) h = absurd (false≢true h)
token_is token.Mark h = absurd (false≢true h)
token_is (token.Sign byte) h = absurd (false≢true h)
