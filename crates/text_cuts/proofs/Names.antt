-- Names behind `@` and `%`, strings and byte strings: what they are with something behind them.
use Rattle.std.proofs.Common.{◌≡◌, ℕ, Bool, true, false, ◌&&◌, ◌||◌, cond, eqb, List, [], ◌∷◌, ◌++◌, refl, sym, ap, ◌∙◌}
use Rattle.std.specs.Char.{is_ascii_digit}
use Rattle.std.proofs.lemmas.Bool.{and_parts, false≢true, true≢false}
use Rattle.ir_tree.specs.Spelling.{is_word_first, is_name_first, is_name_byte, is_quotable}
use Rattle.ir_lex.specs.Classes.{is_string_byte, is_bracket, is_sign}
use Rattle.ir_lex.specs.Spelling.{ends, one, byte, many, either, is_digits, is_plain_name, is_quoted_name, is_quoted_symbol, is_byte_content, spells}
use Rattle.ir_lex.specs.declared.token.TokenKind.{TokenKind}
use Rattle.ir_lex.specs.declared.token.TokenKind.TheVariants.{Word, Number, Global, Local, Label, Str, Bytes, Group, Mark, Sign}
use Rattle.text_cuts.proofs.Runs.{and_none, or_none, never, run_over, IsFinal, ends_final, one_final, many_final, content_final}
use Rattle.text_cuts.proofs.Bytes.{first_apart, digit_apart}
use Rattle.text_cuts.proofs.Only.{Follows, IsOther, one_no, byte_no}

pub or_first : (a b : Bool) → b ≡ false → (a || b) ≡ true → a ≡ true
or_first true b e h = refl
or_first false b e h = never e h

pub or_second : (a b : Bool) → a ≡ false → (a || b) ≡ true → b ≡ true
or_second a b e h = sym (ap (λ x. x || b) e) ∙ h

quote_final : IsFinal (byte 34 ends)
quote_final = one_final (λ b. eqb b 34) ends ends_final

pub content_ends : IsFinal (one is_quotable (many is_quotable (byte 34 ends)))
content_ends = one_final is_quotable (many is_quotable (byte 34 ends)) (many_final is_quotable (byte 34 ends) refl quote_final)

symbol_final : IsFinal is_quoted_symbol
symbol_final =
    one_final (λ b. eqb b 34) (many is_ascii_digit (one is_quotable (many is_quotable (byte 34 ends))))
    (many_final is_ascii_digit (one is_quotable (many is_quotable (byte 34 ends))) refl content_ends)

quoted_final : IsFinal is_quoted_name
quoted_final = one_final (λ b. eqb b 34) (one is_quotable (many is_quotable (byte 34 ends))) content_ends

module _ (b : ℕ) (bs : List ℕ) (c : ℕ) (more : List ℕ) (f : Follows (c ∷ more)) where
  plain_longer : many is_name_byte ends bs ≡ true → is_plain_name (b ∷ bs ++ c ∷ more) ≡ false
  plain_longer run = and_none (is_name_first b) (many is_name_byte ends (bs ++ c ∷ more)) (run_over is_name_byte ends bs (c ∷ more) run (f.name ends))

  run_longer : many is_ascii_digit ends bs ≡ true → is_digits (b ∷ bs ++ c ∷ more) ≡ false
  run_longer run = and_none (is_ascii_digit b) (many is_ascii_digit ends (bs ++ c ∷ more)) (run_over is_ascii_digit ends bs (c ∷ more) run (f.digit ends))

  -- behind `@`
  global_plain : is_name_first b ≡ true → either is_plain_name is_quoted_symbol (b ∷ bs) ≡ true → either is_plain_name is_quoted_symbol (b ∷ bs ++ c ∷ more) ≡ false
  unfolding is_name_byte is_name_first is_word_first is_sign is_bracket
  global_plain first h =
      let unquoted = byte_no 34 (many is_ascii_digit (one is_quotable (many is_quotable (byte 34 ends)))) b bs (first_apart (λ d. eqb d 34) refl b first) in
      let plain = or_first (is_plain_name (b ∷ bs)) (is_quoted_symbol (b ∷ bs)) unquoted h in
      or_none (is_plain_name (b ∷ bs ++ c ∷ more)) (is_quoted_symbol (b ∷ bs ++ c ∷ more))
      (plain_longer (and_parts (is_name_first b) (many is_name_byte ends bs) plain).1)
      (byte_no 34 (many is_ascii_digit (one is_quotable (many is_quotable (byte 34 ends)))) b (bs ++ c ∷ more) (first_apart (λ d. eqb d 34) refl b first))

  global_quoted : is_name_first b ≡ false → either is_plain_name is_quoted_symbol (b ∷ bs) ≡ true → either is_plain_name is_quoted_symbol (b ∷ bs ++ c ∷ more) ≡ false
  global_quoted first h =
      or_none (is_plain_name (b ∷ bs ++ c ∷ more)) (is_quoted_symbol (b ∷ bs ++ c ∷ more))
      (one_no is_name_first (many is_name_byte ends) b (bs ++ c ∷ more) first)
      (symbol_final (b ∷ bs) c more (or_second (is_plain_name (b ∷ bs)) (is_quoted_symbol (b ∷ bs)) (one_no is_name_first (many is_name_byte ends) b bs first) h))

  global_at : (x : Bool) → is_name_first b ≡ x → either is_plain_name is_quoted_symbol (b ∷ bs) ≡ true → either is_plain_name is_quoted_symbol (b ∷ bs ++ c ∷ more) ≡ false
  global_at true e h = global_plain e h
  global_at false e h = global_quoted e h

  -- behind `%`
  local_plain : is_name_first b ≡ true → either is_plain_name (either is_digits is_quoted_name) (b ∷ bs) ≡ true → either is_plain_name (either is_digits is_quoted_name) (b ∷ bs ++ c ∷ more) ≡ false
  unfolding is_name_byte is_name_first is_word_first is_sign is_bracket
  local_plain first h =
      let no_digit = first_apart is_ascii_digit refl b first in
      let no_quote = first_apart (λ d. eqb d 34) refl b first in
      let others = or_none (is_digits (b ∷ bs)) (is_quoted_name (b ∷ bs)) (one_no is_ascii_digit (many is_ascii_digit ends) b bs no_digit) (byte_no 34 (one is_quotable (many is_quotable (byte 34 ends))) b bs no_quote) in
      let plain = or_first (is_plain_name (b ∷ bs)) (either is_digits is_quoted_name (b ∷ bs)) others h in
      or_none (is_plain_name (b ∷ bs ++ c ∷ more)) (either is_digits is_quoted_name (b ∷ bs ++ c ∷ more))
      (plain_longer (and_parts (is_name_first b) (many is_name_byte ends bs) plain).1)
      (or_none (is_digits (b ∷ bs ++ c ∷ more)) (is_quoted_name (b ∷ bs ++ c ∷ more))
      (one_no is_ascii_digit (many is_ascii_digit ends) b (bs ++ c ∷ more) no_digit)
      (byte_no 34 (one is_quotable (many is_quotable (byte 34 ends))) b (bs ++ c ∷ more) no_quote))

  local_digits : is_ascii_digit b ≡ true → either is_digits is_quoted_name (b ∷ bs) ≡ true → either is_plain_name (either is_digits is_quoted_name) (b ∷ bs ++ c ∷ more) ≡ false
  unfolding is_name_byte is_name_first is_word_first is_sign is_bracket
  local_digits digit h =
      let no_quote = digit_apart (λ d. eqb d 34) refl b digit in
      let all = or_first (is_digits (b ∷ bs)) (is_quoted_name (b ∷ bs)) (byte_no 34 (one is_quotable (many is_quotable (byte 34 ends))) b bs no_quote) h in
      or_none (is_plain_name (b ∷ bs ++ c ∷ more)) (either is_digits is_quoted_name (b ∷ bs ++ c ∷ more))
      (one_no is_name_first (many is_name_byte ends) b (bs ++ c ∷ more) (digit_apart is_name_first refl b digit))
      (or_none (is_digits (b ∷ bs ++ c ∷ more)) (is_quoted_name (b ∷ bs ++ c ∷ more))
      (run_longer (and_parts (is_ascii_digit b) (many is_ascii_digit ends bs) all).1)
      (byte_no 34 (one is_quotable (many is_quotable (byte 34 ends))) b (bs ++ c ∷ more) no_quote))

  local_quoted : is_name_first b ≡ false → is_ascii_digit b ≡ false → either is_digits is_quoted_name (b ∷ bs) ≡ true → either is_plain_name (either is_digits is_quoted_name) (b ∷ bs ++ c ∷ more) ≡ false
  local_quoted first digit h =
      or_none (is_plain_name (b ∷ bs ++ c ∷ more)) (either is_digits is_quoted_name (b ∷ bs ++ c ∷ more))
      (one_no is_name_first (many is_name_byte ends) b (bs ++ c ∷ more) first)
      (or_none (is_digits (b ∷ bs ++ c ∷ more)) (is_quoted_name (b ∷ bs ++ c ∷ more))
      (one_no is_ascii_digit (many is_ascii_digit ends) b (bs ++ c ∷ more) digit)
      (quoted_final (b ∷ bs) c more (or_second (is_digits (b ∷ bs)) (is_quoted_name (b ∷ bs)) (one_no is_ascii_digit (many is_ascii_digit ends) b bs digit) h)))

  local_behind : is_name_first b ≡ false → (x : Bool) → is_ascii_digit b ≡ x → either is_digits is_quoted_name (b ∷ bs) ≡ true → either is_plain_name (either is_digits is_quoted_name) (b ∷ bs ++ c ∷ more) ≡ false
  local_behind first true e h = local_digits e h
  local_behind first false e h = local_quoted first e h

  local_at : (x : Bool) → is_name_first b ≡ x → either is_plain_name (either is_digits is_quoted_name) (b ∷ bs) ≡ true → either is_plain_name (either is_digits is_quoted_name) (b ∷ bs ++ c ∷ more) ≡ false
  local_at true e h = local_plain e h
  local_at false e h =
      local_behind e (is_ascii_digit b) refl (or_second (is_plain_name (b ∷ bs)) (either is_digits is_quoted_name (b ∷ bs)) (one_no is_name_first (many is_name_byte ends) b bs e) h)

-- # Tokens

pub global_own : (n : List ℕ) (c : ℕ) (more : List ℕ) → Follows (c ∷ more) → spells Global (64 ∷ n) ≡ true → spells Global (64 ∷ n ++ c ∷ more) ≡ false
global_own [] c more f h = absurd (false≢true h)
global_own (b ∷ bs) c more f h = global_at b bs c more f (is_name_first b) refl h

pub global_other : (bs : List ℕ) (k : TokenKind) → IsOther Global k → spells k (64 ∷ bs) ≡ false
unfolding is_name_first is_word_first is_sign is_bracket
global_other bs Word e = refl
global_other bs Number e = refl
global_other bs Global e = absurd (true≢false e)
global_other bs Local e = refl
global_other bs Label e = refl
global_other bs Str e = refl
global_other bs Bytes e = refl
global_other bs Group e = refl
global_other bs Mark e = refl
global_other bs Sign e = refl

pub local_own : (n : List ℕ) (c : ℕ) (more : List ℕ) → Follows (c ∷ more) → spells Local (37 ∷ n) ≡ true → spells Local (37 ∷ n ++ c ∷ more) ≡ false
local_own [] c more f h = absurd (false≢true h)
local_own (b ∷ bs) c more f h = local_at b bs c more f (is_name_first b) refl h

pub local_other : (bs : List ℕ) (k : TokenKind) → IsOther Local k → spells k (37 ∷ bs) ≡ false
unfolding is_name_first is_word_first is_sign is_bracket
local_other bs Word e = refl
local_other bs Number e = refl
local_other bs Global e = refl
local_other bs Local e = absurd (true≢false e)
local_other bs Label e = refl
local_other bs Str e = refl
local_other bs Bytes e = refl
local_other bs Group e = refl
local_other bs Mark e = refl
local_other bs Sign e = refl

pub bytes_own : IsFinal (spells Bytes)
bytes_own = one_final (λ b. eqb b 99) (byte 34 (is_byte_content 0)) (one_final (λ b. eqb b 34) (is_byte_content 0) (content_final 0))

pub bytes_other : (bs : List ℕ) (k : TokenKind) → IsOther Bytes k → spells k (99 ∷ 34 ∷ bs) ≡ false
unfolding is_name_byte is_name_first is_word_first is_sign is_bracket
bytes_other bs Word e = refl
bytes_other bs Number e = refl
bytes_other bs Global e = refl
bytes_other bs Local e = refl
bytes_other bs Label e = refl
bytes_other bs Str e = refl
bytes_other bs Bytes e = absurd (true≢false e)
bytes_other bs Group e = refl
bytes_other bs Mark e = refl
bytes_other bs Sign e = refl

pub string_own : IsFinal (spells Str)
string_own = one_final (λ b. eqb b 34) (many is_string_byte (byte 34 ends)) (many_final is_string_byte (byte 34 ends) refl quote_final)

-- the content of a quoted name that a string has, and behind its quote no colon
string_content : (s tail : List ℕ) → many is_quotable ends s ≡ true → Follows tail → many is_quotable (byte 34 (byte 58 ends)) (s ++ 34 ∷ tail) ≡ false
unfolding is_quotable
string_content s tail h f = run_over is_quotable (byte 34 (byte 58 ends)) s (34 ∷ tail) h refl ∙ f.colon ends

string_label : (s tail : List ℕ) → many is_quotable ends s ≡ true → Follows tail → spells Label (34 ∷ (s ++ 34 ∷ tail)) ≡ false
unfolding is_name_first is_word_first is_quotable
string_label [] tail h f = refl
string_label (b ∷ bs) tail h f = go (is_quotable b) refl (string_content (b ∷ bs) tail h f)
  where
    rest : Bool
    rest = many is_quotable (byte 34 (byte 58 ends)) (bs ++ 34 ∷ tail)

    go : (x : Bool) → is_quotable b ≡ x → cond (is_quotable b) rest (byte 34 (byte 58 ends) (b ∷ bs ++ 34 ∷ tail)) ≡ false → (is_quotable b && rest) ≡ false
    go true e k = ap (λ x. x && rest) e ∙ (sym (ap (λ x. cond x rest (byte 34 (byte 58 ends) (b ∷ bs ++ 34 ∷ tail))) e) ∙ k)
    go false e k = ap (λ x. x && rest) e

pub string_other : (s tail : List ℕ) → many is_quotable ends s ≡ true → Follows tail → (k : TokenKind) → IsOther Str k → spells k (34 ∷ (s ++ 34 ∷ tail)) ≡ false
unfolding is_name_first is_word_first is_sign is_bracket
string_other s tail h f Word e = refl
string_other s tail h f Number e = refl
string_other s tail h f Global e = refl
string_other s tail h f Local e = refl
string_other s tail h f Label e = string_label s tail h f
string_other s tail h f Str e = absurd (true≢false e)
string_other s tail h f Bytes e = refl
string_other s tail h f Group e = refl
string_other s tail h f Mark e = refl
string_other s tail h f Sign e = refl
