-- A token with something behind it that ends it is a token of no other kind, and no longer one of its own.
use Rattle.std.proofs.Common.{◌≡◌, ℕ, Bool, true, false, ◌&&◌, cond, eqb, List, [], ◌∷◌, ◌++◌, refl, ap, ◌∙◌}
use Rattle.std.specs.Char.{is_ascii_digit}
use Rattle.std.proofs.lemmas.Bool.{true≢false}
use Rattle.ir_tree.specs.Spelling.{is_word_first, is_name_first, is_name_byte, is_quotable}
use Rattle.ir_lex.specs.Classes.{is_string_byte, is_bracket, is_sign}
use Rattle.ir_lex.specs.Spelling.{ends, one, byte, many, either, is_digits, is_plain_name, is_quoted_name, is_quoted_symbol, is_plain_label, is_digit_label, is_quoted_label, is_byte_content, spells, rank}
use Rattle.ir_lex.specs.declared.token.TokenKind.{TokenKind}
use Rattle.ir_lex.specs.declared.token.TokenKind.TheVariants.{Word, Number, Global, Local, Label, Str, Bytes, Group, Mark, Sign}
use Rattle.text_cuts.proofs.Runs.{and_none, or_none, run_over, run_wider, not_first}
use Rattle.text_cuts.proofs.Bytes.{word_apart, digit_apart, digit_in_name}

-- what stands behind a token ends it: no byte of a name, no digit, colon or quote
pub record Follows (tail : List ℕ) : Type 0 where
  pub name : (rest : List ℕ → Bool) → many is_name_byte rest tail ≡ rest tail
  pub digit : (rest : List ℕ → Bool) → many is_ascii_digit rest tail ≡ rest tail
  pub colon : (rest : List ℕ → Bool) → byte 58 rest tail ≡ false
  pub quote : (rest : List ℕ → Bool) → byte 34 rest tail ≡ false

pub nothing_follows : Follows []
nothing_follows = record { name = λ rest. refl; digit = λ rest. refl; colon = λ rest. refl; quote = λ rest. refl }

pub one_no : (class : ℕ → Bool) (rest : List ℕ → Bool) (b : ℕ) (bs : List ℕ) → class b ≡ false → one class rest (b ∷ bs) ≡ false
one_no class rest b bs e = ap (λ x. x && rest bs) e

pub byte_no : (c : ℕ) (rest : List ℕ → Bool) (b : ℕ) (bs : List ℕ) → eqb b c ≡ false → byte c rest (b ∷ bs) ≡ false
byte_no c rest b bs e = ap (λ x. x && rest bs) e

-- no other kind has such a token
abbrev pub IsOther : TokenKind → TokenKind → Type 0
IsOther kind k = eqb (rank k) (rank kind) ≡ false

-- # Words

module _ (b : ℕ) (bs : List ℕ) (first : is_word_first b ≡ true) (run : many is_name_byte ends bs ≡ true) where
  word_label : (tail : List ℕ) → Follows tail → spells Label (b ∷ bs ++ tail) ≡ false
  unfolding is_name_byte is_name_first is_word_first is_sign is_bracket
  word_label tail f =
      or_none (is_plain_label (b ∷ bs ++ tail)) (either is_digit_label is_quoted_label (b ∷ bs ++ tail))
      (and_none (is_name_first b) (many is_name_byte (byte 58 ends) (bs ++ tail)) (run_over is_name_byte (byte 58 ends) bs tail run (f.name (byte 58 ends)) ∙ f.colon ends))
      (or_none (is_digit_label (b ∷ bs ++ tail)) (is_quoted_label (b ∷ bs ++ tail))
      (one_no is_ascii_digit (many is_ascii_digit (byte 58 ends)) b (bs ++ tail) (word_apart is_ascii_digit refl b first))
      (byte_no 34 (one is_quotable (many is_quotable (byte 34 (byte 58 ends)))) b (bs ++ tail) (word_apart (λ c. eqb c 34) refl b first)))

  word_bytes : (tail : List ℕ) → Follows tail → spells Bytes (b ∷ bs ++ tail) ≡ false
  unfolding is_name_byte is_name_first is_word_first is_sign is_bracket
  word_bytes tail f =
      and_none (eqb b 99) (byte 34 (is_byte_content 0) (bs ++ tail))
      (not_first is_name_byte ends 34 refl (λ _. refl) (is_byte_content 0) bs tail run (f.quote (is_byte_content 0)))

  pub word_other : (tail : List ℕ) → Follows tail → (k : TokenKind) → IsOther Word k → spells k (b ∷ bs ++ tail) ≡ false
  unfolding is_name_byte is_name_first is_word_first is_sign is_bracket
  word_other tail f Word e = absurd (true≢false e)
  word_other tail f Number e =
      or_none (is_digits (b ∷ bs ++ tail)) (byte 45 is_digits (b ∷ bs ++ tail))
      (one_no is_ascii_digit (many is_ascii_digit ends) b (bs ++ tail) (word_apart is_ascii_digit refl b first))
      (byte_no 45 is_digits b (bs ++ tail) (word_apart (λ c. eqb c 45) refl b first))
  word_other tail f Global e = byte_no 64 (either is_plain_name is_quoted_symbol) b (bs ++ tail) (word_apart (λ c. eqb c 64) refl b first)
  word_other tail f Local e = byte_no 37 (either is_plain_name (either is_digits is_quoted_name)) b (bs ++ tail) (word_apart (λ c. eqb c 37) refl b first)
  word_other tail f Label e = word_label tail f
  word_other tail f Str e = byte_no 34 (many is_string_byte (byte 34 ends)) b (bs ++ tail) (word_apart (λ c. eqb c 34) refl b first)
  word_other tail f Bytes e = word_bytes tail f
  word_other tail f Group e = byte_no 35 is_digits b (bs ++ tail) (word_apart (λ c. eqb c 35) refl b first)
  word_other tail f Mark e = byte_no 33 ends b (bs ++ tail) (word_apart (λ c. eqb c 33) refl b first)
  word_other tail f Sign e = one_no is_sign ends b (bs ++ tail) (word_apart is_sign refl b first)

  pub word_own : (c : ℕ) (more : List ℕ) → Follows (c ∷ more) → spells Word (b ∷ bs ++ c ∷ more) ≡ false
  word_own c more f = and_none (is_word_first b) (many is_name_byte ends (bs ++ c ∷ more)) (run_over is_name_byte ends bs (c ∷ more) run (f.name ends))

-- # Numbers

module _ (b : ℕ) (bs : List ℕ) (first : is_ascii_digit b ≡ true) (run : many is_ascii_digit ends bs ≡ true) where
  digits_label : (tail : List ℕ) → Follows tail → spells Label (b ∷ bs ++ tail) ≡ false
  unfolding is_name_byte is_name_first is_word_first is_sign is_bracket
  digits_label tail f =
      or_none (is_plain_label (b ∷ bs ++ tail)) (either is_digit_label is_quoted_label (b ∷ bs ++ tail))
      (one_no is_name_first (many is_name_byte (byte 58 ends)) b (bs ++ tail) (digit_apart is_name_first refl b first))
      (or_none (is_digit_label (b ∷ bs ++ tail)) (is_quoted_label (b ∷ bs ++ tail))
      (and_none (is_ascii_digit b) (many is_ascii_digit (byte 58 ends) (bs ++ tail)) (run_over is_ascii_digit (byte 58 ends) bs tail run (f.digit (byte 58 ends)) ∙ f.colon ends))
      (byte_no 34 (one is_quotable (many is_quotable (byte 34 (byte 58 ends)))) b (bs ++ tail) (digit_apart (λ c. eqb c 34) refl b first)))

  pub digits_other : (tail : List ℕ) → Follows tail → (k : TokenKind) → IsOther Number k → spells k (b ∷ bs ++ tail) ≡ false
  unfolding is_name_byte is_name_first is_word_first is_sign is_bracket
  digits_other tail f Word e = one_no is_word_first (many is_name_byte ends) b (bs ++ tail) (digit_apart is_word_first refl b first)
  digits_other tail f Number e = absurd (true≢false e)
  digits_other tail f Global e = byte_no 64 (either is_plain_name is_quoted_symbol) b (bs ++ tail) (digit_apart (λ c. eqb c 64) refl b first)
  digits_other tail f Local e = byte_no 37 (either is_plain_name (either is_digits is_quoted_name)) b (bs ++ tail) (digit_apart (λ c. eqb c 37) refl b first)
  digits_other tail f Label e = digits_label tail f
  digits_other tail f Str e = byte_no 34 (many is_string_byte (byte 34 ends)) b (bs ++ tail) (digit_apart (λ c. eqb c 34) refl b first)
  digits_other tail f Bytes e = byte_no 99 (byte 34 (is_byte_content 0)) b (bs ++ tail) (digit_apart (λ c. eqb c 99) refl b first)
  digits_other tail f Group e = byte_no 35 is_digits b (bs ++ tail) (digit_apart (λ c. eqb c 35) refl b first)
  digits_other tail f Mark e = byte_no 33 ends b (bs ++ tail) (digit_apart (λ c. eqb c 33) refl b first)
  digits_other tail f Sign e = one_no is_sign ends b (bs ++ tail) (digit_apart is_sign refl b first)

  pub digits_longer : (c : ℕ) (more : List ℕ) → Follows (c ∷ more) → is_digits (b ∷ bs ++ c ∷ more) ≡ false
  digits_longer c more f = and_none (is_ascii_digit b) (many is_ascii_digit ends (bs ++ c ∷ more)) (run_over is_ascii_digit ends bs (c ∷ more) run (f.digit ends))

  pub digits_own : (c : ℕ) (more : List ℕ) → Follows (c ∷ more) → spells Number (b ∷ bs ++ c ∷ more) ≡ false
  unfolding is_name_byte is_name_first is_word_first is_sign is_bracket
  digits_own c more f =
      or_none (is_digits (b ∷ bs ++ c ∷ more)) (byte 45 is_digits (b ∷ bs ++ c ∷ more)) (digits_longer c more f)
      (byte_no 45 is_digits b (bs ++ c ∷ more) (digit_apart (λ d. eqb d 45) refl b first))

  -- behind a minus sign
  all_names : many is_name_byte ends (b ∷ bs) ≡ true
  all_names = ap (λ x. cond x (many is_name_byte ends bs) false) (digit_in_name b first) ∙ run_wider is_ascii_digit is_name_byte digit_in_name bs run

  negative_label : (tail : List ℕ) → Follows tail → spells Label (45 ∷ b ∷ bs ++ tail) ≡ false
  unfolding is_name_first is_word_first
  negative_label tail f =
      or_none (is_plain_label (45 ∷ b ∷ bs ++ tail)) (either is_digit_label is_quoted_label (45 ∷ b ∷ bs ++ tail))
      (run_over is_name_byte (byte 58 ends) (b ∷ bs) tail all_names (f.name (byte 58 ends)) ∙ f.colon ends)
      refl

  pub negative_other : (tail : List ℕ) → Follows tail → (k : TokenKind) → IsOther Number k → spells k (45 ∷ b ∷ bs ++ tail) ≡ false
  unfolding is_word_first is_sign is_bracket
  negative_other tail f Word e = refl
  negative_other tail f Number e = absurd (true≢false e)
  negative_other tail f Global e = refl
  negative_other tail f Local e = refl
  negative_other tail f Label e = negative_label tail f
  negative_other tail f Str e = refl
  negative_other tail f Bytes e = refl
  negative_other tail f Group e = refl
  negative_other tail f Mark e = refl
  negative_other tail f Sign e = refl

  pub negative_own : (c : ℕ) (more : List ℕ) → Follows (c ∷ more) → spells Number (45 ∷ b ∷ bs ++ c ∷ more) ≡ false
  negative_own c more f = digits_longer c more f
