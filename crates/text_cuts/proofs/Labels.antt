-- Names of blocks with their colon.
use Rattle.std.proofs.Common.{◌≡◌, ℕ, Bool, true, false, ◌&&◌, ◌||◌, cond, eqb, List, [], ◌∷◌, ◌++◌, refl, sym, ap, ◌∙◌, subst}
use Rattle.std.specs.Char.{is_ascii_digit}
use Rattle.std.proofs.lemmas.Bool.{and_parts, false≢true, true≢false, eqb-true}
use Rattle.ir_tree.specs.Spelling.{is_word_first, is_name_first, is_name_byte, is_quotable}
use Rattle.ir_lex.specs.Classes.{is_string_byte, is_blank, is_bracket, is_sign}
use Rattle.ir_lex.specs.Spelling.{ends, one, byte, many, either, is_digits, is_plain_name, is_quoted_name, is_quoted_symbol, is_plain_label, is_digit_label, is_quoted_label, is_byte_content, spells}
use Rattle.ir_lex.specs.declared.token.TokenKind.{TokenKind}
use Rattle.ir_lex.specs.declared.token.TokenKind.TheVariants.{Word, Number, Global, Local, Label, Str, Bytes, Group, Mark, Sign}
use Rattle.text_cuts.proofs.Runs.{and_none, or_none, run_broken, not_first, IsFinal, ends_final, one_final, many_final}
use Rattle.text_cuts.proofs.Bytes.{first_apart, digit_apart, quotable_in_string}
use Rattle.text_cuts.proofs.Only.{Follows, IsOther, one_no, byte_no}
use Rattle.text_cuts.proofs.Names.{or_first, or_second}

colon_final : IsFinal (byte 58 ends)
colon_final = one_final (λ b. eqb b 58) ends ends_final

plain_final : IsFinal is_plain_label
plain_final = one_final is_name_first (many is_name_byte (byte 58 ends)) (many_final is_name_byte (byte 58 ends) refl colon_final)

digit_final : IsFinal is_digit_label
digit_final = one_final is_ascii_digit (many is_ascii_digit (byte 58 ends)) (many_final is_ascii_digit (byte 58 ends) refl colon_final)

quoted_rest : List ℕ → Bool
quoted_rest = one is_quotable (many is_quotable (byte 34 (byte 58 ends)))

behind_final : IsFinal (byte 34 (byte 58 ends))
behind_final = one_final (λ b. eqb b 34) (byte 58 ends) colon_final

quoted_label_final : IsFinal is_quoted_label
quoted_label_final =
    one_final (λ b. eqb b 34) (one is_quotable (many is_quotable (byte 34 (byte 58 ends))))
    (one_final is_quotable (many is_quotable (byte 34 (byte 58 ends))) (many_final is_quotable (byte 34 (byte 58 ends)) refl behind_final))

one_of_many : (class : ℕ → Bool) (bs : List ℕ) → many class ends bs ≡ false → one class (many class ends) bs ≡ false
one_of_many class [] h = refl
one_of_many class (b ∷ bs) h = go (class b) refl h
  where
    go : (x : Bool) → class b ≡ x → cond (class b) (many class ends bs) false ≡ false → (class b && many class ends bs) ≡ false
    go true e k = ap (λ x. x && many class ends bs) e ∙ (sym (ap (λ x. cond x (many class ends bs) false) e) ∙ k)
    go false e k = ap (λ x. x && many class ends bs) e

same_class : (class : ℕ → Bool) (b : ℕ) → class b ≡ true → class b ≡ true
same_class class b h = h

-- # Behind a first byte of a name

module _ (b : ℕ) (bs tail : List ℕ) (first : is_name_first b ≡ true) (run : many is_name_byte (byte 58 ends) bs ≡ true) (f : Follows tail) where
  digit_sub : (c : ℕ) → is_ascii_digit c ≡ true → is_name_byte c ≡ true
  unfolding is_name_byte
  digit_sub c h = go (is_name_first c)
    where
      go : (x : Bool) → (x || is_ascii_digit c) ≡ true
      go true = refl
      go false = h

  plain_number : spells Number (b ∷ bs ++ tail) ≡ false
  unfolding is_name_byte is_name_first is_word_first is_sign is_bracket
  plain_number =
      or_none (is_digits (b ∷ bs ++ tail)) (byte 45 is_digits (b ∷ bs ++ tail))
      (one_no is_ascii_digit (many is_ascii_digit ends) b (bs ++ tail) (first_apart is_ascii_digit refl b first))
      (and_none (eqb b 45) (is_digits (bs ++ tail)) (one_of_many is_ascii_digit (bs ++ tail) (run_broken is_ascii_digit is_name_byte digit_sub (byte 58 ends) refl bs tail run)))

  plain_bytes : spells Bytes (b ∷ bs ++ tail) ≡ false
  unfolding is_name_byte is_name_first is_word_first is_sign is_bracket
  plain_bytes =
      and_none (eqb b 99) (byte 34 (is_byte_content 0) (bs ++ tail))
      (not_first is_name_byte (byte 58 ends) 34 refl (λ _. refl) (is_byte_content 0) bs tail run (f.quote (is_byte_content 0)))

  plain_other : (k : TokenKind) → IsOther Label k → spells k (b ∷ bs ++ tail) ≡ false
  unfolding is_name_byte is_name_first is_word_first is_sign is_bracket
  plain_other Word e = and_none (is_word_first b) (many is_name_byte ends (bs ++ tail)) (run_broken is_name_byte is_name_byte (same_class is_name_byte) (byte 58 ends) refl bs tail run)
  plain_other Number e = plain_number
  plain_other Global e = byte_no 64 (either is_plain_name is_quoted_symbol) b (bs ++ tail) (first_apart (λ c. eqb c 64) refl b first)
  plain_other Local e = byte_no 37 (either is_plain_name (either is_digits is_quoted_name)) b (bs ++ tail) (first_apart (λ c. eqb c 37) refl b first)
  plain_other Label e = absurd (true≢false e)
  plain_other Str e = byte_no 34 (many is_string_byte (byte 34 ends)) b (bs ++ tail) (first_apart (λ c. eqb c 34) refl b first)
  plain_other Bytes e = plain_bytes
  plain_other Group e = byte_no 35 is_digits b (bs ++ tail) (first_apart (λ c. eqb c 35) refl b first)
  plain_other Mark e = byte_no 33 ends b (bs ++ tail) (first_apart (λ c. eqb c 33) refl b first)
  plain_other Sign e = one_no is_sign ends b (bs ++ tail) (first_apart is_sign refl b first)

-- # Behind a digit

module _ (b : ℕ) (bs tail : List ℕ) (first : is_ascii_digit b ≡ true) (run : many is_ascii_digit (byte 58 ends) bs ≡ true) where
  digit_other : (k : TokenKind) → IsOther Label k → spells k (b ∷ bs ++ tail) ≡ false
  unfolding is_name_byte is_name_first is_word_first is_sign is_bracket
  digit_other Word e = one_no is_word_first (many is_name_byte ends) b (bs ++ tail) (digit_apart is_word_first refl b first)
  digit_other Number e =
      or_none (is_digits (b ∷ bs ++ tail)) (byte 45 is_digits (b ∷ bs ++ tail))
      (and_none (is_ascii_digit b) (many is_ascii_digit ends (bs ++ tail)) (run_broken is_ascii_digit is_ascii_digit (same_class is_ascii_digit) (byte 58 ends) refl bs tail run))
      (byte_no 45 is_digits b (bs ++ tail) (digit_apart (λ c. eqb c 45) refl b first))
  digit_other Global e = byte_no 64 (either is_plain_name is_quoted_symbol) b (bs ++ tail) (digit_apart (λ c. eqb c 64) refl b first)
  digit_other Local e = byte_no 37 (either is_plain_name (either is_digits is_quoted_name)) b (bs ++ tail) (digit_apart (λ c. eqb c 37) refl b first)
  digit_other Label e = absurd (true≢false e)
  digit_other Str e = byte_no 34 (many is_string_byte (byte 34 ends)) b (bs ++ tail) (digit_apart (λ c. eqb c 34) refl b first)
  digit_other Bytes e = byte_no 99 (byte 34 (is_byte_content 0)) b (bs ++ tail) (digit_apart (λ c. eqb c 99) refl b first)
  digit_other Group e = byte_no 35 is_digits b (bs ++ tail) (digit_apart (λ c. eqb c 35) refl b first)
  digit_other Mark e = byte_no 33 ends b (bs ++ tail) (digit_apart (λ c. eqb c 33) refl b first)
  digit_other Sign e = one_no is_sign ends b (bs ++ tail) (digit_apart is_sign refl b first)

-- # Behind a quote

colon_last : (bs tail : List ℕ) → byte 58 ends bs ≡ true → ends (bs ++ tail) ≡ false
colon_last [] tail h = absurd (false≢true h)
colon_last (b ∷ bs) tail h = refl

quote_out : (c : ℕ) → c ≡ 34 → is_string_byte c ≡ false
unfolding is_string_byte
quote_out c e = ap (λ d. is_string_byte d) e

quoted_string : (bs tail : List ℕ) → many is_quotable (byte 34 (byte 58 ends)) bs ≡ true → many is_string_byte (byte 34 ends) (bs ++ tail) ≡ false
quoted_string [] tail h = absurd (false≢true h)
quoted_string (b ∷ bs) tail h = go (quoted_string bs tail) (is_quotable b) refl h
  where
    last : (x : Bool) → eqb b 34 ≡ x → (eqb b 34 && byte 58 ends bs) ≡ true → (eqb b 34 && ends (bs ++ tail)) ≡ false
    last true e k = and_none (eqb b 34) (ends (bs ++ tail)) (colon_last bs tail (and_parts (eqb b 34) (byte 58 ends bs) k).1)
    last false e k = ap (λ x. x && ends (bs ++ tail)) e

    go : (many is_quotable (byte 34 (byte 58 ends)) bs ≡ true → many is_string_byte (byte 34 ends) (bs ++ tail) ≡ false) → (x : Bool) → is_quotable b ≡ x → cond x (many is_quotable (byte 34 (byte 58 ends)) bs) (byte 34 (byte 58 ends) (b ∷ bs)) ≡ true → cond (is_string_byte b) (many is_string_byte (byte 34 ends) (bs ++ tail)) (byte 34 ends (b ∷ bs ++ tail)) ≡ false
    go later true e k = ap (λ x. cond x (many is_string_byte (byte 34 ends) (bs ++ tail)) (byte 34 ends (b ∷ bs ++ tail))) (quotable_in_string b e) ∙ later k
    go later false e k =
        ap (λ x. cond x (many is_string_byte (byte 34 ends) (bs ++ tail)) (byte 34 ends (b ∷ bs ++ tail))) (quote_out b (eqb-true b 34 (and_parts (eqb b 34) (byte 58 ends bs) k).0))
        ∙ last (eqb b 34) refl k

quoted_first : (bs tail : List ℕ) → one is_quotable (many is_quotable (byte 34 (byte 58 ends))) bs ≡ true → many is_string_byte (byte 34 ends) (bs ++ tail) ≡ false
quoted_first [] tail h = absurd (false≢true h)
quoted_first (b ∷ bs) tail h =
    let parts = and_parts (is_quotable b) (many is_quotable (byte 34 (byte 58 ends)) bs) h in
    ap (λ x. cond x (many is_string_byte (byte 34 ends) (bs ++ tail)) (byte 34 ends (b ∷ bs ++ tail))) (quotable_in_string b parts.0)
    ∙ quoted_string bs tail parts.1

quoted_other : (bs tail : List ℕ) → one is_quotable (many is_quotable (byte 34 (byte 58 ends))) bs ≡ true → (k : TokenKind) → IsOther Label k → spells k (34 ∷ (bs ++ tail)) ≡ false
unfolding is_name_first is_word_first is_sign is_bracket
quoted_other bs tail h Word e = refl
quoted_other bs tail h Number e = refl
quoted_other bs tail h Global e = refl
quoted_other bs tail h Local e = refl
quoted_other bs tail h Label e = absurd (true≢false e)
quoted_other bs tail h Str e = quoted_first bs tail h
quoted_other bs tail h Bytes e = refl
quoted_other bs tail h Group e = refl
quoted_other bs tail h Mark e = refl
quoted_other bs tail h Sign e = refl

-- # Any label

module _ (b : ℕ) (bs tail : List ℕ) (f : Follows tail) where
  behind_plain : is_name_first b ≡ true → spells Label (b ∷ bs) ≡ true → many is_name_byte (byte 58 ends) bs ≡ true
  unfolding is_name_byte is_name_first is_word_first is_sign is_bracket
  behind_plain first h =
      let others = or_none (is_digit_label (b ∷ bs)) (is_quoted_label (b ∷ bs)) (one_no is_ascii_digit (many is_ascii_digit (byte 58 ends)) b bs (first_apart is_ascii_digit refl b first)) (byte_no 34 (one is_quotable (many is_quotable (byte 34 (byte 58 ends)))) b bs (first_apart (λ d. eqb d 34) refl b first)) in
      (and_parts (is_name_first b) (many is_name_byte (byte 58 ends) bs) (or_first (is_plain_label (b ∷ bs)) (either is_digit_label is_quoted_label (b ∷ bs)) others h)).1

  behind_digit : is_ascii_digit b ≡ true → either is_digit_label is_quoted_label (b ∷ bs) ≡ true → many is_ascii_digit (byte 58 ends) bs ≡ true
  unfolding is_name_byte is_name_first is_word_first is_sign is_bracket
  behind_digit digit h =
      (and_parts (is_ascii_digit b) (many is_ascii_digit (byte 58 ends) bs) (or_first (is_digit_label (b ∷ bs)) (is_quoted_label (b ∷ bs)) (byte_no 34 (one is_quotable (many is_quotable (byte 34 (byte 58 ends)))) b bs (digit_apart (λ d. eqb d 34) refl b digit)) h)).1

  behind_quote : is_quoted_label (b ∷ bs) ≡ true → (k : TokenKind) → IsOther Label k → spells k (b ∷ bs ++ tail) ≡ false
  behind_quote h k e =
      let parts = and_parts (eqb b 34) (one is_quotable (many is_quotable (byte 34 (byte 58 ends))) bs) h in
      subst (λ c. spells k (c ∷ (bs ++ tail)) ≡ false) (sym (eqb-true b 34 parts.0)) (quoted_other bs tail parts.1 k e)

  label_behind : (x : Bool) → is_ascii_digit b ≡ x → either is_digit_label is_quoted_label (b ∷ bs) ≡ true → (k : TokenKind) → IsOther Label k → spells k (b ∷ bs ++ tail) ≡ false
  label_behind true digit h k e = digit_other b bs tail digit (behind_digit digit h) k e
  label_behind false digit h k e = behind_quote (or_second (is_digit_label (b ∷ bs)) (is_quoted_label (b ∷ bs)) (one_no is_ascii_digit (many is_ascii_digit (byte 58 ends)) b bs digit) h) k e

  label_at : (x : Bool) → is_name_first b ≡ x → spells Label (b ∷ bs) ≡ true → (k : TokenKind) → IsOther Label k → spells k (b ∷ bs ++ tail) ≡ false
  label_at true first h k e = plain_other b bs tail first (behind_plain first h) f k e
  label_at false first h k e = label_behind (is_ascii_digit b) refl (or_second (is_plain_label (b ∷ bs)) (either is_digit_label is_quoted_label (b ∷ bs)) (one_no is_name_first (many is_name_byte (byte 58 ends)) b bs first) h) k e

pub label_other : (bs tail : List ℕ) → Follows tail → spells Label bs ≡ true → (k : TokenKind) → IsOther Label k → spells k (bs ++ tail) ≡ false
label_other [] tail f h k e = absurd (false≢true h)
label_other (b ∷ bs) tail f h k e = label_at b bs tail f (is_name_first b) refl h k e

module _ (b : ℕ) (bs : List ℕ) (c : ℕ) (more : List ℕ) where
  own_plain : is_name_first b ≡ true → spells Label (b ∷ bs) ≡ true → spells Label (b ∷ bs ++ c ∷ more) ≡ false
  unfolding is_name_byte is_name_first is_word_first is_sign is_bracket
  own_plain first h =
      let no_digit = first_apart is_ascii_digit refl b first in
      let no_quote = first_apart (λ d. eqb d 34) refl b first in
      let others = or_none (is_digit_label (b ∷ bs)) (is_quoted_label (b ∷ bs)) (one_no is_ascii_digit (many is_ascii_digit (byte 58 ends)) b bs no_digit) (byte_no 34 (one is_quotable (many is_quotable (byte 34 (byte 58 ends)))) b bs no_quote) in
      or_none (is_plain_label (b ∷ bs ++ c ∷ more)) (either is_digit_label is_quoted_label (b ∷ bs ++ c ∷ more))
      (plain_final (b ∷ bs) c more (or_first (is_plain_label (b ∷ bs)) (either is_digit_label is_quoted_label (b ∷ bs)) others h))
      (or_none (is_digit_label (b ∷ bs ++ c ∷ more)) (is_quoted_label (b ∷ bs ++ c ∷ more))
      (one_no is_ascii_digit (many is_ascii_digit (byte 58 ends)) b (bs ++ c ∷ more) no_digit)
      (byte_no 34 (one is_quotable (many is_quotable (byte 34 (byte 58 ends)))) b (bs ++ c ∷ more) no_quote))

  own_digit : is_name_first b ≡ false → is_ascii_digit b ≡ true → either is_digit_label is_quoted_label (b ∷ bs) ≡ true → spells Label (b ∷ bs ++ c ∷ more) ≡ false
  unfolding is_name_byte is_name_first is_word_first is_sign is_bracket
  own_digit first digit h =
      let no_quote = digit_apart (λ d. eqb d 34) refl b digit in
      or_none (is_plain_label (b ∷ bs ++ c ∷ more)) (either is_digit_label is_quoted_label (b ∷ bs ++ c ∷ more))
      (one_no is_name_first (many is_name_byte (byte 58 ends)) b (bs ++ c ∷ more) first)
      (or_none (is_digit_label (b ∷ bs ++ c ∷ more)) (is_quoted_label (b ∷ bs ++ c ∷ more))
      (digit_final (b ∷ bs) c more (or_first (is_digit_label (b ∷ bs)) (is_quoted_label (b ∷ bs)) (byte_no 34 (one is_quotable (many is_quotable (byte 34 (byte 58 ends)))) b bs no_quote) h))
      (byte_no 34 (one is_quotable (many is_quotable (byte 34 (byte 58 ends)))) b (bs ++ c ∷ more) no_quote))

  own_quoted : is_name_first b ≡ false → is_ascii_digit b ≡ false → either is_digit_label is_quoted_label (b ∷ bs) ≡ true → spells Label (b ∷ bs ++ c ∷ more) ≡ false
  own_quoted first digit h =
      or_none (is_plain_label (b ∷ bs ++ c ∷ more)) (either is_digit_label is_quoted_label (b ∷ bs ++ c ∷ more))
      (one_no is_name_first (many is_name_byte (byte 58 ends)) b (bs ++ c ∷ more) first)
      (or_none (is_digit_label (b ∷ bs ++ c ∷ more)) (is_quoted_label (b ∷ bs ++ c ∷ more))
      (one_no is_ascii_digit (many is_ascii_digit (byte 58 ends)) b (bs ++ c ∷ more) digit)
      (quoted_label_final (b ∷ bs) c more (or_second (is_digit_label (b ∷ bs)) (is_quoted_label (b ∷ bs)) (one_no is_ascii_digit (many is_ascii_digit (byte 58 ends)) b bs digit) h)))

  own_behind : is_name_first b ≡ false → (x : Bool) → is_ascii_digit b ≡ x → either is_digit_label is_quoted_label (b ∷ bs) ≡ true → spells Label (b ∷ bs ++ c ∷ more) ≡ false
  own_behind first true e h = own_digit first e h
  own_behind first false e h = own_quoted first e h

  own_at : (x : Bool) → is_name_first b ≡ x → spells Label (b ∷ bs) ≡ true → spells Label (b ∷ bs ++ c ∷ more) ≡ false
  own_at true e h = own_plain e h
  own_at false e h = own_behind e (is_ascii_digit b) refl (or_second (is_plain_label (b ∷ bs)) (either is_digit_label is_quoted_label (b ∷ bs)) (one_no is_name_first (many is_name_byte (byte 58 ends)) b bs e) h)

pub label_own : IsFinal (spells Label)
label_own [] c more h = absurd (false≢true h)
label_own (b ∷ bs) c more h = own_at b bs c more (is_name_first b) refl h

-- # The first byte

begins_at : (b : ℕ) (bs : List ℕ) (x y : Bool) → is_name_first b ≡ x → is_ascii_digit b ≡ y → spells Label (b ∷ bs) ≡ true → (is_blank b ≡ false) × (eqb b 59 ≡ false)
unfolding is_name_byte is_name_first is_word_first is_blank
begins_at b bs true y first digit h = (first_apart is_blank refl b first, first_apart (λ d. eqb d 59) refl b first)
begins_at b bs false true first digit h = (digit_apart is_blank refl b digit, digit_apart (λ d. eqb d 59) refl b digit)
begins_at b bs false false first digit h =
    let behind = or_second (is_plain_label (b ∷ bs)) (either is_digit_label is_quoted_label (b ∷ bs)) (one_no is_name_first (many is_name_byte (byte 58 ends)) b bs first) h in
    let quoted = or_second (is_digit_label (b ∷ bs)) (is_quoted_label (b ∷ bs)) (one_no is_ascii_digit (many is_ascii_digit (byte 58 ends)) b bs digit) behind in
    let e = eqb-true b 34 (and_parts (eqb b 34) (one is_quotable (many is_quotable (byte 34 (byte 58 ends))) bs) quoted).0 in
    (ap is_blank e, ap (λ d. eqb d 59) e)

pub label_begins : (b : ℕ) (bs : List ℕ) → spells Label (b ∷ bs) ≡ true → (is_blank b ≡ false) × (eqb b 59 ≡ false)
label_begins b bs h = begins_at b bs (is_name_first b) (is_ascii_digit b) refl refl h
