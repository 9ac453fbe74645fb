-- The text of pieces is cut into their tokens.
use Rattle.std.proofs.Common.{◌≡◌, ℕ, zero, suc, ◌<◌, ◌≤◌, true, false, ◌&&◌, ◌||◌, cond, eqb, List, [], ◌∷◌, ◌++◌, length, take, drop, refl, sym, ap, ◌∙◌, subst, arith}
use Rattle.std.specs.Char.{is_ascii_digit}
use Rattle.std.proofs.Math.Seq.{take-append_seam, drop-append_seam}
use Rattle.std.proofs.lemmas.Bool.{and_parts, true≢false, ne_eqb}
use Rattle.ir_tree.specs.Spelling.{is_word_first, is_name_first, is_name_byte, is_quotable}
use Rattle.ir_lex.specs.Classes.{is_blank, is_string_byte, is_bracket, is_sign}
use Rattle.ir_lex.specs.Spelling.{ends, one, byte, many, either, is_digits, is_plain_name, is_quoted_name, is_quoted_symbol, is_byte_content, spells, rank, after_gap, IsLongest}
use Rattle.ir_lex.specs.declared.token.TokenKind.{TokenKind}
use Rattle.ir_lex.specs.declared.token.TokenKind.TheVariants.{Word, Number, Global, Local, Label, Str, Bytes, Group, Mark, Sign}
use Rattle.ir_lex.specs.Tokens as token
use Rattle.ir_lex.specs.Tokens.{Token}
use Rattle.ir_lex.specs.Meaning.{meaning, Lexes}
use Rattle.text_pieces.specs.declared.stop.Stop.{Stop}
use Rattle.text_pieces.specs.declared.stop.Stop.TheVariants as stops
use Rattle.text_pieces.specs.Written.{written, stop_text}
use Rattle.text_pieces.specs.Pieces.{Closed, Alone, Bang, text_of, stop_before, tokens_before}
use Rattle.text_cuts.specs.Cut.{kind_of, can_write, can_write_all, PiecesAreCut}
use Rattle.text_cuts.proofs.Only.{IsOther}
use Rattle.text_cuts.proofs.Longest.{Stops, token_is, token_longest}
use Rattle.text_cuts.proofs.Meanings.{written_means}

-- # Blanks

space : (text : List ℕ) (ts : List Token) → Lexes text ts → Lexes (32 ∷ text) ts
unfolding is_blank
space text [] h = h
space text (t ∷ ts) h = h

line : (text : List ℕ) (ts : List Token) → Lexes text ts → Lexes (10 ∷ text) ts
unfolding is_blank
line text [] h = h
line text (t ∷ ts) h = h

-- # Signs and marks

-- a byte that is a sign, and begins no token of another kind
record SignByte (b : ℕ) : Type 0 where
  first : is_name_first b ≡ false
  word : is_word_first b ≡ false
  digit : is_ascii_digit b ≡ false
  at : eqb b 64 ≡ false
  percent : eqb b 37 ≡ false
  quote : eqb b 34 ≡ false
  letter : eqb b 99 ≡ false
  hash : eqb b 35 ≡ false
  bang : eqb b 33 ≡ false
  minus : eqb b 45 ≡ false
  is : is_sign b ≡ true
  blank : is_blank b ≡ false
  comment : eqb b 59 ≡ false

module _ (b : ℕ) (s : SignByte b) (text : List ℕ) where
  no_label : (bs : List ℕ) → spells Label (b ∷ bs) ≡ false
  no_label bs =
      ap (λ x. (x && many is_name_byte (byte 58 ends) bs) || ((is_ascii_digit b && many is_ascii_digit (byte 58 ends) bs) || (eqb b 34 && one is_quotable (many is_quotable (byte 34 (byte 58 ends))) bs))) s.first
      ∙ ap (λ x. (x && many is_ascii_digit (byte 58 ends) bs) || (eqb b 34 && one is_quotable (many is_quotable (byte 34 (byte 58 ends))) bs)) s.digit
      ∙ ap (λ x. x && one is_quotable (many is_quotable (byte 34 (byte 58 ends))) bs) s.quote

  other_none : (bs : List ℕ) (k : TokenKind) → IsOther Sign k → spells k (b ∷ bs) ≡ false
  other_none bs Word e = ap (λ x. x && many is_name_byte ends bs) s.word
  other_none bs Number e =
      ap (λ x. (x && many is_ascii_digit ends bs) || (eqb b 45 && is_digits bs)) s.digit ∙ ap (λ x. x && is_digits bs) s.minus
  other_none bs Global e = ap (λ x. x && either is_plain_name is_quoted_symbol bs) s.at
  other_none bs Local e = ap (λ x. x && either is_plain_name (either is_digits is_quoted_name) bs) s.percent
  other_none bs Label e = no_label bs
  other_none bs Str e = ap (λ x. x && many is_string_byte (byte 34 ends) bs) s.quote
  other_none bs Bytes e = ap (λ x. x && byte 34 (is_byte_content 0) bs) s.letter
  other_none bs Group e = ap (λ x. x && is_digits bs) s.hash
  other_none bs Mark e = ap (λ x. x && ends bs) s.bang
  other_none bs Sign e = absurd (true≢false e)

  own_none : (m : ℕ) → suc (suc m) ≤ length (b ∷ text) → spells Sign (take (suc (suc m)) (b ∷ text)) ≡ false
  own_none m within = go text within
    where
      go : (bs : List ℕ) → suc (suc m) ≤ length (b ∷ bs) → (is_sign b && ends (take (suc m) bs)) ≡ false
      go [] h = absurd (omega arith)
      go (c ∷ bs) h = ap (λ x. x && false) s.is

  longer_none : (k : TokenKind) (m : ℕ) → 1 < m → m ≤ length (b ∷ text) → spells k (take m (b ∷ text)) ≡ false
  longer_none k zero over within = absurd (omega arith)
  longer_none k (suc zero) over within = absurd (omega arith)
  longer_none k (suc (suc m)) over within = go k
    where
      go : (j : TokenKind) → spells j (b ∷ take (suc m) text) ≡ false
      go Word = other_none (take (suc m) text) Word refl
      go Number = other_none (take (suc m) text) Number refl
      go Global = other_none (take (suc m) text) Global refl
      go Local = other_none (take (suc m) text) Local refl
      go Label = other_none (take (suc m) text) Label refl
      go Str = other_none (take (suc m) text) Str refl
      go Bytes = other_none (take (suc m) text) Bytes refl
      go Group = other_none (take (suc m) text) Group refl
      go Mark = other_none (take (suc m) text) Mark refl
      go Sign = own_none m within

  sign_longest : IsLongest (b ∷ text) Sign 1
  sign_longest = record {
    some = omega arith;
    within = omega arith;
    spelled = ap (λ x. x && true) s.is;
    none_longer = longer_none;
    first = λ k below. other_none [] k (ne_eqb (rank k) 9 (λ e. let same : rank k ≡ 9 = e in omega arith));
  }

  sign_gap : after_gap false (b ∷ text) ≡ b ∷ text
  sign_gap =
      ap (λ x. cond x (after_gap false text) (cond (eqb b 59) (after_gap true text) (b ∷ text))) s.blank
      ∙ ap (λ x. cond x (after_gap true text) (b ∷ text)) s.comment

  sign : (ts : List Token) → Lexes text ts → Lexes (b ∷ text) (token.Sign b ∷ ts)
  sign ts h =
      subst (λ a. (kind : TokenKind) × ((n : ℕ) × (IsLongest a kind n × (token.Sign b ≡ meaning kind (take n a)) × Lexes (drop n a) ts))) (sym sign_gap)
      (Sign, (1, (sign_longest, refl, h)))

-- the signs among stops
comma : SignByte 44
unfolding is_name_first is_word_first is_sign is_bracket is_blank
comma = record { first = refl; word = refl; digit = refl; at = refl; percent = refl; quote = refl; letter = refl; hash = refl; bang = refl; minus = refl; is = refl; blank = refl; comment = refl }

equals : SignByte 61
unfolding is_name_first is_word_first is_sign is_bracket is_blank
equals = record { first = refl; word = refl; digit = refl; at = refl; percent = refl; quote = refl; letter = refl; hash = refl; bang = refl; minus = refl; is = refl; blank = refl; comment = refl }

open_paren : SignByte 40
unfolding is_name_first is_word_first is_sign is_bracket is_blank
open_paren = record { first = refl; word = refl; digit = refl; at = refl; percent = refl; quote = refl; letter = refl; hash = refl; bang = refl; minus = refl; is = refl; blank = refl; comment = refl }

close_paren : SignByte 41
unfolding is_name_first is_word_first is_sign is_bracket is_blank
close_paren = record { first = refl; word = refl; digit = refl; at = refl; percent = refl; quote = refl; letter = refl; hash = refl; bang = refl; minus = refl; is = refl; blank = refl; comment = refl }

open_bracket : SignByte 91
unfolding is_name_first is_word_first is_sign is_bracket is_blank
open_bracket = record { first = refl; word = refl; digit = refl; at = refl; percent = refl; quote = refl; letter = refl; hash = refl; bang = refl; minus = refl; is = refl; blank = refl; comment = refl }

close_bracket : SignByte 93
unfolding is_name_first is_word_first is_sign is_bracket is_blank
close_bracket = record { first = refl; word = refl; digit = refl; at = refl; percent = refl; quote = refl; letter = refl; hash = refl; bang = refl; minus = refl; is = refl; blank = refl; comment = refl }

open_brace : SignByte 123
unfolding is_name_first is_word_first is_sign is_bracket is_blank
open_brace = record { first = refl; word = refl; digit = refl; at = refl; percent = refl; quote = refl; letter = refl; hash = refl; bang = refl; minus = refl; is = refl; blank = refl; comment = refl }

close_brace : SignByte 125
unfolding is_name_first is_word_first is_sign is_bracket is_blank
close_brace = record { first = refl; word = refl; digit = refl; at = refl; percent = refl; quote = refl; letter = refl; hash = refl; bang = refl; minus = refl; is = refl; blank = refl; comment = refl }

lexes_stop : (stop : Stop) (text : List ℕ) (ts : List Token) → Lexes text ts → Lexes (stop_text stop ++ text) (stop_before stop ts)
lexes_stop stops.Space text ts h = space text ts h
lexes_stop stops.Line text ts h = line text ts h
lexes_stop stops.Comma text ts h = sign 44 comma (32 ∷ text) ts (space text ts h)
lexes_stop stops.Equals text ts h = sign 61 equals (32 ∷ text) ts (space text ts h)
lexes_stop stops.OpenParen text ts h = sign 40 open_paren text ts h
lexes_stop stops.CloseParen text ts h = sign 41 close_paren text ts h
lexes_stop stops.OpenBracket text ts h = sign 91 open_bracket text ts h
lexes_stop stops.CloseBracket text ts h = sign 93 close_bracket text ts h
lexes_stop stops.OpenBrace text ts h = sign 123 open_brace text ts h
lexes_stop stops.CloseBrace text ts h = sign 125 close_brace text ts h

-- # The mark

mark_none : (text : List ℕ) (k : TokenKind) (m : ℕ) → suc (suc m) ≤ length (33 ∷ text) → spells k (33 ∷ take (suc m) text) ≡ false
unfolding is_name_first is_word_first is_sign is_bracket
mark_none text Word m h = refl
mark_none text Number m h = refl
mark_none text Global m h = refl
mark_none text Local m h = refl
mark_none text Label m h = refl
mark_none text Str m h = refl
mark_none text Bytes m h = refl
mark_none text Group m h = refl
mark_none [] Mark m h = absurd (omega arith)
mark_none (c ∷ text) Mark m h = refl
mark_none text Sign m h = refl

mark_longer : (text : List ℕ) (k : TokenKind) (m : ℕ) → 1 < m → m ≤ length (33 ∷ text) → spells k (take m (33 ∷ text)) ≡ false
mark_longer text k zero over within = absurd (omega arith)
mark_longer text k (suc zero) over within = absurd (omega arith)
mark_longer text k (suc (suc m)) over within = mark_none text k m within

mark_first : (text : List ℕ) (k : TokenKind) → rank k < 8 → spells k (take 1 (33 ∷ text)) ≡ false
unfolding is_name_first is_word_first
mark_first text Word h = refl
mark_first text Number h = refl
mark_first text Global h = refl
mark_first text Local h = refl
mark_first text Label h = refl
mark_first text Str h = refl
mark_first text Bytes h = refl
mark_first text Group h = refl
mark_first text Mark h = absurd (omega arith)
mark_first text Sign h = absurd (omega arith)

mark : (text : List ℕ) (ts : List Token) → Lexes text ts → Lexes (33 ∷ text) (token.Mark ∷ ts)
unfolding is_blank
mark text ts h =
    (Mark, (1, (record { some = omega arith; within = omega arith; spelled = refl; none_longer = mark_longer text; first = mark_first text }, refl, h)))

-- # Tokens

lexes_token : (t : Token) (c : ℕ) (rest : List ℕ) (ts : List Token) → can_write t ≡ true → Stops c → Lexes (c ∷ rest) ts → Lexes (written t ++ c ∷ rest) (t ∷ ts)
lexes_token t c rest ts can stop h =
    let is = token_is t can in
    let w = written t in
    subst (λ a. (kind : TokenKind) × ((n : ℕ) × (IsLongest a kind n × (t ≡ meaning kind (take n a)) × Lexes (drop n a) ts))) (sym (is.gap (c ∷ rest))) (
      kind_of t,
      (
        length w,
        (
          token_longest (kind_of t) w is c stop rest,
          sym (ap (meaning (kind_of t)) (take-append_seam w (c ∷ rest)) ∙ written_means t can),
          subst (λ a. Lexes a ts) (sym (drop-append_seam w (c ∷ rest))) h,
        ),
      ),
    )

-- the first byte of a stop
record Begins (stop : Stop) : Type 0 where
  byte_of : ℕ
  more : List ℕ
  same : stop_text stop ≡ byte_of ∷ more
  ending : Stops byte_of

begins : (stop : Stop) → Begins stop
unfolding is_name_byte is_name_first is_word_first
begins stops.Space = record { byte_of = 32; more = []; same = refl; ending = record { name = refl; digit = refl; colon = refl; quote = refl } }
begins stops.Line = record { byte_of = 10; more = []; same = refl; ending = record { name = refl; digit = refl; colon = refl; quote = refl } }
begins stops.Comma = record { byte_of = 44; more = 32 ∷ []; same = refl; ending = record { name = refl; digit = refl; colon = refl; quote = refl } }
begins stops.Equals = record { byte_of = 61; more = 32 ∷ []; same = refl; ending = record { name = refl; digit = refl; colon = refl; quote = refl } }
begins stops.OpenParen = record { byte_of = 40; more = []; same = refl; ending = record { name = refl; digit = refl; colon = refl; quote = refl } }
begins stops.CloseParen = record { byte_of = 41; more = []; same = refl; ending = record { name = refl; digit = refl; colon = refl; quote = refl } }
begins stops.OpenBracket = record { byte_of = 91; more = []; same = refl; ending = record { name = refl; digit = refl; colon = refl; quote = refl } }
begins stops.CloseBracket = record { byte_of = 93; more = []; same = refl; ending = record { name = refl; digit = refl; colon = refl; quote = refl } }
begins stops.OpenBrace = record { byte_of = 123; more = []; same = refl; ending = record { name = refl; digit = refl; colon = refl; quote = refl } }
begins stops.CloseBrace = record { byte_of = 125; more = []; same = refl; ending = record { name = refl; digit = refl; colon = refl; quote = refl } }

closed : (t : Token) (stop : Stop) (rest : List ℕ) (ts : List Token) → can_write t ≡ true → Lexes (stop_text stop ++ rest) ts → Lexes (written t ++ (stop_text stop ++ rest)) (t ∷ ts)
closed t stop rest ts can h =
    let b = begins stop in
    subst (λ s. Lexes (written t ++ (s ++ rest)) (t ∷ ts)) (sym b.same)
    (lexes_token t b.byte_of (b.more ++ rest) ts can b.ending (subst (λ s. Lexes (s ++ rest) ts) b.same h))

-- # Pieces

pub cut_pieces : PiecesAreCut
cut_pieces [] h = refl
cut_pieces (Closed t stop ∷ ps) h =
    let parts = and_parts (can_write t) (can_write_all ps) h in
    closed t stop (text_of ps) (stop_before stop (tokens_before ps [])) parts.0
    (lexes_stop stop (text_of ps) (tokens_before ps []) (cut_pieces ps parts.1))
cut_pieces (Alone stop ∷ ps) h = lexes_stop stop (text_of ps) (tokens_before ps []) (cut_pieces ps h)
cut_pieces (Bang ∷ ps) h = mark (text_of ps) (tokens_before ps []) (cut_pieces ps h)
