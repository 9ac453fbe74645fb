-- Pieces of text that are closed by construction, so that they may stand in any order: no piece lengthens the token of the
-- one before it.
use Rattle.std.specs.Prelude.{◌≡◌, ℕ, List, [], ◌∷◌, ◌++◌, Option, Some, None}
use Rattle.std.specs.List.{flat_map}
use Rattle.std.proofs.Common.{refl, sym, ◌∙◌, ap, append_assoc}
use Rattle.ir_lex.specs.Tokens.{Token, Mark, Sign}
use Rattle.text_pieces.specs.declared.stop.Stop.{Stop}
use Rattle.text_pieces.specs.declared.stop.Stop.TheVariants as stops
use Rattle.text_pieces.specs.Written.{stop_text, written}

pub data Piece : Type 0 where
  -- a token, and what stands directly behind it
  Closed : Token → Stop → Piece
  -- a blank, the end of a line or a sign
  Alone : Stop → Piece
  -- an exclamation mark, behind which anything may stand
  Bang : Piece

-- the text of pieces
abbrev pub text_of : List Piece → List ℕ
text_of [] = []
text_of (Closed t stop ∷ ps) = written t ++ (stop_text stop ++ text_of ps)
text_of (Alone stop ∷ ps) = stop_text stop ++ text_of ps
text_of (Bang ∷ ps) = 33 ∷ text_of ps

-- the token that a stop is, in front of others; blanks and line ends are none
abbrev pub stop_before : Stop → List Token → List Token
stop_before stops.Space ts = ts
stop_before stops.Line ts = ts
stop_before stops.Comma ts = Sign 44 ∷ ts
stop_before stops.Equals ts = Sign 61 ∷ ts
stop_before stops.OpenParen ts = Sign 40 ∷ ts
stop_before stops.CloseParen ts = Sign 41 ∷ ts
stop_before stops.OpenBracket ts = Sign 91 ∷ ts
stop_before stops.CloseBracket ts = Sign 93 ∷ ts
stop_before stops.OpenBrace ts = Sign 123 ∷ ts
stop_before stops.CloseBrace ts = Sign 125 ∷ ts

-- the tokens of pieces, in front of others
abbrev pub tokens_before : List Piece → List Token → List Token
tokens_before [] others = others
tokens_before (Closed t stop ∷ ps) others = t ∷ stop_before stop (tokens_before ps others)
tokens_before (Alone stop ∷ ps) others = stop_before stop (tokens_before ps others)
tokens_before (Bang ∷ ps) others = Mark ∷ tokens_before ps others

-- # What stands one behind the other

pub text_append : (ps qs : List Piece) → text_of (ps ++ qs) ≡ text_of ps ++ text_of qs
text_append [] qs = refl
text_append (Closed t stop ∷ ps) qs =
    ap (λ us. written t ++ (stop_text stop ++ us)) (text_append ps qs)
    ∙ ap (λ us. written t ++ us) (sym (append_assoc (stop_text stop) (text_of ps) (text_of qs)))
    ∙ sym (append_assoc (written t) (stop_text stop ++ text_of ps) (text_of qs))
text_append (Alone stop ∷ ps) qs =
    ap (λ us. stop_text stop ++ us) (text_append ps qs) ∙ sym (append_assoc (stop_text stop) (text_of ps) (text_of qs))
text_append (Bang ∷ ps) qs = ap (λ us. 33 ∷ us) (text_append ps qs)

pub text_each : {A : Type 0} (pieces : A → List Piece) (xs : List A) → text_of (flat_map pieces xs) ≡ flat_map (λ x. text_of (pieces x)) xs
text_each pieces [] = refl
text_each pieces (x ∷ xs) = text_append (pieces x) (flat_map pieces xs) ∙ ap (λ us. text_of (pieces x) ++ us) (text_each pieces xs)

pub four_parts : (a b c d : List ℕ) → a ++ (b ++ (c ++ d)) ≡ a ++ b ++ c ++ d
four_parts a b c d = sym (append_assoc a b (c ++ d)) ∙ sym (append_assoc (a ++ b) c d)
