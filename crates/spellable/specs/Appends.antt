-- Pieces that stand one behind the other.
use Rattle.std.specs.Prelude.{◌≡◌, true, ◌&&◌, List, [], ◌∷◌, ◌++◌}
use Rattle.std.proofs.Common.{refl, ap, ◌∙◌}
use Rattle.std.proofs.lemmas.Bool.{and_parts}
use Rattle.ir_lex.specs.Tokens.{Mark}
use Rattle.ir_grammar.specs.Words.{Tokens}
use Rattle.text_pieces.specs.Pieces.{Piece, Closed, Alone, Bang, stop_before, tokens_before}
use Rattle.text_cuts.specs.Cut.{can_write, can_write_all}

pub tokens_append : (ps qs : List Piece) (others : Tokens) → tokens_before (ps ++ qs) others ≡ tokens_before ps (tokens_before qs others)
tokens_append [] qs others = refl
tokens_append (Closed t stop ∷ ps) qs others = ap (λ ts. t ∷ stop_before stop ts) (tokens_append ps qs others)
tokens_append (Alone stop ∷ ps) qs others = ap (stop_before stop) (tokens_append ps qs others)
tokens_append (Bang ∷ ps) qs others = ap (λ ts. Mark ∷ ts) (tokens_append ps qs others)

pub writes_append : (ps qs : List Piece) → can_write_all ps ≡ true → can_write_all qs ≡ true → can_write_all (ps ++ qs) ≡ true
writes_append [] qs h k = k
writes_append (Closed t stop ∷ ps) qs h k =
    let parts = and_parts (can_write t) (can_write_all ps) h in ap (λ b. b && can_write_all (ps ++ qs)) parts.0 ∙ writes_append ps qs parts.1 k
writes_append (Alone stop ∷ ps) qs h k = writes_append ps qs h k
writes_append (Bang ∷ ps) qs h k = writes_append ps qs h k
