use Rattle.std.specs.Prelude.{◌≡◌, ℕ, ◌<◌, ◌≤◌, true, List, length, take}
use Rattle.ir_lex.specs.declared.token.TokenKind.{TokenKind}
use Rattle.ir_lex.specs.Spelling.{spells, rank}
use Rattle.ir_lex.specs.Scan.{front}

-- Of the kinds before place `r` of the list of kinds, this one has the longest token at the front of the text, with n
-- bytes, and no kind before it has one as long. There is none where n is 0.
pub record IsBest (r : ℕ) (text : List ℕ) (kind : TokenKind) (n : ℕ) : Type 0 where
  pub within : n ≤ length text
  pub spelled : 0 < n → spells kind (take n text) ≡ true
  pub longest : (k : TokenKind) → rank k < r → front k text ≤ n
  pub first : (k : TokenKind) → rank k < rank kind → front k text < n
