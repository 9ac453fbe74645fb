use Rattle.std.specs.Prelude.{◌≡◌, ℕ, ◌-◌, ◌<◌, ◌≤◌, List, [], length, drop, slice_range, false, None}
use Rattle.ir_lex.specs.declared.token.TokenKind.{TokenKind}
use Rattle.ir_lex.specs.Spelling.{after_gap, NoneLonger, IsLongest}
use Rattle.ir_lex.specs.Scan.{plain_label_rest}

-- a text, and how far it was read
pub record Place : Type 0 where
  pub text : List ℕ
  pub at : ℕ

-- Behind blanks and comments, the next token has this kind, stands from `start` to `end`, and has these bytes.
pub record IsNext (place : Place) (kind : TokenKind) (start end : ℕ) (bytes : List ℕ) : Type 0 where
  pub rises : place.at ≤ start
  pub nonempty : start < end
  pub within : end ≤ length place.text
  pub behind_gap : drop start place.text ≡ after_gap false (drop place.at place.text)
  pub longest : IsLongest (drop start place.text) kind (end - start)
  pub slice : bytes ≡ slice_range place.text start end

-- only blanks and comments are left
abbrev pub IsAtEnd : Place → Type 0
IsAtEnd place = after_gap false (drop place.at place.text) ≡ []

-- Behind blanks and comments, at this place, there are bytes, and they begin with no token.
pub record NothingNext (place : Place) (at : ℕ) : Type 0 where
  pub rises : place.at ≤ at
  pub within : at < length place.text
  pub behind_gap : drop at place.text ≡ after_gap false (drop place.at place.text)
  pub none : NoneLonger (drop at place.text) 0

-- between these places no label without quotes begins
abbrev pub Unlabelled : List ℕ → ℕ → ℕ → Type 0
Unlabelled text from to = (p : ℕ) → from ≤ p → p < to → plain_label_rest (drop p text) ≡ None
