-- What holds of the tokens of every text.
use Rattle.std.specs.Prelude.{◌≡◌, ℕ, ◌≤◌, false, true, List, [], ◌∷◌, length, take, drop}
use Rattle.ir_lex.specs.declared.token.TokenKind.{TokenKind}
use Rattle.ir_lex.specs.Tokens.{Token}
use Rattle.ir_lex.specs.Spelling.{ends, after_gap, NoneLonger, IsLongest}
use Rattle.ir_lex.specs.Meaning.{meaning, Lexes}
use Rattle.ir_lex.specs.Cut.{tokens_of, is_whole}

-- No text is spelled by two lists of tokens.
abbrev pub TokensAreUnique : Type 0
TokensAreUnique = (text : List ℕ) (ts us : List Token) → Lexes text ts → Lexes text us → ts ≡ us

-- A text is cut at the longest token behind each gap, up to the first place where none stands.
pub record TokensAreCut : Type 0 where
  pub first : (text : List ℕ) (kind : TokenKind) (n : ℕ) → IsLongest (after_gap false text) kind n → tokens_of text ≡ meaning kind (take n (after_gap false text)) ∷ tokens_of (drop n (after_gap false text))
  pub first_whole : (text : List ℕ) (kind : TokenKind) (n : ℕ) → IsLongest (after_gap false text) kind n → is_whole text ≡ is_whole (drop n (after_gap false text))
  pub none : (text : List ℕ) → NoneLonger (after_gap false text) 0 → tokens_of text ≡ []
  pub none_whole : (text : List ℕ) → NoneLonger (after_gap false text) 0 → is_whole text ≡ ends (after_gap false text)
  -- there are no more tokens than bytes
  pub few : (text : List ℕ) → length (tokens_of text) ≤ length text

-- A text is spelled exactly by the tokens that it is cut into, where they go up to its end, and else by none.
pub record CutIsSpelled : Type 0 where
  pub cut : (text : List ℕ) (ts : List Token) → Lexes text ts → tokens_of text ≡ ts
  pub whole : (text : List ℕ) (ts : List Token) → Lexes text ts → is_whole text ≡ true
  pub spelled : (text : List ℕ) → is_whole text ≡ true → Lexes text (tokens_of text)
