use Rattle.std.specs.Prelude.{ℕ, Bool, not, List, [], ◌∷◌, drop, Option, None, Some}
use Rattle.ir_lex.specs.Tokens.{Token}
use Rattle.ir_lex.specs.Next.{Place}
use Rattle.ir_read.specs.declared.item.Item.{Item}
use Rattle.ir_read.specs.Items.{token_of}
use Rattle.ir_lex.specs.Cut.{tokens_of, is_whole}

-- the tokens that are left, up to the end or up to the first place where none is spelled, and whether they go up to the
-- end
pub record Ahead : Type 0 where
  pub tokens : List Token
  pub whole : Bool

-- the text behind a place
abbrev pub behind : Place → List ℕ
behind place = drop place.at place.text

-- what is left of tokens, whose first one was looked at already, before the others
abbrev pub tokens_ahead : Option Item → List Token → List Token
tokens_ahead None others = []
tokens_ahead (Some item) others = token_of item ∷ others

-- whether these go up to the end, by whether the others do
abbrev pub whole_ahead : Option Item → Bool → Bool → Bool
whole_ahead None broken others = not broken
whole_ahead (Some item) broken others = others

-- the same behind a place of the text
abbrev pub tokens_behind : Option Item → Place → List Token
tokens_behind item place = tokens_ahead item (tokens_of (behind place))

abbrev pub whole_behind : Option Item → Bool → Place → Bool
whole_behind item broken place = whole_ahead item broken (is_whole (behind place))
