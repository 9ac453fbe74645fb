-- What is read past: linkage, attributes, alignment, attachments, and all that stands in balanced brackets.
use Rattle.std.specs.Prelude.{ℕ, Bool, true, false, cond, not, ◌&&◌, List, [], ◌∷◌, Option, Some, None, is_some, codes, nat_eq, nat_lt, ◌^◌}
use Rattle.std.specs.Option.{option_or}
use Rattle.ir_lex.specs.Tokens.{Token, Word, Number, Global, Local, Label, Str, Bytes, Group, Mark, Sign}
use Rattle.ir_grammar.specs.Rules.{Rule, pure, one, either, many, TakesToken, one_takes, then_takes, ◌>>=◌, ◌>>◌}
use Rattle.ir_grammar.specs.Brackets.{closing}
use Rattle.ir_grammar.specs.declared.words.Bracket.{Bracket}
use Rattle.ir_grammar.specs.declared.words.Bracket.TheVariants.{Opens, Closes, Neither}
use Rattle.ir_grammar.specs.Tables.{by_word, linkage_of, value_past, return_past, function_past, variable_past, aligned_past}
use Rattle.ir_grammar.specs.Words.{Tokens, same, when, is_sign, is_any_word, first_is, second_is, word, word_is, sign, mark, count_of, number, string, sign_takes, comma_item, comma_takes}
use Rattle.ir_grammar.specs.declared.words.Past.{Past}
use Rattle.ir_grammar.specs.declared.words.Past.TheVariants as past
use Rattle.ir_grammar.specs.declared.words.Place.{Place}
use Rattle.ir_grammar.specs.declared.words.Place.TheVariants as places
use Rattle.ir_grammar.specs.declared.words.Tail.{Tail}
use Rattle.ir_grammar.specs.declared.words.Tail.TheVariants as tails

-- # Balanced brackets

-- the kind of a bracket is the byte of its opening sign
abbrev pub bracket_byte : ℕ → Bracket
bracket_byte b =
    cond (nat_eq b 40) (Opens 40) (cond (nat_eq b 41) (Closes 40)
    (cond (nat_eq b 91) (Opens 91) (cond (nat_eq b 93) (Closes 91)
    (cond (nat_eq b 123) (Opens 123) (cond (nat_eq b 125) (Closes 123) Neither)))))

abbrev pub bracket_of : Token → Bracket
bracket_of (Sign b) = bracket_byte b
bracket_of _ = Neither

-- the tokens up to the bracket that closes one that is open
unfoldable pub balanced : ℕ → Rule Token (Unit {0})
balanced kind = closing bracket_of kind

-- # One part

-- `!word !N`, from behind the first mark; N where it is below 2^64
abbrev pub node_meaning : Token → Option (Option ℕ)
node_meaning (Number minus magnitude) = when (not minus) (count_of minus magnitude)
node_meaning _ = None

unfoldable pub node_number : Rule Token (Option ℕ)
node_number = one node_meaning

-- the node of a `!prof` attachment, none of another
unfoldable pub attachment : Rule Token (Option ℕ)
attachment = do
  is_prof ← word_is (codes "prof")
  mark
  node ← node_number
  pure (cond is_prof node None)

-- an `=` and a string, where an `=` stands
unfoldable pub assigned_string : Rule Token (Unit {0})
assigned_string = either (first_is (is_sign 61)) (sign 61 >> string) (pure tt)

unfoldable pub parens : Rule Token (Unit {0})
parens = sign 40 >> balanced 40

unfoldable pub any_attachment : Rule Token (Unit {0})
any_attachment = attachment >> pure tt

-- what follows the first token of a part that is read past
abbrev pub past_behind : Past → Rule Token (Unit {0})
past_behind past.Alone = pure tt
past_behind past.Number = number
past_behind past.Text = string
past_behind past.Parens = parens
past_behind past.Assigned = assigned_string
past_behind past.Attachment = any_attachment

-- # Words before a return type, with a value, and behind the head of a function

abbrev pub function_meaning : Token → Option Past
function_meaning (Word text) = function_past text
function_meaning (Group _) = Some past.Alone
function_meaning (Str _) = Some past.Assigned
function_meaning _ = None

abbrev pub value_meaning : Token → Option Past
value_meaning (Word text) = value_past text
value_meaning _ = None

abbrev pub before_return : Token → Option Past
before_return (Word text) = return_past text
before_return _ = None

abbrev pub past_meaning : Place → Token → Option Past
past_meaning places.Return = before_return
past_meaning places.Value = value_meaning
past_meaning places.Function = function_meaning

unfoldable pub past_part : Place → Rule Token (Unit {0})
past_part place = one (past_meaning place) >>= past_behind

pub past_part_takes : (place : Place) → TakesToken (past_part place)
unfolding past_part
past_part_takes place = then_takes _ (one_takes _)

-- a word that an `=` follows is the name of a comdat
abbrev pub names_comdat : Tokens → Bool
names_comdat ts = first_is is_any_word ts && second_is (is_sign 61) ts

-- a part begins with a word or token of the place
unfoldable pub past_begins : Place → Tokens → Bool
past_begins place ts = not (names_comdat ts) && first_is (λ t. is_some (past_meaning place t)) ts

unfoldable pub past_parts : Place → Rule Token (Unit {0})
past_parts place = many (past_begins place) (past_part place) (past_part_takes place) >>= λ _. pure tt

-- # Parts behind a comma

abbrev pub variable_tail : Token → Option Past
variable_tail (Word text) = by_word variable_past text
variable_tail Mark = Some past.Attachment
variable_tail _ = None

abbrev pub aligned_tail : Token → Option Past
aligned_tail (Word text) = by_word aligned_past text
aligned_tail Mark = Some past.Attachment
aligned_tail _ = None

abbrev pub plain_tail : Token → Option Past
plain_tail Mark = Some past.Attachment
plain_tail _ = None

abbrev pub tail_meaning : Tail → Token → Option Past
tail_meaning tails.Plain = plain_tail
tail_meaning tails.Aligned = aligned_tail
tail_meaning tails.Global = variable_tail

unfoldable pub after_comma : Tail → Rule Token (Unit {0})
after_comma place = one (tail_meaning place) >>= past_behind

unfoldable pub tail_part : Tail → Rule Token (Unit {0})
tail_part place = sign 44 >> after_comma place

pub tail_part_takes : (place : Tail) → TakesToken (tail_part place)
unfolding tail_part
tail_part_takes place = then_takes _ (sign_takes 44)

unfoldable pub tail : Tail → Rule Token (Unit {0})
tail place = many (first_is (is_sign 44)) (tail_part place) (tail_part_takes place) >>= λ _. pure tt
