-- What a line of a calls text is, apart from any module: it is passed over, it has the form of a call, or it has neither.
--
-- A line of blanks alone and a line that begins with `#` are passed over. A call is `@` and a name, and then arguments,
-- parted by blanks; a carriage return at its end doesn't count. An argument is digits, maybe behind a minus sign.
use Rattle.std.specs.Prelude.{ℕ, Bool, cond, ◌&&◌, ◌||◌, List, [], ◌∷◌, Option, Some, None, drop, slice_index, ◌==◌}
use Rattle.std.specs.List.{list_all}
use Rattle.std.specs.Str.Lines.{strip_carriage_return}
use Rattle.ir_tree.specs.Spelling.{is_global_name, is_digits}
use Rattle.ir_tree.specs.Types.{when}
use Rattle.call_list.specs.Lines.{is_blank, words_of}

-- the name that stands behind an `@`
unfoldable pub name_of : List ℕ → Option (List ℕ)
name_of word = when ((slice_index word 0 == 64) && is_global_name (drop 1 word)) (drop 1 word)

-- An argument as it is written: whether a minus sign stands before it, and the number that its digits write
abbrev pub has_minus : List ℕ → Bool
has_minus word = slice_index word 0 == 45

abbrev pub digits_of : List ℕ → List ℕ
digits_of word = cond (has_minus word) (drop 1 word) word

unfoldable pub is_argument : List ℕ → Bool
is_argument word = is_digits (digits_of word)

-- A line's form
pub data Form : Type 0 where
  Passed : Form
  IsCall : (name : List ℕ) (arguments : List (List ℕ)) → Form
  Malformed : Form

-- the words behind the name are arguments
abbrev pub with_arguments : Option (List ℕ) → List (List ℕ) → Form
with_arguments None words = Malformed
with_arguments (Some name) words = cond (list_all is_argument words) (IsCall name words) Malformed

abbrev pub form_of_words : List (List ℕ) → Form
form_of_words [] = Malformed
form_of_words (word ∷ words) = with_arguments (name_of word) words

unfoldable pub is_passed : List ℕ → Bool
is_passed line = (slice_index line 0 == 35) || list_all is_blank line

unfoldable pub form_of : List ℕ → Form
form_of line = cond (is_passed line) Passed (form_of_words (words_of (strip_carriage_return line)))
