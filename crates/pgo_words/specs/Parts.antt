-- How the words behind a command are parted into files and options.
use Rattle.std.specs.Prelude.{if◌then◌else◌, ℕ, Bool, true, false, ◌==◌, ◌&&◌, List, [], ◌∷◌, map, filter, codes, Option, Some, None, find, option_map}
use Rattle.std.specs.List.{list_any, before_first, after_first}
use Rattle.std.specs.Str.{bytes_eq}

abbrev pub Text : Type 0
Text = List ℕ

-- an option of the program: its name behind two hyphens, and whether it takes a value
pub record Form : Type 0 where
  pub name : Text
  pub takes_value : Bool

abbrev pub forms : List Form
forms =
    record { name = codes "steps"; takes_value = true }
    ∷ record { name = codes "workers"; takes_value = true }
    ∷ record { name = codes "profile"; takes_value = true }
    ∷ record { name = codes "entry-first"; takes_value = false }
    ∷ record { name = codes "places"; takes_value = true }
    ∷ record { name = codes "room"; takes_value = true }
    ∷ record { name = codes "peel"; takes_value = true }
    ∷ []

abbrev pub form_named : Text → Option Form
form_named name = find (λ (form : Form). bytes_eq form.name name) forms

-- a word of more than one byte that begins with a hyphen; `-` alone is a file
abbrev pub is_dashed : Text → Bool
is_dashed [] = false
is_dashed (b ∷ []) = false
is_dashed (b ∷ c ∷ rest) = b == 45

-- what follows two hyphens
abbrev pub behind_dashes : Text → Option Text
behind_dashes [] = None
behind_dashes (b ∷ []) = None
behind_dashes (b ∷ c ∷ rest) = if (b == 45) && (c == 45) then Some rest else None

-- `NAME` and `NAME=VALUE`
abbrev pub is_equals : ℕ → Bool
is_equals b = b == 61

abbrev pub name_in : Text → Text
name_in rest = before_first is_equals rest

abbrev pub value_in : Text → Option Text
value_in rest = if list_any is_equals rest then Some (after_first is_equals rest) else None

-- what a word is where an option may stand
pub data Meaning : Type 0 where
  IsFile : Meaning
  EndsOptions : Meaning
  -- an option with its value; one that takes none has the empty value
  Gives : (name : Text) → (value : Text) → Meaning
  -- an option whose value is the next word
  Wants : (name : Text) → Meaning
  IsStrange : Meaning

abbrev pub with_value : Bool → Text → Option Text → Meaning
with_value true name None = Wants name
with_value true name (Some value) = Gives name value
with_value false name None = Gives name []
with_value false name (Some value) = IsStrange

abbrev pub option_meaning : Option Form → Option Text → Meaning
option_meaning None value = IsStrange
option_meaning (Some form) value = with_value form.takes_value form.name value

abbrev pub dashed_meaning : Option Text → Meaning
dashed_meaning None = IsStrange
dashed_meaning (Some rest) = option_meaning (form_named (name_in rest)) (value_in rest)

abbrev pub meaning_of : Text → Meaning
meaning_of word =
    if is_dashed word then (if bytes_eq word (45 ∷ 45 ∷ []) then EndsOptions else dashed_meaning (behind_dashes word)) else IsFile

-- the key of the words that are files or numbers
abbrev pub file_key : Text
file_key = codes "FILE"

-- a file under the key of files, or the value of an option under its name
abbrev pub Part : Type 0
Part = Text × Text

abbrev pub file_part : Text → Part
file_part word = (file_key, word)

abbrev pub with_part : Part → Option (List Part) → Option (List Part)
with_part part rest = option_map (λ parts. part ∷ parts) rest

-- the parts of the words from a word on, by what it is: `free` are those of the words behind it, `waiting` those where
-- an option waits for its value, and `all_files` where all are files
abbrev pub parts_from : Meaning → Text → Option (List Part) → (Text → Option (List Part)) → List Part → Option (List Part)
parts_from IsFile word free waiting all_files = with_part (file_part word) free
parts_from EndsOptions word free waiting all_files = Some all_files
parts_from (Gives name value) word free waiting all_files = with_part (name, value) free
parts_from (Wants name) word free waiting all_files = waiting name
parts_from IsStrange word free waiting all_files = None

-- the parts of a list of words, where an option waits for its value or none does; None where a word is strange, an
-- option lacks its value, or its value is dashed
abbrev pub parts_waiting : Option Text → List Text → Option (List Part)
parts_waiting None [] = Some []
parts_waiting (Some name) [] = None
parts_waiting None (word ∷ words) =
    parts_from (meaning_of word) word (parts_waiting None words) (λ name. parts_waiting (Some name) words) (map file_part words)
parts_waiting (Some name) (word ∷ words) = if is_dashed word then None else with_part (name, word) (parts_waiting None words)

abbrev pub parts_of : List Text → Option (List Part)
parts_of words = parts_waiting None words

-- the texts under a key, in order
abbrev pub texts_under : Text → List Part → List Text
texts_under key parts = map (λ (part : Part). part.1) (filter (λ (part : Part). bytes_eq part.0 key) parts)
