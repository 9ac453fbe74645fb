-- The commands: the files, numbers and options of each, and the plan that words give.
use Rattle.std.specs.Prelude.{if◌then◌else◌, ℕ, Bool, true, false, not, ◌==◌, ◌&&◌, List, [], ◌∷◌, codes, length, nat_le, Option, Some, None, option_and_then}
use Rattle.std.specs.List.{list_all}
use Rattle.std.specs.Str.{bytes_eq}
use Rattle.pgo_words.specs.Parts.{Part, Text, file_key, parts_of, texts_under}
use Rattle.pgo_words.specs.Numbers.{number_within}
use Rattle.pgo_words.specs.Plan.{Planned, StreamWords, Annotates, Chains, Checks, CountsWalks, Generates, GrowsTree, LaysOut, ListsEdges, Lowers, MakesLarge, Merges, Prints, Promotes, Runs, Shows}
use Rattle.pgo_words.specs.declared.settings.Allowed.{Allowed}
use Rattle.pgo_words.specs.declared.command.CommandName.{CommandName}
use Rattle.pgo_words.specs.declared.command.CommandName.TheVariants as name

-- the words behind a command: its files and numbers, and what was given for each option, in order
pub record Given : Type 0 where
  pub files : List Text
  pub steps : List Text
  pub workers : List Text
  pub profile : List Text
  pub entry_first : List Text
  pub places : List Text
  pub room : List Text
  pub peel : List Text

abbrev pub given_of : List Part → Given
given_of parts = record {
  files = texts_under file_key parts;
  steps = texts_under (codes "steps") parts;
  workers = texts_under (codes "workers") parts;
  profile = texts_under (codes "profile") parts;
  entry_first = texts_under (codes "entry-first") parts;
  places = texts_under (codes "places") parts;
  room = texts_under (codes "room") parts;
  peel = texts_under (codes "peel") parts;
}

-- ---- options

-- what an option stands for: its default where it isn't given, what `reads` makes of the text that is given once where
-- the command has the option, and else nothing
abbrev pub at_most_once : {X : Type 0} → Bool → X → (Text → Option X) → List Text → Option X
at_most_once may default reads [] = Some default
at_most_once may default reads (text ∷ []) = if may then reads text else None
at_most_once may default reads (text ∷ other ∷ more) = None

abbrev pub is_named : Text → Bool
is_named text = not (length text == 0)

abbrev pub reads_file : Text → Option (Option Text)
reads_file text = if is_named text then Some (Some text) else None

abbrev pub reads_flag : Text → Option Bool
reads_flag text = Some true

-- the options of a command, with their defaults
pub record Settings : Type 0 where
  pub steps : ℕ
  pub workers : ℕ
  pub profile : Option Text
  pub entry_first : Bool
  pub places : ℕ
  pub room : ℕ
  pub peel : ℕ

abbrev pub steps_of : Allowed → Given → Option ℕ
steps_of may given = at_most_once may.steps 1_000_000 (number_within 13 1 1_099_511_627_776) given.steps

abbrev pub workers_of : Allowed → Given → Option ℕ
workers_of may given = at_most_once may.workers 1 (number_within 13 1 64) given.workers

abbrev pub profile_of : Allowed → Given → Option (Option Text)
profile_of may given = at_most_once may.profile None reads_file given.profile

abbrev pub entry_first_of : Allowed → Given → Option Bool
entry_first_of may given = at_most_once may.entry_first false reads_flag given.entry_first

abbrev pub places_of : Allowed → Given → Option ℕ
places_of may given = at_most_once may.places 8 (number_within 2 1 24) given.places

abbrev pub room_of : Allowed → Given → Option ℕ
room_of may given = at_most_once may.room 64 (number_within 4 1 4_096) given.room

abbrev pub peel_of : Allowed → Given → Option ℕ
peel_of may given = at_most_once may.peel 50 (number_within 3 1 100) given.peel

abbrev pub settings_of : Allowed → Given → Option Settings
settings_of may given =
    option_and_then (λ steps. option_and_then (λ workers. option_and_then (λ profile. option_and_then (λ first.
    option_and_then (λ places. option_and_then (λ room. option_and_then (λ peel. Some (record {
      steps = steps;
      workers = workers;
      profile = profile;
      entry_first = first;
      places = places;
      room = room;
      peel = peel;
    })) (peel_of may given)) (room_of may given)) (places_of may given)) (entry_first_of may given)) (profile_of may given))
    (workers_of may given)) (steps_of may given)

abbrev pub no_options : Allowed
no_options = record { steps = false; workers = false; profile = false; entry_first = false; places = false; room = false; peel = false }

-- ---- files

abbrev pub for_one : {X : Type 0} → (Text → X) → List Text → Option X
for_one f (a ∷ []) = Some (f a)
for_one f _ = None

abbrev pub for_two : {X : Type 0} → (Text → Text → X) → List Text → Option X
for_two f (a ∷ b ∷ []) = Some (f a b)
for_two f _ = None

abbrev pub for_three : {X : Type 0} → (Text → Text → Text → X) → List Text → Option X
for_three f (a ∷ b ∷ c ∷ []) = Some (f a b c)
for_three f _ = None

-- four files, of which the last two differ
abbrev pub for_four : {X : Type 0} → (Text → Text → Text → Text → X) → List Text → Option X
for_four f (a ∷ b ∷ c ∷ d ∷ []) = if bytes_eq c d then None else Some (f a b c d)
for_four f _ = None

-- a file, and one to 64 behind it
abbrev pub for_inputs : {X : Type 0} → (Text → List Text → X) → List Text → Option X
for_inputs f [] = None
for_inputs f (out ∷ inputs) = if nat_le 1 (length inputs) && nat_le (length inputs) 64 then Some (f out inputs) else None

-- a number alone
abbrev pub for_number : {X : Type 0} → (ℕ → X) → List Text → Option X
for_number f (a ∷ []) = option_and_then (λ n. Some (f n)) (number_within 13 0 4_294_967_295 a)
for_number f _ = None

-- ---- commands

abbrev pub by_settings : {X : Type 0} → Allowed → Given → (Settings → Option X) → Option X
by_settings may given plan = option_and_then plan (settings_of may given)

abbrev pub run_words : Given → Option Planned
run_words given = by_settings (record no_options { steps = true; workers = true; profile = true; entry_first = true; places = true }) given
    (λ s. for_two (λ file calls. Runs (record {
      «module» = file;
      calls = calls;
      steps = s.steps;
      workers = s.workers;
      profile = s.profile;
      entry_first = s.entry_first;
      places = s.places;
    })) given.files)

abbrev pub chain_words : Given → Option Planned
chain_words given = by_settings (record no_options { steps = true; workers = true; entry_first = true; places = true }) given
    (λ s. for_four (λ file calls profile out. Chains (record {
      «module» = file;
      calls = calls;
      profile = profile;
      out = out;
      steps = s.steps;
      workers = s.workers;
      entry_first = s.entry_first;
      places = s.places;
    })) given.files)

-- a `chain` of two files prints its counts and writes nothing
abbrev pub walk_words : Given → Option Planned
walk_words given = by_settings (record no_options { steps = true }) given
    (λ s. for_two (λ file calls. CountsWalks (record { «module» = file; calls = calls; steps = s.steps })) given.files)

-- the plan of a command with these files, numbers and options
abbrev pub plan_in : CommandName → Given → Option Planned
plan_in name.Check given = by_settings no_options given (λ s. for_one Checks given.files)
plan_in name.Print given = by_settings no_options given (λ s. for_one Prints given.files)
plan_in name.Gen given =
    by_settings (record no_options { entry_first = true }) given (λ s. for_two (λ file out. Generates file out s.entry_first) given.files)
plan_in name.Lower given = by_settings no_options given (λ s. for_two Lowers given.files)
plan_in name.Run given = run_words given
plan_in name.Merge given =
    by_settings (record no_options { workers = true }) given (λ s. for_inputs (λ out inputs. Merges out inputs s.workers) given.files)
plan_in name.Show given = by_settings no_options given (λ s. for_one Shows given.files)
plan_in name.Edges given = by_settings no_options given (λ s. for_two ListsEdges given.files)
plan_in name.Use given = by_settings no_options given (λ s. for_three Annotates given.files)
plan_in name.Promote given = by_settings no_options given (λ s. for_three Promotes given.files)
plan_in name.Chain given = if length given.files == 2 then walk_words given else chain_words given
plan_in name.Large given =
    by_settings (record no_options { workers = true; places = true }) given (λ s. for_number (λ n. MakesLarge n s.workers s.places) given.files)
plan_in name.Layout given =
    by_settings (record no_options { peel = true }) given (λ s. for_three (λ file profile out. LaysOut file profile out s.peel) given.files)
plan_in name.Tree given =
    by_settings (record no_options { entry_first = true }) given (λ s. for_one (λ file. GrowsTree file s.entry_first) given.files)

-- files are not empty
abbrev pub plan_by : CommandName → Given → Option Planned
plan_by command given = if list_all is_named given.files then plan_in command given else None

-- the word of each command
abbrev pub word_of : CommandName → Text
word_of name.Check = codes "check"
word_of name.Print = codes "print"
word_of name.Gen = codes "gen"
word_of name.Lower = codes "lower"
word_of name.Run = codes "run"
word_of name.Merge = codes "merge"
word_of name.Show = codes "show"
word_of name.Edges = codes "edges"
word_of name.Use = codes "use"
word_of name.Promote = codes "promote"
word_of name.Chain = codes "chain"
word_of name.Large = codes "large"
word_of name.Layout = codes "layout"
word_of name.Tree = codes "tree"

-- the command of a word, the first of a list
abbrev pub named_in : List CommandName → Text → Option CommandName
named_in [] word = None
named_in (command ∷ commands) word = if bytes_eq word (word_of command) then Some command else named_in commands word

abbrev pub all_commands : List CommandName
all_commands =
    name.Check ∷ name.Print ∷ name.Gen ∷ name.Lower ∷ name.Run ∷ name.Merge ∷ name.Show ∷ name.Edges ∷ name.Use ∷ name.Promote
    ∷ name.Chain ∷ name.Large ∷ name.Layout ∷ name.Tree ∷ []

abbrev pub command_named : Text → Option CommandName
command_named word = named_in all_commands word

-- the plan of a command with the words behind it
abbrev pub plan_behind : CommandName → List Text → Option Planned
plan_behind command words = option_and_then (λ parts. plan_by command (given_of parts)) (parts_of words)

-- the plan of a list of words, if it has one
abbrev pub planned : List Text → Option Planned
planned [] = None
planned (word ∷ words) = option_and_then (λ command. plan_behind command words) (command_named word)

abbrev pub stream_in : Given → Option StreamWords
stream_in given = by_settings (record no_options { steps = true; workers = true; room = true }) given
    (λ s. for_two (λ file calls. record { «module» = file; calls = calls; steps = s.steps; workers = s.workers; room = s.room }) given.files)

abbrev pub stream_by : Given → Option StreamWords
stream_by given = if list_all is_named given.files then stream_in given else None

abbrev pub stream_behind : List Text → Option StreamWords
stream_behind words = option_and_then (λ parts. stream_by (given_of parts)) (parts_of words)

-- the plan of a list of words for the command `stream`
abbrev pub stream_planned : List Text → Option StreamWords
stream_planned [] = None
stream_planned (word ∷ words) =
    if bytes_eq word (codes "stream") then stream_behind words else None
