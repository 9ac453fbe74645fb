-- The profile text, after LLVM's text profiles (`llvm-profdata`, "Text Profile Format"), as a grammar over the lines that
-- count. Each production says in its own lines what it reads.
use Rattle.std.specs.Prelude.{ℕ, zero, suc, Bool, true, false, cond, not, List, [], ◌∷◌, nat_eq}
use Rattle.std.specs.List.{list_any}
use Rattle.ir_grammar.specs.Rules.{Rule, TakesToken, one, one_takes, pure, provided, either, many, then_takes, ◌>>=◌}
use Rattle.ir_grammar.specs.Words.{when}
use Rattle.prof_view.specs.Profile.{ProfileRecord, ProfileInput}
use Rattle.prof_view.specs.Lines.{Line, Lines}
use Rattle.prof_view.specs.Words.{all_digits, numeral, number_within, hash_of, begins_colon, name_of, header_of, target_of}
use Rattle.prof_view.specs.Times.{times}

-- the next line passes the test
abbrev pub next_is : (Line → Bool) → Lines → Bool
next_is test [] = false
next_is test (line ∷ lines) = test line

abbrev pub any_line : Lines → Bool
any_line [] = false
any_line (line ∷ lines) = true

-- # Lines

unfoldable pub header_line : Rule Line Bool
header_line = one header_of

unfoldable pub name_line : Rule Line (List ℕ)
name_line = one name_of

unfoldable pub hash_line : Rule Line ℕ
hash_line = one hash_of

-- a number of at most 2^64 - 1
unfoldable pub number_line : Rule Line ℕ
number_line = one (numeral 10)

unfoldable pub number_line_within : ℕ → ℕ → Rule Line ℕ
number_line_within least most = one (number_within least most)

unfoldable pub target_line : Rule Line (List ℕ × ℕ)
target_line = one target_of

-- # Records

-- the limits of a record: its counters, its kinds of values, and the sites of a kind
abbrev pub counters_most : ℕ
counters_most = 1048576

abbrev pub kinds_most : ℕ
kinds_most = 3

abbrev pub sites_most : ℕ
sites_most = 65536

-- the number of targets, and so many of them
unfoldable pub site : Rule Line (List (List ℕ × ℕ))
site = do
  n ← number_line
  times target_line n

-- the number of a kind that was not seen
unfoldable pub unseen_kind : List ℕ → Rule Line ℕ
unseen_kind seen = do
  kind ← number_line_within 0 2
  provided (when (not (list_any (λ k. nat_eq k kind) seen)) kind)

-- the number of sites, and so many of them
unfoldable pub kind_sites : Rule Line (List (List (List ℕ × ℕ)))
kind_sites = do
  n ← number_line_within 0 sites_most
  times site n

-- So many kinds of values, of which none was seen. Kind 0, the targets of indirect calls, is kept, and kinds 1 and 2 are
-- read past.
abbrev pub kinds : List ℕ → ℕ → Rule Line (List (List (List ℕ × ℕ)))
kinds seen zero = pure []
kinds seen (suc n) = do
  kind ← unseen_kind seen
  sites ← kind_sites
  others ← kinds (kind ∷ seen) n
  pure (cond (nat_eq kind 0) sites others)

-- the number of kinds, and so many of them, each once at most
unfoldable pub value_data : Rule Line (List (List (List ℕ × ℕ)))
value_data = do
  n ← number_line_within 1 kinds_most
  kinds [] n

-- the name, the hash, the number of counters, and so many counters
unfoldable pub head : Rule Line (List ℕ × ℕ × List ℕ)
head = do
  name ← name_line
  hash ← hash_line
  n ← number_line_within 1 counters_most
  counters ← times number_line n
  pure (name, hash, counters)

-- # Reading by looking ahead
--
-- A line that begins with a colon is no name, and digits alone are none either, so the next line shows where the header
-- ends and whether a record has value data. `Spelled` says what is spelled without it, and `Laws` that the two agree.

unfoldable pub values_ahead : Rule Line (List (List (List ℕ × ℕ)))
values_ahead = either (next_is (all_digits 10)) value_data (pure [])

unfoldable pub record_ahead : Rule Line ProfileRecord
record_ahead = do
  (name, hash, counters) ← head
  sites ← values_ahead
  pure (record { name = name; hash = hash; counters = counters; sites = sites })

pub record_takes : TakesToken record_ahead
unfolding record_ahead head name_line
record_takes = then_takes _ (then_takes _ (one_takes name_of))

pub header_takes : TakesToken header_line
unfolding header_line
header_takes = one_takes header_of

unfoldable pub header_ahead : Rule Line (List Bool)
header_ahead = many (next_is begins_colon) header_line header_takes

-- whether a line of the header says that the profile is entry-first
unfoldable pub mode_ahead : Rule Line Bool
mode_ahead = do
  flags ← header_ahead
  pure (list_any (λ flag. flag) flags)

unfoldable pub records_ahead : Rule Line (List ProfileRecord)
records_ahead = many any_line record_ahead record_takes

unfoldable pub profile_ahead : Rule Line ProfileInput
profile_ahead = do
  entry_first ← mode_ahead
  list ← records_ahead
  pure (record { entry_first = entry_first; records = list })
