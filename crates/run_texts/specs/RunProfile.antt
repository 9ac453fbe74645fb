-- The profile of a run: a record for each tally, with the counters and the rows of the run.
use Rattle.std.specs.Prelude.{◌≡◌, ◌≤◌, ℕ, ◌-◌, ◌/◌, Bool, List, [], map, count_by, slice_get, Option, Some, None}
use Rattle.ir_tree.specs.Names.{same}
use Rattle.ir_tree.specs.declared.types.Function.{Function}
use Rattle.ir_model.specs.declared.probe.Tally.{Tally}
use Rattle.value_rows.specs.declared.row.Row.{Row}
use Rattle.prof_view.specs.Profile.{ProfileInput, ProfileRecord}
use Rattle.prof_text.specs.Merged.{IsMerged, Target}
use Rattle.prof_text.specs.Text.{profile_text}
use Rattle.run_texts.specs.SiteLines.{part, rows_of}

abbrev pub name_if_any : Option Function → List ℕ
name_if_any None = []
name_if_any (Some f) = f.name

-- the name of the function of these whose address is the key; functions lie 16 bytes apart, and the first one has the address 16
abbrev pub key_name : List Function → ℕ → List ℕ
key_name functions key = name_if_any (slice_get functions (key / 16 - 1))

-- a key of a row, with its count, as a target
abbrev pub target_of : List Function → ℕ × ℕ → Target
target_of functions e = (key_name functions e.0, e.1)

abbrev pub targets_of : List Function → Row → List Target
targets_of functions row = map (target_of functions) row.kept

-- the record of a tally: its counters of all, and for each of its sites the kept targets
abbrev pub record_of : List Function → List ℕ → List Row → Tally → ProfileRecord
record_of functions counters rows t = record {
  name = t.name;
  hash = t.hash;
  counters = part t.first_counter t.counters counters;
  sites = map (targets_of functions) (rows_of rows t);
}

abbrev pub records_of : List Function → List Tally → List ℕ → List Row → List ProfileRecord
records_of functions tallies counters rows = map (record_of functions counters rows) tallies

-- no name is that of two tallies
abbrev pub AreApart : List Tally → Type 0
AreApart tallies = (name : List ℕ) → count_by (λ (t : Tally). same name t.name) tallies ≤ 1

-- The profile has these records, by name and hash, and the targets of a site by name
pub record IsRunProfile (entry_first : Bool) (functions : List Function) (tallies : List Tally) (counters : List ℕ) (rows : List Row) (p : ProfileInput) : Type 0 where
  pub mode : p.entry_first ≡ entry_first
  pub merged : IsMerged (records_of functions tallies counters rows) p.records

-- its text
abbrev pub IsRunText : Bool → List Function → List Tally → List ℕ → List Row → List ℕ → Type 0
IsRunText entry_first functions tallies counters rows text =
    (p : ProfileInput) × IsRunProfile entry_first functions tallies counters rows p × (text ≡ profile_text p)
