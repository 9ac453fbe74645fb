-- The tests of calls by what the table of units tells, and the first that fails.
use Rattle.std.specs.Prelude.{ℕ, ◌==◌, nat_lt, cond, List, filter_map, Option, None, Some}
use Rattle.std.specs.Borrow.{Bor}
use Rattle.std.specs.Option.{option_and_then, option_map}
use Rattle.ir_tree.specs.declared.types.Global1.{Global1}
use Rattle.lower_units.specs.declared.faults.Test.{Test}
use Rattle.lower_units.specs.declared.faults.Test.TheVariants.{Hash, Count, Index}
use Rattle.lower_units.specs.declared.told.Told.{Told}
use Rattle.lowering.specs.Asked.{Asked, Rise, Note, hash_asked, symbol_asked}
use Rattle.lowering.specs.Refusals.{Refusal, HashDiffers, CountDiffers, IndexPast, name_of_unit}
use Rattle.spec_lists.specs.Each.{first_of}

-- ---- the tests of a call, by what is told of its unit

abbrev pub hash_fault : Option Told → ℕ → Option Test
hash_fault None hash = None
hash_fault (Some told) hash = cond (told.hash == hash) None (Some (Hash told.hash hash))

abbrev pub other_count : Option ℕ → ℕ → Option Test
other_count None counters = None
other_count (Some first) counters = cond (first == counters) None (Some (Count first counters))

abbrev pub count_fault : Option Told → ℕ → Option Test
count_fault told counters = other_count (option_and_then (λ t. t.counters) told) counters

abbrev pub index_fault : ℕ → ℕ → Option Test
index_fault counters counter = cond (nat_lt counter counters) None (Some (Index counter counters))

-- the first of two
abbrev pub first_failed : Option Test → Option Test → Option Test
first_failed None later = later
first_failed (Some test) later = Some test

abbrev pub counts_failed : Option Told → Asked → Option Test
counts_failed told (Rise symbol hash counters counter amount) = first_failed (count_fault told counters) (index_fault counters counter)
counts_failed told (Note symbol hash target site) = None

abbrev pub test_failed : Option Told → Asked → Option Test
test_failed told a = first_failed (hash_fault told (hash_asked a)) (counts_failed told a)

-- ---- the first of calls that fails one

abbrev pub shown : Bor (List ℕ) × Test → List ℕ × Test
shown fault = (fault.0.now, fault.1)

abbrev pub fault_of : (List ℕ → Option Told) → Asked → Option (List ℕ × Test)
fault_of told a = option_map (λ test. (symbol_asked a, test)) (test_failed (told (symbol_asked a)) a)

abbrev pub fault_by : (List ℕ → Option Told) → Option Asked → Option (List ℕ × Test)
fault_by told asked = option_and_then (fault_of told) asked

abbrev pub first_fault : (List ℕ → Option Told) → List Asked → Option (List ℕ × Test)
first_fault told asks = first_of (filter_map (fault_of told) asks)

-- ---- as a refusal

abbrev pub refused_for : List ℕ → Test → Refusal
refused_for name (Hash first other) = HashDiffers name first other
refused_for name (Count first other) = CountDiffers name first other
refused_for name (Index index count) = IndexPast name index count

abbrev pub refused : List Global1 → List ℕ × Test → Refusal
refused globals fault = refused_for (name_of_unit globals fault.0) fault.1
