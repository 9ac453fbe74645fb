-- Why a module that counts is not lowered: calls that name one unit differ on its hash or its number of counters, a counter is past
-- that number, or a unit is named by value notes alone.
use Rattle.std.specs.Prelude.{ℕ, ◌==◌, nat_lt, cond, List, [], ◌∷◌, ◌++◌, filter, filter_map, find, Option, None, Some, unwrap_or}
use Rattle.std.specs.Option.{option_map}
use Rattle.spec_lists.specs.Each.{first_of}
use Rattle.ir_tree.specs.Names.{same}
use Rattle.ir_tree.specs.declared.types.Global1.{Global1}
use Rattle.ir_tree.specs.declared.types.Module.{Module}
use Rattle.lowering.specs.Asked.{Asked, Rise, Note, all_asked, hash_asked, symbol_asked}
use Rattle.lowering.specs.Units.{counters_told, hash_told, name_held, names_used}

-- A refusal names the unit. It has what the first call tells and what another one does, or the index and the number of counters
pub data Refusal : Type 0 where
  HashDiffers : (name : List ℕ) (first other : ℕ) → Refusal
  CountDiffers : (name : List ℕ) (first other : ℕ) → Refusal
  IndexPast : (name : List ℕ) (index count : ℕ) → Refusal
  NoIncrement : (name : List ℕ) → Refusal

-- the name of the unit of a global
abbrev pub name_of_unit : List Global1 → List ℕ → List ℕ
name_of_unit globals symbol = unwrap_or (option_map name_held (find (λ (g : Global1). same symbol g.name) globals)) []

-- ---- the tests of a call, in order

-- the number that was told first is another one
abbrev pub differs : (ℕ → ℕ → Refusal) → Option ℕ → ℕ → List Refusal
differs refusal None other = []
differs refusal (Some first) other = cond (first == other) [] (refusal first other ∷ [])

abbrev pub failed_counts : List Asked → List ℕ → Asked → List Refusal
failed_counts asks name (Rise symbol hash counters counter amount) =
    differs (CountDiffers name) (counters_told symbol asks) counters ++ cond (nat_lt counter counters) [] (IndexPast name counter counters ∷ [])
failed_counts asks name (Note symbol hash target site) = []

abbrev pub failed_by : List Asked → List ℕ → Asked → List Refusal
failed_by asks name a = differs (HashDiffers name) (hash_told (symbol_asked a) asks) (hash_asked a) ++ failed_counts asks name a

-- the first test that a call fails
abbrev pub failed : List Asked → List Global1 → Asked → Option Refusal
failed asks globals a = first_of (failed_by asks (name_of_unit globals (symbol_asked a)) a)

-- ---- the answer

abbrev pub without_counters : Global1 → Option ℕ → Option Refusal
without_counters g None = Some (NoIncrement (name_held g))
without_counters g (Some counters) = None

abbrev pub noted_alone : List Asked → Global1 → Option Refusal
noted_alone asks g = without_counters g (counters_told g.name asks)

-- the first call that fails a test; where none does, the first global of a unit that is used and has no increment
abbrev pub refusal : Module → Option Refusal
refusal m =
    first_of (filter_map (failed (all_asked m) m.globals) (all_asked m) ++ filter_map (noted_alone (all_asked m)) (filter (names_used (all_asked m)) m.globals))
