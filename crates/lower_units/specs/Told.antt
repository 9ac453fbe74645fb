-- What the calls that name a unit tell of it, as the table of units has it.
use Rattle.std.specs.Prelude.{ℕ, cond, max, List, [], ◌∷◌, Option, None, Some}
use Rattle.std.specs.Option.{option_map}
use Rattle.ir_rules.specs.Limits.{reported}
use Rattle.lower_units.specs.declared.told.Told.{Told}
use Rattle.lowering.specs.Asked.{Asked, hash_asked}
use Rattle.lowering.specs.Units.{counters_asked, counters_told, hash_told, is_asked_of, sites_asked, sites_told}

abbrev pub or_else : Option ℕ → Option ℕ → Option ℕ
or_else None other = other
or_else (Some number) other = Some number

-- ---- call by call

abbrev pub first_told : Asked → Told
first_told a = record { hash = hash_asked a; counters = counters_asked a; sites = reported (sites_asked a) }

abbrev pub also_told : Told → Asked → Told
also_told told a = record told { counters = or_else told.counters (counters_asked a); sites = max told.sites (reported (sites_asked a)) }

abbrev pub more_told : Option Told → Asked → Told
more_told None a = first_told a
more_told (Some told) a = also_told told a

-- what is told of a unit once a call has told more, if it names the unit
abbrev pub told_by : List ℕ → Option Told → Asked → Option Told
told_by symbol told a = cond (is_asked_of symbol a) (Some (more_told told a)) told

abbrev pub some_told : List ℕ → Option Told → Option Asked → Option Told
some_told symbol told None = told
some_told symbol told (Some a) = told_by symbol told a

-- what is told of it once these calls have told more
abbrev pub told_after : List ℕ → Option Told → List Asked → Option Told
told_after symbol told [] = told
told_after symbol told (a ∷ more) = told_after symbol (told_by symbol told a) more

-- ---- of all calls

-- none of a unit that no call names
abbrev pub all_told : List ℕ → List Asked → Option Told
all_told symbol asks = option_map (λ hash. record { hash = hash; counters = counters_told symbol asks; sites = reported (sites_told symbol asks) }) (hash_told symbol asks)
