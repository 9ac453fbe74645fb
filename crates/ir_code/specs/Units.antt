-- The units of a profile that a module counts in: the function that a unit is for, its hash, and its counters and sites,
-- numbered through over all units.
--
-- A unit X has a global `__profd_X` with the hash of the unit's name, the hash of the function, and the numbers of counters
-- and of sites, and a global `__profn_X` with the name.
use Rattle.std.specs.Prelude.{ℕ, ◌+◌, Bool, List, [], ◌∷◌, ◌++◌, map, filter, drop, find, codes, slice_get, sum_by, Option, Some, None, unwrap_or, nat_lt, if◌then◌else◌}
use Rattle.std.specs.Option.{option_map}
use Rattle.ir_tree.specs.Functions.{begins_with}
use Rattle.ir_tree.specs.Names.{same}
use Rattle.ir_tree.specs.declared.types.Global1.{Global1}
use Rattle.ir_tree.specs.declared.types.Init.{Init, List', Row_of-Init, end_of-Init, more_of-Init}
use Rattle.ir_tree.specs.declared.types.Init.TheVariants as init
use Rattle.ir_tree.specs.declared.types.Module.{Module}
use Rattle.ir_model.specs.declared.probe.Event.{Event}
use Rattle.ir_model.specs.declared.probe.Event.TheVariants as event
use Rattle.ir_model.specs.declared.probe.Tally.{Tally}
use Rattle.spec_machines.specs.Machine.{Ran}
use Rattle.ir_model.specs.Run.{marks_of}
use Rattle.ir_model.specs.State.{Shown, Stop, What, Added, Noted, Chose}
use Rattle.ir_code.specs.declared.code.Span.{Span}

-- a unit by its name X, with what is counted of it
abbrev pub Unit_ : Type 0
Unit_ = List ℕ × Tally

-- the global of a unit's data
abbrev pub is_data : Global1 → Bool
is_data g = begins_with (codes "__profd_") g.name

-- the integer that an initialiser is, else 0
abbrev pub number_of : Init → ℕ
number_of (init.Int n) = n
number_of init.Null = 0
number_of (init.Symbol name) = 0
number_of init.Zero = 0
number_of (init.Bytes bytes) = 0
number_of (List' shape inits) = 0
number_of init.External = 0

abbrev pub numbers_of_row : {m : _} → Row_of-Init m → List ℕ
numbers_of_row end_of-Init = []
numbers_of_row (more_of-Init value rest) = number_of value ∷ numbers_of_row rest

-- the integers of a list, none of another initialiser
abbrev pub numbers_of : Init → List ℕ
numbers_of (init.Int n) = []
numbers_of init.Null = []
numbers_of (init.Symbol name) = []
numbers_of init.Zero = []
numbers_of (init.Bytes bytes) = []
numbers_of (List' shape inits) = numbers_of_row inits
numbers_of init.External = []

-- the bytes of a text, none of another initialiser
abbrev pub bytes_of : Init → List ℕ
bytes_of (init.Int n) = []
bytes_of init.Null = []
bytes_of (init.Symbol name) = []
bytes_of init.Zero = []
bytes_of (init.Bytes bytes) = bytes
bytes_of (List' shape inits) = []
bytes_of init.External = []

-- the text of the first global of a name
abbrev pub text_of : Option Global1 → List ℕ
text_of None = []
text_of (Some g) = bytes_of g.init

abbrev pub text_named : List Global1 → List ℕ → List ℕ
text_named globals name = text_of (find (λ g. same name g.name) globals)

-- the number at a place of the data of a unit
abbrev pub datum : Global1 → ℕ → ℕ
datum g place = unwrap_or (slice_get (numbers_of g.init) place) 0

-- what is counted of a unit with this data, where so many counters and sites come before it
abbrev pub unit : List Global1 → ℕ → ℕ → Global1 → Unit_
unit globals counters sites g = (
  drop 8 g.name,
  record {
    name = text_named globals (codes "__profn_" ++ drop 8 g.name);
    hash = datum g 1;
    counters = datum g 2;
    sites = datum g 3;
    first_counter = counters;
    first_site = sites;
  },
)

abbrev pub units_from : List Global1 → ℕ → ℕ → List Global1 → List Unit_
units_from globals counters sites [] = []
units_from globals counters sites (g ∷ gs) =
    unit globals counters sites g ∷ units_from globals (counters + datum g 2) (sites + datum g 3) gs

-- The units of a module, one for each global of data, in the order of the text
abbrev pub units_of : Module → List Unit_
units_of m = units_from m.globals 0 0 (filter is_data m.globals)

abbrev pub tallies_of : Module → List Tally
tallies_of m = map (λ u. u.1) (units_of m)

-- how many counters and sites all units have
abbrev pub counters_of_all : List Tally → ℕ
counters_of_all tallies = sum_by (λ (t : Tally). t.counters) tallies

abbrev pub sites_of_all : List Tally → ℕ
sites_of_all tallies = sum_by (λ (t : Tally). t.sites) tallies

-- ---- marks by number

-- the counters and the sites of a unit; none where there is no unit
abbrev pub counters_in : Option Tally → Span
counters_in None = record { first = 0; count = 0 }
counters_in (Some t) = record { first = t.first_counter; count = t.counters }

abbrev pub sites_in : Option Tally → Span
sites_in None = record { first = 0; count = 0 }
sites_in (Some t) = record { first = t.first_site; count = t.sites }

-- the first unit of a name
abbrev pub tally_named : List Unit_ → List ℕ → Option Tally
tally_named units name = option_map (λ u. u.1) (find (λ u. same name u.0) units)

abbrev pub counter_span : List Unit_ → List ℕ → Span
counter_span units name = counters_in (tally_named units name)

abbrev pub site_span : List Unit_ → List ℕ → Span
site_span units name = sites_in (tally_named units name)

-- a counter of these that rises, and a target that is noted at one of these sites; what no unit has is not told
abbrev pub added : Span → ℕ → ℕ → List Event
added span counter step =
    if nat_lt counter span.count then event.Added (span.first + counter) step ∷ [] else []

abbrev pub noted : Span → ℕ → ℕ → List Event
noted span site callee = if nat_lt site span.count then event.Noted (span.first + site) callee ∷ [] else []

-- a mark, by the numbers of all units together
abbrev pub told : List Unit_ → What → List Event
told units (Added name counter step) = added (counter_span units name) counter step
told units (Noted name site callee) = noted (site_span units name) site callee
told units (Chose value) = []

abbrev pub all_told : List Unit_ → List What → List Event
all_told units [] = []
all_told units (w ∷ ws) = told units w ++ all_told units ws

-- the marks of a run, by the numbers of the module's units
abbrev pub numbered_marks : Module → Ran Shown Stop → List Event
numbered_marks m ran = all_told (units_of m) (marks_of ran)
