-- Rule 5. Each initialiser has its global's type, and the names in it are global variables or functions of the program. The globals
-- of a profile are those of units: a name that no other unit has, counters, and data that fit them.
use Rattle.std.specs.Prelude.{ℕ, ◌+◌, Bool, true, false, ◌&&◌, ◌||◌, ◌==◌, not, cond, nat_le, List, [], ◌∷◌, ◌++◌, codes, filter_map, length, take, Option, None, Some}
use Rattle.std.specs.Char.{is_ascii_digit}
use Rattle.std.specs.List.{list_all, list_any}
use Rattle.pgo_base.specs.Hash.{hash8}
use Rattle.ir_rules.specs.Intrinsics.{is_counter_total}
use Rattle.ir_rules.specs.Kinds.{is_unit_counters, is_unit_data, is_unit_name, unit_of}
use Rattle.ir_rules.specs.Lists.{is_new}
use Rattle.ir_rules.specs.Parts.{Rule, places, silent}
use Rattle.ir_rules.specs.Scopes.{is_program_symbol}
use Rattle.ir_rules.specs.Sizes.{element_of, scalar_of}
use Rattle.ir_rules.specs.Units.{Data, counters_of, data_of, is_i8, is_some_length, length_of, text_of}
use Rattle.ir_rules.specs.declared.place.Place.{Place}
use Rattle.ir_tree.specs.Names.{same}
use Rattle.ir_tree.specs.Types.{is_integer_of, is_pointer_type}
use Rattle.ir_tree.specs.declared.types.Global1.{Global1}
use Rattle.ir_tree.specs.declared.types.Init.{Init, List', Row_of-Init, end_of-Init, more_of-Init}
use Rattle.ir_tree.specs.declared.types.Init.TheVariants as init
use Rattle.ir_tree.specs.declared.types.MemTy.{MemTy, Array'}
use Rattle.ir_tree.specs.declared.types.MemTy.TheVariants.{Scalar}
use Rattle.ir_tree.specs.declared.types.Module.{Module}
use Rattle.ir_tree.specs.declared.types.Ty.{Ty}

-- ---- types

abbrev pub is_literal_of : Option Ty → ℕ → Bool
is_literal_of None value = false
is_literal_of (Some ty) value = is_integer_of ty value

abbrev pub is_pointer : Option Ty → Bool
is_pointer None = false
is_pointer (Some ty) = is_pointer_type ty

-- the type is that of an array of so many elements
abbrev pub has_length : ℕ → MemTy → Bool
has_length n (Scalar ty) = false
has_length n (Array' count shape element) = count == n

abbrev pub row_length : {m : _} → Row_of-Init m → ℕ
row_length end_of-Init = 0
row_length (more_of-Init value rest) = 1 + row_length rest

-- an initialiser of the type; an element of an array is none where it is missing
abbrev mutual
  pub initialises : MemTy → Init → Bool
  initialises mem (init.Int value) = is_literal_of (scalar_of mem) value
  initialises mem init.Null = is_pointer (scalar_of mem)
  initialises mem (init.Symbol name) = is_pointer (scalar_of mem)
  initialises mem init.Zero = true
  initialises mem (init.Bytes bytes) = is_some_length (length bytes) (length_of is_i8 mem)
  initialises mem (List' shape inits) = has_length (row_length inits) mem && initialise (element_of mem) inits
  initialises mem init.External = false

  pub initialise : {m : _} → MemTy → Row_of-Init m → Bool
  initialise mem end_of-Init = true
  initialise mem (more_of-Init value rest) = initialises mem value && initialise mem rest

-- an external variable has no initialiser
abbrev pub is_external : Init → Bool
is_external (init.Int value) = false
is_external init.Null = false
is_external (init.Symbol name) = false
is_external init.Zero = false
is_external (init.Bytes bytes) = false
is_external (List' shape inits) = false
is_external init.External = true

-- ---- names in an initialiser

abbrev mutual
  pub names_in : Init → List (List ℕ)
  names_in (init.Int value) = []
  names_in init.Null = []
  names_in (init.Symbol name) = name ∷ []
  names_in init.Zero = []
  names_in (init.Bytes bytes) = []
  names_in (List' shape inits) = names_in_row inits
  names_in init.External = []

  pub names_in_row : {m : _} → Row_of-Init m → List (List ℕ)
  names_in_row end_of-Init = []
  names_in_row (more_of-Init value rest) = names_in value ++ names_in_row rest

-- the initialiser is of its global's type, and names what the program has
abbrev pub is_initialised : Module → Global1 → Bool
is_initialised m g = (is_external g.init || initialises g.mem g.init) && list_all (is_program_symbol m) (names_in g.init)

-- ---- units

abbrev pub is_record_byte : ℕ → Bool
is_record_byte b = nat_le 32 b && nat_le b 126

abbrev pub ends_blank : List ℕ → Bool
ends_blank [] = false
ends_blank (b ∷ []) = b == 32
ends_blank (b ∷ c ∷ more) = ends_blank (c ∷ more)

-- the name of a profile's record: printable bytes without a space at either end, not digits alone, that don't begin as a header or a
-- comment does
unfoldable pub is_record_name : List ℕ → Bool
is_record_name [] = false
is_record_name (b ∷ more) = list_all is_record_byte (b ∷ more) && (not (b == 32 || (b == 58 || b == 35)) && (not (ends_blank (b ∷ more)) && not (list_all is_ascii_digit (b ∷ more))))

-- the texts of the globals that name units
abbrev pub unit_text : Global1 → Option (List ℕ)
unit_text g = cond (is_unit_name g.name) (text_of g) None

abbrev pub unit_texts : List Global1 → List (List ℕ)
unit_texts globals = filter_map unit_text globals

abbrev pub is_new_text : List (List ℕ) → Option (List ℕ) → Bool
is_new_text texts None = false
is_new_text texts (Some bytes) = is_record_name bytes && is_new bytes texts

-- the name of a unit is a record's name that no unit before it has
abbrev pub names_unit_well : Module → ℕ → Global1 → Bool
names_unit_well m n g = is_new_text (unit_texts (take n m.globals)) (text_of g)

unfoldable pub has_hash : ℕ → Option (List ℕ) → Bool
has_hash hash None = false
has_hash hash (Some bytes) = is_record_name bytes && hash8 bytes == hash

-- the data tell the hash of the unit's name, and a number of counters that a unit may have
abbrev pub tells_unit : Module → List ℕ → Data → Bool
tells_unit m unit d = is_counter_total d.counters && list_any (λ (g : Global1). same (codes "__profn_" ++ unit) g.name && has_hash d.name_hash (text_of g)) m.globals

abbrev pub tells_if_any : Module → List ℕ → Option Data → Bool
tells_if_any m unit None = false
tells_if_any m unit (Some d) = tells_unit m unit d

-- the data of a unit are of this form, and it has counters
abbrev pub holds_data_well : Module → Global1 → Bool
holds_data_well m g = tells_if_any m (unit_of g.name) (data_of g) && list_any (λ (c : Global1). same (codes "__profc_" ++ unit_of g.name) c.name) m.globals

abbrev pub tells_counters : Module → List ℕ → ℕ → Option Data → Bool
tells_counters m unit n None = false
tells_counters m unit n (Some d) = tells_unit m unit d && d.counters == n

abbrev pub have_data : Module → List ℕ → Option ℕ → Bool
have_data m unit None = false
have_data m unit (Some n) = list_any (λ (g : Global1). same (codes "__profd_" ++ unit) g.name && tells_counters m unit n (data_of g)) m.globals

-- a unit has as many counters as its data tell
abbrev pub holds_counters_well : Module → Global1 → Bool
holds_counters_well m g = have_data m (unit_of g.name) (counters_of g)

unfoldable pub is_unit_well : Module → ℕ → Global1 → Bool
is_unit_well m n g =
    cond (is_unit_name g.name) (names_unit_well m n g) (
    cond (is_unit_counters g.name) (holds_counters_well m g) (
    cond (is_unit_data g.name) (holds_data_well m g) true))

abbrev pub initialisers : Module → Rule
initialisers m = record silent { global = λ n g. is_initialised m g && is_unit_well m n g }

abbrev pub breaks_5 : Module → List Place
breaks_5 m = places (initialisers m) m
