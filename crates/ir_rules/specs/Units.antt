-- What the globals of a profile hold: the name of a unit, its counters, and its data, which are the hash of the name, the hash of
-- the function, and the numbers of counters and of sites.
use Rattle.std.specs.Prelude.{ℕ, Bool, true, false, ◌&&◌, ◌==◌, cond, not, List, [], ◌∷◌, length, Option, None, Some}
use Rattle.ir_rules.specs.Sizes.{first_in}
use Rattle.ir_tree.specs.Types.{when}
use Rattle.ir_tree.specs.declared.types.Global1.{Global1}
use Rattle.ir_tree.specs.declared.types.Init.{Init, List', Row_of-Init, end_of-Init, more_of-Init}
use Rattle.ir_tree.specs.declared.types.Init.TheVariants as init
use Rattle.ir_tree.specs.declared.types.MemTy.{MemTy, Array'}
use Rattle.ir_tree.specs.declared.types.MemTy.TheVariants.{Scalar}
use Rattle.ir_tree.specs.declared.types.Ty.{Ty}
use Rattle.ir_tree.specs.declared.types.Ty.TheVariants.{I1, I8, I16, I32, I64, Ptr}

-- ---- arrays of integers

abbrev pub is_i8 : Ty → Bool
is_i8 I1 = false
is_i8 I8 = true
is_i8 I16 = false
is_i8 I32 = false
is_i8 I64 = false
is_i8 Ptr = false

abbrev pub is_i64 : Ty → Bool
is_i64 I1 = false
is_i64 I8 = false
is_i64 I16 = false
is_i64 I32 = false
is_i64 I64 = true
is_i64 Ptr = false

abbrev pub is_scalar : (Ty → Bool) → MemTy → Bool
is_scalar test (Scalar ty) = test ty
is_scalar test (Array' count shape element) = false

-- the length of an array of such values, none of another type
abbrev pub length_of : (Ty → Bool) → MemTy → Option ℕ
length_of test (Scalar ty) = None
length_of test (Array' count shape element) = when (is_scalar test (first_in (Scalar I1) element)) count

abbrev pub is_some_length : ℕ → Option ℕ → Bool
is_some_length n None = false
is_some_length n (Some l) = l == n

-- ---- initialisers

abbrev pub literal_of : Init → Option ℕ
literal_of (init.Int value) = Some value
literal_of init.Null = None
literal_of (init.Symbol name) = None
literal_of init.Zero = None
literal_of (init.Bytes bytes) = None
literal_of (List' shape inits) = None
literal_of init.External = None

abbrev pub in_front : Option ℕ → Option (List ℕ) → Option (List ℕ)
in_front None more = None
in_front (Some n) None = None
in_front (Some n) (Some more) = Some (n ∷ more)

abbrev pub literals_in : {m : _} → Row_of-Init m → Option (List ℕ)
literals_in end_of-Init = Some []
literals_in (more_of-Init value rest) = in_front (literal_of value) (literals_in rest)

-- the literals of a list of literals alone
abbrev pub literals_of : Init → Option (List ℕ)
literals_of (init.Int value) = None
literals_of init.Null = None
literals_of (init.Symbol name) = None
literals_of init.Zero = None
literals_of (init.Bytes bytes) = None
literals_of (List' shape inits) = literals_in inits
literals_of init.External = None

abbrev pub bytes_in : Init → Option (List ℕ)
bytes_in (init.Int value) = None
bytes_in init.Null = None
bytes_in (init.Symbol name) = None
bytes_in init.Zero = None
bytes_in (init.Bytes bytes) = Some bytes
bytes_in (List' shape inits) = None
bytes_in init.External = None

abbrev pub is_zero : Init → Bool
is_zero (init.Int value) = false
is_zero init.Null = false
is_zero (init.Symbol name) = false
is_zero init.Zero = true
is_zero (init.Bytes bytes) = false
is_zero (List' shape inits) = false
is_zero init.External = false

-- ---- the three globals of a unit

abbrev pub of_length : Option ℕ → Option (List ℕ) → Option (List ℕ)
of_length None bytes = None
of_length (Some n) None = None
of_length (Some n) (Some bytes) = when (length bytes == n) bytes

-- the name that a constant array of bytes spells
abbrev pub text_of : Global1 → Option (List ℕ)
text_of g = cond g.constant (of_length (length_of is_i8 g.mem) (bytes_in g.init)) None

-- the number of counters of a variable array of 64-bit zeros
abbrev pub counters_of : Global1 → Option ℕ
counters_of g = cond (not g.constant && is_zero g.init) (length_of is_i64 g.mem) None

-- the hash of the unit's name, that of its function, and the numbers of its counters and sites
pub record Data : Type 0 where
  pub name_hash : ℕ
  pub hash : ℕ
  pub counters : ℕ
  pub sites : ℕ

abbrev pub as_data : Option (List ℕ) → Option Data
as_data None = None
as_data (Some []) = None
as_data (Some (a ∷ [])) = None
as_data (Some (a ∷ b ∷ [])) = None
as_data (Some (a ∷ b ∷ c ∷ [])) = None
as_data (Some (a ∷ b ∷ c ∷ d ∷ [])) = Some (record { name_hash = a; hash = b; counters = c; sites = d })
as_data (Some (a ∷ b ∷ c ∷ d ∷ e ∷ more)) = None

-- the four literals of an array of four 64-bit integers
abbrev pub data_in : Global1 → Option Data
data_in g = cond (is_some_length 4 (length_of is_i64 g.mem)) (as_data (literals_of g.init)) None

-- the data of a unit stand in a variable
abbrev pub data_of : Global1 → Option Data
data_of g = cond g.constant None (data_in g)

abbrev pub sites_in : Option Data → ℕ
sites_in None = 0
sites_in (Some d) = d.sites

-- the number of sites that a global of a unit's data tells
abbrev pub sites_of : Global1 → ℕ
sites_of g = sites_in (data_in g)
