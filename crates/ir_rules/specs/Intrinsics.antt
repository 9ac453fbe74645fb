-- Rule 17. A call of an intrinsic for counters names a unit by its global; the hash, the numbers, the kind and the index are
-- literals; the kind is 0, a unit has 1 to 1,048,576 counters, and the index of a site is below 65,536.
use Rattle.std.specs.Prelude.{ℕ, Bool, true, false, ◌&&◌, ◌==◌, nat_le, nat_lt, if◌then◌else◌, List, [], ◌∷◌}
use Rattle.ir_rules.specs.Declarations.{is_increment, is_increment_step, is_value_note}
use Rattle.ir_rules.specs.Kinds.{is_unit_name}
use Rattle.ir_rules.specs.Lists.{is_among}
use Rattle.ir_rules.specs.Parts.{Rule, places, silent}
use Rattle.ir_rules.specs.Scopes.{variables}
use Rattle.ir_rules.specs.declared.place.Place.{Place}
use Rattle.ir_tree.specs.Operands.{Use}
use Rattle.ir_tree.specs.declared.types.Instr.{Instr}
use Rattle.ir_tree.specs.declared.types.Instr.TheVariants.{Binary, Compare, Convert, Freeze, Select, Phi, Alloca, Load, Store, Gep, Call, Count}
use Rattle.ir_tree.specs.declared.types.Module.{Module}
use Rattle.ir_tree.specs.declared.types.Operand.{Operand}
use Rattle.ir_tree.specs.declared.types.Operand.TheVariants.{Int, Null, Local, Global}

-- a literal that passes a test
abbrev pub is_number : (ℕ → Bool) → Operand → Bool
is_number test (Int value) = test value
is_number test Null = false
is_number test (Local name) = false
is_number test (Global name) = false

abbrev pub is_literal : Operand → Bool
is_literal o = is_number (λ value. true) o

-- the global with the name of a unit
abbrev pub names_unit : Module → Operand → Bool
names_unit m (Int value) = false
names_unit m Null = false
names_unit m (Local name) = false
names_unit m (Global name) = is_unit_name name && is_among name (variables m)

-- so many counters may a unit have
unfoldable pub is_counter_total : ℕ → Bool
is_counter_total n = nat_le 1 n && nat_le n 1048576

-- the unit, its hash, its number of counters, and the index of one
abbrev pub names_counter : Module → Use → Use → Use → Use → Bool
names_counter m unit hash counters index = names_unit m unit.1 && (is_literal hash.1 && (is_number is_counter_total counters.1 && is_literal index.1))

abbrev pub names_site : Module → Use → Use → Use → Use → Bool
names_site m unit hash kind index = names_unit m unit.1 && (is_literal hash.1 && (is_number (λ value. value == 0) kind.1 && is_number (λ value. nat_lt value 65536) index.1))

-- the arguments of a call of this name; where their number is another one the call breaks the rule on calls
abbrev pub names_place : Module → List ℕ → List Use → Bool
names_place m name [] = true
names_place m name (a ∷ []) = true
names_place m name (a ∷ b ∷ []) = true
names_place m name (a ∷ b ∷ c ∷ []) = true
names_place m name (unit ∷ hash ∷ counters ∷ index ∷ []) = if is_increment name then names_counter m unit hash counters index else true
names_place m name (unit ∷ second ∷ third ∷ fourth ∷ fifth ∷ []) =
    if is_increment_step name then names_counter m unit second third fourth
    else if is_value_note name then names_site m unit second fourth fifth
    else true
names_place m name (a ∷ b ∷ c ∷ d ∷ e ∷ f ∷ more) = true

abbrev pub calls_intrinsic_well : Module → Operand → List Use → Bool
calls_intrinsic_well m (Int value) args = true
calls_intrinsic_well m Null args = true
calls_intrinsic_well m (Local name) args = true
calls_intrinsic_well m (Global name) args = names_place m name args

abbrev pub counts_well : Module → Instr → Bool
counts_well m (Binary dest op flags ty left right) = true
counts_well m (Compare dest pred ty left right) = true
counts_well m (Convert dest op flags from value to) = true
counts_well m (Freeze dest ty value) = true
counts_well m (Select dest cond ty first second prof) = true
counts_well m (Phi dest ty entries) = true
counts_well m (Alloca dest mem) = true
counts_well m (Load dest ty address) = true
counts_well m (Store ty value address) = true
counts_well m (Gep dest inbounds mem address indices) = true
counts_well m (Call dest ret callee args prof) = calls_intrinsic_well m callee args
counts_well m (Count symbol size index step) = true

abbrev pub intrinsics : Module → Rule
intrinsics m = record silent { item = λ f b block i x. counts_well m x }

abbrev pub breaks_17 : Module → List Place
breaks_17 m = places (intrinsics m) m
