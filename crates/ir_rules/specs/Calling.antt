-- Rule 13. The callee of a call is a parameter or result, or a function, and then the call has the function's types. A call that
-- returns nothing has no result name.
use Rattle.std.specs.Prelude.{ℕ, Bool, true, false, ◌&&◌, not, List, map, Option, is_some}
use Rattle.std.specs.List.{list_any}
use Rattle.ir_rules.specs.Declarations.{same_ret, same_tys}
use Rattle.ir_rules.specs.Parts.{Rule, places, silent}
use Rattle.ir_rules.specs.Scopes.{Signature, signatures}
use Rattle.ir_rules.specs.declared.place.Place.{Place}
use Rattle.ir_tree.specs.Names.{same}
use Rattle.ir_tree.specs.Operands.{Use}
use Rattle.ir_tree.specs.declared.types.Instr.{Instr}
use Rattle.ir_tree.specs.declared.types.Instr.TheVariants.{Binary, Compare, Convert, Freeze, Select, Phi, Alloca, Load, Store, Gep, Call, Count}
use Rattle.ir_tree.specs.declared.types.Module.{Module}
use Rattle.ir_tree.specs.declared.types.Operand.{Operand}
use Rattle.ir_tree.specs.declared.types.Operand.TheVariants.{Int, Null, Local, Global}
use Rattle.ir_tree.specs.declared.types.Ret.{Ret}
use Rattle.ir_tree.specs.declared.types.Ret.TheVariants.{Void, Value}
use Rattle.ir_tree.specs.declared.types.Ty.{Ty}

abbrev pub is_signature : List ℕ → Ret → List Ty → Signature → Bool
is_signature name ret types s = same name s.0 && (same_ret ret s.1 && same_tys types s.2)

abbrev pub is_callee : Module → Ret → List Ty → Operand → Bool
is_callee m ret types (Int value) = false
is_callee m ret types Null = false
is_callee m ret types (Local name) = true
is_callee m ret types (Global name) = list_any (is_signature name ret types) (signatures m)

abbrev pub may_name : Ret → Option (List ℕ) → Bool
may_name Void dest = not (is_some dest)
may_name (Value t) dest = true

abbrev pub arg_types : List Use → List Ty
arg_types args = map (λ a. a.0) args

abbrev pub calls_well : Module → Instr → Bool
calls_well m (Binary dest op flags ty left right) = true
calls_well m (Compare dest pred ty left right) = true
calls_well m (Convert dest op flags from value to) = true
calls_well m (Freeze dest ty value) = true
calls_well m (Select dest cond ty first second prof) = true
calls_well m (Phi dest ty entries) = true
calls_well m (Alloca dest mem) = true
calls_well m (Load dest ty address) = true
calls_well m (Store ty value address) = true
calls_well m (Gep dest inbounds mem address indices) = true
calls_well m (Call dest ret callee args prof) = may_name ret dest && is_callee m ret (arg_types args) callee
calls_well m (Count symbol size index step) = true

abbrev pub calling : Module → Rule
calling m = record silent { item = λ f b block i x. calls_well m x }

abbrev pub breaks_13 : Module → List Place
breaks_13 m = places (calling m) m
