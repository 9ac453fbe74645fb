-- The modules of the examples at work: a result for each kind of instruction, and each trap that takes few steps. Values are
-- computed by hand from the LLVM Language Reference.
use Rattle.std.proofs.Common.{◌≡◌, [], ◌∷◌, Some, None, true, refl}
use Rattle.std.specs.Prelude.{codes, ◌^◌}
use Rattle.ir_tree.specs.Functions.{print_name, is_profile_name}
use Rattle.ir_tree.specs.declared.types.Ty.TheVariants.{I1, I8, I16, I32, I64, Ptr}
use Rattle.ir_tree.specs.declared.types.Ret.TheVariants as ret
use Rattle.ir_tree.specs.declared.types.BinOp.TheVariants as binary
use Rattle.ir_tree.specs.declared.types.Pred.TheVariants as pred
use Rattle.ir_tree.specs.declared.types.ConvOp.TheVariants as conversions
use Rattle.ir_tree.specs.declared.types.MemTy.TheVariants.{Scalar}
use Rattle.ir_tree.specs.declared.types.Init.TheVariants as init
use Rattle.ir_tree.specs.declared.types.Global1.{Global1}
use Rattle.ir_tree.specs.declared.types.Operand.TheVariants.{Int, Null, Local, Global}
use Rattle.ir_tree.specs.declared.types.Instr.TheVariants.{Compare, Freeze, Select, Alloca, Load, Store, Call}
use Rattle.ir_tree.specs.declared.types.Term.TheVariants.{Switch, Ret, Unreachable}
use Rattle.ir_tree.specs.Blocks.{block_with}
use Rattle.ir_model.specs.declared.result.End.TheVariants.{Returned, Trapped, StepsSpent}
use Rattle.ir_model.specs.declared.result.TrapKind.TheVariants as trap
use Rattle.ir_model.specs.Examples.{operation, conversion, returning, ends, ends_in, module_of}

-- ---- operators

-- 200 + 100 is 300, and 300 modulo 256 is 44
pub sum_wraps : ends_in [] (operation binary.Add I8 200 100 ∷ []) (returning I8) 2 ≡ Returned (Some 44)
unfolding print_name is_profile_name
sum_wraps = refl

-- one step less leaves the call open
pub one_step_too_few : ends_in [] (operation binary.Add I8 200 100 ∷ []) (returning I8) 1 ≡ StepsSpent
unfolding print_name is_profile_name
one_step_too_few = refl

-- -7 divided by 2 is -3, rounded towards 0: 253 of 8 bits
pub quotient_towards_zero : ends_in [] (operation binary.SDiv I8 249 2 ∷ []) (returning I8) 2 ≡ Returned (Some 253)
unfolding print_name is_profile_name
quotient_towards_zero = refl

-- a shift by the width gives 0, that of a negative number too
pub wide_shift : ends_in [] (operation binary.AShr I8 128 8 ∷ []) (returning I8) 2 ≡ Returned (Some 0)
unfolding print_name is_profile_name
wide_shift = refl

pub no_division_by_zero : ends_in [] (operation binary.UDiv I8 1 0 ∷ []) (returning I8) 2 ≡ Trapped trap.DivZero
unfolding print_name is_profile_name
no_division_by_zero = refl

-- -128 divided by -1
pub no_overflow : ends_in [] (operation binary.SDiv I8 128 255 ∷ []) (returning I8) 2 ≡ Trapped trap.DivOverflow
unfolding print_name is_profile_name
no_overflow = refl

-- -1 is below 1
pub signed_order : ends_in [] (Compare (codes "r") pred.Slt I8 (Int 255) (Int 1) ∷ []) (returning I1) 2 ≡ Returned (Some 1)
unfolding print_name is_profile_name
signed_order = refl

-- ---- conversions

pub truncation : ends_in [] (conversion conversions.Trunc I16 258 I8 ∷ []) (returning I8) 2 ≡ Returned (Some 2)
unfolding print_name is_profile_name
truncation = refl

pub zero_extension : ends_in [] (conversion conversions.ZExt I8 255 I16 ∷ []) (returning I16) 2 ≡ Returned (Some 255)
unfolding print_name is_profile_name
zero_extension = refl

pub sign_extension : ends_in [] (conversion conversions.SExt I8 255 I16 ∷ []) (returning I16) 2 ≡ Returned (Some 65535)
unfolding print_name is_profile_name
sign_extension = refl

pub frozen : ends_in [] (Freeze (codes "r") I8 (Int 7) ∷ []) (returning I8) 2 ≡ Returned (Some 7)
unfolding print_name is_profile_name
frozen = refl

-- a condition of 0 takes the second value
pub second_selected : ends_in [] (Select (codes "r") (Int 0) I8 (Int 1) (Int 2) None ∷ []) (returning I8) 2 ≡ Returned (Some 2)
unfolding print_name is_profile_name
second_selected = refl

-- ---- memory

-- what is stored is loaded; object 0 lies at 2 ^ 32
pub stored_is_loaded : ends_in [] (Alloca (codes "p") (Scalar I16) ∷ Store I16 (Int 513) (Local (codes "p")) ∷ Load (codes "r") I16 (Local (codes "p")) ∷ []) (returning I16) 4 ≡ Returned (Some 513)
unfolding print_name is_profile_name
stored_is_loaded = refl

pub first_object : ends_in [] (Alloca (codes "r") (Scalar I16) ∷ []) (returning Ptr) 2 ≡ Returned (Some (2 ^ 32))
unfolding print_name is_profile_name
first_object = refl

-- two bytes are no four
pub past_the_end : ends_in [] (Alloca (codes "p") (Scalar I16) ∷ Load (codes "r") I32 (Local (codes "p")) ∷ []) (returning I32) 3 ≡ Trapped trap.Access
unfolding print_name is_profile_name
past_the_end = refl

abbrev constant_seven : Global1
constant_seven = record { name = codes "c"; constant = true; mem = Scalar I8; init = init.Int 7 }

pub constant_is_read : ends_in (constant_seven ∷ []) (Load (codes "r") I8 (Global (codes "c")) ∷ []) (returning I8) 2 ≡ Returned (Some 7)
unfolding print_name is_profile_name
constant_is_read = refl

pub constant_stays : ends_in (constant_seven ∷ []) (Store I8 (Int 1) (Global (codes "c")) ∷ []) (Ret (Some (I8, Int 0))) 2 ≡ Trapped trap.Access
unfolding print_name is_profile_name
constant_stays = refl

-- eight bytes that are no pieces of a pointer
pub no_pointer : ends_in [] (Alloca (codes "p") (Scalar I64) ∷ Store I64 (Int 5) (Local (codes "p")) ∷ Load (codes "r") Ptr (Local (codes "p")) ∷ []) (returning Ptr) 4 ≡ Trapped trap.BadPointer
unfolding print_name is_profile_name
no_pointer = refl

-- ---- calls

pub no_function_at_null : ends_in [] (Call None ret.Void Null [] None ∷ []) (Ret (Some (I64, Int 0))) 2 ≡ Trapped trap.Callee
unfolding print_name is_profile_name
no_function_at_null = refl

-- ---- terminators

pub unreachable_traps : ends_in [] [] Unreachable 1 ≡ Trapped trap.Unreachable
unfolding print_name is_profile_name
unreachable_traps = refl

-- of two equal cases the first counts, and the default is taken where none is equal
pub first_case : ends (module_of [] (block_with (codes "entry") [] (Switch I64 (Local (codes "n")) (codes "a") ((5, codes "b") ∷ (5, codes "a") ∷ []) None) ∷ block_with (codes "a") [] (Ret (Some (I64, Int 1))) ∷ block_with (codes "b") [] (Ret (Some (I64, Int 2))) ∷ [])) 5 2 ≡ Returned (Some 2)
unfolding print_name is_profile_name
first_case = refl

pub default_case : ends (module_of [] (block_with (codes "entry") [] (Switch I64 (Local (codes "n")) (codes "a") ((5, codes "b") ∷ []) None) ∷ block_with (codes "a") [] (Ret (Some (I64, Int 1))) ∷ block_with (codes "b") [] (Ret (Some (I64, Int 2))) ∷ [])) 4 2 ≡ Returned (Some 1)
unfolding print_name is_profile_name
default_case = refl
