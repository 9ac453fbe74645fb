-- The lowered module: increments count in the counters of their unit, value notes call the profile runtime, and each unit that is
-- used has its counters and its data.
use Rattle.std.specs.Prelude.{ℕ, not, List, [], ◌∷◌, ◌++◌, codes, filter, map, Option, None, Some}
use Rattle.ir_rules.specs.Reserved.{is_of_intrinsics}
use Rattle.ir_tree.specs.declared.types.Block.{Block}
use Rattle.ir_tree.specs.declared.types.Function.{Function}
use Rattle.ir_tree.specs.declared.types.Instr.{Instr}
use Rattle.ir_tree.specs.declared.types.Instr.TheVariants.{Call, Count}
use Rattle.ir_tree.specs.declared.types.Module.{Module}
use Rattle.ir_tree.specs.declared.types.Operand.{Operand}
use Rattle.ir_tree.specs.declared.types.Operand.TheVariants.{Int, Global}
use Rattle.ir_tree.specs.declared.types.Ret.TheVariants.{Void}
use Rattle.ir_tree.specs.declared.types.Ty.TheVariants.{I32, I64, Ptr}
use Rattle.lowering.specs.Asked.{Asked, Rise, Note, all_asked, asked}
use Rattle.lowering.specs.Units.{counters_symbol, data_symbol, new_globals}

-- the function of the profile runtime that notes a target
unfoldable pub runtime_name : List ℕ
runtime_name = codes "__llvm_profile_instrument_target"

-- the call of the profile runtime that notes a target
abbrev pub noting : List ℕ → Operand → ℕ → Instr
noting symbol target site = Call None Void (Global runtime_name) ((I64, target) ∷ (Ptr, Global (data_symbol symbol)) ∷ (I32, Int site) ∷ []) None

-- what does what is asked for, in place of an instruction
abbrev pub doing : Instr → Option Asked → Instr
doing x None = x
doing x (Some (Rise symbol hash counters counter amount)) = Count (counters_symbol symbol) counters counter amount
doing x (Some (Note symbol hash target site)) = noting symbol target site

abbrev pub lowered_instr : Instr → Instr
lowered_instr x = doing x (asked x)

abbrev pub lowered_block : Block → Block
lowered_block b = record b { instrs = map lowered_instr b.instrs }

abbrev pub lowered_function : Function → Function
lowered_function f = record f { blocks = map lowered_block f.blocks }

-- `declare void @__llvm_profile_instrument_target(i64, ptr, i32)`
abbrev pub runtime_declaration : Function
runtime_declaration = record { name = runtime_name; ret = Void; params = (I64, []) ∷ (Ptr, []) ∷ (I32, []) ∷ []; blocks = []; prof = None }

-- the functions without the intrinsics, each lowered
abbrev pub lowered_functions : List Function → List Function
lowered_functions functions = map lowered_function (filter (λ f. not (is_of_intrinsics f.name)) functions) ++ runtime_declaration ∷ []

abbrev pub lowered : Module → Module
lowered m = record {
  globals = m.globals ++ new_globals (all_asked m) m.globals;
  functions = lowered_functions m.functions;
}
