-- What the names of a module are found to stand for.
use Rattle.std.specs.Prelude.{◌≡◌, ℕ, List, map, Option, option_and_then, slice_get}
use Rattle.ir_tree.specs.Functions.{numbered}
use Rattle.ir_tree.specs.Names.{first_place, Indexes}
use Rattle.ir_tree.specs.Operands.{Entries}
use Rattle.ir_tree.specs.declared.types.Block.{Block}
use Rattle.ir_tree.specs.declared.types.Function.{Function}
use Rattle.ir_tree.specs.declared.types.Global1.{Global1}
use Rattle.ir_tree.specs.declared.types.Instr.{Instr}
use Rattle.ir_tree.specs.declared.types.MemTy.{MemTy}
use Rattle.ir_tree.specs.declared.types.Module.{Module}
use Rattle.ir_tree.specs.declared.types.Operand.{Operand}
use Rattle.ir_tree.specs.declared.types.Ret.{Ret}
use Rattle.ir_tree.specs.declared.types.Term.{Term}
use Rattle.ir_tree.specs.declared.types.Ty.{Ty}
use Rattle.ir_memory.specs.declared.value.Value.{Value}
use Rattle.ir_model.specs.Values.{objects, symbol_pointer}
use Rattle.ir_model.specs.declared.probe.Tally.{Tally}
use Rattle.ir_code.specs.Names.{number_in}
use Rattle.ir_code.specs.Resolved.{input_of, typed_input, scaled, inner_indices, indices_of, profile_op, call_op, op_of, exit_of, phi_input, move_of, moves_from, edge_to, edges_of, block_code, function_code}
use Rattle.ir_code.specs.Symbols.{numbered_input}
use Rattle.ir_code.specs.Units.{counters_in, sites_in, tallies_of, units_of}
use Rattle.ir_code.specs.declared.code.BlockCode.{BlockCode}
use Rattle.ir_code.specs.declared.code.EdgeCode.{EdgeCode}
use Rattle.ir_code.specs.declared.code.Exit.{Exit}
use Rattle.ir_code.specs.declared.code.FunctionCode.{FunctionCode}
use Rattle.ir_code.specs.declared.code.Input.{Input}
use Rattle.ir_code.specs.declared.code.Move.{Move}
use Rattle.ir_code.specs.declared.code.Op.{Op}
use Rattle.ir_code.specs.declared.code.Scaled.{Scaled}
use Rattle.ir_code.specs.declared.code.Span.{Span}
use Rattle.ir_code.specs.declared.names.Numbers.{Numbers}
use Rattle.ir_code.specs.declared.symbols.Symbols.{Symbols}

-- the input that is found for the name of a function or global variable
abbrev pub symbol_in : Symbols → List ℕ → Input
symbol_in s name = numbered_input (first_place s.functions name) (first_place s.objects name)

-- the same as a value
abbrev pub value_in : Symbols → List ℕ → Value
value_in s name = symbol_pointer (first_place s.functions name) (first_place s.objects name)

-- what is found to be counted of a unit
abbrev pub tally_in : Symbols → List ℕ → Option Tally
tally_in s unit = option_and_then (slice_get s.tallies) (first_place s.units unit)

abbrev pub counters_of : Symbols → List ℕ → Span
counters_of s unit = counters_in (tally_in s unit)

abbrev pub sites_of : Symbols → List ℕ → Span
sites_of s unit = sites_in (tally_in s unit)

-- these are the symbols of the module
pub record AreSymbols (s : Symbols) (m : Module) : Type 0 where
  pub functions : Indexes s.functions (map (λ (f : Function). f.name) (numbered m.functions))
  pub objects : Indexes s.objects (map (λ (g : Global1). g.name) (objects m.globals))
  pub units : Indexes s.units (map (λ u. u.0) (units_of m))
  pub tallies : s.tallies ≡ tallies_of m

-- What is resolved with these symbols ..
module _ (s : Symbols) where
  abbrev pub function_in : Function → FunctionCode
  function_in f = function_code (symbol_in s) (counters_of s) (sites_of s) f

  -- .. and these registers of a function ..
  module _ (registers : Numbers) where
    abbrev pub input_in : Operand → Input
    input_in o = input_of (symbol_in s) (counters_of s) (sites_of s) (number_in registers) o

    abbrev pub typed_input_in : Ty × Operand → Ty × Input
    typed_input_in u = typed_input (symbol_in s) (counters_of s) (sites_of s) (number_in registers) u

    abbrev pub scaled_in : ℕ → Ty × Operand → Scaled
    scaled_in size u = scaled (symbol_in s) (counters_of s) (sites_of s) (number_in registers) size u

    abbrev pub inner_indices_in : MemTy → List (Ty × Operand) → List Scaled
    inner_indices_in mem us = inner_indices (symbol_in s) (counters_of s) (sites_of s) (number_in registers) mem us

    abbrev pub indices_in : MemTy → List (Ty × Operand) → List Scaled
    indices_in mem us = indices_of (symbol_in s) (counters_of s) (sites_of s) (number_in registers) mem us

    abbrev pub profile_op_in : List ℕ → List (Ty × Operand) → Op
    profile_op_in name us = profile_op (symbol_in s) (counters_of s) (sites_of s) (number_in registers) name us

    abbrev pub call_op_in : Option (List ℕ) → Ret → Operand → List (Ty × Operand) → Option (List ℕ) → Op
    call_op_in into r callee args name =
        call_op (symbol_in s) (counters_of s) (sites_of s) (number_in registers) into r callee args name

    abbrev pub op_in : Instr → Op
    op_in i = op_of (symbol_in s) (counters_of s) (sites_of s) (number_in registers) i

    abbrev pub exit_in : Term → Exit
    exit_in t = exit_of (symbol_in s) (counters_of s) (sites_of s) (number_in registers) t

    abbrev pub phi_input_in : List ℕ → Option Entries → Input
    phi_input_in label es = phi_input (symbol_in s) (counters_of s) (sites_of s) (number_in registers) label es

    abbrev pub move_in : List ℕ → Instr → Option Move
    move_in label i = move_of (symbol_in s) (counters_of s) (sites_of s) (number_in registers) label i

    abbrev pub moves_in : List ℕ → List Instr → List Move
    moves_in label phis = moves_from (symbol_in s) (counters_of s) (sites_of s) (number_in registers) label phis

    -- .. and these labels of its blocks, which have these phis
    module _ (labels : Numbers) (phis : List (List Instr)) where
      abbrev pub edge_in : List ℕ → List ℕ → EdgeCode
      edge_in label to =
          edge_to (symbol_in s) (counters_of s) (sites_of s) (number_in registers) (number_in labels) phis label to

      abbrev pub edges_in : List ℕ → Term → List EdgeCode
      edges_in label t =
          edges_of (symbol_in s) (counters_of s) (sites_of s) (number_in registers) (number_in labels) phis label t

      abbrev pub block_in : Block → BlockCode
      block_in b =
          block_code (symbol_in s) (counters_of s) (sites_of s) (number_in registers) (number_in labels) phis b
