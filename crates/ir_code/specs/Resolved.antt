-- The resolved code of a module: registers, blocks, functions, objects and counters go by number.
use Rattle.std.specs.Prelude.{ℕ, List, [], ◌∷◌, ◌++◌, Option, Some, None, if◌then◌else◌, codes, drop, length, map, flat_map, filter_map, slice_get}
use Rattle.std.specs.Option.{option_map}
use Rattle.ir_tree.specs.Blocks.{labels}
use Rattle.ir_tree.specs.Functions.{numbered, print_name}
use Rattle.ir_tree.specs.Names.{same}
use Rattle.ir_tree.specs.Operands.{Entries, result_of, result_names}
use Rattle.ir_tree.specs.Phis.{entries_of, leading_phis, behind_phis, value_for}
use Rattle.ir_tree.specs.Successors.{successors}
use Rattle.ir_tree.specs.declared.types.Ty.{Ty}
use Rattle.ir_tree.specs.declared.types.MemTy.{MemTy}
use Rattle.ir_tree.specs.declared.types.Ret.{Ret}
use Rattle.ir_tree.specs.declared.types.Operand.{Operand}
use Rattle.ir_tree.specs.declared.types.Operand.TheVariants as operand
use Rattle.ir_tree.specs.declared.types.Instr.{Instr}
use Rattle.ir_tree.specs.declared.types.Instr.TheVariants as ir
use Rattle.ir_tree.specs.declared.types.Term.{Term}
use Rattle.ir_tree.specs.declared.types.Term.TheVariants as term
use Rattle.ir_tree.specs.declared.types.Block.{Block}
use Rattle.ir_tree.specs.declared.types.Function.{Function as Definition}
use Rattle.ir_tree.specs.declared.types.Module.{Module}
use Rattle.ir_model.specs.Deed.{operator, comparison, unit_of, profile_callee, result_into}
use Rattle.ir_model.specs.Sizes.{element_of, size_of}
use Rattle.ir_model.specs.Step.{marks_lifetime, typed}
use Rattle.ir_code.specs.Names.{number_of}
use Rattle.ir_code.specs.Symbols.{symbol_input}
use Rattle.ir_code.specs.Units.{counter_span, site_span, units_of}
use Rattle.ir_code.specs.declared.code.Input.{Input}
use Rattle.ir_code.specs.declared.code.Input.TheVariants.{Number, Null, Register}
use Rattle.ir_code.specs.declared.code.Scaled.{Scaled}
use Rattle.ir_code.specs.declared.code.Span.{Span}
use Rattle.ir_code.specs.declared.code.Target.{Target}
use Rattle.ir_code.specs.declared.code.Op.{Op}
use Rattle.ir_code.specs.declared.code.Op.TheVariants.{Binary, Compare, Convert, Freeze, Select, Alloca, Load, Store, Gep, Call, Add, Note, Fail}
use Rattle.ir_code.specs.declared.code.Exit.{Exit}
use Rattle.ir_code.specs.declared.code.Exit.TheVariants.{Go, Choose, Switch, Return, Unreachable}
use Rattle.ir_code.specs.declared.code.Move.{Move}
use Rattle.ir_code.specs.declared.code.EdgeCode.{EdgeCode}
use Rattle.ir_code.specs.declared.code.BlockCode.{BlockCode}
use Rattle.ir_code.specs.declared.code.Work.{Work}
use Rattle.ir_code.specs.declared.code.Work.TheVariants.{Print, Nothing, External}
use Rattle.ir_code.specs.declared.code.FunctionCode.{FunctionCode}

-- the registers of a function: its parameters, and then the results of its blocks
abbrev pub register_names : Definition → List (List ℕ)
register_names f = map (λ p. p.1) f.params ++ flat_map (λ (b : Block). result_names b.instrs) f.blocks

-- the phis of each block
abbrev pub block_phis : List Block → List (List Instr)
block_phis bs = map (λ (b : Block). leading_phis b.instrs) bs

-- the labels of a phi's entries
abbrev pub entry_labels : Option Entries → List (List ℕ)
entry_labels None = []
entry_labels (Some es) = map (λ e. e.1) es

-- the value of a phi's first entry for a label
abbrev pub value_on : List ℕ → Option Entries → Option Operand
value_on label None = None
value_on label (Some es) = value_for label es

-- The names of a module's functions and global variables stand for these inputs, its units have these counters and sites,
-- and the registers of the function have these numbers
module _ (symbol : List ℕ → Input) (counters sites : List ℕ → Span) (register : List ℕ → ℕ) where
  abbrev pub input_of : Operand → Input
  input_of (operand.Int n) = Number n
  input_of operand.Null = Null
  input_of (operand.Local x) = Register (register x)
  input_of (operand.Global x) = symbol x

  abbrev pub typed_input : Ty × Operand → Ty × Input
  typed_input u = (u.0, input_of u.1)

  abbrev pub target_of : List ℕ × Ty → Target
  target_of x = record { register = register x.0; ty = x.1 }

  -- the indices of a getelementptr, each with the size of what one step of it passes
  abbrev pub scaled : ℕ → Ty × Operand → Scaled
  scaled size u = record { ty = u.0; index = input_of u.1; size = size }

  abbrev pub inner_indices : MemTy → List (Ty × Operand) → List Scaled
  inner_indices mem [] = []
  inner_indices mem (u ∷ us) = scaled (size_of (element_of mem)) u ∷ inner_indices (element_of mem) us

  abbrev pub indices_of : MemTy → List (Ty × Operand) → List Scaled
  indices_of mem [] = []
  indices_of mem (u ∷ us) = scaled (size_of mem) u ∷ inner_indices mem us

  -- a call of one of the four functions of a profile
  abbrev pub profile_op : List ℕ → List (Ty × Operand) → Op
  profile_op name (unit ∷ hash ∷ count ∷ index ∷ []) =
      if same (codes "llvm.instrprof.increment") name
      then Add (counters (unit_of unit.1)) (input_of index.1) (Number 1)
      else Fail
  profile_op name (unit ∷ second ∷ third ∷ fourth ∷ fifth ∷ []) =
      if same (codes "llvm.instrprof.increment.step") name
      then Add (counters (unit_of unit.1)) (input_of fourth.1) (input_of fifth.1)
      else if same (codes "llvm.instrprof.value.profile") name
      then Note (sites (unit_of unit.1)) (input_of fifth.1) (input_of third.1)
      else Fail
  profile_op name (target ∷ unit ∷ site ∷ []) =
      if same (codes "__llvm_profile_instrument_target") name
      then Note (sites (unit_of unit.1)) (input_of site.1) (input_of target.1)
      else Fail
  profile_op name [] = Fail
  profile_op name (a ∷ []) = Fail
  profile_op name (a ∷ b ∷ []) = Fail
  profile_op name (a ∷ b ∷ c ∷ d ∷ e ∷ f ∷ more) = Fail

  abbrev pub call_op : Option (List ℕ) → Ret → Operand → List (Ty × Operand) → Option (List ℕ) → Op
  call_op into r callee args None =
      Call (option_map target_of (result_into into r)) r (input_of callee) (map typed_input args)
  call_op into r callee args (Some name) = profile_op name args

  abbrev pub op_of : Instr → Op
  op_of (ir.Binary into o flags ty left right) =
      Binary (register into) (operator o) ty (input_of left) (input_of right)
  op_of (ir.Compare into p ty left right) =
      Compare (register into) (comparison p) ty (input_of left) (input_of right)
  op_of (ir.Convert into o flags from value to) = Convert (register into) o from to (input_of value)
  op_of (ir.Freeze into ty value) = Freeze (register into) ty (input_of value)
  op_of (ir.Select into c ty first second prof) =
      Select (register into) ty (input_of c) (input_of first) (input_of second)
  op_of (ir.Phi into ty entries) = Fail
  op_of (ir.Alloca into mem) = Alloca (register into) (size_of mem)
  op_of (ir.Load into ty address) = Load (register into) ty (input_of address)
  op_of (ir.Store ty value address) = Store ty (input_of value) (input_of address)
  op_of (ir.Gep into inbounds mem address indices) = Gep (register into) (input_of address) (indices_of mem indices)
  op_of (ir.Call into r callee args prof) = call_op into r callee args (profile_callee callee)
  op_of (ir.Count name size index step) = Add (counters (drop 8 name)) (Number index) (input_of step)

  abbrev pub exit_of : Term → Exit
  exit_of (term.Br to) = Go
  exit_of (term.CondBr c first second prof) = Choose (input_of c)
  exit_of (term.Switch ty v default cases prof) = Switch ty (input_of v) (map (λ c. c.0) cases)
  exit_of (term.Ret v) = Return (option_map typed_input v)
  exit_of term.Unreachable = Unreachable

  -- where a phi's value comes from on an edge from the block of this label: the first entry for the label counts
  abbrev pub taken_input : Option Operand → Input
  taken_input None = Number 0
  taken_input (Some o) = input_of o

  abbrev pub phi_input : List ℕ → Option Entries → Input
  phi_input label es = taken_input (value_on label es)

  -- what a phi does on the edge
  abbrev pub move_of : List ℕ → Instr → Option Move
  move_of label i =
      option_map (λ x. record { into = target_of x; source = phi_input label (entries_of i) }) (typed (result_of i))

  abbrev pub moves_from : List ℕ → List Instr → List Move
  moves_from label phis = filter_map (move_of label) phis

  abbrev pub moves_at : List ℕ → Option (List Instr) → List Move
  moves_at label None = []
  moves_at label (Some phis) = moves_from label phis

  -- the code of blocks, where labels have these numbers, and blocks these phis
  module _ (number : List ℕ → ℕ) (phis : List (List Instr)) where
    abbrev pub edge_to : List ℕ → List ℕ → EdgeCode
    edge_to label to = record { block = number to; moves = moves_at label (slice_get phis (number to)) }

    abbrev pub edges_of : List ℕ → Term → List EdgeCode
    edges_of label t = map (edge_to label) (successors t)

    abbrev pub block_code : Block → BlockCode
    block_code b = record {
      ops = map op_of (behind_phis b.instrs);
      exit = exit_of b.term;
      edges = edges_of b.label b.term;
    }

-- what a declared function of this name does
abbrev pub work_of : List ℕ → Work
work_of name = if same print_name name then Print else if marks_lifetime name then Nothing else External

-- the code of a function, where its registers and its labels have these numbers
abbrev pub numbered_code : (List ℕ → Input) → (List ℕ → Span) → (List ℕ → Span) → (List ℕ → ℕ) → (List ℕ → ℕ) → Definition → FunctionCode
numbered_code symbol counters sites register number f = record {
  ret = f.ret;
  params = map (λ p. p.0) f.params;
  registers = length (register_names f);
  blocks = map (block_code symbol counters sites register number (block_phis f.blocks)) f.blocks;
  work = work_of f.name;
}

abbrev pub function_code : (List ℕ → Input) → (List ℕ → Span) → (List ℕ → Span) → Definition → FunctionCode
function_code symbol counters sites f =
    numbered_code symbol counters sites (number_of (register_names f)) (number_of (labels f.blocks)) f

-- the code of the functions of a module that have a number, in order
abbrev pub module_code : Module → List FunctionCode
module_code m =
    map (function_code (symbol_input m) (counter_span (units_of m)) (site_span (units_of m))) (numbered m.functions)
