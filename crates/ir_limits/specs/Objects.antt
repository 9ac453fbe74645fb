-- Array types that are too large.
use Rattle.std.specs.Prelude.{ℕ, List, ◌++◌, flat_map}
use Rattle.ir_rules.specs.Limits.{each_above, function_arrays, global_arrays, instr_arrays}
use Rattle.ir_rules.specs.declared.place.Kind.{Kind}
use Rattle.ir_rules.specs.declared.place.LimitKind.{LimitKind}
use Rattle.ir_rules.specs.declared.place.LimitKind.TheVariants.{Object}
use Rattle.ir_tree.specs.declared.types.Block.{Block}
use Rattle.ir_tree.specs.declared.types.Module.{Module}

-- of these sizes, those above the limit
abbrev pub over : List ℕ → List (LimitKind × ℕ)
over sizes = each_above Object 1048576 (λ size. size) sizes

abbrev pub block_arrays : Block → List ℕ
block_arrays b = flat_map instr_arrays b.instrs

abbrev pub arrays_in : Kind → Module → List ℕ
arrays_in kind m = flat_map (global_arrays kind) m.globals ++ flat_map function_arrays m.functions
