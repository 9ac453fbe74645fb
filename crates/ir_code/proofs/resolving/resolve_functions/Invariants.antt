use Rattle.std.proofs.Common.{◌≡◌, ◌++◌, map, drop}
use Rattle.ir_tree.specs.Functions.{numbered}
use Rattle.ir_code.specs.Found.{function_in}
use Rattle.ir_code.proofs.resolving.resolve_functions.Given as goal

abbrev pub invariant-loop-function : goal.invariant-loop-function
invariant-loop-function l =
    l.codes.items ++ map (function_in l.symbols) (numbered (drop l.function-index l.functions)) ≡ map (function_in l.symbols) (numbered l.functions)
