use Rattle.std.proofs.Common.{◌≡◌, ℕ, ◌<◌, ◌^◌, length, Some, slice_get}
use Rattle.gen_spelled.proofs.names.names_are_short.Given as goal
use Rattle.ir_tree.specs.declared.types.Function.{Function}

-- the functions that were gone over have short names
abbrev pub invariant-loop-function : goal.invariant-loop-function
invariant-loop-function l = (k : ℕ) (f : Function) → k < l.function-index → slice_get l.functions k ≡ Some f → length f.name < 2 ^ 64
