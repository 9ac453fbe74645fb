use Rattle.std.proofs.Common.{◌≡◌, ℕ, ◌<◌, true, is_some}
use Rattle.ir_tree.specs.FunctionNames.{indexed, candidate}
use Rattle.ir_tree.proofs.function_index.FunctionIndex.fresh.Given as goal

abbrev pub invariant-loop-tries : goal.invariant-loop-tries
invariant-loop-tries l = (k : ℕ) → k < l.tries → is_some (indexed l.self (candidate l.hint k)) ≡ true
