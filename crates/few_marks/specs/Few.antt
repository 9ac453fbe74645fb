-- How many marks a run has.
use Rattle.std.specs.Prelude.{ℕ, ◌≤◌, length}
use Rattle.ir_code.specs.Units.{numbered_marks}
use Rattle.ir_model.specs.Run.{run_of}
use Rattle.ir_model.specs.declared.result.Call.{Call}
use Rattle.ir_tree.specs.declared.types.Module.{Module}

-- no more than its steps
abbrev pub MarksAreFew : Type 0
MarksAreFew = (m : Module) (c : Call) (n : ℕ) → length (numbered_marks m (run_of m c n)) ≤ n
