use Rattle.std.proofs.Common.{◌≡◌, drop}
use Rattle.ir_rules.specs.Distinct.{distinct}
use Rattle.ir_rules.specs.Parts.{function_places}
use Rattle.spec_lists.specs.Each.{each, first_of}
use Rattle.check_names.proofs.distinct.repeated.Given as goal

abbrev pub invariant-loop-k : goal.invariant-loop-k
invariant-loop-k l = first_of (each (function_places distinct) l.k (drop l.k l.module.functions)) ≡ first_of (each (function_places distinct) 0 l.module.functions)
