use Rattle.std.proofs.Common.{◌≡◌, drop, not}
use Rattle.check_names.specs.Outer.{global_places}
use Rattle.ir_rules.specs.Parts.{place, unless}
use Rattle.ir_rules.specs.Reserved.{is_reserved_variable}
use Rattle.spec_lists.specs.Each.{each, first_of}
use Rattle.check_names.proofs.reserved.reserved_variable.Given as goal

abbrev pub invariant-loop-n : goal.invariant-loop-n
invariant-loop-n l = first_of (each (λ n g. unless (not (is_reserved_variable l.kind g.name)) (place 0 0 n)) l.n (drop l.n l.globals)) ≡ first_of (global_places (λ n g. not (is_reserved_variable l.kind g.name)) l.globals)
