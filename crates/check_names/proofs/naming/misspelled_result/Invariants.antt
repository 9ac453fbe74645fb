use Rattle.std.proofs.Common.{◌≡◌, drop}
use Rattle.check_names.specs.Outer.{result_places}
use Rattle.ir_rules.specs.Naming.{has_result_name}
use Rattle.ir_rules.specs.Parts.{place, unless}
use Rattle.spec_lists.specs.Each.{each, first_of}
use Rattle.check_names.proofs.naming.misspelled_result.Given as goal

abbrev pub invariant-loop-i : goal.invariant-loop-i
invariant-loop-i l = first_of (each (λ i x. unless (has_result_name x) (place l.k l.b i)) l.i (drop l.i l.instrs)) ≡ first_of (result_places l.k l.b l.instrs)
