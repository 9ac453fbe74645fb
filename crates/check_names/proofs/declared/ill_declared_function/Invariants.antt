use Rattle.std.proofs.Common.{◌≡◌, drop}
use Rattle.check_names.specs.Outer.{head_places}
use Rattle.ir_rules.specs.Declarations.{is_declared_well}
use Rattle.ir_rules.specs.Parts.{place, unless}
use Rattle.spec_lists.specs.Each.{each, first_of}
use Rattle.check_names.proofs.declared.ill_declared_function.Given as goal

abbrev pub invariant-loop-k : goal.invariant-loop-k
invariant-loop-k l = first_of (each (λ k f. unless (is_declared_well f) (place k 0 0)) l.k (drop l.k l.functions)) ≡ first_of (head_places (λ k f. is_declared_well f) l.functions)
