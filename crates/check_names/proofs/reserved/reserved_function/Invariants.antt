use Rattle.std.proofs.Common.{◌≡◌, drop, not}
use Rattle.check_names.specs.Outer.{head_places}
use Rattle.ir_rules.specs.Parts.{place, unless}
use Rattle.ir_rules.specs.Reserved.{is_reserved_function}
use Rattle.spec_lists.specs.Each.{each, first_of}
use Rattle.check_names.proofs.reserved.reserved_function.Given as goal

abbrev pub invariant-loop-k : goal.invariant-loop-k
invariant-loop-k l = first_of (each (λ k f. unless (not (is_reserved_function l.kind f.name)) (place k 0 0)) l.k (drop l.k l.functions)) ≡ first_of (head_places (λ k f. not (is_reserved_function l.kind f.name)) l.functions)
