use Rattle.std.proofs.Common.{◌≡◌, drop}
use Rattle.check_flow.specs.LookUps.{exit_places}
use Rattle.ir_rules.specs.Lists.{are_apart}
use Rattle.ir_tree.specs.Successors.{case_values}
use Rattle.spec_lists.specs.Each.{each, first_of}
use Rattle.check_flow.proofs.cases.case_again_in.Given as goal

abbrev pub invariant-loop-b : goal.invariant-loop-b
invariant-loop-b l = first_of (each (exit_places (λ block. are_apart (case_values block.term)) l.k) l.b (drop l.b l.blocks)) ≡ first_of (each (exit_places (λ block. are_apart (case_values block.term)) l.k) 0 l.blocks)
