use Rattle.std.proofs.Common.{◌≡◌, drop}
use Rattle.check_flow.specs.LookUps.{are_inner, block_of, exit_places}
use Rattle.spec_lists.specs.Each.{each, first_of}
use Rattle.check_flow.proofs.targets.off_target_in.Given as goal

abbrev pub invariant-loop-b : goal.invariant-loop-b
invariant-loop-b l = first_of (each (exit_places (λ block. are_inner (block_of l.known) block.term) l.k) l.b (drop l.b l.blocks)) ≡ first_of (each (exit_places (λ block. are_inner (block_of l.known) block.term) l.k) 0 l.blocks)
