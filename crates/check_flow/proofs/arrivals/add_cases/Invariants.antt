use Rattle.std.proofs.Common.{◌∷◌, map, take}
use Rattle.check_flow.specs.LookUps.{block_of}
use Rattle.check_flow.specs.Phis.{Gains, each_arrival}
use Rattle.check_flow.proofs.arrivals.add_cases.Given as goal

abbrev pub invariant-loop-case : goal.invariant-loop-case
invariant-loop-case l = Gains l.fn.lists l.lists (λ b. each_arrival (block_of l.known) b l.p (l.default ∷ map (λ d. d.1) (take l.case-index l.cases)))
