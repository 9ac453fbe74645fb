use Rattle.std.proofs.Common.{◌≡◌, drop}
use Rattle.check_flow.specs.Phis.{unmatched_places}
use Rattle.spec_lists.specs.Each.{each, first_of}
use Rattle.check_flow.proofs.entries.unmatched_in.Given as goal

abbrev pub invariant-loop-b : goal.invariant-loop-b
invariant-loop-b l = first_of (each (unmatched_places l.f.blocks l.k) l.b (drop l.b l.f.blocks)) ≡ first_of (each (unmatched_places l.f.blocks l.k) 0 l.f.blocks)
