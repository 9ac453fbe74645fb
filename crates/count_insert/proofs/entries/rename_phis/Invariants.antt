use Rattle.std.proofs.Common.{◌≡◌, ◌++◌, take, drop, map}
use Rattle.count_plan.specs.Ways.{renamed_phi}
use Rattle.count_insert.proofs.entries.rename_phis.Given as goal

abbrev pub invariant-loop-phi : goal.invariant-loop-phi
invariant-loop-phi l = take l.phi-index l.phis ++ map (renamed_phi l.news) (drop l.phi-index l.phis) ≡ map (renamed_phi l.news) l.initial.phis
