use Rattle.std.proofs.Common.{◌≡◌, map, take}
use Rattle.run_texts.specs.RunProfile.{targets_of}
use Rattle.run_texts.proofs.records.sites_of.Given as goal

abbrev pub invariant-loop-row : goal.invariant-loop-row
invariant-loop-row l = l.sites.items ≡ map (targets_of l.functions) (take l.row-index l.rows)
