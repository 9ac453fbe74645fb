use Rattle.std.proofs.Common.{◌≡◌, map, take}
use Rattle.run_texts.specs.RunProfile.{target_of}
use Rattle.run_texts.proofs.records.targets_of.Given as goal

abbrev pub invariant-loop-key : goal.invariant-loop-key
invariant-loop-key l = l.targets.items ≡ map (target_of l.functions) (take l.key-index l.row.kept)
