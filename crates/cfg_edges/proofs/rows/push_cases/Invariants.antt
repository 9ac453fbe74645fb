use Rattle.std.proofs.Common.{◌≡◌, ◌++◌, map, take}
use Rattle.cfg_edges.specs.Blocks.{places_in}
use Rattle.cfg_edges.proofs.rows.push_cases.Given as goal

abbrev pub invariant-loop-to : goal.invariant-loop-to
invariant-loop-to l = record {
  pushed : l.targets.items ≡ l.initial.targets.items ++ places_in l.initial.labels.blocks.now (map (λ c. c.1) (take l.to-index l.cases));
  same : l.labels.blocks ≡ l.initial.labels.blocks;
}
