use Rattle.std.proofs.Common.{◌≡◌, ◌++◌, drop}
use Rattle.cfg_edges.specs.Hash.{ends, spaced}
use Rattle.cfg_edges.proofs.hash.push_ends.Given as goal

abbrev pub invariant-loop-edge : goal.invariant-loop-edge
invariant-loop-edge l = l.text.items ++ spaced (ends (drop l.edge-index l.edges)) ≡ l.initial.text.items ++ spaced (ends l.edges)
