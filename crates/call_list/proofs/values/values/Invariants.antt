use Rattle.std.proofs.Common.{◌≡◌, map, drop}
use Rattle.call_list.specs.Meaning.{values_of}
use Rattle.call_list.proofs.ValueLemmas.{behind}
use Rattle.call_list.proofs.values.values.Given as goal

abbrev pub invariant-loop-k : goal.invariant-loop-k
invariant-loop-k l = values_of l.params (map (λ w. w.now) l.words) ≡ behind l.found.items (values_of (drop l.k l.params) (map (λ w. w.now) (drop l.k l.words)))
