use Rattle.std.proofs.lemmas.Option.{none-some}
use Rattle.cfg_edges.proofs.Firsts.{known_places}
use Rattle.cfg_edges.proofs.labels.Labels.of.Goals as goal

pub invariant_of-result : goal.invariant_of-result
invariant_of-result c = record {
  few = c.requires;
  known_places = known_places c.args.blocks.now c.known_of.result.now c.in_ok-apart.apart c.in_ok-apart.ensures c.known_of.ensures;
  indexed = λ x e. absurd (none-some x e);
}
