use Rattle.std.proofs.Common.{Option, IfSome, subst, sym}
use Rattle.std.proofs.lemmas.Option.{same_Some}
use Rattle.ir_tree.specs.Edges.{labels}
use Rattle.ir_tree.specs.Names.{Indexes}
use Rattle.ir_tree.specs.declared.index.Index.{Index}
use Rattle.cfg_edges.proofs.Firsts.{if_indexed}
use Rattle.cfg_edges.proofs.Targets.{few_places}
use Rattle.cfg_edges.proofs.labels.Labels.look_up.Goals as goal

pub index_or-requires : goal.index_or-requires
index_or-requires c = subst (λ (o : Option Index). IfSome o (λ i. Indexes i (labels c.args.self.now.blocks.now))) (sym c.take.ensures.value) (if_indexed c.args.self.now.blocks.now c.args.self.now.index c.args.self.now.indexed)

pub find-place-requires : goal.find-place-requires
find-place-requires c = few_places c.in_ok-index.index c.args.self.now.blocks.now c.in_ok-index.ensures c.args.self.now.few

pub invariant_of-self-2 : goal.invariant_of-self-2
invariant_of-self-2 c = record {
  few = c.args.self.now.few;
  known_places = c.args.self.now.known_places;
  indexed = λ x e. subst (λ (i : Index). Indexes i (labels c.args.self.now.blocks.now)) (same_Some c.in_ok-index.index x e) c.in_ok-index.ensures;
}
