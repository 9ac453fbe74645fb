use Rattle.std.proofs.Common.{ℕ, ◌<◌, Option, ap, sym, arith}
use Rattle.std.specs.Prelude.{unwrap_or}
use Rattle.cfg_edges.proofs.Firsts.{place_below}
use Rattle.cfg_edges.proofs.labels.Labels.place_of.Goals as goal

pub overflow_cast-result : goal.overflow_cast-result
overflow_cast-result c =
    let few : c.in-Some.place < 4294967296 = place_below c.args.self.now.blocks.now c.args.label.now c.in-Some.place (c.args.self.now.known_places c.in-Some.place c.args.label.now c.in-Some.ensures) c.args.self.now.few in
    omega arith

pub returns-in-Some-clause-place : goal.returns-in-Some-clause-place
returns-in-Some-clause-place c = sym (ap (λ (o : Option ℕ). unwrap_or o 0) (c.args.self.now.known_places c.in-Some.place c.args.label.now c.in-Some.ensures))
