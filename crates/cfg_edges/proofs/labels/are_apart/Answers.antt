use Rattle.cfg_edges.proofs.Firsts.{have_places}
use Rattle.cfg_edges.proofs.labels.are_apart.Goals as goal

pub returns : goal.returns
returns c = λ up. have_places c.args.blocks.now c.in_ok-hashes.hashes.items c.sort_unstable.new.self.items c.as_slice.result.now c.in_ok-hashes.ensures c.sort_unstable.ensures.permutation c.as_slice.ensures.value (c.rise.ensures up)
