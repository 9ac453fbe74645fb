use Rattle.std.proofs.Common.{arith}
use Rattle.std.proofs.lemmas.List.Sums.{prefix_len-le-length}
use Rattle.ir_tree.specs.Phis.{is_phi}
use Rattle.gen_code.proofs.blocks.behind_phis.Goals as goal

pub split_at-requires : goal.split_at-requires
split_at-requires c = omega (arith, c.phi_count.ensures, prefix_len-le-length is_phi c.args.instrs.now)
