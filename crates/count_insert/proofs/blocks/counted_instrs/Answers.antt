use Rattle.std.proofs.Common.{◌≡◌, ◌≤◌, ◌∙◌, length, vec_len, sym, ap, arith, rules}
use Rattle.std.proofs.lemmas.List.Sums.{prefix_len-le-length}
use Rattle.count_insert.proofs.blocks.counted_instrs.Goals as goal
use Rattle.ir_tree.specs.Phis.{is_phi, phi_count}

pub split_off-requires : goal.split_off-requires
split_off-requires c =
    let few : phi_count c.take-made.result.items ≤ length c.take-made.result.items = prefix_len-le-length is_phi c.take-made.result.items in
    let same : c.phi_count-count.result ≡ phi_count c.take-made.result.items = c.phi_count-count.ensures ∙ ap phi_count (c.as_slice.ensures ∙ sym c.take-made.ensures) in
    let long : vec_len c.take-made.result ≡ length c.take-made.result.items = search rules in
    omega (arith, few, same, long)
