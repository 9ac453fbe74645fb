use Rattle.std.proofs.Common.{◌++◌, length, ap, ◌∙◌}
use Rattle.std.specs.Prelude.{decimal}
use Rattle.cfg_edges.specs.Hash.{ends, mode_numbers, spaced}
use Rattle.cfg_edges.proofs.HashText.{appended, spaced_one, text_is}
use Rattle.cfg_edges.proofs.hash.text_of.Goals as goal

pub returns : goal.returns
returns c =
    let edges = c.edges.result.now in
    let sites = c.sites.result.now in
    let selects = c.selects.result.now in
    let counters = c.args.counters in
    let mode = c.args.entry_first in
    appended c.new-text.result.items c.push_number.new.text.items c.push_spaced.new.text.items c.push_ends.new.text.items c.push_spaced-2.new.text.items c.push_spaced-3.new.text.items c.push_spaced-4.new.text.items c.push_mode.new.text.items
    (decimal c.from.result) (spaced_one (length edges)) (spaced (ends c.edges-2.result.now)) (spaced_one counters) (spaced_one (length sites)) (spaced_one (length selects)) (spaced (mode_numbers mode))
    c.new-text.ensures.items c.in_ok-push_number.ensures c.in_ok-push_spaced.ensures c.in_ok-push_ends.ensures (c.in_ok-push_spaced-2.ensures ∙ ap (λ k. c.push_ends.new.text.items ++ spaced_one k) c.from-2.ensures) c.in_ok-push_spaced-3.ensures c.in_ok-push_spaced-4.ensures c.in_ok-push_mode.ensures
    ∙ text_is c.args.graph.now counters mode c.from.result (length edges) (length sites) (length selects) c.edges-2.result.now (c.from.ensures ∙ c.nodes.ensures.count) (ap length c.edges.ensures.value) c.edges-2.ensures.value (ap length c.sites.ensures.value) (ap length c.selects.ensures.value)
