use Rattle.std.proofs.Common.{◌+◌, ◌++◌, ap, drop, get_or, Some, sym, ◌∙◌}
use Rattle.std.proofs.lemmas.List.{drop_more}
use Rattle.std.proofs.lemmas.Option.{slice_get-get_or}
use Rattle.ir_tree.specs.Graphs.{places_from, places_of}
use Rattle.cfg_edges.specs.Sought.{is_sought}
use Rattle.cfg_edges.proofs.Sites.{blocks_on}
use Rattle.cfg_edges.proofs.places.places.Goals as goal

pub loop-number-preserved : goal.loop-number-preserved
loop-number-preserved c =
    let blocks = c.args.blocks.now in
    let reached = c.args.reachable.now in
    let i = c.loop-number.number-index in
    let b = get_or reached i 0 in
    let block = c.index-blocks-number.result in
    let within = c.requires i b (slice_get-get_or reached i 0 c.loop-number-test.true) in
    let at = slice_get-get_or blocks b block within ∙ ap Some (sym c.index-blocks-number.is) in
    blocks_on (is_sought c.args.sought) blocks (drop i reached) b (drop (i + 1) reached) block c.loop-number.found.items c.push_places.new.found.items (places_of (is_sought c.args.sought) blocks reached)
    (drop_more reached i 0 c.loop-number-test.true) at (c.in_ok-push_places.ensures ∙ ap (λ is. c.loop-number.found.items ++ places_from (is_sought c.args.sought) b 0 is) c.as_slice.ensures) c.loop-number.invariant
