use Rattle.std.proofs.Common.{◌∙◌, ap, arith, rules}
use Rattle.count_core.specs.Layout.{word_count}
use Rattle.value_rows.specs.Seen.{RowsSize, layout_of}
use Rattle.value_rows.proofs.Moves.{begin_allows}
use Rattle.value_rows.proofs.Filled.{word_inside}
use Rattle.value_rows.proofs.table.ValueRows.begin.Goals as goal

pub load-requires : goal.load-requires
load-requires g c =
    let t = layout_of c.args.self.now in
    let laid = c.self.invariant.layout ∙ ap layout_of c.self.view_is in
    let words = c.self.invariant.words ∙ ap (λ (v : RowsSize). word_count (layout_of v)) c.self.view_is in
    (search rules, word_inside t c.args.site 0 _ _ c.key_word-at.ensures c.requires.site (omega arith) words, begin_allows _ _ c.steps_keep.ensures.rows t laid _ _ _ _ c.args.site c.args.key _ _ c.key_word-at.ensures c.requires.known.0 c.requires.known.1 c.requires.rests c.requires.site c.requires.place c.requires.key)
