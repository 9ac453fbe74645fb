use Rattle.std.proofs.Common.{◌*◌, ◌∙◌, ap, arith, rules}
use Rattle.count_core.specs.Layout.{word_count}
use Rattle.value_rows.specs.Rows.{walk}
use Rattle.value_rows.specs.Seen.{RowsSize, layout_of}
use Rattle.value_rows.proofs.Moves.{drop_allows}
use Rattle.value_rows.proofs.Filled.{word_inside}
use Rattle.value_rows.proofs.table.ValueRows.drop_key.Goals as goal

pub fetch_add-requires : goal.fetch_add-requires
fetch_add-requires c =
    let t = layout_of c.args.self.now in
    let laid = c.self.invariant.layout ∙ ap layout_of c.self.view_is in
    let words = c.self.invariant.words ∙ ap (λ (v : RowsSize). word_count (layout_of v)) c.self.view_is in
    (search rules, word_inside t c.args.site (2 * t.places) _ _ c.dropped_word-at.ensures c.requires.site (omega arith) words, drop_allows _ _ c.steps_keep.ensures.rows t laid _ _ _ _ c.args.site c.args.key c.args.place c.args.winner c.dropped_word-at.ensures c.requires.has c.requires.walks c.requires.last c.requires.passed.0 c.requires.passed.1)

pub returns-clause-asks : goal.returns-clause-asks
returns-clause-asks c = c.fetch_add.ensures.2 (walk c.args.site c.args.key c.args.place c.args.winner) c.requires.walks
