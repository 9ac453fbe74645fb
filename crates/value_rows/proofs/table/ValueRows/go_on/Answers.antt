use Rattle.std.proofs.Common.{◌∙◌, ap, arith, rules}
use Rattle.count_core.specs.Layout.{key_at, word_count}
use Rattle.value_rows.specs.Rows.{walk}
use Rattle.value_rows.specs.Seen.{RowsSize, layout_of}
use Rattle.value_rows.proofs.Moves.{go_on_allows}
use Rattle.value_rows.proofs.Filled.{word_inside}
use Rattle.value_rows.proofs.table.ValueRows.go_on.Goals as goal

pub load-requires : goal.load-requires
load-requires c =
    let t = layout_of c.args.self.now in
    let laid = c.self.invariant.layout ∙ ap layout_of c.self.view_is in
    let words = c.self.invariant.words ∙ ap (λ (v : RowsSize). word_count (layout_of v)) c.self.view_is in
    (search rules, word_inside t c.args.site c.args.next _ _ c.key_word-at.ensures c.requires.site (omega arith) words, go_on_allows _ _ c.steps_keep.ensures.rows t laid _ _ _ _ c.args.site c.args.key c.args.place c.args.winner (c.key_word-at.ensures ∙ ap (key_at t c.args.site) c.requires.place.0) c.requires.has c.requires.walks (omega arith) c.requires.passed.0 c.requires.passed.1)

pub returns-clause-walks : goal.returns-clause-walks
returns-clause-walks c = c.load.ensures.2 (walk c.args.site c.args.key c.args.place c.args.winner) c.requires.walks
