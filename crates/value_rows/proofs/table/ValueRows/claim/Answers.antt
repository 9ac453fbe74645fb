use Rattle.std.proofs.Common.{ℕ, ◌∙◌, sym, ap, subst, arith, rules}
use Rattle.count_core.specs.Layout.{word_count}
use Rattle.value_rows.specs.Rows.{walk, Walks}
use Rattle.value_rows.specs.Seen.{RowsSize, layout_of}
use Rattle.value_rows.proofs.Moves.{claim_allows}
use Rattle.value_rows.proofs.Filled.{word_inside}
use Rattle.value_rows.proofs.table.ValueRows.claim.Goals as goal

pub compare_exchange-found-requires : goal.compare_exchange-found-requires
compare_exchange-found-requires c =
    let t = layout_of c.args.self.now in
    let laid = c.self.invariant.layout ∙ ap layout_of c.self.view_is in
    let words = c.self.invariant.words ∙ ap (λ (v : RowsSize). word_count (layout_of v)) c.self.view_is in
    (search rules, word_inside t c.args.site c.args.place _ _ c.key_word-at.ensures c.requires.site (omega arith) words, claim_allows _ _ c.steps_keep.ensures.rows t laid _ _ _ _ c.args.site c.args.key c.args.place c.key_word-at.ensures c.requires.has c.requires.walks)

pub returns-clause-walks : goal.returns-clause-walks
returns-clause-walks c = subst (λ (k : ℕ). Walks (walk c.args.site c.args.key c.args.place k) c.args.seat.now.me c.compare_exchange-found.new.seat.me) (sym c.key_after.ensures.key) (c.compare_exchange-found.ensures.2 (walk c.args.site c.args.key c.args.place 0) c.requires.walks)

pub returns-clause-full : goal.returns-clause-full
returns-clause-full c = c.key_after.ensures.full c.requires.key
