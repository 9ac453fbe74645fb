use Rattle.std.proofs.Common.{◌∙◌, sym, ap, subst, arith, length, slice_index_or}
use Rattle.value_rows.specs.Row.{IsExact, keys_asked, no_row}
use Rattle.value_rows.specs.Seen.{RowsSize, SeatAsks}
use Rattle.value_rows.proofs.Filled.{closed_rows}
use Rattle.value_rows.proofs.table.ValueRows.close_into.Goals as goal

pub returns : goal.returns
returns c site lt short =
    let row = slice_index_or c.fill_rows.new.rows site no_row in
    let sites = ap (λ (t : RowsSize). t.sites) c.self.view_is in
    let shares = ap (λ (t : RowsSize). t.shares) c.self.view_is in
    let whole = ap (λ (u : SeatAsks). u.shares) c.seat.view_is ∙ c.requires.whole ∙ sym shares in
    let asks = ap (λ (u : SeatAsks). length (keys_asked site u.asked)) c.seat.view_is in
    subst (λ (y : RowsSize × SeatAsks). IsExact y.0.places (keys_asked site y.1.asked) row) (λ i. (c.self.view_is i, c.seat.view_is i))
    (closed_rows c.one_did_all.ensures.sites c.kept_keys_stand.ensures c.self.inside.table.shared.key.shares c.self.inside.table.shared.key.layout c.self.inside.sites c.self.inside.places c.seat.inside.seat.id c.seat.inside.seat.me.0 _ _ c.self.invariant.layout whole c.seat.invariant.rests c.close_with-closed.ensures.values.2 site row (omega arith) (c.fill_rows.ensures.kept site (omega (arith, c.requires.rows.0))) (c.fill_rows.ensures.dropped site (omega (arith, c.requires.rows.0))) (omega arith))
