use Rattle.std.proofs.Common.{◌%◌, ◌^◌, ◌∙◌, sym, ap, arith, slice_index}
use Rattle.std.specs.Mem.Slots.{slots_items}
use Rattle.counter_table.specs.Seen.{SeatSums, TableSize}
use Rattle.counter_table.proofs.Moves.{copied_more, final_words}
use Rattle.counter_table.proofs.table.CounterTable.close_into.Goals as goal

pub loop-i-preserved : goal.loop-i-preserved
loop-i-preserved c = copied_more c.loop-i.words (slots_items c.close_with-closed.result.words) c.loop-i.i c.word.result (omega arith) c.word.ensures c.loop-i.invariant

pub returns : goal.returns
returns c n lt =
    let counters = ap (λ (t : TableSize). t.counters) c.self.view_is in
    let shares = ap (λ (t : TableSize). t.shares) c.self.view_is in
    let whole = ap (λ (t : SeatSums). t.shares) c.seat.view_is ∙ c.requires.whole ∙ sym shares in
    c.loop-i.invariant n (omega arith)
    ∙ final_words c.self.inside.table.shared.key.shares c.self.inside.table.shared.key.layout c.one_did_all.ensures.sums c.seat.inside.seat.id c.seat.inside.seat.me.0 _ _ whole c.close_with-closed.ensures.values.2 n (omega arith)
    ∙ ap (λ (t : SeatSums). slice_index t.sums n % 2 ^ 64) c.seat.view_is
