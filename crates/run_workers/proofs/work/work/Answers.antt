use Rattle.std.proofs.Common.{◌≡◌, ◌∙◌, ap, ap₂, sym, subst, refl, arith, false, ◌<◌, [], ◌∷◌, append-nil, length, length-append}
use Rattle.ticket_draw.specs.Tickets.{DrewEachOnce}
use Rattle.ticket_draw.specs.Seen.{SeatTickets}
use Rattle.run_workers.specs.Workers.{seats, tables, Ran}
use Rattle.run_workers.proofs.Grows.{ran_none, ran_call, stopped_call, finished_now, on_err}
use Rattle.run_workers.proofs.Halves
use Rattle.run_workers.proofs.work.work.Goals as goal

pub loop-number-init : goal.loop-number-init
loop-number-init g c = (subst (λ l. Ran c.args.code.now c.args.steps c.args.calls.now l (seats c.args.count_seat.now c.args.row_seat.now c.args.ticket_seat.now) (seats c.args.count_seat.now c.args.row_seat.now c.args.ticket_seat.now)) (sym c.new-done.ensures.items) (ran_none _ _ _ _), c.requires.more)

pub draw-requires-clause-seat : goal.draw-requires-clause-seat
draw-requires-clause-seat g c = c.loop-number.invariant.0.grew.table ∙ c.requires.ticket_table

pub draw-requires-clause-more : goal.draw-requires-clause-more
draw-requires-clause-more g c = c.loop-number.invariant.1

pub gated_call-requires-clause-count_seat : goal.gated_call-requires-clause-count_seat
gated_call-requires-clause-count_seat g c = c.loop-number.invariant.0.grew.counts.table ∙ c.requires.count_table

pub gated_call-requires-clause-row_seat : goal.gated_call-requires-clause-row_seat
gated_call-requires-clause-row_seat g c = ap (λ (a : Rattle.value_rows.specs.Seen.SeatAsks). a.table) c.loop-number.invariant.0.grew.asks ∙ c.requires.row_table

pub returns-in_err-result-clause-stopped : goal.returns-in_err-result-clause-stopped
returns-in_err-result-clause-stopped g c =
    let drew = c.in-Some.ensures.some in
    let told = c.in_err-result.ensures.first_marks in
    on_err _ c.from_residual.result
    (stopped_call _ _ c.args.calls.now _ _ _ _ _ _ _ _ _ _ told.0 told.1 c.loop-number.invariant.0 drew.1 (subst (λ n. c.in-Some.number < n) c.requires.numbers drew.0) c.index-calls-number.is told.2 told.3 told.4)

pub loop-number-smaller : goal.loop-number-smaller
loop-number-smaller g c =
    let a = c.in-Some.ensures in
    let l = ap (λ (t : SeatTickets). length t.drawn) a.some.1 in
    let few = a.few in
    omega (arith, length-append c.loop-number.ticket_seat.drawn (c.in-Some.number ∷ []))

pub loop-number-preserved : goal.loop-number-preserved
loop-number-preserved g c =
    let drew = c.in-Some.ensures.some in
    let ran = c.in_ok-result.ensures in (
      ran_call _ _ c.args.calls.now _ _ _ _ _ _ _ _ _ _ _ _ c.in_ok-push.ensures.items c.loop-number.invariant.0 drew.1 (subst (λ n. c.in-Some.number < n) c.requires.numbers drew.0) c.index-calls-number.is ran.counts ran.asks ran.result,
      ap (λ (t : SeatTickets). t.ended) drew.1,
    )

pub returns-in_err-push-clause-stopped : goal.returns-in_err-push-clause-stopped
returns-in_err-push-clause-stopped g c =
    let drew = c.in-Some.ensures.some in
    let ran = c.in_ok-result.ensures in
    on_err _ c.from_residual-in_err-push.result
    (stopped_call _ _ c.args.calls.now _ _ _ _ _ _ _ _ _ _ _ [] c.loop-number.invariant.0 drew.1 (subst (λ n. c.in-Some.number < n) c.requires.numbers drew.0) c.index-calls-number.is (sym (append-nil _)) ran.counts ran.asks)

pub returns-clause-done : goal.returns-clause-done
returns-clause-done g c =
    let met = c.in_default.ensures in
    finished_now _ _ _ _ _ _ _ _ _ _ c.loop-number.invariant.0 met.none (λ is. subst (λ n. DrewEachOnce n c.draw.new.seat.drawn) c.requires.numbers (met.whole is))
