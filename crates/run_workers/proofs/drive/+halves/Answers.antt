use Rattle.std.proofs.Common.{◌≡◌, ◌∙◌, ap, sym, subst, refl, arith, ◌/◌, ◌<◌, ◌*◌, ◌++◌}
use Rattle.std.specs.Prelude.{Vec}
use denote.Param.Send.{param_send, arg_send, shr_send, shr_slice_send, mut_send, sendable}
use Rattle.ticket_draw.specs.Tickets.{DrewEachOnce}
use Rattle.run_workers.specs.Workers.{seats, tables, Finished}
use Rattle.run_workers.proofs.Crosses.{code_sync, thirteen_send}
use Rattle.std.proofs.alloc.Global.TheSendSync as global
use Rattle.ir_model.proofs.result.Call.TheSendSync as call
use Rattle.counter_table.proofs.table.CounterTable.TheSendSync as counters
use Rattle.counter_table.proofs.seat.CountSeat.TheSendSync as count_seat
use Rattle.value_rows.proofs.table.ValueRows.TheSendSync as rows
use Rattle.value_rows.proofs.seat.RowSeat.TheSendSync as row_seat
use Rattle.ticket_draw.proofs.table.TicketDraw.TheSendSync as tickets
use Rattle.ticket_draw.proofs.seat.TicketSeat.TheSendSync as ticket_seat
use Rattle.run_workers.proofs.Grows.{on_err}
use Rattle.run_workers.proofs.Halves.{less_half, some_half, can_run_first, can_run_second, parted, both_finished, either_stopped, stopped_halves, if_ok_then}
use Rattle.run_workers.proofs.drive.+halves.Goals as goal

pub drive-both_halves-done-requires-clause-first : goal.drive-both_halves-done-requires-clause-first
drive-both_halves-done-requires-clause-first g t c κs within =
    can_run_first _ _ _ c.args.workers (c.args.workers / 2) _ _ _ _ (less_half c.args.workers c.requires.some) c.requires c.split-other_counts.ensures.kept c.split-other_rows.ensures.kept c.split-other_tickets.ensures.kept

pub drive-both_halves-done-requires-clause-second : goal.drive-both_halves-done-requires-clause-second
drive-both_halves-done-requires-clause-second g t c κs within =
    can_run_second _ _ _ c.args.workers (c.args.workers / 2) _ _ _ _ (some_half c.args.workers c.requires.some c.if-workers-eq1.false) c.requires c.split-other_counts.ensures.given c.split-other_rows.ensures.given c.split-other_tickets.ensures.given

pub drive-returns-clause-done : goal.drive-returns-clause-done
drive-returns-clause-done g t c =
    let said = c.both_halves-done.ensures in
    let old = seats c.args.count_seat.now c.args.row_seat.now c.args.ticket_seat.now in
    let first = seats c.split-other_counts.new.seat c.split-other_rows.new.seat c.split-other_tickets.new.seat in
    let second = seats c.split-other_counts.result c.split-other_rows.result c.split-other_tickets.result in
    let first_after = seats c.both_halves-done.new.count_seat c.both_halves-done.new.row_seat c.both_halves-done.new.ticket_seat in
    let second_after = seats c.both_halves-done.new.other_counts c.both_halves-done.new.other_rows c.both_halves-done.new.other_tickets in
    let after = seats c.join.new.seat c.join-2.new.seat c.join-3.new.seat in
    let cut = parted c.args.code.now c.args.calls.now (tables c.args.counters.now c.args.rows.now c.args.tickets.now) c.args.workers (c.args.workers / 2) old first second first_after second_after after
    (less_half c.args.workers c.requires.some) c.requires
    c.split-other_counts.ensures.kept c.split-other_counts.ensures.given c.join.ensures
    c.split-other_rows.ensures.kept c.split-other_rows.ensures.given c.join-2.ensures
    c.split-other_tickets.ensures.kept c.split-other_tickets.ensures.given c.join-3.ensures.joined
    in
    if_ok_then _ _ c.appended.result c.appended.ensures
    (λ all both. both_finished Vec.items Vec.items c.args.code.now c.args.steps c.args.calls.now c.args.tickets.now.shares all.items (c.args.workers / 2) old first second first_after second_after after
    c.both_halves-done.result.0 c.both_halves-done.result.1 cut
    (λ is ended. subst (λ n. DrewEachOnce n c.join-3.new.seat.drawn) c.requires.numbers (c.join-3.ensures.whole is ended))
    both said.first_done said.second_done)

pub drive-returns-clause-stopped : goal.drive-returns-clause-stopped
drive-returns-clause-stopped g t c =
    let said = c.both_halves-done.ensures in
    let old = seats c.args.count_seat.now c.args.row_seat.now c.args.ticket_seat.now in
    let first = seats c.split-other_counts.new.seat c.split-other_rows.new.seat c.split-other_tickets.new.seat in
    let second = seats c.split-other_counts.result c.split-other_rows.result c.split-other_tickets.result in
    let first_after = seats c.both_halves-done.new.count_seat c.both_halves-done.new.row_seat c.both_halves-done.new.ticket_seat in
    let second_after = seats c.both_halves-done.new.other_counts c.both_halves-done.new.other_rows c.both_halves-done.new.other_tickets in
    let after = seats c.join.new.seat c.join-2.new.seat c.join-3.new.seat in
    let cut = parted c.args.code.now c.args.calls.now (tables c.args.counters.now c.args.rows.now c.args.tickets.now) c.args.workers (c.args.workers / 2) old first second first_after second_after after
    (less_half c.args.workers c.requires.some) c.requires
    c.split-other_counts.ensures.kept c.split-other_counts.ensures.given c.join.ensures
    c.split-other_rows.ensures.kept c.split-other_rows.ensures.given c.join-2.ensures
    c.split-other_tickets.ensures.kept c.split-other_tickets.ensures.given c.join-3.ensures.joined
    in
    on_err _ c.appended.result
    (stopped_halves c.args.code.now c.args.steps c.args.calls.now (c.args.workers / 2) old first second first_after second_after after cut
    (either_stopped Vec.items c.args.code.now c.args.steps c.args.calls.now c.args.tickets.now.shares first first_after c.both_halves-done.result.0 said.first_done said.first_stopped)
    (either_stopped Vec.items c.args.code.now c.args.steps c.args.calls.now c.args.tickets.now.shares second second_after c.both_halves-done.result.1 said.second_done said.second_stopped))

pub both_halves-join_mut-requires-send-F : goal.both_halves-join_mut-requires-send-F
both_halves-join_mut-requires-send-F g t c κs within =
    search (param_send, arg_send, thirteen_send, code_sync, global.the_sync, call.the_sync, counters.the_sync, count_seat.the_send, rows.the_sync, row_seat.the_send, tickets.the_sync, ticket_seat.the_send, sendable) depth 12
