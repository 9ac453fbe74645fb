use Rattle.std.proofs.Common.{◌∙◌, ap, length, arith}
use Rattle.run_workers.specs.Workers.{seats}
use Rattle.run_workers.proofs.Totals.{counted_all, asked_all, in_order, written_back}
use Rattle.run_workers.proofs.run.run_calls.Goals as goal

pub returns-clause-results : goal.returns-clause-results
returns-clause-results g c =
    let size = c.in_ok-places.ensures in
    let lent = ap length c.as_mut_slice.ensures.value in
    let kept = c.place_results.ensures.size in
    written_back c.place_results.new.places c.in_ok-places.places.items c.in_ok-places.places.len (omega (arith, c.in_ok-places.places.ok.0)) (omega (arith, c.in_ok-places.places.ok.0))
    ∙ in_order c.args.code.now c.args.steps c.args.calls.now c.args.tickets.now.shares c.in_ok-done.done.items
    (seats c.args.count_seat.now c.args.row_seat.now c.args.ticket_seat.now) (seats c.drive.new.count_seat c.drive.new.row_seat c.drive.new.ticket_seat)
    c.in_ok-done.ensures.done c.requires.ticket_seat.2 c.requires.fresh.1 c.place_results.new.places (omega arith) c.place_results.ensures.placed

pub returns-clause-counts : goal.returns-clause-counts
returns-clause-counts g c =
    counted_all c.args.code.now c.args.steps c.args.calls.now c.args.tickets.now.shares c.in_ok-done.done.items
    (seats c.args.count_seat.now c.args.row_seat.now c.args.ticket_seat.now) (seats c.drive.new.count_seat c.drive.new.row_seat c.drive.new.ticket_seat)
    c.in_ok-done.ensures.done c.requires.ticket_seat.2 c.requires.fresh.1

pub returns-clause-asks : goal.returns-clause-asks
returns-clause-asks g c =
    asked_all c.args.code.now c.args.steps c.args.calls.now c.args.tickets.now.shares c.in_ok-done.done.items
    (seats c.args.count_seat.now c.args.row_seat.now c.args.ticket_seat.now) (seats c.drive.new.count_seat c.drive.new.row_seat c.drive.new.ticket_seat)
    c.in_ok-done.ensures.done c.requires.ticket_seat.2 c.requires.fresh.1
