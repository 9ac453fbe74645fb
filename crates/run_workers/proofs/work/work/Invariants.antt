use Rattle.std.proofs.Common.{◌≡◌, ◌-◌, false, length}
use Rattle.run_workers.specs.Workers.{Ran, seats}
use Rattle.run_workers.proofs.work.work.Given as goal

-- the calls so far have their results, and the seats grew by all their marks
abbrev pub invariant-loop-number : goal.invariant-loop-number
invariant-loop-number g l =
    (Ran l.code l.steps l.calls l.done.items (seats l.initial.count_seat l.initial.row_seat l.initial.ticket_seat) (seats l.count_seat l.row_seat l.ticket_seat))
    × (l.ticket_seat.ended ≡ false)

abbrev pub decreases-loop-number : goal.decreases-loop-number
decreases-loop-number g l = l.tickets.numbers - length l.ticket_seat.drawn
