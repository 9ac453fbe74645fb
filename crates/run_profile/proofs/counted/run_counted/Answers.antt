-- The rows are exact for the marks of all calls.
use Rattle.std.proofs.Common.{ap, ◌∙◌}
use Rattle.value_rows.specs.Seen.{SeatAsks}
use Rattle.run_profile.proofs.Noted.{noted}
use Rattle.run_profile.proofs.counted.run_counted.Goals as goal

pub returns-clause-rows : goal.returns-clause-rows
returns-clause-rows g c =
    noted c.args.code.now c.args.steps c.args.calls.now c.in_ok-rows.row_seat c.run_calls.new.row_seat c.in_ok-results.ensures.asks
    (ap (λ (s : SeatAsks). s.asked) c.in_ok-rows.ensures.seat)
    c.args.places c.in_ok-rows.rows.places c.in_ok-rows.rows.sites c.in_ok-closed_rows.field-0.items
    c.marks_are_few.ensures c.requires.steps c.requires.valid.count
    c.in_ok-rows.ensures.table.1 (c.in_ok-rows.ensures.table.0 ∙ c.sites.ensures) c.in_ok-closed_rows.ensures.count
    c.in_ok-closed_rows.ensures.exact
