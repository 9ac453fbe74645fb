use Rattle.std.proofs.Common.{length, arith}
use Rattle.call_list.specs.Reading.{meanings}
use Rattle.call_list.specs.Walk.{found_in}
use Rattle.call_list.proofs.WalkLemmas.{answers_ok, answers_many, answers_fails}
use Rattle.call_list.proofs.ValidLemmas.{valid_calls}
use Rattle.call_list.proofs.reading.read_calls.Goals as goal

pub returns-then-count-gt-CALLS_MOST-clause-answers : goal.returns-then-count-gt-CALLS_MOST-clause-answers
returns-then-count-gt-CALLS_MOST-clause-answers c = answers_many (length c.args.text.now) (meanings c.args.«module».now c.args.text.now) (found_in c.in-Ok.field-0) (omega arith) c.in-Ok.ensures (omega arith)

pub returns-else-count-gt-CALLS_MOST-clause-answers : goal.returns-else-count-gt-CALLS_MOST-clause-answers
returns-else-count-gt-CALLS_MOST-clause-answers c = answers_ok (length c.args.text.now) (meanings c.args.«module».now c.args.text.now) (found_in c.in-Ok.field-0) (omega arith) c.in-Ok.ensures (omega arith)

pub returns-in-Err-clause-answers : goal.returns-in-Err-clause-answers
returns-in-Err-clause-answers c = answers_fails (length c.args.text.now) (meanings c.args.«module».now c.args.text.now) c.in-Err.error (omega arith) c.in-Err.ensures

pub returns-else-count-gt-CALLS_MOST-clause-valid : goal.returns-else-count-gt-CALLS_MOST-clause-valid
returns-else-count-gt-CALLS_MOST-clause-valid c =
    valid_calls c.args.«module».now c.args.text.now (found_in c.in-Ok.field-0).kept
    (answers_ok (length c.args.text.now) (meanings c.args.«module».now c.args.text.now) (found_in c.in-Ok.field-0) (omega arith) c.in-Ok.ensures (omega arith))
