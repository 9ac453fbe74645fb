use Rattle.ir_read.proofs.Decimal.{digits_over}
use Rattle.ir_read.proofs.word.decimal.Goals as goal

pub returns-in-None : goal.returns-in-None
returns-in-None c =
    digits_over c.args.digits.now c.loop-digit.value c.loop-digit.digit-index _ c.loop-digit-test.true c.loop-digit.invariant c.in-None.ensures
