-- A text of digits that doesn't parse is past the greatest number.
use Rattle.std.proofs.Common.{sym}
use Rattle.pgo_words.proofs.NumberLemmas.{past_greatest}
use Rattle.pgo_words.proofs.numbers.number_within.Goals as goal

pub returns-in_default-3-clause-number : goal.returns-in_default-3-clause-number
returns-in_default-3-clause-number c =
    past_greatest c.args.most c.args.low c.args.high c.args.text.now (rw c.as_bytes.ensures.value at (sym c.if-not-is_number.ensures)) c.ranges.high.fits c.in_default.ensures.value.0
