use Rattle.std.proofs.Common.{get_or}
use Rattle.gen_code.proofs.Numbering.{number_more}
use Rattle.gen_code.specs.Numbered.{number_at}
use Rattle.gen_code.proofs.numbers.Numbers.of.Goals as goal

pub loop-number-preserved : goal.loop-number-preserved
loop-number-preserved c b i =
    let read = get_or c.args.places.now c.loop-number.number (0, 0) in
    number_more c.args.places.now c.loop-number.number b i (0, 0) (c.from.result, read.1) (number_at c.loop-number.made b i) (number_at c.add.new.self b i) c.loop-number-test.true (λ j. (c.from.ensures j, read.1)) (c.loop-number.invariant b i) (c.in_ok-add.ensures b i)
