use Rattle.std.proofs.Common.{◌*◌, ◌%◌, ◌^◌, ◌<◌, ◌∙◌, arith}
use Rattle.std.proofs.lemmas.Bool.{cond_below}
use Rattle.ir_value.proofs.WordLemmas.{low_of_word}
use Rattle.ir_value.proofs.shift.shift_left.Goals as goal

pub returns-then-by-from : goal.returns-then-by-from
returns-then-by-from c =
    let w = c.args.width in
    let below : c.args.by < w = omega arith in
    c.low_bits.ensures ∙ low_of_word (c.args.value * 2 ^ c.args.by) w c.requires.1
    ∙ cond_below c.args.by w (c.args.value * 2 ^ c.args.by % 2 ^ w) 0 below
