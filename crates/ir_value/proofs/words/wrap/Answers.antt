use Rattle.std.proofs.Common.{◌∙◌, ap, ◌%◌, ◌^◌, w64, of_z}
use Rattle.std.proofs.lemmas.Int.{to_z-of_z}
use Rattle.ir_value.proofs.WordLemmas.{wrapped_word}
use Rattle.ir_value.proofs.words.wrap.Goals as goal

pub returns : goal.returns
returns c =
    c.low_bits.ensures ∙ ap (λ n. n % 2 ^ c.args.width) (c.cast_unsigned.ensures ∙ ap (of_z w64) (to_z-of_z w64 c.args.number c.ranges.number))
    ∙ wrapped_word c.args.width c.args.number c.requires.1 c.ranges.number
