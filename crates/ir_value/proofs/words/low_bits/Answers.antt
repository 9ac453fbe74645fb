use Rattle.std.proofs.Common.{◌∙◌, ap, bit_and}
use Rattle.std.proofs.lemmas.Nat.{and_mask}
use Rattle.ir_value.proofs.words.low_bits.Goals as goal

pub returns : goal.returns
returns c = ap (bit_and c.args.value) c.mask.ensures ∙ and_mask c.args.value c.args.width
