use Rattle.std.proofs.Common.{ap, ◌∙◌, ℕ, w64, get_or-set_same}
use Rattle.std.specs.Prelude.{slice_index}
use Rattle.std.specs.Int.{bit_at}
use Rattle.std.proofs.lemmas.Nat.Bits.{bit_at_set_same, bit_at_set_other}
use Rattle.definite_assignment.proofs.exposed.set_bit.Goals as goal

pub returns-clause-set : goal.returns-clause-set
returns-clause-set c = ap (λ (w : ℕ). bit_at w c.args.bit) (get_or-set_same c.args.words.now c.args.block _ 0 c.requires.within) ∙ bit_at_set_same w64 (slice_index c.args.words.now c.args.block) c.args.bit c.requires.bit

pub returns-clause-other : goal.returns-clause-other
returns-clause-other c j ne = ap (λ (w : ℕ). bit_at w j) (get_or-set_same c.args.words.now c.args.block _ 0 c.requires.within) ∙ bit_at_set_other w64 (slice_index c.args.words.now c.args.block) c.args.bit c.requires.bit j ne
