use Rattle.std.proofs.Common.{◌*◌, ap, ◌∙◌, Result, Ok, ℕ}
use Rattle.std.proofs.lemmas.Nat.{or_lt, xor_lt}
use Rattle.ir_value.specs.declared.operators.DivTrap.{DivTrap}
use Rattle.ir_value.proofs.WordLemmas.{low_of_word, difference_word}
use Rattle.ir_value.proofs.operators.binary.Goals as goal

pub returns-in-Sub-clause-value : goal.returns-in-Sub-clause-value
returns-in-Sub-clause-value c =
    let a = c.args in
    let d = difference_word a.width a.left a.right c.low_bits-in-Sub.result c.requires.width.1 c.requires.left c.requires.right c.low_bits-in-Sub.ensures in
    let ok : ℕ → Result ℕ DivTrap = λ n. Ok n in
    rw c.in-Sub.is (ap ok d)

pub returns-in-Mul-clause-value : goal.returns-in-Mul-clause-value
returns-in-Mul-clause-value c =
    let a = c.args in
    let d = c.low_bits-in-Mul.ensures ∙ low_of_word (a.left * a.right) a.width c.requires.width.1 in
    let ok : ℕ → Result ℕ DivTrap = λ n. Ok n in
    rw c.in-Mul.is (ap ok d)

pub returns-in-Or-clause-fits : goal.returns-in-Or-clause-fits
returns-in-Or-clause-fits c = or_lt c.args.width c.args.left c.args.right c.requires.left c.requires.right

pub returns-in-Xor-clause-fits : goal.returns-in-Xor-clause-fits
returns-in-Xor-clause-fits c = xor_lt c.args.width c.args.left c.args.right c.requires.left c.requires.right
