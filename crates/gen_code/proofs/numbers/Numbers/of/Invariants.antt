use Rattle.std.proofs.Common.{◌≡◌, ℕ, take}
use Rattle.gen_code.specs.Numbered.{number_at}
use Rattle.gen_plan.specs.Gen.{number_of}
use Rattle.gen_code.proofs.numbers.Numbers.of.Given as goal

abbrev pub invariant-loop-number : goal.invariant-loop-number
invariant-loop-number l = (b i : ℕ) → number_at l.made b i ≡ number_of b i (take l.number l.places)
