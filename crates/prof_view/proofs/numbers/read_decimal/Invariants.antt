use Rattle.std.proofs.Common.{◌≡◌, drop}
use Rattle.prof_view.specs.Digits.{read_digits}
use Rattle.prof_view.proofs.numbers.read_decimal.Given as goal

abbrev pub invariant-loop-byte : goal.invariant-loop-byte
invariant-loop-byte l = read_digits 10 l.value (drop l.byte-index l.digits) ≡ read_digits 10 0 l.digits
