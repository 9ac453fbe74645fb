use Rattle.std.proofs.Common.{◌≡◌, take, Some}
use Rattle.std.specs.List.{All}
use Rattle.prof_view.specs.Digits.{read_digits}
use Rattle.prof_view.proofs.PlainLemmas.{IsDigit}
use Rattle.prof_view.proofs.plain.long_number.Given as goal

-- the digits so far write the value
abbrev pub invariant-loop-end : goal.invariant-loop-end
invariant-loop-end l = record {
  value : read_digits 10 0 (take l.end l.text) ≡ Some l.value;
  digits : All IsDigit (take l.end l.text);
}
