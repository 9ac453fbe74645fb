use Rattle.std.proofs.Common.{◌≡◌, suc, ◌-◌}
use Rattle.ir_read.proofs.Folds.{fold_from}
use Rattle.ir_grammar.specs.Past.{tail_part, tail}
use Rattle.ir_grammar.specs.Words.{first_is, is_sign}
use Rattle.ir_read.proofs.past.tail.Given as goal

abbrev pub invariant-loop-turn : goal.invariant-loop-turn
invariant-loop-turn l = record {
  reads : (tail l.fn.place).read l.fn.toks.tokens ≡ fold_from (first_is (is_sign 44)) (tail_part l.fn.place) (λ _ _. tt) (suc l._turn-end - l._turn) tt l.toks.tokens;
  whole : l.toks.whole ≡ l.fn.toks.whole;
}
