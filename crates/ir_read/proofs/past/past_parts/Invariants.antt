use Rattle.std.proofs.Common.{◌≡◌, suc, ◌-◌}
use Rattle.ir_read.proofs.Folds.{fold_from}
use Rattle.ir_grammar.specs.Past.{past_begins, past_part, past_parts}
use Rattle.ir_read.proofs.past.past_parts.Given as goal

abbrev pub invariant-loop-turn : goal.invariant-loop-turn
invariant-loop-turn l = record {
  reads : (past_parts l.fn.place).read l.fn.toks.tokens ≡ fold_from (past_begins l.fn.place) (past_part l.fn.place) (λ _ _. tt) (suc l._turn-end - l._turn) tt l.toks.tokens;
  whole : l.toks.whole ≡ l.fn.toks.whole;
}
