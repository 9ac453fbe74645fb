use Rattle.std.proofs.Common.{◌≡◌, suc, ◌-◌}
use Rattle.std.specs.Prelude.{is_some, ◌||◌}
use Rattle.ir_read.proofs.Folds.{fold_from}
use Rattle.ir_grammar.specs.Words.{first_is}
use Rattle.ir_grammar.specs.Instructions.{marked, mark_meaning, one_marked}
use Rattle.ir_read.proofs.instr.marked.Given as goal

abbrev pub invariant-loop-turn : goal.invariant-loop-turn
invariant-loop-turn l = record {
  reads : (marked l.fn.which).read l.fn.toks.tokens ≡ fold_from (first_is (λ t. is_some (mark_meaning l.fn.which t))) (one_marked l.fn.which) ◌||◌ (suc l._turn-end - l._turn) l.any l.toks.tokens;
  whole : l.toks.whole ≡ l.fn.toks.whole;
}
