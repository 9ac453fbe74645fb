use Rattle.std.proofs.Common.{◌≡◌, suc, ◌-◌, [], length}
use Rattle.ir_grammar.specs.Rules.{many_from}
use Rattle.ir_grammar.specs.Words.{first_is}
use Rattle.ir_grammar.specs.Types.{is_type}
use Rattle.ir_grammar.specs.Terminators.{case}
use Rattle.ir_read.proofs.term.cases.Given as goal

abbrev pub invariant-loop-turn : goal.invariant-loop-turn
invariant-loop-turn l = record {
  reads : many_from (first_is (is_type l.fn.ty)) (case l.fn.ty) (suc (length l.fn.toks.tokens)) [] l.fn.toks.tokens ≡ many_from (first_is (is_type l.fn.ty)) (case l.fn.ty) (suc l._turn-end - l._turn) l.found.items l.toks.tokens;
  whole : l.toks.whole ≡ l.fn.toks.whole;
}
