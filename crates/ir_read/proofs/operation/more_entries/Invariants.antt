use Rattle.std.proofs.Common.{◌≡◌, suc, ◌-◌, length}
use Rattle.ir_grammar.specs.Rules.{many_from}
use Rattle.ir_grammar.specs.Words.{is_sign, behind_comma, comma_item}
use Rattle.ir_grammar.specs.Instructions.{entry}
use Rattle.ir_read.proofs.operation.more_entries.Given as goal

abbrev pub invariant-loop-turn : goal.invariant-loop-turn
invariant-loop-turn l = record {
  reads : many_from (behind_comma (is_sign 91)) (comma_item (entry l.fn.ty)) (suc (length l.fn.toks.tokens)) l.fn.found.items l.fn.toks.tokens ≡ many_from (behind_comma (is_sign 91)) (comma_item (entry l.fn.ty)) (suc l._turn-end - l._turn) l.found.items l.toks.tokens;
  whole : l.toks.whole ≡ l.fn.toks.whole;
}
