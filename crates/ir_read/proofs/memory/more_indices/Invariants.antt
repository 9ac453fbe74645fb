use Rattle.std.proofs.Common.{◌≡◌, suc, ◌-◌, length}
use Rattle.ir_grammar.specs.Rules.{many_from}
use Rattle.ir_grammar.specs.Words.{behind_comma, comma_item}
use Rattle.ir_grammar.specs.Types.{typed_operand}
use Rattle.ir_grammar.specs.Instructions.{is_type_word}
use Rattle.ir_read.proofs.memory.more_indices.Given as goal

abbrev pub invariant-loop-turn : goal.invariant-loop-turn
invariant-loop-turn l = record {
  reads : many_from (behind_comma is_type_word) (comma_item typed_operand) (suc (length l.fn.toks.tokens)) l.fn.found.items l.fn.toks.tokens ≡ many_from (behind_comma is_type_word) (comma_item typed_operand) (suc l._turn-end - l._turn) l.found.items l.toks.tokens;
  whole : l.toks.whole ≡ l.fn.toks.whole;
}
