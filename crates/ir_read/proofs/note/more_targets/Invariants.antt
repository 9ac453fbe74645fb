use Rattle.std.proofs.Common.{◌≡◌, suc, ◌-◌, length}
use Rattle.ir_grammar.specs.Rules.{many_from}
use Rattle.ir_grammar.specs.Words.{first_is, is_sign, comma_item}
use Rattle.ir_grammar.specs.Notes.{target_count}
use Rattle.ir_read.proofs.note.more_targets.Given as goal

abbrev pub invariant-loop-turn : goal.invariant-loop-turn
invariant-loop-turn l = record {
  reads : many_from (first_is (is_sign 44)) (comma_item target_count) (suc (length l.fn.toks.tokens)) l.fn.found.items l.fn.toks.tokens ≡ many_from (first_is (is_sign 44)) (comma_item target_count) (suc l._turn-end - l._turn) l.found.items l.toks.tokens;
  whole : l.toks.whole ≡ l.fn.toks.whole;
}
