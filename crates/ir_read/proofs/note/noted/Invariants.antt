use Rattle.std.proofs.Common.{◌≡◌, suc, ◌-◌}
use Rattle.ir_read.proofs.Folds.{fold_from}
use Rattle.ir_grammar.specs.Notes.{noted, note_part, first_note}
use Rattle.ir_grammar.specs.Words.{first_is, is_sign}
use Rattle.ir_read.proofs.note.noted.Given as goal

abbrev pub invariant-loop-turn : goal.invariant-loop-turn
invariant-loop-turn l = record {
  reads : (noted l.fn.nodes l.fn.kind).read l.fn.toks.tokens ≡ fold_from (first_is (is_sign 44)) note_part (first_note l.fn.nodes l.fn.kind) (suc l._turn-end - l._turn) l.kept l.toks.tokens;
  whole : l.toks.whole ≡ l.fn.toks.whole;
  same : l.nodes ≡ l.fn.nodes;
}
