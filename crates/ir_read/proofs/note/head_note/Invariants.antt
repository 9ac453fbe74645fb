use Rattle.std.proofs.Common.{◌≡◌, suc, ◌-◌}
use Rattle.ir_read.proofs.Folds.{fold_from}
use Rattle.ir_grammar.specs.Notes.{head_begins, head_note, head_part, first_note}
use Rattle.ir_grammar.specs.declared.words.NoteKind.TheVariants as kinds
use Rattle.ir_read.proofs.note.head_note.Given as goal

abbrev pub invariant-loop-turn : goal.invariant-loop-turn
invariant-loop-turn l = record {
  reads : (head_note l.fn.nodes).read l.fn.toks.tokens ≡ fold_from head_begins head_part (first_note l.fn.nodes kinds.Entry) (suc l._turn-end - l._turn) l.kept l.toks.tokens;
  whole : l.toks.whole ≡ l.fn.toks.whole;
  same : l.nodes ≡ l.fn.nodes;
}
