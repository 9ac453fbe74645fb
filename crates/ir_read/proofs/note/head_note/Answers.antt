use Rattle.std.proofs.Common.{◌≡◌, ◌≤◌, true, [], ◌∷◌, None, refl, ◌∙◌, subst, arith, rules}
use Rattle.std.specs.Prelude.{fold}
use Rattle.std.proofs.lemmas.Grind.{fold-append}
use Rattle.ir_read.proofs.Folds.{fold_begin, fold_next}
use Rattle.ir_grammar.specs.Notes.{head_begins, head_note, head_part, head_part_takes, first_note}
use Rattle.ir_grammar.specs.declared.words.NoteKind.TheVariants as kinds
use Rattle.ir_read.proofs.note.head_note.Goals as goal

pub loop-turn-init : goal.loop-turn-init
unfolding head_note
loop-turn-init c = record {
  reads = fold_begin head_begins head_part (first_note c.args.nodes.now kinds.Entry) (fold (first_note c.args.nodes.now kinds.Entry) None) (λ xs x. fold-append (first_note c.args.nodes.now kinds.Entry) None xs (x ∷ [])) head_part_takes None c.args.toks.now.tokens c.left-turn-end.result c.left-turn-end.ensures refl;
  whole = refl;
  same = refl;
}

pub loop-turn-preserved : goal.loop-turn-preserved
loop-turn-preserved c =
    let h : c.loop-turn._turn ≤ c.left-turn-end.result = omega arith in
    let b : head_begins c.loop-turn.toks.tokens ≡ true = first_of (cc, search rules) in
    record {
      reads = c.loop-turn.invariant.reads ∙ fold_next head_begins head_part (first_note c.args.nodes.now kinds.Entry) c.left-turn-end.result c.loop-turn._turn c.loop-turn.kept c.in_ok-kept.kept c.loop-turn.toks.tokens c.in_ok-node.node c.head_part.new.toks.tokens h b c.in_ok-node.ensures.0 (subst (λ n. c.in_ok-kept.kept ≡ first_note n kinds.Entry c.loop-turn.kept c.in_ok-node.node) c.loop-turn.invariant.same c.in_ok-kept.ensures.first);
      whole = c.in_ok-node.ensures.1 ∙ c.loop-turn.invariant.whole;
      same = c.first_note.ensures.same ∙ c.loop-turn.invariant.same;
    }
