use Rattle.std.proofs.Common.{◌≡◌, ◌≤◌, true, [], ◌∷◌, None, refl, ◌∙◌, subst, arith, rules}
use Rattle.std.specs.Prelude.{fold}
use Rattle.std.proofs.lemmas.Grind.{fold-append}
use Rattle.ir_read.proofs.Folds.{fold_begin, fold_next}
use Rattle.ir_grammar.specs.Notes.{noted, note_part, note_part_takes, first_note}
use Rattle.ir_grammar.specs.Words.{first_is, is_sign}
use Rattle.ir_read.proofs.note.noted.Goals as goal

pub loop-turn-init : goal.loop-turn-init
unfolding noted
loop-turn-init c = record {
  reads = fold_begin (first_is (is_sign 44)) note_part (first_note c.args.nodes.now c.args.kind) (fold (first_note c.args.nodes.now c.args.kind) None) (λ xs x. fold-append (first_note c.args.nodes.now c.args.kind) None xs (x ∷ [])) note_part_takes None c.args.toks.now.tokens c.left-turn-end.result c.left-turn-end.ensures refl;
  whole = refl;
  same = refl;
}

pub loop-turn-preserved : goal.loop-turn-preserved
loop-turn-preserved c =
    let h : c.loop-turn._turn ≤ c.left-turn-end.result = omega arith in
    let b : (first_is (is_sign 44)) c.loop-turn.toks.tokens ≡ true = first_of (cc, search rules) in
    record {
      reads = c.loop-turn.invariant.reads ∙ fold_next (first_is (is_sign 44)) note_part (first_note c.args.nodes.now c.args.kind) c.left-turn-end.result c.loop-turn._turn c.loop-turn.kept c.in_ok-kept.kept c.loop-turn.toks.tokens c.in_ok-node.node c.note_part.new.toks.tokens h b c.in_ok-node.ensures.0 (subst (λ n. c.in_ok-kept.kept ≡ first_note n c.args.kind c.loop-turn.kept c.in_ok-node.node) c.loop-turn.invariant.same c.in_ok-kept.ensures.first);
      whole = c.in_ok-node.ensures.1 ∙ c.loop-turn.invariant.whole;
      same = c.first_note.ensures.same ∙ c.loop-turn.invariant.same;
    }
