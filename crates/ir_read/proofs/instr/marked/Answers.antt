use Rattle.std.proofs.Common.{◌≡◌, ◌≤◌, true, false, [], ◌∷◌, refl, ◌∙◌, arith, rules}
use Rattle.std.specs.Prelude.{is_some, ◌||◌, fold}
use Rattle.std.proofs.lemmas.Grind.{fold-append}
use Rattle.ir_read.proofs.Folds.{fold_begin, fold_next}
use Rattle.ir_grammar.specs.Words.{first_is}
use Rattle.ir_grammar.specs.Instructions.{marked, mark_meaning, one_marked, one_marked_takes}
use Rattle.ir_read.proofs.instr.marked.Goals as goal

pub loop-turn-init : goal.loop-turn-init
unfolding marked
loop-turn-init c = record {
  reads = fold_begin (first_is (λ t. is_some (mark_meaning c.args.which t))) (one_marked c.args.which) ◌||◌ (fold ◌||◌ false) (λ xs x. fold-append ◌||◌ false xs (x ∷ [])) (one_marked_takes c.args.which) false c.args.toks.now.tokens c.left-turn-end.result c.left-turn-end.ensures refl;
  whole = refl;
}

pub loop-turn-preserved : goal.loop-turn-preserved
loop-turn-preserved c =
    let h : c.loop-turn._turn ≤ c.left-turn-end.result = omega arith in
    let b : (first_is (λ t. is_some (mark_meaning c.args.which t))) c.loop-turn.toks.tokens ≡ true = first_of (cc, search rules) in
    record {
      reads = c.loop-turn.invariant.reads ∙ fold_next (first_is (λ t. is_some (mark_meaning c.args.which t))) (one_marked c.args.which) ◌||◌ c.left-turn-end.result c.loop-turn._turn c.loop-turn.any c.or-any.result c.loop-turn.toks.tokens c.in_ok-this.this c.one_marked.new.toks.tokens h b c.in_ok-this.ensures.0 c.or-any.ensures;
      whole = c.in_ok-this.ensures.1 ∙ c.loop-turn.invariant.whole;
    }
