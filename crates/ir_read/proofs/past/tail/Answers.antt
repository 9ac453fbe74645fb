use Rattle.std.proofs.Common.{◌≡◌, ◌≤◌, true, refl, ◌∙◌, arith, rules}
use Rattle.ir_read.proofs.Folds.{fold_begin, fold_next}
use Rattle.ir_grammar.specs.Past.{tail_part, tail_part_takes, tail}
use Rattle.ir_grammar.specs.Words.{first_is, is_sign}
use Rattle.ir_read.proofs.past.tail.Goals as goal

pub loop-turn-init : goal.loop-turn-init
unfolding tail
loop-turn-init c = record {
  reads = fold_begin (first_is (is_sign 44)) (tail_part c.args.place) (λ _ _. tt) (λ _. tt) (λ _ _. refl) (tail_part_takes c.args.place) tt c.args.toks.now.tokens c.left-turn-end.result c.left-turn-end.ensures refl;
  whole = refl;
}

pub loop-turn-preserved : goal.loop-turn-preserved
loop-turn-preserved c =
    let h : c.loop-turn._turn ≤ c.left-turn-end.result = omega arith in
    let b : (first_is (is_sign 44)) c.loop-turn.toks.tokens ≡ true = first_of (cc, search rules) in
    record {
      reads = c.loop-turn.invariant.reads ∙ fold_next (first_is (is_sign 44)) (tail_part c.args.place) (λ _ _. tt) c.left-turn-end.result c.loop-turn._turn tt tt c.loop-turn.toks.tokens tt c.tail_part.new.toks.tokens h b c.in_ok-tail_part.ensures.0 refl;
      whole = c.in_ok-tail_part.ensures.1 ∙ c.loop-turn.invariant.whole;
    }
