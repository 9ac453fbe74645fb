use Rattle.std.proofs.Common.{◌≡◌, ◌≤◌, true, [], refl, ◌∙◌, arith, rules}
use Rattle.ir_read.proofs.Loops.{many_begin, many_next}
use Rattle.ir_grammar.specs.Words.{first_is, is_sign}
use Rattle.ir_grammar.specs.Types.{dimension, dimension_takes}
use Rattle.ir_read.proofs.types.dimensions.Goals as goal

pub loop-turn-init : goal.loop-turn-init
loop-turn-init c = record {
  reads = many_begin (first_is (is_sign 91)) dimension dimension_takes [] c.new-found.result.items c.args.toks.now.tokens c.left-turn-end.result c.left-turn-end.ensures c.new-found.ensures.items;
  whole = refl;
}

pub loop-turn-preserved : goal.loop-turn-preserved
loop-turn-preserved c =
    let h : c.loop-turn._turn ≤ c.left-turn-end.result = omega arith in
    let b : (first_is (is_sign 91)) c.loop-turn.toks.tokens ≡ true = first_of (cc, search rules) in
    record {
      reads = c.loop-turn.invariant.reads ∙ many_next (first_is (is_sign 91)) dimension c.left-turn-end.result c.loop-turn._turn c.loop-turn.found.items c.push.new.self.items c.loop-turn.toks.tokens c.in_ok-dimension.field-0 c.dimension.new.toks.tokens h b c.in_ok-dimension.ensures.0 c.in_ok-push.ensures.items;
      whole = c.in_ok-dimension.ensures.1 ∙ c.loop-turn.invariant.whole;
    }
