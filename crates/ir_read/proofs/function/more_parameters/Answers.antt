use Rattle.std.proofs.Common.{◌≡◌, ◌≤◌, true, refl, ◌∙◌, arith, rules}
use Rattle.ir_read.proofs.Loops.{many_begin, many_next}
use Rattle.ir_grammar.specs.Words.{first_is, is_sign, comma_item, comma_takes}
use Rattle.ir_grammar.specs.Functions.{parameter}
use Rattle.ir_read.proofs.function.more_parameters.Goals as goal

pub loop-turn-init : goal.loop-turn-init
loop-turn-init c = record {
  reads = many_begin (first_is (is_sign 44)) (comma_item parameter) (comma_takes parameter) c.args.found.items c.args.found.items c.args.toks.now.tokens c.left-turn-end.result c.left-turn-end.ensures refl;
  whole = refl;
}

pub loop-turn-preserved : goal.loop-turn-preserved
loop-turn-preserved c =
    let h : c.loop-turn._turn ≤ c.left-turn-end.result = omega arith in
    let b : (first_is (is_sign 44)) c.loop-turn.toks.tokens ≡ true = first_of (cc, search rules) in
    record {
      reads = c.loop-turn.invariant.reads ∙ many_next (first_is (is_sign 44)) (comma_item parameter) c.left-turn-end.result c.loop-turn._turn c.loop-turn.found.items c.push.new.self.items c.loop-turn.toks.tokens c.in_ok-next_parameter.field-0 c.next_parameter.new.toks.tokens h b c.in_ok-next_parameter.ensures.0 c.in_ok-push.ensures.items;
      whole = c.in_ok-next_parameter.ensures.1 ∙ c.loop-turn.invariant.whole;
    }
