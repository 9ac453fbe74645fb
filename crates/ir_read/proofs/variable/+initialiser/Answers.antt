use Rattle.std.proofs.Common.{◌≡◌, ◌≤◌, true, refl, ◌∙◌, arith, rules}
use Rattle.ir_read.proofs.Loops.{many_begin, many_next}
use Rattle.ir_grammar.specs.Words.{first_is, is_sign, comma_item, comma_takes}
use Rattle.ir_grammar.specs.Variables.{element}
use Rattle.ir_read.proofs.variable.+initialiser.Goals as goal

pub more_elements-loop-turn-init : goal.more_elements-loop-turn-init
more_elements-loop-turn-init t c = record {
  reads = many_begin (first_is (is_sign 44)) (comma_item (element c.args.ns.now c.args.ty)) (comma_takes (element c.args.ns.now c.args.ty)) c.args.found.items c.args.found.items c.args.toks.now.tokens c.left-turn-end.result c.left-turn-end.ensures refl;
  whole = refl;
}

pub more_elements-loop-turn-preserved : goal.more_elements-loop-turn-preserved
more_elements-loop-turn-preserved t c =
    let h : c.loop-turn._turn ≤ c.left-turn-end.result = omega arith in
    let b : (first_is (is_sign 44)) c.loop-turn.toks.tokens ≡ true = first_of (cc, search rules) in
    record {
      reads = c.loop-turn.invariant.reads ∙ many_next (first_is (is_sign 44)) (comma_item (element c.args.ns.now c.args.ty)) c.left-turn-end.result c.loop-turn._turn c.loop-turn.found.items c.push.new.self.items c.loop-turn.toks.tokens c.in_ok-next_element.field-0 c.next_element.new.toks.tokens h b c.in_ok-next_element.ensures.0 c.in_ok-push.ensures.items;
      whole = c.in_ok-next_element.ensures.1 ∙ c.loop-turn.invariant.whole;
    }
