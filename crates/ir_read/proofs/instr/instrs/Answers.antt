use Rattle.std.proofs.Common.{◌≡◌, ◌≤◌, true, [], Some, refl, ◌∙◌, subst, arith, rules}
use Rattle.ir_read.proofs.Loops.{many_begin, many_next}
use Rattle.ir_grammar.specs.Words.{first_is}
use Rattle.ir_grammar.specs.Instructions.{starts_instr, instr, instr_takes}
use Rattle.ir_read.proofs.instr.instrs.Goals as goal

pub loop-turn-init : goal.loop-turn-init
loop-turn-init c = record {
  reads = many_begin (first_is starts_instr) (instr c.args.nodes.now) (instr_takes c.args.nodes.now) [] c.new-found.result.items c.args.toks.now.tokens c.left-turn-end.result c.left-turn-end.ensures c.new-found.ensures.items;
  whole = refl;
  same = refl;
}

pub loop-turn-preserved : goal.loop-turn-preserved
loop-turn-preserved c =
    let h : c.loop-turn._turn ≤ c.left-turn-end.result = omega arith in
    let b : (first_is starts_instr) c.loop-turn.toks.tokens ≡ true = first_of (cc, search rules) in
    record {
      reads = c.loop-turn.invariant.reads ∙ many_next (first_is starts_instr) (instr c.args.nodes.now) c.left-turn-end.result c.loop-turn._turn c.loop-turn.found.items c.push.new.self.items c.loop-turn.toks.tokens c.in_ok-instr.field-0 c.instr.new.toks.tokens h b (subst (λ n. ((instr n)).read c.loop-turn.toks.tokens ≡ Some (c.in_ok-instr.field-0, c.instr.new.toks.tokens)) c.loop-turn.invariant.same c.in_ok-instr.ensures.reads.0) c.in_ok-push.ensures.items;
      whole = c.in_ok-instr.ensures.reads.1 ∙ c.loop-turn.invariant.whole;
      same = c.instr.ensures.same ∙ c.loop-turn.invariant.same;
    }
