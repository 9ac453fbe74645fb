use Rattle.std.proofs.Common.{◌≡◌, ◌≤◌, true, Some, refl, ◌∙◌, subst, arith, rules}
use Rattle.ir_read.proofs.Loops.{many_begin, many_next}
use Rattle.ir_grammar.specs.Words.{first_is, is_label}
use Rattle.ir_grammar.specs.Functions.{block, block_takes}
use Rattle.ir_read.proofs.function.more_blocks.Goals as goal

pub loop-turn-init : goal.loop-turn-init
loop-turn-init c = record {
  reads = many_begin (first_is is_label) (block c.args.nodes.now) (block_takes c.args.nodes.now) c.args.found.items c.args.found.items c.args.toks.now.tokens c.left-turn-end.result c.left-turn-end.ensures refl;
  whole = refl;
  same = refl;
}

pub loop-turn-preserved : goal.loop-turn-preserved
loop-turn-preserved c =
    let h : c.loop-turn._turn ≤ c.left-turn-end.result = omega arith in
    let b : (first_is is_label) c.loop-turn.toks.tokens ≡ true = first_of (cc, search rules) in
    record {
      reads = c.loop-turn.invariant.reads ∙ many_next (first_is is_label) (block c.args.nodes.now) c.left-turn-end.result c.loop-turn._turn c.loop-turn.found.items c.push.new.self.items c.loop-turn.toks.tokens c.in_ok-block.field-0 c.block.new.toks.tokens h b (subst (λ n. ((block n)).read c.loop-turn.toks.tokens ≡ Some (c.in_ok-block.field-0, c.block.new.toks.tokens)) c.loop-turn.invariant.same c.in_ok-block.ensures.reads.0) c.in_ok-push.ensures.items;
      whole = c.in_ok-block.ensures.reads.1 ∙ c.loop-turn.invariant.whole;
      same = c.block.ensures.same ∙ c.loop-turn.invariant.same;
    }
