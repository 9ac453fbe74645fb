use Rattle.std.proofs.Common.{◌≡◌, ◌≤◌, true, refl, ◌∙◌, arith, rules}
use Rattle.ir_read.proofs.Loops.{many_begin, many_next}
use Rattle.ir_grammar.specs.Words.{is_sign, behind_comma, comma_item, comma_takes}
use Rattle.ir_grammar.specs.Instructions.{entry}
use Rattle.ir_read.proofs.operation.more_entries.Goals as goal

pub loop-turn-init : goal.loop-turn-init
loop-turn-init c = record {
  reads = many_begin (behind_comma (is_sign 91)) (comma_item (entry c.args.ty)) (comma_takes (entry c.args.ty)) c.args.found.items c.args.found.items c.args.toks.now.tokens c.left-turn-end.result c.left-turn-end.ensures refl;
  whole = refl;
}

pub loop-turn-preserved : goal.loop-turn-preserved
loop-turn-preserved c =
    let h : c.loop-turn._turn ≤ c.left-turn-end.result = omega arith in
    let b : (behind_comma (is_sign 91)) c.loop-turn.toks.tokens ≡ true = first_of (cc, search rules) in
    record {
      reads = c.loop-turn.invariant.reads ∙ many_next (behind_comma (is_sign 91)) (comma_item (entry c.args.ty)) c.left-turn-end.result c.loop-turn._turn c.loop-turn.found.items c.push.new.self.items c.loop-turn.toks.tokens c.in_ok-next_entry.field-0 c.next_entry.new.toks.tokens h b c.in_ok-next_entry.ensures.0 c.in_ok-push.ensures.items;
      whole = c.in_ok-next_entry.ensures.1 ∙ c.loop-turn.invariant.whole;
    }
