use Rattle.std.proofs.Common.{◌≡◌, ◌≤◌, true, refl, ◌∙◌, arith, rules}
use Rattle.ir_read.proofs.Loops.{many_begin, many_next}
use Rattle.ir_grammar.specs.Words.{behind_comma, comma_item, comma_takes}
use Rattle.ir_grammar.specs.Types.{typed_operand}
use Rattle.ir_grammar.specs.Instructions.{is_type_word}
use Rattle.ir_read.proofs.memory.more_indices.Goals as goal

pub loop-turn-init : goal.loop-turn-init
loop-turn-init c = record {
  reads = many_begin (behind_comma is_type_word) (comma_item typed_operand) (comma_takes typed_operand) c.args.found.items c.args.found.items c.args.toks.now.tokens c.left-turn-end.result c.left-turn-end.ensures refl;
  whole = refl;
}

pub loop-turn-preserved : goal.loop-turn-preserved
loop-turn-preserved c =
    let h : c.loop-turn._turn ≤ c.left-turn-end.result = omega arith in
    let b : (behind_comma is_type_word) c.loop-turn.toks.tokens ≡ true = first_of (cc, search rules) in
    record {
      reads = c.loop-turn.invariant.reads ∙ many_next (behind_comma is_type_word) (comma_item typed_operand) c.left-turn-end.result c.loop-turn._turn c.loop-turn.found.items c.push.new.self.items c.loop-turn.toks.tokens c.in_ok-next_index.field-0 c.next_index.new.toks.tokens h b c.in_ok-next_index.ensures.0 c.in_ok-push.ensures.items;
      whole = c.in_ok-next_index.ensures.1 ∙ c.loop-turn.invariant.whole;
    }
