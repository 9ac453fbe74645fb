use Rattle.std.proofs.Common.{[], length, Some, None, ap, ◌∙◌, subst, arith}
use Rattle.std.specs.Prelude.{Ok}
use Rattle.ir_grammar.specs.Brackets.{nest_after}
use Rattle.ir_grammar.specs.Past.{bracket_of, balanced}
use Rattle.ir_read.specs.Items.{token_of}
use Rattle.ir_read.specs.Nests.{nest_of, Nests}
use Rattle.ir_read.proofs.Nesting.{nest_turn, nest_end, nest_stops}
use Rattle.ir_read.proofs.past.balanced.Goals as goal

pub returns-in-Ok-true : goal.returns-in-Ok-true
unfolding balanced
returns-in-Ok-true c =
    let closes = subst (λ b. Nests (Ok b) (nest_after c.bracket_of.result (nest_of c.args.outer c.loop-turn.inside.items)) c.args.outer c.nest.new.inside.items) c.in-Ok-true.field-0-test c.in-Ok-true.ensures in
    (c.loop-turn.invariant.reads ∙ nest_turn bracket_of c.bracket_of.result c.args.outer c.loop-turn.inside.items (token_of c.in-Some.item) c.loop-turn.toks.tokens c.next.new.self.tokens (Some []) c.in-Some.ensures.tokens c.bracket_of.ensures closes, c.in-Some.ensures.whole ∙ c.loop-turn.invariant.whole)

pub returns-in-Err : goal.returns-in-Err
unfolding balanced
returns-in-Err c =
    nest_stops c.in-Err.stop (nest_after c.bracket_of.result (nest_of c.args.outer c.loop-turn.inside.items)) c.args.outer c.nest.new.inside.items c.args.toks.now c.next.new.self (balanced c.args.outer).read c.in-Err.ensures (λ none. c.loop-turn.invariant.reads ∙ nest_turn bracket_of c.bracket_of.result c.args.outer c.loop-turn.inside.items (token_of c.in-Some.item) c.loop-turn.toks.tokens c.next.new.self.tokens None c.in-Some.ensures.tokens c.bracket_of.ensures none)

pub returns-in-None : goal.returns-in-None
unfolding balanced
returns-in-None c =
    c.loop-turn.invariant.reads ∙ nest_end bracket_of c.args.outer c.loop-turn.inside.items c.loop-turn.toks.tokens c.in-None.ensures.tokens

pub loop-turn-preserved : goal.loop-turn-preserved
loop-turn-preserved c =
    let goes_on = subst (λ b. Nests (Ok b) (nest_after c.bracket_of.result (nest_of c.args.outer c.loop-turn.inside.items)) c.args.outer c.nest.new.inside.items) c.in-Ok-false.field-0-test c.in-Ok-false.ensures in
    let fewer = ap length c.in-Some.ensures.tokens in
    let before = c.loop-turn.invariant.fewer in
    record {
      reads = c.loop-turn.invariant.reads ∙ nest_turn bracket_of c.bracket_of.result c.args.outer c.loop-turn.inside.items (token_of c.in-Some.item) c.loop-turn.toks.tokens c.next.new.self.tokens (Some (nest_of c.args.outer c.nest.new.inside.items)) c.in-Some.ensures.tokens c.bracket_of.ensures goes_on;
      whole = c.in-Some.ensures.whole ∙ c.loop-turn.invariant.whole;
      fewer = omega arith;
    }
