use Rattle.std.proofs.Common.{ap, ◌∙◌}
use Rattle.ir_read.specs.Ahead.{tokens_ahead}
use Rattle.ir_read.proofs.Places.{start_tokens-le}
use Rattle.ir_read.proofs.cursor.Cursor.new.Goals as goal

pub invariant_of-result : goal.invariant_of-result
invariant_of-result c =
    start_tokens-le c.tokens_are_cut.ensures c.new-tokens.result c.args.text.now c.new-tokens.ensures.text c.new-tokens.ensures.at _ (ap (λ x. tokens_ahead c.look_ahead-next.result.item x) c.look_ahead-second.ensures.ahead ∙ c.look_ahead-next.ensures.ahead)
