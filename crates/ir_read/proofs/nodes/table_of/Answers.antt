use Rattle.std.proofs.Common.{sym, ◌∙◌}
use Rattle.ir_read.specs.Table.{known_at}
use Rattle.ir_read.proofs.Defining.{table_last}
use Rattle.ir_read.proofs.nodes.table_of.Goals as goal

pub returns-in-None : goal.returns-in-None
returns-in-None c = λ n.
    sym (table_last n c.loop-turn.depth (known_at c.loop-turn.table n) (known_at c.add_at.new.self n) c.loop-turn.toks.tokens c.in-None.ensures.tokens (c.in_ok-add_at.ensures n)) ∙ c.loop-turn.invariant n
