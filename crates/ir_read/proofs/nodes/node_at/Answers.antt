use Rattle.std.proofs.Common.{sym, rules}
use Rattle.ir_read.proofs.Defining.{no_node}
use Rattle.ir_read.proofs.nodes.node_at.Goals as goal

pub returns-then-not-starts_mark : goal.returns-then-not-starts_mark
returns-then-not-starts_mark c = sym (no_node c.args.toks.now.tokens (first_of (cc, search rules)))
