use Rattle.std.proofs.Common.{arith}
use Rattle.ir_read.proofs.Whole.{found_spelled, broken_spells_none, none_spells_none}
use Rattle.ir_read.proofs.text.module_of.Goals as goal

pub returns-then-is_whole-clause-found : goal.returns-then-is_whole-clause-found
returns-then-is_whole-clause-found c =
    found_spelled c.cut_is_spelled.ensures c.module_ends.ensures c.args.text.now c.args.nodes.now c.args.toks.now c.module.new.toks _ c.requires.nodes c.requires.tokens c.requires.whole c.in-Ok.ensures.reads.0 c.in-Ok.ensures.reads.1 c.if-is_whole.ensures

pub returns-else-is_whole-clause-refused : goal.returns-else-is_whole-clause-refused
returns-else-is_whole-clause-refused c =
    (omega arith, omega arith, broken_spells_none c.cut_is_spelled.ensures c.module_ends.ensures c.args.text.now c.args.nodes.now c.args.toks.now c.module.new.toks _ c.requires.nodes c.requires.tokens c.requires.whole c.in-Ok.ensures.reads.0 c.in-Ok.ensures.reads.1 c.if-is_whole.ensures)

pub returns-in-Err-Syntax-clause-refused : goal.returns-in-Err-Syntax-clause-refused
returns-in-Err-Syntax-clause-refused c =
    (omega arith, omega arith, none_spells_none c.cut_is_spelled.ensures c.args.text.now c.args.nodes.now c.args.toks.now c.requires.nodes c.requires.tokens (rw c.in-Err-Syntax.field-0-is at c.in-Err-Syntax.ensures.reads))
