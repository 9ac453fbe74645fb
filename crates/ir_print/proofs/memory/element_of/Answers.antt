use Rattle.std.proofs.Common.{sym, ap, ◌∙◌}
use Rattle.ir_tree.specs.Sizes.{element_of}
use Rattle.ir_print.proofs.Trees.{element_array}
use Rattle.ir_print.proofs.memory.element_of.Goals as goal

pub returns-in-Array : goal.returns-in-Array
returns-in-Array c =
    c.get.ensures ∙ sym (element_array c.in-Array.count c.in-Array.element) ∙ sym (ap element_of c.in-Array.is)
