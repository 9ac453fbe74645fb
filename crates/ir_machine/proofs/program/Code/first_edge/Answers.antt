use Rattle.std.proofs.Common.{◌∙◌, ap}
use Rattle.std.specs.Prelude.{slice_get}
use Rattle.ir_machine.specs.Slots.{entry_or}
use Rattle.ir_tree.specs.Functions.{numbered}
use Rattle.ir_machine.proofs.Numbers.{entry_is}
use Rattle.ir_machine.proofs.program.Code.first_edge.Goals as goal

pub returns : goal.returns
returns c =
    c.entry_in.ensures ∙ ap (λ l. entry_or (slice_get l c.args.function) c.edge_total.result) c.slots.ensures
    ∙ entry_is (numbered c.args.self.now.functions) c.args.function c.edge_total.result c.edge_total.ensures
