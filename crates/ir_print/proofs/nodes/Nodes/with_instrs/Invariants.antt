use Rattle.std.proofs.Common.{◌≡◌, fold, take}
use Rattle.canonical_text.specs.Notes.{with_instr}
use Rattle.ir_print.proofs.nodes.Nodes.with_instrs.Given as goal

abbrev pub invariant-loop-instr : goal.invariant-loop-instr
invariant-loop-instr l = l.nodes ≡ fold with_instr l.initial.nodes (take l.instr-index l.instrs)
