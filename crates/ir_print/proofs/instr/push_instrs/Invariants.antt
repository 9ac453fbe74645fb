use Rattle.std.proofs.Common.{◌≡◌, ◌++◌, take}
use Rattle.std.specs.List.{flat_map}
use Rattle.text_pieces.specs.Pieces.{text_of}
use Rattle.canonical_text.specs.Instructions.{instr_pieces}
use Rattle.ir_print.proofs.instr.push_instrs.Given as goal

abbrev pub invariant-loop-instr : goal.invariant-loop-instr
invariant-loop-instr l = l.out.items ≡ l.initial.out.items ++ flat_map (λ x. text_of (instr_pieces l.nodes x)) (take l.instr-index l.instrs)
