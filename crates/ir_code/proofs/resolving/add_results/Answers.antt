use Rattle.std.proofs.Common.{◌≡◌, ℕ, List, ◌++◌, ◌+◌, ◌∙◌, take, append_assoc, ap, sym}
use Rattle.ir_tree.specs.Operands.{listed, result_name, result_names}
use Rattle.ir_code.proofs.Numbered.{filter_more, numbered_as}
use Rattle.ir_code.proofs.resolving.add_results.Goals as goal

pub loop-instr-preserved : goal.loop-instr-preserved
loop-instr-preserved c names h =
    let before : List (List ℕ) = result_names (take c.loop-instr.instr-index c.args.instrs.now) in
    let more : before ++ listed (result_name c.instr-item.result) ≡ result_names (take (c.loop-instr.instr-index + 1) c.args.instrs.now) =
    sym (filter_more c.args.instrs.now c.loop-instr.instr-index c.instr-item.result c.loop-instr-test.true c.instr-item.is result_name) in
    numbered_as c.add_result.new.registers ((names ++ before) ++ listed (result_name c.instr-item.result)) (names ++ result_names (take (c.loop-instr.instr-index + 1) c.args.instrs.now))
    (append_assoc names before (listed (result_name c.instr-item.result)) ∙ ap (λ (ns : List (List ℕ)). names ++ ns) more)
    (c.in_ok-add_result.ensures (names ++ before) (c.loop-instr.invariant names h))
