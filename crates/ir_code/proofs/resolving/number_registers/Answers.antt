use Rattle.std.proofs.Common.{◌≡◌, ℕ, List, [], ◌++◌, ◌+◌, ◌∙◌, map, take, append_assoc, ap, sym, arith}
use Rattle.std.specs.Prelude.{flat_map}
use Rattle.std.proofs.lemmas.List.{append-nil, take_all}
use Rattle.ir_tree.specs.Operands.{result_names}
use Rattle.ir_tree.specs.declared.types.Block.{Block}
use Rattle.ir_tree.specs.declared.types.Ty.{Ty}
use Rattle.ir_code.specs.Resolved.{register_names}
use Rattle.ir_code.proofs.Numbered.{flat_more, numbered_as}
use Rattle.ir_code.proofs.resolving.number_registers.Goals as goal

abbrev results : Block → List (List ℕ)
results b = result_names b.instrs

abbrev names : List (Ty × List ℕ) → List (List ℕ)
names ps = map (λ p. p.1) ps

pub loop-block-init : goal.loop-block-init
loop-block-init c =
    numbered_as c.add_params.new.registers (names c.as_slice.result.now) (names c.args.function.now.params ++ [])
    (ap names c.as_slice.ensures ∙ sym (append-nil (names c.args.function.now.params)))
    (c.in_ok-add_params.ensures [] c.new-registers.ensures)

pub loop-block-preserved : goal.loop-block-preserved
loop-block-preserved c =
    let params : List (List ℕ) = names c.args.function.now.params in
    let blocks : List Block = c.as_slice-block-items.result.now in
    let before : List (List ℕ) = flat_map results (take c.loop-block.block-index blocks) in
    let more : before ++ results c.block-item.result ≡ flat_map results (take (c.loop-block.block-index + 1) blocks) =
    sym (flat_more blocks c.loop-block.block-index c.block-item.result c.loop-block-test.true c.block-item.is results) in
    numbered_as c.add_results.new.registers ((params ++ before) ++ result_names c.as_slice-in-loop-block.result.now) (params ++ flat_map results (take (c.loop-block.block-index + 1) blocks))
    (ap (λ is. (params ++ before) ++ result_names is) c.as_slice-in-loop-block.ensures
    ∙ append_assoc params before (results c.block-item.result)
    ∙ ap (λ (ns : List (List ℕ)). params ++ ns) more)
    (c.in_ok-add_results.ensures (params ++ before) c.loop-block.invariant)

pub returns : goal.returns
returns c =
    let params : List (List ℕ) = names c.args.function.now.params in
    let blocks : List Block = c.as_slice-block-items.result.now in
    let all : take c.loop-block.block-index blocks ≡ blocks = take_all c.loop-block.block-index blocks (omega arith) in
    numbered_as c.loop-block.registers (params ++ flat_map results (take c.loop-block.block-index blocks)) (register_names c.args.function.now)
    (ap (λ (bs : List Block). params ++ flat_map results bs) (all ∙ c.as_slice-block-items.ensures))
    c.loop-block.invariant
