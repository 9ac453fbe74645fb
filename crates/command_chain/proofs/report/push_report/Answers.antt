use Rattle.std.proofs.Common.{◌≡◌, ◌+◌, ◌++◌, List, length, drop, refl, sym, ap, ◌∙◌, arith}
use Rattle.std.proofs.Math.ListN.{drop_of_length-le}
use Rattle.std.specs.Prelude.{Some, slice_get}
use Rattle.ir_tree.specs.Functions.{function_at, numbered}
use Rattle.ir_tree.specs.declared.types.Function.{Function}
use Rattle.ir_tree.specs.declared.types.Module.{Module}
use Rattle.command_chain.specs.Counted.{counted_at}
use Rattle.command_chain.specs.Report.{report}
use Rattle.command_chain.proofs.ReportLemmas.{found_at, has_blocks, next_item, report_ends, report_turn}
use Rattle.command_chain.proofs.report.push_report.Goals as goal

pub loop-number-init : goal.loop-number-init
loop-number-init c = refl

pub overflow_cast-number : goal.overflow_cast-number
overflow_cast-number c =
    let few = (c.accepted_are_small.ensures.any c.args.«module».now c.requires.accepted).functions in
    let same = ap (λ (fs : List Function). length fs) (c.as_slice-function-items.ensures ∙ ap (λ (m : Module). m.functions) c.module.ensures.value) in
    omega (arith, few, same, c.loop-number-test.true)

pub push_function-requires-clause-graph : goal.push_function-requires-clause-graph
push_function-requires-clause-graph c defined =
    let same = c.as_slice-function-items.ensures ∙ ap (λ (m : Module). m.functions) c.module.ensures.value in
    let there = found_at c.as_slice-function-items.result.now c.loop-number.number c.function-item.result c.loop-number-test.true c.function-item.is in
    c.functions_have_graphs.ensures c.args.«module».now c.loop-number.number c.function-item.result c.requires.accepted (ap (λ (fs : List Function). slice_get fs c.loop-number.number) (sym same) ∙ there) (has_blocks c.function-item.result defined)

pub push_function-requires-clause-at : goal.push_function-requires-clause-at
push_function-requires-clause-at c =
    let same = c.as_slice-function-items.ensures ∙ ap (λ (m : Module). m.functions) c.module.ensures.value in
    let there = found_at c.as_slice-function-items.result.now c.loop-number.number c.function-item.result c.loop-number-test.true c.function-item.is in
    let numbers = c.functions_have_numbers.ensures c.args.«module».now c.requires.accepted c.requires.plain in
    ap (λ (m : Module). function_at m c.loop-number.number) c.requires.code
    ∙ ap (λ (fs : List Function). slice_get fs c.loop-number.number) (numbers ∙ sym same) ∙ there

pub loop-number-preserved : goal.loop-number-preserved
loop-number-preserved c =
    let count = counted_at c.args.code.now c.args.counts.now in
    let fs = c.as_slice-function-items.result.now in
    let i = c.loop-number.number in
    let f = c.function-item.result in
    let first = next_item fs i f f c.loop-number-test.true c.function-item.is in
    report_turn count i (drop i fs) f (drop (i + 1) fs) c.loop-number.out.items c.push_function.new.out.items (c.args.out.now.items ++ report count 0 fs) first c.in_ok-push_function.ensures c.loop-number.invariant

pub returns : goal.returns
returns c =
    let count = counted_at c.args.code.now c.args.counts.now in
    let fs = c.as_slice-function-items.result.now in
    let same = c.as_slice-function-items.ensures ∙ ap (λ (m : Module). m.functions) c.module.ensures.value in
    report_ends count c.loop-number.number (drop c.loop-number.number fs) c.loop-number.out.items (c.args.out.now.items ++ report count 0 fs) (drop_of_length-le fs c.loop-number-test.false) c.loop-number.invariant
    ∙ ap (λ (functions : List Function). c.args.out.now.items ++ report count 0 functions) same
