use Rattle.std.proofs.Common.{◌≡◌, List, ◌≤◌, ◌+◌, ◌∷◌, ◌++◌, drop, refl, ap, ◌∙◌, arith}
use Rattle.std.proofs.Math.ListN.{drop_of_length-le}
use Rattle.std.specs.Prelude.{slice_get}
use Rattle.std.specs.Option.{option_map}
use Rattle.ir_tree.specs.Functions.{function_at, numbered}
use Rattle.ir_tree.specs.declared.types.Function.{Function}
use Rattle.ir_tree.specs.declared.types.Module.{Module}
use Rattle.ir_model.specs.declared.result.CallResult.{CallResult}
use Rattle.call_list.specs.Outcome.{outcome_of}
use Rattle.pgo_shell.specs.Product.{bytes_of}
use Rattle.command_run.specs.Outcomes.{first_unreturned, or_else, outcomes, unreturned}
use Rattle.command_chain.proofs.ChainLemmas.{low_enough, low_turn, walked_begins, walked_ends, walked_turn}
use Rattle.command_run.specs.OutcomeLaws.{halts_end, halts_turn, next_call, outcomes_end, outcomes_turn, result_is}
use Rattle.command_chain.proofs.chain.trace_all.Goals as goal

pub loop-number-init : goal.loop-number-init
loop-number-init c = record {
  put = ap (λ t. t ++ outcomes c.args.«module».now c.args.steps 0 c.args.calls.now) c.new-output.ensures.items;
  halts = refl;
  low = λ slot. omega (arith, c.requires.none slot);
  walked = walked_begins c.args.«module».now c.args.steps c.args.calls.now c.args.counts.now c.requires.none;
}

pub trace_call-requires-clause-low : goal.trace_call-requires-clause-low
trace_call-requires-clause-low c =
    let few : c.loop-number.number ≤ 16384 = omega (arith, c.loop-number-test.true, c.requires.valid.count) in
    low_enough c.loop-number.number c.loop-number.counts few c.loop-number.invariant.low

pub loop-number-preserved : goal.loop-number-preserved
loop-number-preserved c =
    let i = c.loop-number.number in
    let left = drop i c.args.calls.now in
    let call = c.index-calls-number.result in
    let rest = drop (i + 1) c.args.calls.now in
    let m = c.args.«module».now in
    let first : left ≡ call ∷ rest = next_call c.args.calls.now i call call c.loop-number-test.true c.index-calls-number.is in
    let ended = result_is m c.args.code.now c.args.steps call c.in_ok-ended.ended c.requires.code c.in_ok-ended.ensures.result in
    let numbers = c.in_ok-functions.ensures ∙ ap (λ (fs : List Function). numbered fs) (c.as_slice.ensures ∙ ap (λ (x : Module). x.functions) c.module.ensures.value) in
    let text = c.in_ok-text.ensures ∙ ap (λ (fs : List Function). outcome_of (slice_get fs call.function) i c.in_ok-ended.ended) numbers ∙ ap (λ r. outcome_of (function_at m call.function) i r) ended in
    let put = c.in_ok-extend_from_slice.ensures.items ∙ ap (λ x. c.loop-number.output.items ++ x) c.as_slice-in-loop-number.ensures.value in
    let halted = c.in_ok-halted.ensures ∙ ap (λ (r : CallResult). or_else (option_map bytes_of c.loop-number.halted) (unreturned i r.end)) ended in
    record {
      put = ap (λ t. t ++ outcomes m c.args.steps (i + 1) rest) put ∙ outcomes_turn m c.args.steps i left call rest c.loop-number.output.items c.in_ok-text.text.items (outcomes m c.args.steps 0 c.args.calls.now) first text c.loop-number.invariant.put;
      halts = halts_turn m c.args.steps i left call rest (option_map bytes_of c.loop-number.halted) (option_map bytes_of c.in_ok-halted.halted) (first_unreturned m c.args.steps 0 c.args.calls.now) first halted c.loop-number.invariant.halts;
      low = low_turn c.args.steps i c.loop-number.counts c.trace_call.new.counts c.requires.few c.in_ok-ended.ensures.growth c.loop-number.invariant.low;
      walked = walked_turn m c.args.code.now c.args.steps c.args.calls.now left call rest c.loop-number.counts c.trace_call.new.counts c.requires.code first c.in_ok-ended.ensures.counts c.loop-number.invariant.walked;
    }

pub returns-clause-output : goal.returns-clause-output
returns-clause-output c =
    outcomes_end c.args.«module».now c.args.steps c.loop-number.number (drop c.loop-number.number c.args.calls.now) c.loop-number.output.items (outcomes c.args.«module».now c.args.steps 0 c.args.calls.now)
    (drop_of_length-le c.args.calls.now c.loop-number-test.false) c.loop-number.invariant.put

pub returns-clause-halted : goal.returns-clause-halted
returns-clause-halted c =
    halts_end c.args.«module».now c.args.steps c.loop-number.number (drop c.loop-number.number c.args.calls.now) (option_map bytes_of c.loop-number.halted) (first_unreturned c.args.«module».now c.args.steps 0 c.args.calls.now)
    (drop_of_length-le c.args.calls.now c.loop-number-test.false) c.loop-number.invariant.halts

pub returns-clause-counts : goal.returns-clause-counts
returns-clause-counts c =
    walked_ends c.args.«module».now c.args.steps c.args.calls.now (drop c.loop-number.number c.args.calls.now) c.loop-number.counts
    (drop_of_length-le c.args.calls.now c.loop-number-test.false) c.loop-number.invariant.walked
