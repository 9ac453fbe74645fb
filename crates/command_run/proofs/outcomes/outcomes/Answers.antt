use Rattle.std.proofs.Common.{◌≡◌, List, ◌+◌, ◌∷◌, ◌++◌, ◌≤◌, drop, length, refl, ap, ◌∙◌, arith}
use Rattle.std.specs.Option.{option_map}
use Rattle.pgo_shell.specs.Product.{bytes_of}
use Rattle.command_run.specs.OutcomeLaws.{next_call}
use Rattle.command_run.specs.Told.{first_told, told_from}
use Rattle.command_run.proofs.Turns.{first_end, first_turn, next_result, told_end, told_turn}
use Rattle.command_run.proofs.outcomes.outcomes.Goals as goal

pub loop-number-init : goal.loop-number-init
loop-number-init c = record { put = ap (λ t. t ++ told_from c.args.functions.now 0 c.args.calls.now c.args.results.now) c.new-output.ensures.items; halts = refl }

pub loop-number-preserved : goal.loop-number-preserved
loop-number-preserved c =
    let i = c.loop-number.number in
    let call = c.index-calls-number.result in
    let result = c.index-results-number.result in
    let first = next_call c.args.calls.now i call call c.loop-number-test.true c.index-calls-number.is in
    let second = next_result c.args.results.now i result result (omega (arith, c.loop-number-test.true, c.requires.results)) c.index-results-number.is in
    record {
      put = ap (λ t. t ++ told_from c.args.functions.now (i + 1) (drop (i + 1) c.args.calls.now) (drop (i + 1) c.args.results.now)) (c.in_ok-extend_from_slice.ensures.items ∙ ap (λ x. c.loop-number.output.items ++ x) c.as_slice.ensures.value)
          ∙ told_turn c.args.functions.now i (drop i c.args.calls.now) call (drop (i + 1) c.args.calls.now) (drop i c.args.results.now) result (drop (i + 1) c.args.results.now) c.loop-number.output.items c.in_ok-text.text.items (told_from c.args.functions.now 0 c.args.calls.now c.args.results.now) first second c.in_ok-text.ensures c.loop-number.invariant.put;
      halts = first_turn i (drop i c.args.results.now) result (drop (i + 1) c.args.results.now) (option_map bytes_of c.loop-number.halted) (option_map bytes_of c.in_ok-halted.halted) (first_told 0 c.args.results.now) second c.in_ok-halted.ensures c.loop-number.invariant.halts;
    }

pub returns-clause-halts : goal.returns-clause-halts
returns-clause-halts c = first_end c.loop-number.number c.args.results.now (option_map bytes_of c.loop-number.halted) (first_told 0 c.args.results.now) (omega (arith, c.loop-number-test.false, c.requires.results)) c.loop-number.invariant.halts

pub returns-clause-shows : goal.returns-clause-shows
returns-clause-shows c = told_end c.args.functions.now c.loop-number.number c.args.calls.now c.args.results.now c.loop-number.output.items (told_from c.args.functions.now 0 c.args.calls.now c.args.results.now) c.loop-number-test.false c.loop-number.invariant.put
