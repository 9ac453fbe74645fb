use Rattle.std.proofs.Common.{◌≡◌, ◌∙◌, List, ◌++◌, ap, subst, sym}
use Rattle.spec_machines.specs.Machine.{shown_of}
use Rattle.ir_code.specs.Units.{numbered_marks}
use Rattle.ir_model.specs.Run.{run_of}
use Rattle.ir_model.specs.declared.probe.Event.{Event}
use Rattle.ir_machine.specs.Steps.{events_of, result_from, sights, state_of}
use Rattle.ir_machine.proofs.CallRuns.{call_is, run_is}
use Rattle.ir_machine.proofs.Doing.{on_err}
use Rattle.ir_machine.proofs.Results.{with_end}
use Rattle.ir_machine.proofs.run.run_watched.Goals as goal

pub returns-in_err-end-clause-first_marks : goal.returns-in_err-end-clause-first_marks
returns-in_err-end-clause-first_marks g c =
    let m = c.args.code.now in
    let call = c.args.call.now in
    let whole = run_is m call c.functions-functions.result.now c.index-functions-number.result c.images.result.now c.as_slice-args.result.now (state_of c.in_ok-machine.machine) c.args.steps c.requires.valid c.functions-functions.ensures c.index-functions-number.is c.images.ensures c.as_slice-args.ensures c.in_ok-machine.ensures.0 in
    let same = call_is m call c.args.steps c.requires.valid in
    let first = c.in_err-end.ensures.first_marks in
    on_err ((told rest : List Event) × (numbered_marks m (run_of m call c.args.steps) ≡ told ++ rest) × g.P.Probe.after c.args.probe.now told c.run_on.new.probe) c.from_residual-in_err-end.result
    (first.0, first.1, sym (ap (λ r. events_of (sights (shown_of r))) whole ∙ same.marks) ∙ first.2, first.3)

pub returns-clause-result : goal.returns-clause-result
returns-clause-result g c =
    let m = c.args.code.now in
    let call = c.args.call.now in
    let whole = run_is m call c.functions-functions.result.now c.index-functions-number.result c.images.result.now c.as_slice-args.result.now (state_of c.in_ok-machine.machine) c.args.steps c.requires.valid c.functions-functions.ensures c.index-functions-number.is c.images.ensures c.as_slice-args.ensures c.in_ok-machine.ensures.0 in
    let same = call_is m call c.args.steps c.requires.valid in
    ap (with_end c.in_ok-end.end) c.of.ensures
    ∙ c.in_ok-end.ensures.result
    ∙ (λ i. result_from (c.in_ok-machine.ensures.1 i) (whole i))
    ∙ same.result

pub returns-clause-marks : goal.returns-clause-marks
returns-clause-marks g c =
    let m = c.args.code.now in
    let call = c.args.call.now in
    let whole = run_is m call c.functions-functions.result.now c.index-functions-number.result c.images.result.now c.as_slice-args.result.now (state_of c.in_ok-machine.machine) c.args.steps c.requires.valid c.functions-functions.ensures c.index-functions-number.is c.images.ensures c.as_slice-args.ensures c.in_ok-machine.ensures.0 in
    let same = call_is m call c.args.steps c.requires.valid in
    subst (λ es. g.P.Probe.after c.args.probe.now es c.run_on.new.probe) (ap (λ r. events_of (sights (shown_of r))) whole ∙ same.marks) c.in_ok-end.ensures.marks

pub returns-clause-walks : goal.returns-clause-walks
returns-clause-walks g c =
    let m = c.args.code.now in
    let call = c.args.call.now in
    let whole = run_is m call c.functions-functions.result.now c.index-functions-number.result c.images.result.now c.as_slice-args.result.now (state_of c.in_ok-machine.machine) c.args.steps c.requires.valid c.functions-functions.ensures c.index-functions-number.is c.images.ensures c.as_slice-args.ensures c.in_ok-machine.ensures.0 in
    subst (λ r. g.W.Watcher.after c.args.watcher.now (sights (shown_of r)) c.run_on.new.watcher) whole c.in_ok-end.ensures.walks
