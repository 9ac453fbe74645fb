use Rattle.std.proofs.Common.{◌≡◌, ◌-◌, ◌+◌, ◌≤◌, List, ◌++◌, sym, ◌∙◌, subst}
use Rattle.spec_machines.specs.Machine.{run, shown_of}
use Rattle.ir_model.specs.declared.probe.Event.{Event}
use Rattle.ir_machine.specs.Steps.{code_step, events_of, sights, state_of}
use Rattle.ir_machine.proofs.Doing.{on_err}
use Rattle.ir_machine.proofs.Loops.{SoFar, first_part, goes_further, is_over, one_left}
use Rattle.ir_machine.proofs.turns.run_on.Goals as goal

pub returns-in_err-turn-clause-first_marks : goal.returns-in_err-turn-clause-first_marks
returns-in_err-turn-clause-first_marks g c =
    on_err ((told rest : List Event) × (events_of (sights (shown_of (run (code_step c.args.functions.now) c.args.steps (state_of c.args.machine.now)))) ≡ told ++ rest) × g.P.Probe.after c.args.probe.now told c.loop-turn.probe) c.from_residual.result
    (first_part g.P.Probe.after g.W.Watcher.after c.args.functions.now c.args.steps (state_of c.args.machine.now) c.args.machine.now.printed.items c.args.probe.now c.args.watcher.now g.met.P.Probe.more (c.args.steps - c.loop-turn._turn) c.loop-turn.machine c.loop-turn.probe c.loop-turn.probe c.loop-turn.watcher c.loop-turn.invariant.0 (g.met.P.Probe.none c.loop-turn.probe))

pub returns-in_err-hear-clause-first_marks : goal.returns-in_err-hear-clause-first_marks
returns-in_err-hear-clause-first_marks g c =
    on_err ((told rest : List Event) × (events_of (sights (shown_of (run (code_step c.args.functions.now) c.args.steps (state_of c.args.machine.now)))) ≡ told ++ rest) × g.P.Probe.after c.args.probe.now told c.hear.new.probe) c.from_residual-in_err-hear.result
    (first_part g.P.Probe.after g.W.Watcher.after c.args.functions.now c.args.steps (state_of c.args.machine.now) c.args.machine.now.printed.items c.args.probe.now c.args.watcher.now g.met.P.Probe.more (c.args.steps - c.loop-turn._turn) c.loop-turn.machine c.loop-turn.probe c.hear.new.probe c.loop-turn.watcher c.loop-turn.invariant.0 c.in_err-hear.ensures.nothing)

pub returns-in-Some-clause-result : goal.returns-in-Some-clause-result
returns-in-Some-clause-result g c =
    let far = subst (λ k. SoFar g.P.Probe.after g.W.Watcher.after c.args.functions.now c.args.steps (state_of c.args.machine.now) c.args.machine.now.printed.items c.args.probe.now c.args.watcher.now k c.loop-turn.machine c.loop-turn.probe c.loop-turn.watcher) (one_left c.loop-turn._turn c.args.steps c.loop-turn-test.true) c.loop-turn.invariant.0 in
    (is_over g.P.Probe.after g.W.Watcher.after c.args.functions.now c.args.steps (state_of c.args.machine.now) c.args.machine.now.printed.items c.args.probe.now c.args.watcher.now g.met.P.Probe.more g.met.W.Watcher.more (c.args.steps - (c.loop-turn._turn + 1)) c.loop-turn.machine c.step.new.machine c.loop-turn.probe c.hear.new.probe c.loop-turn.watcher c.hear.new.watcher c.in_ok-turn.turn far c.in_ok-hear.ensures.marks c.in_ok-hear.ensures.walks c.in-Some.end c.in_ok-turn.ensures (sym c.end_of.ensures ∙ c.in-Some.is)).result

pub returns-in-Some-clause-marks : goal.returns-in-Some-clause-marks
returns-in-Some-clause-marks g c =
    let far = subst (λ k. SoFar g.P.Probe.after g.W.Watcher.after c.args.functions.now c.args.steps (state_of c.args.machine.now) c.args.machine.now.printed.items c.args.probe.now c.args.watcher.now k c.loop-turn.machine c.loop-turn.probe c.loop-turn.watcher) (one_left c.loop-turn._turn c.args.steps c.loop-turn-test.true) c.loop-turn.invariant.0 in
    (is_over g.P.Probe.after g.W.Watcher.after c.args.functions.now c.args.steps (state_of c.args.machine.now) c.args.machine.now.printed.items c.args.probe.now c.args.watcher.now g.met.P.Probe.more g.met.W.Watcher.more (c.args.steps - (c.loop-turn._turn + 1)) c.loop-turn.machine c.step.new.machine c.loop-turn.probe c.hear.new.probe c.loop-turn.watcher c.hear.new.watcher c.in_ok-turn.turn far c.in_ok-hear.ensures.marks c.in_ok-hear.ensures.walks c.in-Some.end c.in_ok-turn.ensures (sym c.end_of.ensures ∙ c.in-Some.is)).marks

pub returns-in-Some-clause-walks : goal.returns-in-Some-clause-walks
returns-in-Some-clause-walks g c =
    let far = subst (λ k. SoFar g.P.Probe.after g.W.Watcher.after c.args.functions.now c.args.steps (state_of c.args.machine.now) c.args.machine.now.printed.items c.args.probe.now c.args.watcher.now k c.loop-turn.machine c.loop-turn.probe c.loop-turn.watcher) (one_left c.loop-turn._turn c.args.steps c.loop-turn-test.true) c.loop-turn.invariant.0 in
    (is_over g.P.Probe.after g.W.Watcher.after c.args.functions.now c.args.steps (state_of c.args.machine.now) c.args.machine.now.printed.items c.args.probe.now c.args.watcher.now g.met.P.Probe.more g.met.W.Watcher.more (c.args.steps - (c.loop-turn._turn + 1)) c.loop-turn.machine c.step.new.machine c.loop-turn.probe c.hear.new.probe c.loop-turn.watcher c.hear.new.watcher c.in_ok-turn.turn far c.in_ok-hear.ensures.marks c.in_ok-hear.ensures.walks c.in-Some.end c.in_ok-turn.ensures (sym c.end_of.ensures ∙ c.in-Some.is)).walks

pub loop-turn-preserved : goal.loop-turn-preserved
loop-turn-preserved g c =
    let far = subst (λ k. SoFar g.P.Probe.after g.W.Watcher.after c.args.functions.now c.args.steps (state_of c.args.machine.now) c.args.machine.now.printed.items c.args.probe.now c.args.watcher.now k c.loop-turn.machine c.loop-turn.probe c.loop-turn.watcher) (one_left c.loop-turn._turn c.args.steps c.loop-turn-test.true) c.loop-turn.invariant.0 in (
      goes_further g.P.Probe.after g.W.Watcher.after c.args.functions.now c.args.steps (state_of c.args.machine.now) c.args.machine.now.printed.items c.args.probe.now c.args.watcher.now g.met.P.Probe.more g.met.W.Watcher.more (c.args.steps - (c.loop-turn._turn + 1)) c.loop-turn.machine c.step.new.machine c.loop-turn.probe c.hear.new.probe c.loop-turn.watcher c.hear.new.watcher c.in_ok-turn.turn far c.in_ok-hear.ensures.marks c.in_ok-hear.ensures.walks c.in_ok-turn.ensures (sym c.end_of.ensures ∙ c.in-None.is),
      subst (λ n. c.args.counters ≤ n) (sym c.in_ok-hear.ensures.same_counters) c.loop-turn.invariant.1,
      subst (λ n. c.args.sites ≤ n) (sym c.in_ok-hear.ensures.same_sites) c.loop-turn.invariant.2,
    )
