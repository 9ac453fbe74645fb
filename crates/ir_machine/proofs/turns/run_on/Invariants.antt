use Rattle.std.proofs.Common.{◌-◌, ◌≤◌}
use Rattle.ir_machine.specs.Steps.{state_of}
use Rattle.ir_machine.proofs.Loops.{SoFar}
use Rattle.ir_machine.proofs.turns.run_on.Given as goal

-- the run has come so far, and the probe has its counters and sites
abbrev pub invariant-loop-turn : goal.invariant-loop-turn
invariant-loop-turn g l =
    (SoFar g.P.Probe.after g.W.Watcher.after l.functions l.steps (state_of l.initial.machine) l.initial.machine.printed.items l.initial.probe l.initial.watcher (l.steps - l._turn) l.machine l.probe l.watcher)
    × (l.counters ≤ g.P.Probe.counters l.probe)
    × (l.sites ≤ g.P.Probe.sites l.probe)
