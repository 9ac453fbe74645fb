use Rattle.std.proofs.Common.{ℕ, List, length, sym, ap, ◌∙◌, ◌<◌, arith}
use Rattle.ir_tree.specs.Successors.{successors}
use Rattle.ir_code.specs.Found.{edge_in}
use Rattle.ir_code.specs.declared.code.EdgeCode.{EdgeCode}
use Rattle.ir_code.proofs.Numbered.{made_more, not_past}
use Rattle.ir_code.proofs.phis.edges.Goals as goal
use Rattle.ir_code.proofs.phis.edges.Goals.{in-Some+in_ok-edge-in-Some+in_ok-push-in-Some, in-None}

pub loop-position-preserved : goal.loop-position-preserved
loop-position-preserved c = elim c.match-successor.branch [
  | in-Some+in_ok-edge-in-Some+in_ok-push-in-Some w ↦
      let made : List ℕ → EdgeCode = edge_in c.args.symbols.now c.args.registers.now c.args.labels.now c.args.phis.now c.args.label.now in
      ap (λ v. v.items) w.edges-is
      ∙ made_more made (successors c.args.term.now) c.loop-position.position w.in-Some.to.now c.loop-position.edges.items w.push.new.self.items w.in_ok-edge-in-Some.field-0 (sym w.in-Some.ensures) c.loop-position.invariant w.in_ok-edge-in-Some.ensures w.in_ok-push-in-Some.ensures.items
  | in-None w ↦
      let inside : c.loop-position.position < length (successors c.args.term.now) = omega (arith, c.loop-position-test.true, c.successor_count-position-end.ensures) in
      absurd (not_past (successors c.args.term.now) c.loop-position.position inside (sym w.in-None.ensures))
]
