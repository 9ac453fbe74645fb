use Rattle.std.proofs.Common.{◌-◌, length, arith, sym, subst}
use Rattle.cfg_tree.specs.Walking.{Walking}
use Rattle.cfg_tree.proofs.Stacks.{finished_with, is_edge, turn}
use Rattle.cfg_tree.proofs.walk.go_on.Goals as goal

pub loop-node-preserved-then-place-eq0 : goal.loop-node-preserved-then-place-eq0
loop-node-preserved-then-place-eq0 c =
    subst (λ s. Walking c.args.edges.now (length c.args.walk.now.entered) s c.pop.new.self.items) (sym c.finish.ensures)
    (finished_with c.args.edges.now (length c.args.walk.now.entered) c.loop-node.walk c.loop-node.stack.items c.pop.new.self.items c.in-Some.node c.in-Some.place c.loop-node.invariant c.in-Some.ensures.items c.if-place-eq0.true)

pub look-requires-clause-edge : goal.look-requires-clause-edge
look-requires-clause-edge c =
    is_edge c.args.edges.now (length c.args.walk.now.entered) c.loop-node.walk c.loop-node.stack.items c.pop.new.self.items c.in-Some.node c.in-Some.place c.loop-node.invariant c.in-Some.ensures.items
    (c.in-Some.place - 1) (omega arith) c.args.chains.now.first.items c.args.chains.now.next.items c.requires.chains c.requires.heads

pub loop-node-smaller : goal.loop-node-smaller
loop-node-smaller c =
    (turn c.args.edges.now (length c.args.walk.now.entered) c.loop-node.walk c.loop-node.stack.items c.pop.new.self.items c.in-Some.node c.in-Some.place c.loop-node.invariant c.in-Some.ensures.items
    (c.in-Some.place - 1) (omega arith) c.args.chains.now.first.items c.args.chains.now.next.items c.requires.chains c.requires.heads c.look.new.walk c.look.new.stack.items c.in_ok-look.ensures).1

pub loop-node-preserved : goal.loop-node-preserved
loop-node-preserved c =
    (turn c.args.edges.now (length c.args.walk.now.entered) c.loop-node.walk c.loop-node.stack.items c.pop.new.self.items c.in-Some.node c.in-Some.place c.loop-node.invariant c.in-Some.ensures.items
    (c.in-Some.place - 1) (omega arith) c.args.chains.now.first.items c.args.chains.now.next.items c.requires.chains c.requires.heads c.look.new.walk c.look.new.stack.items c.in_ok-look.ensures).0
