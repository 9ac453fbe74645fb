use Rattle.std.proofs.Common.{◌≡◌, ℕ, ◌^◌, [], ◌∷◌, List, ℤ, drop, sym, ap, subst, ◌∙◌, arith}
use Rattle.flow_solve.specs.Nets.{at, merge_all, IsBounded}
use Rattle.flow_solve.proofs.Merging.{is_edge, end_in, other_in, sum_in, merge_bounded}
use Rattle.flow_solve.proofs.nets.merge_nets.Goals as goal

pub bounds-edges-k : goal.bounds-edges-k
bounds-edges-k c = is_edge c.args.edges.now c.args.order.now c.args.ends.now c.args.nets.now c.loop-left.nets c.loop-left.left c.requires.nodes c.requires.joins c.requires.within c.loop-left-test.true c.loop-left.invariant.within c.loop-left.invariant.merged

pub bounds-ends-k : goal.bounds-ends-k
bounds-ends-k c = omega (arith, is_edge c.args.edges.now c.args.order.now c.args.ends.now c.args.nets.now c.loop-left.nets c.loop-left.left c.requires.nodes c.requires.joins c.requires.within c.loop-left-test.true c.loop-left.invariant.within c.loop-left.invariant.merged, c.requires.places)

pub merge-requires-clause-end : goal.merge-requires-clause-end
merge-requires-clause-end c = end_in c.args.edges.now c.args.order.now c.args.ends.now c.args.nets.now c.loop-left.nets c.loop-left.left c.requires.nodes c.requires.joins c.requires.within c.loop-left-test.true c.loop-left.invariant.within c.loop-left.invariant.merged

pub merge-requires-clause-other : goal.merge-requires-clause-other
merge-requires-clause-other c = other_in c.args.edges.now c.args.order.now c.args.ends.now c.args.nets.now c.loop-left.nets c.loop-left.left c.requires.nodes c.requires.joins c.requires.within c.loop-left-test.true c.loop-left.invariant.within c.loop-left.invariant.merged

pub merge-requires-clause-fits : goal.merge-requires-clause-fits
merge-requires-clause-fits c = sum_in c.args.edges.now c.args.order.now c.args.ends.now c.args.nets.now c.loop-left.nets c.loop-left.left c.requires.nodes c.requires.joins c.requires.within c.loop-left-test.true c.loop-left.invariant.within c.loop-left.invariant.merged

pub returns-clause-bounded : goal.returns-clause-bounded
returns-clause-bounded c =
    let none : c.loop-left.left ≡ 0 = omega arith in
    let all = c.loop-left.invariant.merged ∙ ap (λ (n : ℕ). merge_all c.args.edges.now c.args.ends.now (drop n c.args.order.now) c.args.nets.now) none in
    λ v. subst (λ (nets : List ℤ). IsBounded (2 ^ 98) (at nets v)) (sym all) (merge_bounded c.args.edges.now c.args.ends.now (2 ^ 98) c.args.nets.now c.requires.nodes c.requires.within (0 ∷ []) c.args.order.now c.requires.joins v)
