use Rattle.std.proofs.Common.{◌≡◌, ◌∙◌, ap, inl, sym, subst}
use Rattle.count_plan.specs.Counted.{counted_function}
use Rattle.count_plan.specs.declared.plan.FunctionPlan.{FunctionPlan}
use Rattle.edge_split.specs.Split.{MarksStay, split, with_function}
use Rattle.ir_likeness.specs.Like.{AreLike}
use Rattle.ir_tree.specs.declared.types.Function.{Function}
use Rattle.split_edge.proofs.make.split.Goals as goal

pub returns-clause-behaves : goal.returns-clause-behaves
returns-clause-behaves c m j formed at free =
    let made : c.in_ok-made.made ≡ split c.args.block c.args.position c.args.label c.args.function =
    c.in_ok-made.ensures ∙ ap (λ (u : FunctionPlan). counted_function u c.args.function) c.in_ok-plan.ensures in
    subst (λ (f : Function). AreLike m (with_function m j f) 2 0) (sym made) (c.split_behaves.ensures.alike m j c.args.block c.args.position c.args.label c.args.function formed at free)

pub returns-clause-marks : goal.returns-clause-marks
returns-clause-marks c m j formed at free =
    let made : c.in_ok-made.made ≡ split c.args.block c.args.position c.args.label c.args.function =
    c.in_ok-made.ensures ∙ ap (λ (u : FunctionPlan). counted_function u c.args.function) c.in_ok-plan.ensures in
    subst (λ (f : Function). MarksStay m (with_function m j f) 2 0) (sym made) (c.split_behaves.ensures.marks m j c.args.block c.args.position c.args.label c.args.function formed at free)

pub returns-clause-accepted : goal.returns-clause-accepted
returns-clause-accepted c m j accepted at free room =
    let made : c.in_ok-made.made ≡ split c.args.block c.args.position c.args.label c.args.function =
    c.in_ok-made.ensures ∙ ap (λ (u : FunctionPlan). counted_function u c.args.function) c.in_ok-plan.ensures in
    c.split_is_accepted.ensures.accepted m j c.args.block c.args.position c.args.label c.args.function c.in_ok-made.made accepted at free room (inl made)
