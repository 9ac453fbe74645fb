-- What the plan makes is the module that counts, of which the laws speak.
use Rattle.std.proofs.Common.{sym, subst}
use Rattle.ir_rules.specs.Accepted.{IsAccepted}
use Rattle.gen_module.proofs.Making.{by_plan, made_so}
use Rattle.gen_module.proofs.counting.counted.Goals as goal

pub plan_module-requires : goal.plan_module-requires
plan_module-requires c = c.plain_have_plans.ensures c.args.entry_first c.args.original.now c.requires.accepted c.requires.plain

pub of_accepted-requires : goal.of_accepted-requires
of_accepted-requires c =
    subst IsAccepted
    (sym (by_plan c.args.entry_first c.in_ok-plan.plan c.args.original.now c.in_ok-copy.field-0 c.in_ok-made.made c.in_ok-made.ensures c.in_ok-copy.ensures c.in_ok-plan.ensures))
    (c.gen_is_accepted.ensures.accepted c.args.entry_first c.args.original.now c.requires.accepted c.requires.plain)

pub returns : goal.returns
returns c =
    made_so c.args.entry_first c.args.original.now c.in_ok-made.made c.of_accepted.result c.of_accepted.ensures
    (by_plan c.args.entry_first c.in_ok-plan.plan c.args.original.now c.in_ok-copy.field-0 c.in_ok-made.made c.in_ok-made.ensures c.in_ok-copy.ensures c.in_ok-plan.ensures)
    (c.gen_is_accepted.ensures.accepted c.args.entry_first c.args.original.now c.requires.accepted c.requires.plain)
    (c.gen_is_accepted.ensures.kind c.args.entry_first c.args.original.now c.requires.accepted c.requires.plain)
    (c.plain_modules_count.ensures.alike c.args.entry_first c.args.original.now c.requires.accepted c.requires.plain)
    (c.plain_modules_count.ensures.marks c.args.entry_first c.args.original.now c.requires.accepted c.requires.plain)
