use Rattle.std.proofs.Common.{◌≡◌, List, [], ◌++◌, sym, ap, ◌∙◌, append-nil, arith}
use Rattle.count_insert.specs.Lists.{renamings_at}
use Rattle.count_insert.proofs.Turns.{no_renamings}
use Rattle.count_plan.specs.Ways.{block_plan, no_block_plan, renamings_from}
use Rattle.count_insert.proofs.heads.Heads.add_at.Goals as goal

pub returns-in-None : goal.returns-in-None
returns-in-None c l =
    let none : block_plan c.args.plans.now c.args.j ≡ no_block_plan = sym (c.in-None.ensures.lookup.4 (omega arith) no_block_plan) in
    sym (ap (λ rs. renamings_at c.args.self.now l ++ rs) (ap (λ plan. renamings_from l plan c.args.block.now) none ∙ no_renamings l c.args.block.now) ∙ append-nil (renamings_at c.args.self.now l))
