use Rattle.std.proofs.Common.{◌≡◌, Option, None, Some, IfOk, sym, subst, ◌∙◌}
use Rattle.count_plan.specs.declared.plan.NewBlock.{NewBlock}
use Rattle.gen_code.proofs.Further.{new_found}
use Rattle.gen_code.proofs.blocks.Parts.new_on.Goals as goal

pub returns-in-Some : goal.returns-in-Some
returns-in-Some c =
    let p = c.args.self.now in
    subst (λ (o : Option NewBlock). IfOk c.new_block.result (λ new. new ≡ o)) (new_found p.function.now p.placing.graph.now p.placing.counted.now c.args.block c.args.position (Some c.in-Some.edge) (sym (p.edges_are c.args.block c.args.position) ∙ sym c.in-Some.ensures)) c.new_block.ensures

pub returns-in-None : goal.returns-in-None
returns-in-None c =
    let p = c.args.self.now in
    new_found p.function.now p.placing.graph.now p.placing.counted.now c.args.block c.args.position None (sym (p.edges_are c.args.block c.args.position) ∙ sym c.in-None.ensures)
