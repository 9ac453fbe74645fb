use Rattle.std.proofs.Common.{Some, None, ap, sym, ◌∙◌}
use Rattle.ir_check.proofs.Finding.{checked_past, finds_function, past}
use Rattle.ir_tree.specs.Functions.{function_place}
use Rattle.ir_tree.specs.declared.types.Module.{Module}
use Rattle.ir_check.proofs.checked.Checked.function_at.Goals as goal

pub returns-in-Some : goal.returns-in-Some
returns-in-Some c =
    checked_past c.len.result c.in-Some.place c.checked_sub.result c.checked_sub.ensures
    ∙ ap (λ n. past n (Some c.in-Some.place)) c.len.ensures
    ∙ finds_function c.self.inside.«module» c.self.inside.symbols c.args.name.now c.self.invariant.0 c.self.invariant.1 (Some c.in-Some.place) (sym c.in-Some.is ∙ c.find.ensures)
    ∙ ap (λ (m : Module). function_place m.functions c.args.name.now) c.self.view_is

pub returns-in-None : goal.returns-in-None
returns-in-None c =
    finds_function c.self.inside.«module» c.self.inside.symbols c.args.name.now c.self.invariant.0 c.self.invariant.1 None (sym c.in-None.is ∙ c.find.ensures)
    ∙ ap (λ (m : Module). function_place m.functions c.args.name.now) c.self.view_is
