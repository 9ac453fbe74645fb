use Rattle.std.proofs.Common.{List, ℕ, ap, map, sym, ◌∙◌, Bool, ◌&&◌}
use Rattle.std.specs.List.{list_all}
use Rattle.check_flow.proofs.Inner.{cases_inner}
use Rattle.check_flow.specs.LookUps.{block_of, is_inner}
use Rattle.check_flow.proofs.targets.lead_inside.Goals as goal

pub returns-then-is_inner : goal.returns-then-is_inner
returns-then-is_inner c =
    let known = block_of c.args.known.now in
    let cases = c.args.cases.now in
    let first = sym c.is_inner.ensures ∙ c.if-is_inner.true in
    c.lead_to_inner.ensures ∙ cases_inner known cases ∙ ap (λ (t : Bool). t && list_all (λ (to : List ℕ). is_inner (known to)) (map (λ (c : ℕ × List ℕ). c.1) cases)) (sym first)
