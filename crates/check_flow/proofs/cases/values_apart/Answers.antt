use Rattle.std.proofs.Common.{ℕ, ap, ◌∙◌, List, None}
use Rattle.check_flow.proofs.Apart.{apart_sorted}
use Rattle.check_flow.specs.Rising.{rises}
use Rattle.ir_rules.specs.Lists.{are_apart}
use Rattle.check_flow.proofs.cases.values_apart.Goals as goal

pub returns : goal.returns
returns c =
    c.rises.ensures ∙ ap (λ (ns : List ℕ). rises None ns) c.as_slice.ensures.value ∙ apart_sorted c.in_ok-values.values.items c.sort_unstable.new.self.items c.sort_unstable.ensures.permutation c.sort_unstable.ensures.sorted ∙ ap (λ (ns : List ℕ). are_apart ns) c.in_ok-values.ensures
