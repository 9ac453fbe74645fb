use Rattle.std.proofs.Common.{ℕ, List, ◌∙◌}
use Rattle.std.specs.List.{list_all}
use Rattle.check_names.proofs.Names.{all_params}
use Rattle.ir_rules.specs.Naming.{is_param_name}
use Rattle.ir_tree.specs.Functions.{is_declared}
use Rattle.ir_tree.specs.declared.types.Ty.{Ty}
use Rattle.check_names.proofs.naming.are_param_names.Goals as goal

pub returns : goal.returns
returns c =
    c.are_names.ensures
    ∙ (λ j. list_all (λ (p : Ty × List ℕ). is_param_name (c.is_declared.ensures j) p.1) (c.as_slice.ensures j))
    ∙ all_params (is_param_name (is_declared c.args.f.now)) c.args.f.now.params
