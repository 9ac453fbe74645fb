use Rattle.std.proofs.Common.{map, filter, ap, ◌∙◌, subst, List}
use Rattle.ir_tree.specs.Names.{Indexes}
use Rattle.ir_tree.specs.Functions.{numbered}
use Rattle.ir_tree.specs.declared.types.Function.{Function}
use Rattle.ir_tree.specs.declared.types.Global1.{Global1}
use Rattle.ir_model.specs.Values.{objects}
use Rattle.ir_code.specs.Units.{is_data, units_from}
use Rattle.ir_code.proofs.units.module_symbols.Goals as goal

pub returns : goal.returns
returns c =
    let globals = c.as_slice-globals.ensures in
    let u = c.in_ok-units.ensures in
    record {
      functions = subst (λ (fs : List Function). Indexes c.in_ok-function_index.field-0 (map (λ f. f.name) (numbered fs))) c.as_slice.ensures c.in_ok-function_index.ensures;
      objects = subst (λ (gs : List Global1). Indexes c.in_ok-object_index.field-0 (map (λ g. g.name) (objects gs))) globals c.in_ok-object_index.ensures;
      units = subst (λ (gs : List Global1). Indexes c.in_ok-units.units.names (map (λ u. u.0) (units_from gs 0 0 (filter is_data gs)))) globals u.names;
      tallies = u.tallies ∙ ap (λ (gs : List Global1). map (λ u. u.1) (units_from gs 0 0 (filter is_data gs))) globals;
    }
