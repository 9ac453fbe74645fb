-- The functions of a module that stay in its lowered form.
use Rattle.std.specs.Prelude.{not, List, filter, map}
use Rattle.ir_rules.specs.Reserved.{is_of_intrinsics}
use Rattle.ir_tree.specs.declared.types.Function.{Function}
use Rattle.lowering.specs.Lowered.{lowered_function}

-- those without the intrinsics, each lowered
abbrev pub lowered_own : List Function → List Function
lowered_own functions = map lowered_function (filter (λ f. not (is_of_intrinsics f.name)) functions)
