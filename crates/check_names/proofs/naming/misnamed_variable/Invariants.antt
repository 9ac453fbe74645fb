use Rattle.std.proofs.Common.{◌≡◌, map, take}
use Rattle.check_names.proofs.Names.{variable_name}
use Rattle.check_names.specs.Outer.{global_places}
use Rattle.ir_rules.specs.Naming.{naming}
use Rattle.ir_tree.specs.Names.{Indexes}
use Rattle.spec_lists.specs.Each.{first_of}
use Rattle.check_names.proofs.naming.misnamed_variable.Given as goal

abbrev pub invariant-loop-n : goal.invariant-loop-n
invariant-loop-n l = Indexes l.index (map variable_name (take l.n l.module.globals)) × (l.found ≡ first_of (global_places (naming l.module).global (take l.n l.module.globals)))
