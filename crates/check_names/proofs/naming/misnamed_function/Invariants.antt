use Rattle.std.proofs.Common.{◌≡◌, ◌++◌, map, take}
use Rattle.check_names.proofs.Names.{function_name}
use Rattle.ir_rules.specs.Naming.{naming}
use Rattle.ir_rules.specs.Parts.{function_places}
use Rattle.ir_rules.specs.Scopes.{variables}
use Rattle.ir_tree.specs.Names.{Indexes}
use Rattle.spec_lists.specs.Each.{each, first_of}
use Rattle.check_names.proofs.naming.misnamed_function.Given as goal

abbrev pub invariant-loop-k : goal.invariant-loop-k
invariant-loop-k l = Indexes l.index (variables l.module ++ map function_name (take l.k l.module.functions)) × (l.found ≡ first_of (each (function_places (naming l.module)) 0 (take l.k l.module.functions)))
