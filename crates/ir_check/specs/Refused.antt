-- Why a module is refused.
use Rattle.std.specs.Prelude.{◌≡◌, [], Some}
use Rattle.ir_check.specs.declared.errors.CheckError.{CheckError}
use Rattle.ir_check.specs.declared.errors.CheckError.TheVariants.{Limit, Broken, NoMemory}
use Rattle.ir_rules.specs.AllRules.{all_broken}
use Rattle.ir_rules.specs.Limits.{passed}
use Rattle.ir_tree.specs.declared.types.Module.{Module}
use Rattle.spec_lists.specs.Each.{first_of}

-- The reason is the first limit that is passed, with what was found; or, where the module is within the limits, the first rule that is
-- broken, by its number, with the first place that breaks it; or want of memory
abbrev pub IsRefusedFor : Module → CheckError → Type 0
IsRefusedFor m (Limit which found) = first_of (passed m) ≡ Some (which, found)
IsRefusedFor m (Broken rule place) = (passed m ≡ []) × (first_of (all_broken m) ≡ Some (rule, place))
IsRefusedFor m NoMemory = Unit {0}
