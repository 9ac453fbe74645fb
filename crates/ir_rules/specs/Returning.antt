-- Rule 14. Each `ret` has the function's type.
use Rattle.std.specs.Prelude.{Bool, true, false, not, List, Option, None, Some, is_some}
use Rattle.ir_rules.specs.Declarations.{same_ty}
use Rattle.ir_rules.specs.Parts.{Rule, places, silent}
use Rattle.ir_rules.specs.declared.place.Place.{Place}
use Rattle.ir_tree.specs.Operands.{Use}
use Rattle.ir_tree.specs.declared.types.Module.{Module}
use Rattle.ir_tree.specs.declared.types.Ret.{Ret}
use Rattle.ir_tree.specs.declared.types.Ret.TheVariants.{Void, Value}
use Rattle.ir_tree.specs.declared.types.Term.{Term}
use Rattle.ir_tree.specs.declared.types.Term.TheVariants as term

abbrev pub is_returned : Ret → Option Use → Bool
is_returned Void value = not (is_some value)
is_returned (Value t) None = false
is_returned (Value t) (Some value) = same_ty t value.0

abbrev pub returns_well : Ret → Term → Bool
returns_well r (term.Br to) = true
returns_well r (term.CondBr cond first second prof) = true
returns_well r (term.Switch ty value default cases prof) = true
returns_well r (term.Ret value) = is_returned r value
returns_well r term.Unreachable = true

abbrev pub returning : Rule
returning = record silent { exit = λ f b block. returns_well f.ret block.term }

abbrev pub breaks_14 : Module → List Place
breaks_14 m = places returning m
