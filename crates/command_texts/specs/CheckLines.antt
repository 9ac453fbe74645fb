-- The lines that say why a module is not accepted.
use Rattle.std.specs.Prelude.{ℕ, List, [], ◌++◌, codes, decimal}
use Rattle.ir_check.specs.Refused.{IsRefusedFor}
use Rattle.ir_check.specs.declared.errors.CheckError.{CheckError}
use Rattle.ir_check.specs.declared.errors.CheckError.TheVariants as errors
use Rattle.ir_rules.specs.Accepted.{IsAccepted}
use Rattle.ir_rules.specs.declared.place.LimitKind.{LimitKind}
use Rattle.ir_rules.specs.declared.place.LimitKind.TheVariants.{Functions, Globals, Edges, Registers, Object, Cells, Sites, Counters}
use Rattle.ir_rules.specs.declared.place.Place.{Place}
use Rattle.ir_tree.specs.declared.types.Module.{Module}

-- an answer that the module itself gives, and not want of memory
abbrev pub OfModule : CheckError → Type 0
OfModule (errors.Limit which found) = Unit {0}
OfModule (errors.Broken rule place) = Unit {0}
OfModule errors.NoMemory = ⊥

abbrev pub limit_name : LimitKind → List ℕ
limit_name Functions = codes "Functions"
limit_name Globals = codes "Globals"
limit_name Edges = codes "Edges"
limit_name Registers = codes "Registers"
limit_name Object = codes "Object"
limit_name Cells = codes "Cells"
limit_name Sites = codes "Sites"
limit_name Counters = codes "Counters"

-- the numbers of a function, a block and an item
abbrev pub place_text : Place → List ℕ
place_text place = decimal place.function ++ codes " " ++ decimal place.block ++ codes " " ++ decimal place.item

-- what is said of a module that is not accepted
abbrev pub check_line : List ℕ → CheckError → List ℕ
check_line file (errors.Limit which found) = file ++ codes ": limit " ++ limit_name which ++ codes " " ++ decimal found
check_line file (errors.Broken rule place) = file ++ codes ": rule " ++ decimal rule ++ codes " at " ++ place_text place
check_line file errors.NoMemory = []

-- the module is not accepted, and this is the first reason
pub record IsRefusedModule (m : Module) (e : CheckError) : Type 0 where
  pub of_module : OfModule e
  pub not : IsAccepted m → ⊥
  pub why : IsRefusedFor m e
