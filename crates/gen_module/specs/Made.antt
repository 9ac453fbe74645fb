-- What is made of a module, and why nothing is.
use Rattle.std.specs.Prelude.{◌≡◌, ◌≢◌, Bool}
use Rattle.count_likeness.specs.Image.{MarksAre}
use Rattle.gen_module.specs.declared.error.GenError.{GenError}
use Rattle.gen_module.specs.declared.error.GenError.TheVariants.{NoMemory, WrongKind}
use Rattle.gen_plan.specs.Gen.{counted}
use Rattle.gen_plan.specs.GenImage.{gen_image}
use Rattle.ir_likeness.specs.Like.{AreLike}
use Rattle.ir_rules.specs.Accepted.{IsAccepted}
use Rattle.ir_rules.specs.Kinds.{kind_of}
use Rattle.ir_rules.specs.declared.place.Kind.TheVariants.{Counted, Plain}
use Rattle.ir_tree.specs.declared.types.Module.{Module}

-- The module that counts m: it is accepted as one that counts, and behaves as m with m's log for its marks
pub record IsMade (entry_first : Bool) (m made : Module) : Type 0 where
  pub is : made ≡ counted entry_first m
  pub accepted : IsAccepted made
  pub kind : kind_of made.functions ≡ Counted
  pub alike : AreLike m made 4 1
  pub marks : MarksAre (gen_image entry_first m) m made 4 1

-- The module is of a kind that is not plain, which is told; where memory is wanting it is plain
abbrev pub IsRefusedFor : Module → GenError → Type 0
IsRefusedFor m (WrongKind found) = (kind_of m.functions ≡ found) × (found ≢ Plain)
IsRefusedFor m NoMemory = kind_of m.functions ≡ Plain
