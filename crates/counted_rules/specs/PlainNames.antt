-- The names of a plain module: none of them is one that a profile adds.
use Rattle.std.specs.Prelude.{◌≡◌, ℕ, false, List}
use Rattle.ir_rules.specs.Kinds.{is_unit_counters, is_unit_data, is_unit_name, kind_of}
use Rattle.ir_rules.specs.Lists.{Among}
use Rattle.ir_rules.specs.Reserved.{is_of_intrinsics, is_of_runtime}
use Rattle.ir_rules.specs.Scopes.{symbols}
use Rattle.ir_rules.specs.WellFormed.{IsWellFormed}
use Rattle.ir_rules.specs.declared.place.Kind.TheVariants.{Plain}
use Rattle.ir_tree.specs.Functions.{is_profile_name}
use Rattle.ir_tree.specs.declared.types.Module.{Module}

-- neither the name of a global of a unit nor that of the runtime or of an intrinsic
pub record IsPlainName (n : List ℕ) : Type 0 where
  pub unit_name : is_unit_name n ≡ false
  pub unit_counters : is_unit_counters n ≡ false
  pub unit_data : is_unit_data n ≡ false
  pub runtime : is_of_runtime n ≡ false
  pub intrinsics : is_of_intrinsics n ≡ false
  pub profile : is_profile_name n ≡ false

abbrev pub NamesArePlain : Type 0
NamesArePlain = (m : Module) → IsWellFormed m → kind_of m.functions ≡ Plain → (n : List ℕ) → Among n (symbols m) → IsPlainName n
