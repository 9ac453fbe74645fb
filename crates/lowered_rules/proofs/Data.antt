-- What the data of a unit tell.
use Rattle.std.proofs.Common.{◌≡◌, ℕ, true, [], Some, refl}
use denote.Hole.Carrier
use Rattle.ir_rules.specs.Initialisers.{initialises, names_in}
use Rattle.ir_rules.specs.Units.{data_of, sites_of}
use Rattle.ir_tree.specs.Types.{is_integer_of}
use Rattle.ir_tree.specs.declared.types.Init.TheBlock.{shape-the_row-Init-0, hidden-the_row-Init-0}
use Rattle.ir_tree.specs.declared.types.Ty.TheVariants.{I64}
use Rattle.lowered_rules.proofs.Listed.{Name}
use Rattle.lowering.specs.Units.{data_global}

module _ (n : Name) (a b c d : ℕ) where
  pub sites_are : sites_of (data_global n a b c d) ≡ d
  unfolding shape-the_row-Init-0 hidden-the_row-Init-0 Carrier.hidden
  sites_are = refl

  pub data_are : data_of (data_global n a b c d) ≡ Some (record { name_hash = a; hash = b; counters = c; sites = d })
  unfolding shape-the_row-Init-0 hidden-the_row-Init-0 Carrier.hidden
  data_are = refl

  pub nothing_named : names_in (data_global n a b c d).init ≡ []
  unfolding shape-the_row-Init-0 hidden-the_row-Init-0 Carrier.hidden
  nothing_named = refl

  pub is_typed_data : is_integer_of I64 a ≡ true → is_integer_of I64 b ≡ true → is_integer_of I64 c ≡ true → is_integer_of I64 d ≡ true → initialises (data_global n a b c d).mem (data_global n a b c d).init ≡ true
  unfolding shape-the_row-Init-0 hidden-the_row-Init-0 Carrier.hidden
  is_typed_data p q r s = rw p (rw q (rw r (rw s refl)))
