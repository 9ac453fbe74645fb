-- The units that are found among the first global variables of a module.
use Rattle.std.specs.Prelude.{◌≡◌, List, map, filter, sum_by}
use Rattle.ir_tree.specs.Names.{Indexes}
use Rattle.ir_tree.specs.declared.types.Global1.{Global1}
use Rattle.ir_code.specs.Units.{datum, is_data, units_from}
use Rattle.ir_code.specs.declared.units.Tallied.{Tallied}

-- these are the units of the first ones, among all global variables
pub record AreTallied (t : Tallied) (globals first : List Global1) : Type 0 where
  pub names : Indexes t.names (map (λ u. u.0) (units_from globals 0 0 (filter is_data first)))
  pub tallies : t.tallies ≡ map (λ u. u.1) (units_from globals 0 0 (filter is_data first))
  pub counters : t.counters ≡ sum_by (λ g. datum g 2) (filter is_data first)
  pub sites : t.sites ≡ sum_by (λ g. datum g 3) (filter is_data first)
