-- The numbers of names in a list.
use Rattle.std.specs.Prelude.{◌≡◌, ℕ, List, length, position, unwrap_or}
use Rattle.ir_tree.specs.Names.{same, first_place, Indexes}
use Rattle.ir_code.specs.declared.names.Numbers.{Numbers}

-- the first place of a name, and the number of names where it is not among them
abbrev pub number_of : List (List ℕ) → List ℕ → ℕ
number_of names x = unwrap_or (position (same x) names) (length names)

-- the number that is found for a name
abbrev pub number_in : Numbers → List ℕ → ℕ
number_in numbers x = unwrap_or (first_place numbers.index x) numbers.count

-- these names are numbered in their order
pub record AreNumbered (numbers : Numbers) (names : List (List ℕ)) : Type 0 where
  pub found : Indexes numbers.index names
  pub count : numbers.count ≡ length names
