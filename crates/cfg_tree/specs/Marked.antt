-- Marks on the numbers that stand in a list.
use Rattle.std.specs.Prelude.{◌≡◌, ℕ, ◌<◌, Bool, List, length}
use Rattle.ir_tree.specs.Reach.{is_marked}
use Rattle.spanning_order.specs.Lists.{among}

abbrev pub AreAmong : List ℕ → List Bool → Type 0
AreAmong numbers marks = (k : ℕ) → k < length marks → is_marked marks k ≡ among k numbers
