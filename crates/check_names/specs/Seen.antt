-- The names that were seen so far in a function.
use Rattle.std.specs.Prelude.{◌≡◌, ℕ, List, length}
use Rattle.check_names.specs.declared.seen.Seen.{Seen}
use Rattle.ir_tree.specs.Names.{Indexes}

pub record HasSeen (seen : Seen) (names : List (List ℕ)) : Type 0 where
  pub indexed : Indexes seen.index names
  pub counted : seen.count ≡ length names
