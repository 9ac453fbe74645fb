-- What a list ends as, where a `&mut` to its elements is returned: the elements that the borrow shows last.
use Rattle.std.specs.Prelude.{List, length}
use Rattle.std.specs.Borrow.{Lends, Fml, RattleType, MutBor, Array}
use Rattle.std.specs.List.{refill}
use Rattle.seq.specs.contracts.Seq as seq

module _ (T : RattleType) where
  abbrev pub lends_seq : MutBor (List T.Denot) → MutBor (List T.Denot) → Fml
  lends_seq s r = Lends (seq.the_row T) (Array T 0) s r (refill (length s.now) s.now)
