use Rattle.std.proofs.Common.{◌≡◌, List, [], ap, sym}
use Rattle.ir_rules.specs.Kinds.{declares_increments, declares_notes, kind_of}
use Rattle.ir_rules.specs.declared.place.Kind.TheVariants.{Plain}
use Rattle.ir_tree.specs.declared.types.Function.{Function}
use Rattle.check_counting.proofs.tests.found.Goals as goal

plain_of : (fs : List Function) → fs ≡ [] → Plain ≡ kind_of fs
unfolding declares_increments declares_notes
plain_of fs e = ap kind_of (sym e)

pub first_in_counting-requires-clause-kind : goal.first_in_counting-requires-clause-kind
first_in_counting-requires-clause-kind c = plain_of c.new-2.result c.new-2.ensures
