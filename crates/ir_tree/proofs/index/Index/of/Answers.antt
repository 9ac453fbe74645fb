use Rattle.std.proofs.Common.{◌≡◌, List, ℕ, take, length, subst, arith}
use Rattle.std.proofs.lemmas.List.{take_all}
use Rattle.ir_tree.specs.Names.{Indexes}
use Rattle.ir_tree.proofs.index.Index.of.Goals as goal

pub returns : goal.returns
returns c = subst (λ (ns : List (List ℕ)). Indexes c.loop-i.index ns) (take_all c.loop-i.i c.args.names.now (omega (arith, c.loop-i-test.false))) c.loop-i.invariant
