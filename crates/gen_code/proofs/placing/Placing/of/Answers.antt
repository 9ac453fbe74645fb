use Rattle.std.proofs.Common.{ℕ, ◌<◌, List, length, sym, ap, subst}
use Rattle.ir_tree.specs.declared.edge.Edge.{Edge}
use Rattle.gen_code.proofs.placing.Placing.of.Goals as goal

pub ranks_of-requires-clause-within : goal.ranks_of-requires-clause-within
ranks_of-requires-clause-within c k a = subst (λ (n : ℕ). k < n) (sym (ap (λ (es : List Edge). length es) c.edges.ensures.value)) (c.requires.within k a)
