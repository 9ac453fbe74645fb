use Rattle.std.proofs.Common.{◌≡◌, drop}
use Rattle.ir_rules.specs.Limits.{each_above}
use Rattle.ir_tree.specs.Edges.{edges_in}
use Rattle.ir_rules.specs.declared.place.LimitKind.TheVariants.{Edges}
use Rattle.spec_lists.specs.Each.{first_of}
use Rattle.ir_limits.proofs.limits.edges_above.Given as goal

abbrev pub invariant-loop-f : goal.invariant-loop-f
invariant-loop-f l = first_of (each_above Edges l.bound edges_in (drop l.f-index l.functions)) ≡ first_of (each_above Edges l.bound edges_in l.functions)
