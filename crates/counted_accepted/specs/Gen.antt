-- What the module that counts an accepted plain module keeps.
use Rattle.std.specs.Prelude.{◌≡◌, ◌≤◌, Bool, false}
use Rattle.counted_rules.specs.PlanFits.{PlanFits}
use Rattle.gen_plan.specs.Gen.{counted, counted_edges, counters_in, gen_function}
use Rattle.ir_rules.specs.Accepted.{IsAccepted}
use Rattle.ir_rules.specs.Kinds.{kind_of}
use Rattle.ir_rules.specs.Lists.{Among}
use Rattle.ir_rules.specs.WellFormed.{IsWellFormed}
use Rattle.ir_rules.specs.declared.place.Kind.TheVariants.{Counted, Plain}
use Rattle.ir_tree.specs.Functions.{is_declared}
use Rattle.ir_tree.specs.Graphs.{graph_of}
use Rattle.ir_tree.specs.declared.types.Function.{Function}
use Rattle.ir_tree.specs.declared.types.Module.{Module}

-- the plan of each defined function fits it
abbrev pub PlansFit : Type 0
PlansFit = (entry_first : Bool) (m : Module) → IsAccepted m → kind_of m.functions ≡ Plain → (f : Function) → Among f m.functions → is_declared f ≡ false → PlanFits (counted entry_first m) (gen_function entry_first f) f

-- the module that counts is well formed
abbrev pub IsCountedWell : Type 0
IsCountedWell = (entry_first : Bool) (m : Module) → IsAccepted m → kind_of m.functions ≡ Plain → IsWellFormed (counted entry_first m)

-- it is accepted: no limit of its kind is passed either
abbrev pub IsCountedAccepted : Type 0
IsCountedAccepted = (entry_first : Bool) (m : Module) → IsAccepted m → kind_of m.functions ≡ Plain → IsAccepted (counted entry_first m)

-- and its kind is that of modules that count
abbrev pub IsCountedKind : Type 0
IsCountedKind = (entry_first : Bool) (m : Module) → IsAccepted m → kind_of m.functions ≡ Plain → kind_of (counted entry_first m).functions ≡ Counted

-- each defined function gets no more counters than a module may have
abbrev pub CountersAreFew : Type 0
CountersAreFew = (entry_first : Bool) (m : Module) → IsAccepted m → kind_of m.functions ≡ Plain → (f : Function) → Among f m.functions → is_declared f ≡ false → counters_in (graph_of f) (counted_edges entry_first f) ≤ 1048576
