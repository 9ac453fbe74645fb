-- How large a function is that is lowered, and what the calls of a module that counts tell.
use Rattle.std.specs.Prelude.{◌≡◌, ℕ, ◌<◌, ◌≤◌}
use Rattle.ir_rules.specs.Kinds.{kind_of}
use Rattle.ir_rules.specs.Limits.{function_arrays, has_result, total_of}
use Rattle.ir_rules.specs.Lists.{Among}
use Rattle.ir_rules.specs.WellFormed.{IsWellFormed}
use Rattle.ir_rules.specs.declared.place.Kind.TheVariants.{Counted}
use Rattle.ir_tree.specs.Edges.{edges_in}
use Rattle.ir_tree.specs.Graphs.{is_site}
use Rattle.ir_tree.specs.declared.types.Function.{Function}
use Rattle.ir_tree.specs.declared.types.Module.{Module}
use Rattle.lowering.specs.Asked.{Asked, Rise, Note, all_asked}
use Rattle.lowering.specs.Lowered.{lowered_function}

-- the same edges, and no result, no call through a register and no array type more
pub record StaysSmall (f : Function) : Type 0 where
  pub edges : edges_in (lowered_function f) ≡ edges_in f
  pub results : total_of has_result (lowered_function f) ≤ total_of has_result f
  pub sites : total_of is_site (lowered_function f) ≤ total_of is_site f
  pub arrays : (size : ℕ) → Among size (function_arrays (lowered_function f)) → Among size (function_arrays f)

abbrev pub FunctionsStaySmall : Type 0
FunctionsStaySmall = (f : Function) → StaysSmall f

-- what a call asks is small: it tells as many counters as a unit may have, a counter of 32 bits, and one of few sites
abbrev pub IsSmallAsk : Asked → Type 0
IsSmallAsk (Rise symbol hash counters counter amount) = (counters ≤ 1048576) × (counter < 4294967296)
IsSmallAsk (Note symbol hash target site) = site < 65536

abbrev pub AsksAreSmall : Type 0
AsksAreSmall = (m : Module) → IsWellFormed m → kind_of m.functions ≡ Counted → (a : Asked) → Among a (all_asked m) → IsSmallAsk a
