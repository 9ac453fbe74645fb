-- How many counters and sites a function has, at most.
use Rattle.std.specs.Prelude.{◌≤◌, Bool, length}
use Rattle.gen_plan.specs.Gen.{counted_edges, counters_in}
use Rattle.ir_rules.specs.Limits.{counters, total_of}
use Rattle.ir_tree.specs.Graphs.{HasGraph, graph_of, is_site}
use Rattle.ir_tree.specs.declared.types.Function.{Function}

-- as many counters as the limit counts for it, and as many sites as calls through a register
pub record IsFew (entry_first : Bool) (f : Function) : Type 0 where
  pub counters : counters_in (graph_of f) (counted_edges entry_first f) ≤ counters f
  pub sites : length (graph_of f).sites ≤ total_of is_site f

abbrev pub CountersFit : Type 0
CountersFit = (entry_first : Bool) (f : Function) → HasGraph f → IsFew entry_first f
