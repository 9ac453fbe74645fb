-- The traversals of the edges of a function's graph.
use Rattle.std.specs.Prelude.{ℕ, ℤ, pos, List, [], ◌∷◌, Option, None, Some, slice_get}
use Rattle.ir_model.specs.Log.{HasReturned, traversals_of_all}
use Rattle.ir_model.specs.Run.{run_of}
use Rattle.ir_model.specs.declared.result.Call.{Call}
use Rattle.ir_tree.specs.Graphs.{graph_of}
use Rattle.ir_tree.specs.declared.edge.Edge.{Edge}
use Rattle.ir_tree.specs.declared.types.Function.{Function}
use Rattle.ir_tree.specs.declared.types.Module.{Module}

-- how often the runs of these calls of function k's module, of at most n steps each, walk an edge of function k
abbrev pub traversals_of_edge : Module → ℕ → List Call → ℕ → Edge → ℕ
traversals_of_edge m k calls n e = traversals_of_all m k e.block e.position calls n

abbrev pub traversals_at : Module → ℕ → List Call → ℕ → Option Edge → ℤ
traversals_at m k calls n None = pos 0
traversals_at m k calls n (Some e) = pos (traversals_of_edge m k calls n e)

-- the traversals of the edges of function k, which is f, by the edges' numbers; 0 past the last edge
abbrev pub edge_traversals : Module → ℕ → Function → List Call → ℕ → ℕ → ℤ
edge_traversals m k f calls n j = traversals_at m k calls n (slice_get (graph_of f).edges j)

-- each call returns within n steps
abbrev pub AllReturn : Module → List Call → ℕ → Type 0
AllReturn m [] n = Unit {0}
AllReturn m (c ∷ cs) n = HasReturned (run_of m c n) × AllReturn m cs n
