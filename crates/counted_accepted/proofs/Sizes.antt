-- The counters and sites of a function are few.
use Rattle.std.proofs.Common.{◌≡◌, ℕ, ◌+◌, Bool, false, cond, length, sum_by, refl, ap, arith}
use Rattle.std.proofs.lemmas.Bool.{ne_eqb}
use Rattle.cfg_edges.specs.Graph.{IsGraphOf}
use Rattle.cfg_tree.specs.Tree.{order_of}
use Rattle.counted_accepted.proofs.GraphSize.{counted_few, edges_few, selects_few, sites_few}
use Rattle.counted_accepted.specs.Few.{IsFew}
use Rattle.ir_rules.specs.Limits.{counters, total_of}
use Rattle.ir_tree.specs.Edges.{edges_in}
use Rattle.ir_tree.specs.Functions.{is_declared}
use Rattle.ir_tree.specs.Graphs.{HasGraph, count_in, graph_of, is_select, is_site}
use Rattle.ir_tree.specs.Successors.{ways_out}
use Rattle.ir_tree.specs.declared.types.Function.{Function}

counters_are : (f : Function) → counters f ≡ edges_in f + count_in is_select f.blocks
unfolding counters total_of
counters_are f = refl

sites_are : (f : Function) → total_of is_site f ≡ count_in is_site f.blocks
unfolding total_of
sites_are f = refl

pub few : (entry_first : Bool) (f : Function) → HasGraph f → IsGraphOf f (graph_of f) → IsFew entry_first f
few entry_first f graph is =
    let a = counted_few (length (graph_of f).edges) (order_of (graph_of f) entry_first) entry_first in
    let b = edges_few f (graph_of f) is in
    let c = selects_few f (graph_of f) is in
    let d = sites_few f (graph_of f) is in
    let some = graph.entry in
    let defined : is_declared f ≡ false = ne_eqb (length f.blocks) 0 (λ e. absurd (omega (arith, e, some))) in
    let e : edges_in f ≡ 1 + sum_by ways_out f.blocks = ap (λ (b : Bool). cond {A = ℕ} b 0 (1 + sum_by ways_out f.blocks)) defined in
    record { counters = omega (arith, a, b, c, e, counters_are f); sites = omega (arith, d, sites_are f) }
