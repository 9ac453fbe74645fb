-- Of accepted plain modules: what is known of each function, and that its plan fits.
use Rattle.std.proofs.Common.{◌≡◌, ℕ, suc, ◌+◌, ◌≤◌, Bool, false, cond, List, [], ◌∷◌, length, sum_by, Some, slice_get, refl, sym, ap, arith, inl, inr}
use Rattle.std.proofs.lemmas.List.Sums.{sum_by-cons}
use Rattle.cfg_edges.specs.Graph.{IsFlowGraph, IsGraphOf}
use Rattle.cfg_tree.specs.Tree.{order_of}
use Rattle.counted_accepted.proofs.GenFits.{Counts, Provides, plan_fits}
use Rattle.counted_accepted.proofs.GraphSize.{counted_few, edges_few, selects_few, sites_few}
use Rattle.counted_accepted.proofs.HashSmall.{hash_small}
use Rattle.counted_accepted.proofs.Modules.{increments_known, steps_known, unit_known, values_known}
use Rattle.counted_rules.specs.PlainNames.{IsPlainName}
use Rattle.counted_rules.specs.PlanFits.{PlanFits}
use Rattle.counted_rules.specs.Within.{IsWithin}
use Rattle.gen_plan.specs.Countable.{CanCount}
use Rattle.gen_plan.specs.Gen.{counted, counted_edges, gen_function, gen_hash}
use Rattle.ir_rules.specs.Accepted.{IsAccepted}
use Rattle.ir_rules.specs.Finding.{LookUpsTell}
use Rattle.ir_rules.specs.Kinds.{kind_of}
use Rattle.ir_rules.specs.Limits.{counters, total_of}
use Rattle.ir_rules.specs.Lists.{Among}
use Rattle.ir_rules.specs.Scopes.{symbols}
use Rattle.ir_rules.specs.declared.place.Kind.TheVariants.{Plain}
use Rattle.ir_tree.specs.Edges.{edges_in}
use Rattle.ir_tree.specs.Functions.{is_declared}
use Rattle.ir_tree.specs.Graphs.{HasGraph, count_in, graph_of, is_select, is_site}
use Rattle.ir_tree.specs.Successors.{ways_out}
use Rattle.ir_tree.specs.declared.types.Function.{Function}
use Rattle.ir_tree.specs.declared.types.Module.{Module}

place : (fs : List Function) (f : Function) → Among f fs → (k : ℕ) × (slice_get fs k ≡ Some f)
place [] f at = absurd at
place (g ∷ gs) f (inl e) = (0, ap Some (sym e))
place (g ∷ gs) f (inr at) = (let r = place gs f at in (suc r.0, r.1))

part_of_sum : {X : Type 0} (g : X → ℕ) (xs : List X) (x : X) → Among x xs → g x ≤ sum_by g xs
part_of_sum g [] x at = absurd at
part_of_sum g (y ∷ ys) x (inl e) = (let same : g x ≡ g y = ap g e in omega (arith, same, sum_by-cons g y ys))
part_of_sum g (y ∷ ys) x (inr at) = omega (arith, sum_by-cons g y ys, part_of_sum g ys x at)

counters_are : (f : Function) → counters f ≡ edges_in f + count_in is_select f.blocks
unfolding counters total_of
counters_are f = refl

sites_are : (f : Function) → total_of is_site f ≡ count_in is_site f.blocks
unfolding total_of
sites_are f = refl

module _ (entry_first : Bool) (m : Module) (accepted : IsAccepted m) (plain : kind_of m.functions ≡ Plain) (plain_name : (n : List ℕ) → Among n (symbols m) → IsPlainName n) (within : IsWithin Plain m) (can : CanCount m) (tells : LookUpsTell) (relation : (f : Function) → HasGraph f → IsGraphOf f (graph_of f)) (whole : (f : Function) → HasGraph f → IsFlowGraph (graph_of f)) where
  module _ (f : Function) (at : Among f m.functions) (some : is_declared f ≡ false) where
    spot : (k : ℕ) × (slice_get m.functions k ≡ Some f)
    spot = place m.functions f at

    graph : HasGraph f
    graph = can.graphs spot.0 f spot.1 some

    is : IsGraphOf f (graph_of f)
    is = relation f graph

    defined_edges : edges_in f ≡ 1 + sum_by ways_out f.blocks
    defined_edges = ap (λ (b : Bool). cond {A = ℕ} b 0 (1 + sum_by ways_out f.blocks)) some

    pub room : length (counted_edges entry_first f) + length (graph_of f).selects ≤ 1048576
    room =
        let a = counted_few (length (graph_of f).edges) (order_of (graph_of f) entry_first) entry_first in
        let b = edges_few f (graph_of f) is in
        let c = selects_few f (graph_of f) is in
        let d = part_of_sum counters m.functions f at in
        let e = within.counted in
        omega (arith, a, b, c, d, e, counters_are f, defined_edges)

    sites : length (graph_of f).sites ≤ 65536
    sites =
        let a = sites_few f (graph_of f) is in
        let b = part_of_sum (total_of is_site) m.functions f at in
        let c = within.sites in
        omega (arith, a, b, c, sites_are f)

    counts : Counts f (graph_of f) (counted_edges entry_first f) (gen_hash entry_first f)
    counts = record {
      few = can.few_names spot.0 f spot.1;
      whole = whole f graph;
      finds = tells f (record { defined = some; once = (accepted.formed.function f at).distinct some });
      once = (accepted.formed.function f at).distinct some;
      room = room;
      sites = sites;
      small = hash_small _;
    }

    provides : Provides (counted entry_first m) f (graph_of f)
    provides = record {
      known = unit_known entry_first m accepted plain plain_name f at some;
      increments = increments_known entry_first m accepted plain plain_name;
      values = values_known entry_first m accepted plain plain_name;
      steps = steps_known entry_first m accepted plain plain_name f at some;
    }

    pub gen_fits : PlanFits (counted entry_first m) (gen_function entry_first f) f
    gen_fits = plan_fits (counted entry_first m) f (graph_of f) (counted_edges entry_first f) (gen_hash entry_first f) provides counts
