-- The weight of one edge.
use Rattle.std.proofs.Common.{◌≡◌, ℕ, ◌+◌, ◌*◌, ◌<◌, Bool, false, List, [], ◌∷◌, ◌++◌, length, map, slice_index, slice_index_or, sym, ap, subst, ◌∙◌, arith}
use Rattle.std.specs.Prelude.{◌&&◌, if◌then◌else◌, nat_lt}
use Rattle.std.specs.List.{range_with_len}
use Rattle.std.proofs.lemmas.List.{get_or_default}
use Rattle.std.proofs.lemmas.List.FromFn.{length-map-range_with_len, map-range_with_len_more}
use Rattle.std.proofs.lemmas.Option.{slice_get-get_or}
use Rattle.ir_tree.specs.declared.edge.Edge.{Edge}
use Rattle.ir_tree.specs.Reach.{is_marked}
use Rattle.spanning_order.specs.Spanning.{edge_at}
use Rattle.cfg_tree.specs.Chains.{EndsAreBelow}
use Rattle.cfg_tree.specs.Incident.{AreDegrees, degree}
use Rattle.ir_tree.specs.Graphs.{FlowGraph, nodes}
use Rattle.cfg_tree.specs.Walk.{walked}
use Rattle.cfg_tree.specs.Weights.{base_weight, is_critical, static_weights, weight}
use Rattle.cfg_tree.specs.declared.chains.End.TheVariants.{Head, Tail}

module _ (entry_first : Bool) (edges : List Edge) (nodes : ℕ) (marks backs : List Bool) (outs ins : List ℕ) (tails : EndsAreBelow Tail edges nodes) (heads : EndsAreBelow Head edges nodes)
    (are_outs : AreDegrees Tail edges nodes outs) (are_ins : AreDegrees Head edges nodes ins) (same : backs ≡ marks) (size : length backs ≡ length edges)
    (k : ℕ) (lt : k < length edges) (critical back : Bool) (base w : ℕ)
    (critical_is : critical ≡ (nat_lt 1 (slice_index outs (edge_at edges k).from) && nat_lt 1 (slice_index ins (edge_at edges k).to)))
    (back_is : back ≡ slice_index_or backs k back) (base_is : base ≡ base_weight entry_first k (edge_at edges k).to back) (w_is : w ≡ (if critical then 1000 * base else base)) where
  is_in : critical ≡ is_critical edges (edge_at edges k)
  is_in = critical_is ∙ ap (λ (n : ℕ). nat_lt 1 n && nat_lt 1 (slice_index ins (edge_at edges k).to)) (are_outs.are (edge_at edges k).from (tails k (edge_at edges k) (slice_get-get_or edges k _ lt)))
      ∙ ap (λ (n : ℕ). nat_lt 1 (degree Tail edges (edge_at edges k).from) && nat_lt 1 n) (are_ins.are (edge_at edges k).to (heads k (edge_at edges k) (slice_get-get_or edges k _ lt)))

  mark_is : back ≡ is_marked marks k
  mark_is = back_is ∙ get_or_default backs k back false (subst (λ (n : ℕ). k < n) (sym size) lt) ∙ ap (λ (bs : List Bool). is_marked bs k) same

  based : base ≡ base_weight entry_first k (edge_at edges k).to (is_marked marks k)
  based = base_is ∙ ap (λ (b : Bool). base_weight entry_first k (edge_at edges k).to b) mark_is

  weight_is : w ≡ weight entry_first edges marks k
  weight_is = w_is ∙ ap (λ (c : Bool). if c then 1000 * base else base) is_in ∙ ap (λ (n : ℕ). if is_critical edges (edge_at edges k) then 1000 * n else n) based

  pub one_more_weight : (old new : List ℕ) → old ≡ map (weight entry_first edges marks) (range_with_len 0 k) → new ≡ old ++ w ∷ [] → new ≡ map (weight entry_first edges marks) (range_with_len 0 (k + 1))
  one_more_weight old new before after =
      after ∙ ap (λ (n : ℕ). old ++ n ∷ []) weight_is ∙ ap (λ (xs : List ℕ). xs ++ weight entry_first edges marks k ∷ []) before
      ∙ sym (map-range_with_len_more (weight entry_first edges marks) 0 k k (omega arith))

-- the code's test, on slices of the degrees
pub tested : (critical : Bool) (os is outs ins : List ℕ) (a b : ℕ) → critical ≡ (nat_lt 1 (slice_index os a) && nat_lt 1 (slice_index is b)) → os ≡ outs → is ≡ ins → critical ≡ (nat_lt 1 (slice_index outs a) && nat_lt 1 (slice_index ins b))
tested critical os is outs ins a b e p q = e ∙ ap (λ (xs : List ℕ). nat_lt 1 (slice_index xs a) && nat_lt 1 (slice_index is b)) p ∙ ap (λ (xs : List ℕ). nat_lt 1 (slice_index outs a) && nat_lt 1 (slice_index xs b)) q

pub length_weights : (g : FlowGraph) (entry_first : Bool) (edges : List Edge) (slice items : List ℕ) → slice ≡ items → items ≡ static_weights g entry_first → edges ≡ g.edges → length slice ≡ length edges
length_weights g entry_first edges slice items same is are =
    ap (λ (xs : List ℕ). length xs) (same ∙ is) ∙ length-map-range_with_len (weight entry_first g.edges (walked (nodes g) g.edges).back) 0 (length g.edges) ∙ ap (λ (es : List Edge). length es) (sym are)
