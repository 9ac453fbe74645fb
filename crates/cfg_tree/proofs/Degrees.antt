-- Degrees, one edge further.
use Rattle.std.proofs.Common.{◌≡◌, ℕ, ◌+◌, ◌<◌, ◌≤◌, ◌==◌, inl, inr, List, None, length, slice_index, slice_index_or, take, set, sym, ap, subst, ◌∙◌, arith, length-set, get_or-set_same, get_or-set_other, eq-eqb, ne_eqb}
use Rattle.std.proofs.lemmas.Bool.{cases_eq}
use Rattle.std.proofs.lemmas.List.{get_or_default, length-take-le}
use Rattle.std.proofs.lemmas.List.Sums.{count_by-le-length, count_by_more_yes, count_by_more_no}
use Rattle.ir_tree.specs.declared.edge.Edge.{Edge}
use Rattle.spanning_order.specs.Spanning.{edge_at}
use Rattle.cfg_tree.specs.Chains.{EndsAreBelow}
use Rattle.cfg_tree.proofs.Chained.{node_within}
use Rattle.cfg_tree.specs.Incident.{AreDegrees, degree, end_of}
use Rattle.cfg_tree.specs.declared.chains.End.{End}

module _ (end : End) (edges : List Edge) (nodes : ℕ) (degrees : List ℕ) (i node : ℕ) (lt : i < length edges) (is : node ≡ end_of end (edge_at edges i)) (within : node < nodes) (m : AreDegrees end (take i edges) nodes degrees) where
  pub few_yet : slice_index degrees node ≤ i
  few_yet = let a = m.are node within in let b = count_by-le-length (λ (e : Edge). end_of end e == node) (take i edges) in let c = length-take-le i edges (omega arith) in omega (arith, a, b, c)

  degree_at : (v : ℕ) → v < nodes → slice_index (set degrees node (slice_index degrees node + 1)) v ≡ degree end (take (i + 1) edges) v
  degree_at v below = elim (cases_eq v node) [
    | inl same ↦
        let value : slice_index (set degrees node (slice_index degrees node + 1)) v ≡ slice_index degrees node + 1 = ap (λ (x : ℕ). slice_index (set degrees node (slice_index degrees node + 1)) x) same ∙ get_or-set_same degrees node (slice_index degrees node + 1) 0 (subst (λ (n : ℕ). node < n) (sym m.size) within) in
        let more = count_by_more_yes (λ (e : Edge). end_of end e == v) edges i (record { from = 0; to = 0; block = None; position = 0 }) lt (eq-eqb (end_of end (edge_at edges i)) v (sym (same ∙ is))) in
        value ∙ ap (λ (n : ℕ). n + 1) (ap (λ (x : ℕ). slice_index degrees x) (sym same) ∙ m.are v below) ∙ sym more
    | inr ne ↦
        let more = count_by_more_no (λ (e : Edge). end_of end e == v) edges i (record { from = 0; to = 0; block = None; position = 0 }) lt (ne_eqb (end_of end (edge_at edges i)) v (λ s. ne (sym (is ∙ s)))) in
        get_or-set_other degrees node v (slice_index degrees node + 1) 0 ne ∙ m.are v below ∙ sym more
  ]

  pub one_more : AreDegrees end (take (i + 1) edges) nodes (set degrees node (slice_index degrees node + 1))
  one_more = record { size = length-set degrees node (slice_index degrees node + 1) ∙ m.size; are = degree_at }

pub all_degrees : (end : End) (edges : List Edge) (nodes : ℕ) (degrees : List ℕ) (i : ℕ) → take i edges ≡ edges → AreDegrees end (take i edges) nodes degrees → AreDegrees end edges nodes degrees
all_degrees end edges nodes degrees i all m = subst (λ (es : List Edge). AreDegrees end es nodes degrees) all m

-- the same as the code has it
module _ (end : End) (edges : List Edge) (nodes : ℕ) (degrees : List ℕ) (i node count : ℕ) (lt : i < length edges) (below : EndsAreBelow end edges nodes) (is : node ≡ end_of end (edge_at edges i)) (m : AreDegrees end (take i edges) nodes degrees) (counted : count ≡ slice_index_or degrees node count) where
  within : node < nodes
  within = node_within end edges nodes i node below lt is

  count_is : count ≡ slice_index degrees node
  count_is = counted ∙ get_or_default degrees node count 0 (subst (λ (n : ℕ). node < n) (sym m.size) within)

  pub few_at : count ≤ i
  few_at = subst (λ (n : ℕ). n ≤ i) (sym count_is) (few_yet end edges nodes degrees i node lt is within m)

  pub one_more_at : AreDegrees end (take (i + 1) edges) nodes (set degrees node (count + 1))
  one_more_at = subst (λ (n : ℕ). AreDegrees end (take (i + 1) edges) nodes (set degrees node (n + 1))) (sym count_is) (one_more end edges nodes degrees i node lt is within m)
