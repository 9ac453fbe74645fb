-- The nets of the nodes that an order joins, handed on one edge further.
use Rattle.std.proofs.Common.{◌≡◌, ℕ, ◌+◌, ◌-◌, ◌^◌, ◌<◌, ◌≤◌, List, [], ◌∷◌, length, slice_index, drop, set, ℤ, pos, ◌+ℤ◌, inl, inr, refl, sym, ap, subst, ◌∙◌, arith, length-set, get_or-set_other}
use Rattle.std.proofs.lemmas.Bool.{cases_eq}
use Rattle.std.specs.Int.{w128}
use Rattle.std.specs.Int.RustNames.{FitsSigned}
use Rattle.std.proofs.lemmas.List.{drop_more}
use Rattle.ir_tree.specs.declared.edge.Edge.{Edge}
use Rattle.spanning_order.specs.Lists.{Among}
use Rattle.spanning_order.specs.Spanning.{Joins, EndsAreNodes}
use Rattle.flow_solve.specs.Ends.{edge_at, other_end, JoinsAt}
use Rattle.flow_solve.specs.Nets.{at, merge_all, IsBounded, AreWithin}
use Rattle.flow_solve.proofs.Joined.{stands_at, other_at, ends_within, joins_drop}
use Rattle.flow_solve.proofs.Listed.{get_within}
use Rattle.flow_solve.proofs.Within.{HoldWithin, all_live, one_within, moved, sum_fits}

pub length-merge : (edges : List Edge) (ends ks : List ℕ) (nets : List ℤ) → length (merge_all edges ends ks nets) ≡ length nets
length-merge edges ends [] nets = refl
length-merge edges ends (k ∷ ks) nets = length-set (merge_all edges ends ks nets) _ _ ∙ length-merge edges ends ks nets

module _ (edges : List Edge) (ends : List ℕ) (limit : ℕ) (nets : List ℤ) (nodes : EndsAreNodes edges (length nets)) (w : AreWithin limit nets) where
  pub merge_holds : (reached ks : List ℕ) → JoinsAt edges ends reached ks → HoldWithin limit (λ v. Among v reached) (merge_all edges ends ks nets)
  merge_holds reached [] j = all_live limit nets (λ v. Among v reached) w
  merge_holds reached (k ∷ ks) j =
      let new : ℕ = slice_index ends k in
      let joins : Joins edges reached k new = j.0 in
      let later : List ℤ = merge_all edges ends ks nets in
      let same : length nets ≡ length later = sym (length-merge edges ends ks nets) in
      let w = ends_within edges reached k new joins (length nets) nodes in
      subst (λ (o : ℕ). HoldWithin limit (λ v. Among v reached) (set later o (at later o +ℤ at later new))) (sym (other_at edges reached k new joins))
      (moved limit reached later joins.old new (merge_holds (new ∷ reached) ks j.1) joins.is_reached joins.is_new (subst (λ (n : ℕ). joins.old < n) same w.1) (subst (λ (n : ℕ). new < n) same w.0))

  -- each net stays within the limit
  pub merge_bounded : (reached ks : List ℕ) → JoinsAt edges ends reached ks → (v : ℕ) → IsBounded limit (at (merge_all edges ends ks nets) v)
  merge_bounded reached [] j v = one_within limit (λ u. Unit {0}) nets v (all_live limit nets (λ u. Unit {0}) w) tt
  merge_bounded reached (k ∷ ks) j v =
      let new : ℕ = slice_index ends k in
      let joins : Joins edges reached k new = j.0 in
      let later : List ℤ = merge_all edges ends ks nets in
      let other : ℕ = other_end (edge_at edges k) new in
      elim (cases_eq v other) [
        | inl e ↦ one_within limit (λ u. Among u reached) (merge_all edges ends (k ∷ ks) nets) v (merge_holds reached (k ∷ ks) j) (subst (λ (u : ℕ). Among u reached) (sym (e ∙ other_at edges reached k new joins)) joins.is_reached)
        | inr ne ↦ subst (λ (z : ℤ). IsBounded limit z) (sym (get_or-set_other later other v (at later other +ℤ at later new) (pos 0) ne)) (merge_bounded (new ∷ reached) ks j.1 v)
      ]

-- the edge at the place before `left` of the order
module _ (edges : List Edge) (order ends : List ℕ) (nets now : List ℤ) (left : ℕ) (nodes : EndsAreNodes edges (length nets)) (j : JoinsAt edges ends (0 ∷ []) order)
    (w : AreWithin (2 ^ 98) nets) (some : 0 < left) (within : left ≤ length order) (so_far : now ≡ merge_all edges ends (drop left order) nets) where
  at_place : drop (left - 1) order ≡ slice_index order (left - 1) ∷ drop left order
  at_place =
      let lt : left - 1 < length order = omega arith in
      let e : (left - 1) + 1 ≡ left = omega arith in
      subst (λ (n : ℕ). drop (left - 1) order ≡ slice_index order (left - 1) ∷ drop n order) e (drop_more order (left - 1) 0 lt)

  reached : List ℕ
  reached = (joins_drop edges ends (0 ∷ []) order (left - 1) j).0

  joins_there : JoinsAt edges ends (joins_drop edges ends (0 ∷ []) order (left - 1) j).0 (slice_index order (left - 1) ∷ drop left order)
  joins_there = subst (λ (ks : List ℕ). JoinsAt edges ends (joins_drop edges ends (0 ∷ []) order (left - 1) j).0 ks) at_place (joins_drop edges ends (0 ∷ []) order (left - 1) j).1

  pub is_edge : slice_index order (left - 1) < length edges
  is_edge = get_within edges (slice_index order (left - 1)) _ (stands_at edges _ _ _ joins_there.0)

  same_length : length nets ≡ length now
  same_length = sym (ap (λ (xs : List ℤ). length xs) so_far ∙ length-merge edges ends (drop left order) nets)

  pub end_in : slice_index ends (slice_index order (left - 1)) < length now
  end_in = subst (λ (n : ℕ). slice_index ends (slice_index order (left - 1)) < n) same_length (ends_within edges _ _ _ joins_there.0 (length nets) nodes).0

  pub other_in : other_end (edge_at edges (slice_index order (left - 1))) (slice_index ends (slice_index order (left - 1))) < length now
  other_in = subst (λ (v : ℕ). v < length now) (sym (other_at edges _ _ _ joins_there.0))
      (subst (λ (n : ℕ). joins_there.0.old < n) same_length (ends_within edges _ _ _ joins_there.0 (length nets) nodes).1)

  pub sum_in : FitsSigned w128 (at now (other_end (edge_at edges (slice_index order (left - 1))) (slice_index ends (slice_index order (left - 1)))) +ℤ at now (slice_index ends (slice_index order (left - 1))))
  sum_in =
      let k : ℕ = slice_index order (left - 1) in
      let new : ℕ = slice_index ends k in
      let there : List ℕ = (joins_drop edges ends (0 ∷ []) order (left - 1) j).0 in
      let joins : Joins edges there k new = joins_there.0 in
      let held : HoldWithin (2 ^ 98) (λ v. Among v (new ∷ there)) now = subst (λ (xs : List ℤ). HoldWithin (2 ^ 98) (λ v. Among v (new ∷ there)) xs) (sym so_far) (merge_holds edges ends (2 ^ 98) nets nodes w (new ∷ there) (drop left order) joins_there.1) in
      let ends_in = ends_within edges there k new joins (length nets) nodes in
      subst (λ (o : ℕ). FitsSigned w128 (at now o +ℤ at now new)) (sym (other_at edges there k new joins))
      (sum_fits (2 ^ 98) there now joins.old new held joins.is_reached joins.is_new (subst (λ (n : ℕ). joins.old < n) same_length ends_in.1) (subst (λ (n : ℕ). new < n) same_length ends_in.0) (omega arith))
