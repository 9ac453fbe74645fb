-- The ends of the order's edges, one edge further.
use Rattle.std.proofs.Common.{◌≡◌, ◌≢◌, ℕ, zero, suc, ◌+◌, ◌<◌, ◌≤◌, ◌⊎◌, inl, inr, List, [], ◌∷◌, length, Some, slice_get, slice_index, slice_index_or, drop, set, ℤ, pos, replicate, refl, sym, ap, subst, ◌∙◌, length-set, get_or-set_same, get_or-set_other}
use Rattle.std.proofs.lemmas.Bool.{cases_eq}
use Rattle.std.proofs.lemmas.List.{drop_more, drop_all, get_or-replicate, length-replicate}
use Rattle.std.proofs.lemmas.Option.{same_Some}
use Rattle.ir_tree.specs.declared.edge.Edge.{Edge}
use Rattle.spanning_order.specs.Lists.{Among}
use Rattle.spanning_order.specs.Spanning.{Links, Joins, Grows, EndsAreNodes}
use Rattle.flow_solve.specs.Ends.{edge_at, JoinsAt, IsNewEnd}
use Rattle.flow_solve.proofs.Listed.{get_within, get_is, among_at}

abbrev pub mark : List ℤ → ℕ → ℤ
mark marks v = slice_index_or marks v (pos 0)

abbrev pub AgreesWith : List ℕ → List ℕ → Type 0
AgreesWith js ends = (k : ℕ) → slice_index ends k ≢ 0 → slice_index js k ≡ slice_index ends k

abbrev pub HasEndsIn : List Edge → List ℕ → ℕ → Type 0
HasEndsIn edges reached k = (e : Edge) → slice_get edges k ≡ Some e → Among e.from reached × Among e.to reached

pub record Marking (edges : List Edge) (order : List ℕ) (rest : List ℕ) (marks : List ℤ) (ends : List ℕ) : Type 0 where
  pub reached : List ℕ
  pub zero_in : Among 0 reached
  pub bare : (v : ℕ) → v < length marks → Among v reached ⊎ (mark marks v ≡ pos 0)
  pub marked : (v : ℕ) → Among v reached → mark marks v ≡ pos 1
  pub left : Grows edges 0 reached rest
  pub nodes : EndsAreNodes edges (length marks)
  pub size : length ends ≡ length edges
  pub done : (k : ℕ) → slice_index ends k ≢ 0 → HasEndsIn edges reached k × Among k order
  pub completes : (js : List ℕ) → AgreesWith js ends → JoinsAt edges js reached rest → JoinsAt edges js (0 ∷ []) order

zero_at : (n k : ℕ) → slice_index (replicate n 0) k ≡ 0
zero_at zero k = refl
zero_at (suc n) zero = refl
zero_at (suc n) (suc k) = zero_at n k

module _ (edges : List Edge) (order : List ℕ) (k : ℕ) (rest : List ℕ) (marks : List ℤ) (ends : List ℕ) (new : ℕ) (e : Edge)
    (stands : slice_get edges k ≡ Some e) (m : Marking edges order (k ∷ rest) marks ends) (picked : IsNewEnd e marks new) where
  joined : Joins edges m.reached k (m.left.0)
  joined = m.left.1

  same_edge : joined.edge ≡ e
  same_edge = same_Some joined.edge e (sym joined.stands ∙ stands)

  linked : Links e joined.old m.left.0
  linked = subst (λ (x : Edge). Links x joined.old m.left.0) same_edge joined.links

  bare_new : (v : ℕ) → v ≡ m.left.0 → v < length marks → mark marks v ≡ pos 0
  bare_new v e lt = elim (m.bare v lt) [ inl a ↦ absurd (joined.is_new (subst (λ (x : ℕ). Among x m.reached) e a)) | inr z ↦ z ]

  marked_old : (v : ℕ) → v ≡ joined.old → mark marks v ≡ pos 1
  marked_old v q = m.marked v (subst (λ (x : ℕ). Among x m.reached) (sym q) joined.is_reached)

  pub is_new_end : new ≡ m.left.0
  is_new_end = elim linked [
    | inl h ↦ elim picked [ inl p ↦ p.1 ∙ h.1 | inr p ↦ absurd (p.0 (bare_new e.to h.1 (m.nodes k e stands).1)) ]
    | inr h ↦ elim picked [ inl p ↦ absurd (let c : pos 0 ≡ pos 1 = sym p.0 ∙ marked_old e.to h.1 in cc) | inr p ↦ p.1 ∙ h.0 ]
  ]

  pub new_within : new < length marks
  new_within = elim picked [ inl p ↦ subst (λ (x : ℕ). x < length marks) (sym p.1) (m.nodes k e stands).1 | inr p ↦ subst (λ (x : ℕ). x < length marks) (sym p.1) (m.nodes k e stands).0 ]

  fresh : Among new m.reached → ⊥
  fresh a = joined.is_new (subst (λ (x : ℕ). Among x m.reached) is_new_end a)

  not_zero : new ≢ 0
  not_zero z = fresh (subst (λ (x : ℕ). Among x m.reached) (sym z) m.zero_in)

  ends_then : Among e.from (new ∷ m.reached) × Among e.to (new ∷ m.reached)
  ends_then = elim linked [
    | inl h ↦ (inr (subst (λ (x : ℕ). Among x m.reached) (sym h.0) joined.is_reached), inl (h.1 ∙ sym is_new_end))
    | inr h ↦ (inl (h.0 ∙ sym is_new_end), inr (subst (λ (x : ℕ). Among x m.reached) (sym h.1) joined.is_reached))
  ]

  -- an edge that has its end joins no node again
  not_done : slice_index ends k ≢ 0 → ⊥
  not_done h =
      let d = (m.done k h).0 e stands in
      elim linked [
        | inl h ↦ fresh (subst (λ (x : ℕ). Among x m.reached) (h.1 ∙ sym is_new_end) d.1)
        | inr h ↦ fresh (subst (λ (x : ℕ). Among x m.reached) (h.0 ∙ sym is_new_end) d.0)
      ]

  k_within : k < length ends
  k_within = subst (λ (n : ℕ). k < n) (sym m.size) (get_within edges k e stands)

  end_at : (j : ℕ) → ((j ≡ k) × (slice_index (set ends k new) j ≡ new)) ⊎ ((j ≢ k) × (slice_index (set ends k new) j ≡ slice_index ends j))
  end_at j = elim (cases_eq j k) [
    | inl q ↦ inl (q, subst (λ (x : ℕ). slice_index (set ends k new) x ≡ new) (sym q) (get_or-set_same ends k new 0 k_within))
    | inr ne ↦ inr (ne, get_or-set_other ends k j new 0 ne)
  ]

  done_then : Among k order → (j : ℕ) → slice_index (set ends k new) j ≢ 0 → HasEndsIn edges (new ∷ m.reached) j × Among j order
  done_then in_order j h = elim (end_at j) [
    | inl q ↦ (λ x s. subst (λ (y : Edge). Among y.from (new ∷ m.reached) × Among y.to (new ∷ m.reached)) (same_Some e x (sym stands ∙ subst (λ (i : ℕ). slice_get edges i ≡ Some x) q.0 s)) ends_then, subst (λ (x : ℕ). Among x order) (sym q.0) in_order)
    | inr q ↦ let d = m.done j (λ z. h (q.1 ∙ z)) in (λ x s. let w = d.0 x s in (inr w.0, inr w.1), d.1)
  ]

  completes_then : (js : List ℕ) → AgreesWith js (set ends k new) → JoinsAt edges js (new ∷ m.reached) rest → JoinsAt edges js (0 ∷ []) order
  completes_then js agree more =
      let here : slice_index js k ≡ new = agree k (λ z. not_zero (sym (get_or-set_same ends k new 0 k_within) ∙ z)) ∙ get_or-set_same ends k new 0 k_within in
      let before : AgreesWith js ends = λ j h. elim (end_at j) [ inl q ↦ absurd (not_done (subst (λ (x : ℕ). slice_index ends x ≢ 0) q.0 h)) | inr q ↦ agree j (λ z. h (sym q.1 ∙ z)) ∙ q.1 ] in
      m.completes js before (subst (λ (x : ℕ). Joins edges m.reached k x) (sym is_new_end ∙ sym here) joined, subst (λ (x : ℕ). JoinsAt edges js (x ∷ m.reached) rest) (sym here) more)

  bare_then : (v : ℕ) → v < length (set marks new (pos 1)) → Among v (new ∷ m.reached) ⊎ (mark (set marks new (pos 1)) v ≡ pos 0)
  bare_then v lt = elim (cases_eq v new) [
    | inl q ↦ inl (inl q)
    | inr ne ↦ elim (m.bare v (subst (λ (n : ℕ). v < n) (length-set marks new (pos 1)) lt)) [ inl a ↦ inl (inr a) | inr z ↦ inr (get_or-set_other marks new v (pos 1) (pos 0) ne ∙ z) ]
  ]

  marked_then : (v : ℕ) → Among v (new ∷ m.reached) → mark (set marks new (pos 1)) v ≡ pos 1
  marked_then v a = elim (cases_eq v new) [
    | inl q ↦ subst (λ (x : ℕ). mark (set marks new (pos 1)) x ≡ pos 1) (sym q) (get_or-set_same marks new (pos 1) (pos 0) new_within)
    | inr ne ↦ elim a [ inl q ↦ absurd (ne q) | inr b ↦ get_or-set_other marks new v (pos 1) (pos 0) ne ∙ m.marked v b ]
  ]

  pub marks_one : Among k order → Marking edges order rest (set marks new (pos 1)) (set ends k new)
  marks_one in_order = record {
    reached = new ∷ m.reached;
    zero_in = inr m.zero_in;
    bare = bare_then;
    marked = marked_then;
    left = subst (λ (x : ℕ). Grows edges 0 (x ∷ m.reached) rest) (sym is_new_end) m.left.2;
    nodes = subst (λ (n : ℕ). EndsAreNodes edges n) (sym (length-set marks new (pos 1))) m.nodes;
    size = length-set ends k new ∙ m.size;
    done = done_then in_order;
    completes = completes_then;
  }

-- the same at a place of the order, as the code has it
module _ (edges : List Edge) (order : List ℕ) (i : ℕ) (marks : List ℤ) (ends : List ℕ) (within : i < length order)
    (m : Marking edges order (drop i order) marks ends) where
  here : Marking edges order (slice_index order i ∷ drop (i + 1) order) marks ends
  here = subst (λ (rest : List ℕ). Marking edges order rest marks ends) (drop_more order i 0 within) m

  stands_there : slice_get edges (slice_index order i) ≡ Some (edge_at edges (slice_index order i))
  stands_there = let j : Joins edges here.reached (slice_index order i) here.left.0 = here.left.1 in j.stands ∙ ap (λ (e : Edge). Some e) (sym (get_is edges (slice_index order i) j.edge _ j.stands))

  pub is_edge : slice_index order i < length edges
  is_edge = get_within edges (slice_index order i) _ stands_there

  pub enters_node : (edge_at edges (slice_index order i)).to < length marks
  enters_node = (m.nodes (slice_index order i) _ stands_there).1

  pub has_place : slice_index order i < length ends
  has_place = subst (λ (n : ℕ). slice_index order i < n) (sym m.size) is_edge

  pub is_node : (new : ℕ) → IsNewEnd (edge_at edges (slice_index order i)) marks new → new < length marks
  is_node new picked = new_within edges order (slice_index order i) (drop (i + 1) order) marks ends new (edge_at edges (slice_index order i)) stands_there here picked

  pub marked_further : (new end : ℕ) → end ≡ new → IsNewEnd (edge_at edges (slice_index order i)) marks new → Marking edges order (drop (i + 1) order) (set marks new (pos 1)) (set ends (slice_index order i) end)
  marked_further new end same picked = subst (λ (x : ℕ). Marking edges order (drop (i + 1) order) (set marks new (pos 1)) (set ends (slice_index order i) x)) (sym same) (marks_one edges order (slice_index order i) (drop (i + 1) order) marks ends new (edge_at edges (slice_index order i)) stands_there here picked (among_at order i within))

-- node 0 alone is marked
pub marking_starts : (edges : List Edge) (order : List ℕ) (marks : List ℤ) (ends : List ℕ) → Grows edges 0 (0 ∷ []) order → length ends ≡ length edges → ends ≡ replicate (length ends) 0
    → marks ≡ set (replicate (length marks) (pos 0)) 0 (pos 1) → 0 < length marks → EndsAreNodes edges (length marks) → Marking edges order order marks ends
marking_starts edges order marks ends grows size none marks_are some nodes =
    let zeros : (k : ℕ) → slice_index ends k ≡ 0 = λ k. ap (λ (xs : List ℕ). slice_index xs k) none ∙ zero_at (length ends) k in
    let at_zero : mark marks 0 ≡ pos 1 = ap (λ (xs : List ℤ). mark xs 0) marks_are ∙ get_or-set_same (replicate (length marks) (pos 0)) 0 (pos 1) (pos 0) (subst (λ (n : ℕ). 0 < n) (sym (length-replicate (length marks) (pos 0))) some) in
    record {
      reached = 0 ∷ [];
      zero_in = inl refl;
      bare = λ v lt. elim (cases_eq v 0) [
        | inl e ↦ inl (inl e)
        | inr ne ↦ inr (ap (λ (xs : List ℤ). mark xs v) marks_are ∙ get_or-set_other (replicate (length marks) (pos 0)) 0 v (pos 1) (pos 0) ne ∙ get_or-replicate (length marks) v (pos 0) (pos 0) lt)
      ];
      marked = λ v a. elim a [ inl e ↦ subst (λ (x : ℕ). mark marks x ≡ pos 1) (sym e) at_zero | inr b ↦ absurd b ];
      left = grows;
      nodes = nodes;
      size = size;
      done = λ k h. absurd (h (zeros k));
      completes = λ js agree j. j;
    }

-- the order is done
pub joins_all : (edges : List Edge) (order : List ℕ) (i : ℕ) (marks : List ℤ) (ends : List ℕ) → length order ≤ i → Marking edges order (drop i order) marks ends → JoinsAt edges ends (0 ∷ []) order
joins_all edges order i marks ends done m = m.completes ends (λ k h. refl) (subst (λ (rest : List ℕ). JoinsAt edges ends m.reached rest) (sym (drop_all i order done)) tt)
