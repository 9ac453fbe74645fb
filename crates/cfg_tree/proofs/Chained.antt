-- The chains while they are linked, from the last edge to the first.
use Rattle.std.proofs.Common.{◌≡◌, ℕ, zero, suc, ◌+◌, ◌<◌, ◌≤◌, Bool, inl, inr, List, [], ◌∷◌, length, Some, slice_get, slice_index, drop, set, replicate, refl, sym, ap, subst, ◌∙◌, arith, length-set, get_or-set_same, get_or-set_other, eq-eqb, ne_eqb}
use Rattle.std.specs.Prelude.{if◌then◌else◌}
use Rattle.std.proofs.lemmas.Bool.{cases_eq}
use Rattle.std.proofs.lemmas.List.{drop_all}
use Rattle.std.proofs.lemmas.Option.{none-some, same_Some, slice_get_within, slice_get-get_or, get_or_from_slice_get}
use Rattle.spanning_order.specs.Lists.{Among}
use Rattle.spanning_order.specs.Spanning.{edge_at}
use Rattle.ir_tree.specs.declared.edge.Edge.{Edge}
use Rattle.cfg_tree.specs.Incident.{end_of, numbers_at}
use Rattle.cfg_tree.specs.Chains.{AreChains, EndsAreBelow, IsPlace, Leads, from_place}
use Rattle.cfg_tree.specs.declared.chains.End.{End}

pub drop_at : {X : Type 0} (xs : List X) (k : ℕ) (x : X) → slice_get xs k ≡ Some x → drop k xs ≡ x ∷ drop (suc k) xs
drop_at [] k x h = absurd (none-some x h)
drop_at (y ∷ ys) zero x h = ap (λ z. z ∷ ys) (same_Some y x h)
drop_at (y ∷ ys) (suc k) x h = drop_at ys k x h

module _ (end : End) (k : ℕ) (e : Edge) (es : List Edge) (v : ℕ) where
  pub takes : end_of end e ≡ v → numbers_at end k (e ∷ es) v ≡ k ∷ numbers_at end (k + 1) es v
  takes h = ap (λ (b : Bool). if b then k ∷ numbers_at end (k + 1) es v else numbers_at end (k + 1) es v) (eq-eqb (end_of end e) v h)

  pub skips : (end_of end e ≡ v → ⊥) → numbers_at end k (e ∷ es) v ≡ numbers_at end (k + 1) es v
  skips h = ap (λ (b : Bool). if b then k ∷ numbers_at end (k + 1) es v else numbers_at end (k + 1) es v) (ne_eqb (end_of end e) v h)

pub record Linking (end : End) (edges : List Edge) (k : ℕ) (first next : List ℕ) : Type 0 where
  pub edges_have : length next ≡ length edges
  pub firsts : (v : ℕ) → v < length first → Leads end edges v k (slice_index first v)
  pub nexts : (j : ℕ) (e : Edge) → k ≤ j → slice_get edges j ≡ Some e → Leads end edges (end_of end e) (j + 1) (slice_index next j)

pub zero_at : (n k : ℕ) → slice_index (replicate n 0) k ≡ 0
zero_at zero k = refl
zero_at (suc n) zero = refl
zero_at (suc n) (suc k) = zero_at n k

pub linking_starts : (end : End) (edges : List Edge) (first next : List ℕ) → first ≡ replicate (length first) 0 → length next ≡ length edges → Linking end edges (length edges) first next
linking_starts end edges first next none size = record {
  edges_have = size;
  firsts = λ v lt.
      let z : slice_index first v ≡ 0 = ap (λ (xs : List ℕ). slice_index xs v) none ∙ zero_at (length first) v in
      subst (λ (place : ℕ). Leads end edges v (length edges) place) (sym z)
      (record { rest = ap (λ (es : List Edge). numbers_at end (length edges) es v) (drop_all (length edges) edges (omega arith)); is_place = tt; later = inl refl });
  nexts = λ j e le at. absurd (let lt = slice_get_within edges j e at in omega (arith, lt, le));
}

module _ (end : End) (edges : List Edge) (first next : List ℕ) (k j : ℕ) (e : Edge) (m : Linking end edges k first next) (one : k ≡ j + 1) (stands : slice_get edges j ≡ Some e) (within : end_of end e < length first) where
  here : Leads end edges (end_of end e) j (suc j)
  here = record { rest = refl; is_place = (e, stands, refl); later = inr (omega arith) }

  rest_is : (v : ℕ) → (end_of end e ≡ v → ⊥) → numbers_at end j (drop j edges) v ≡ numbers_at end k (drop k edges) v
  rest_is v ne =
      ap (λ (es : List Edge). numbers_at end j es v) (drop_at edges j e stands) ∙ skips end j e (drop (suc j) edges) v ne
      ∙ ap (λ (n : ℕ). numbers_at end (j + 1) (drop n edges) v) (let s : suc j ≡ j + 1 = omega arith in s) ∙ ap (λ (n : ℕ). numbers_at end n (drop n edges) v) (sym one)

  further : (v place : ℕ) → (end_of end e ≡ v → ⊥) → Leads end edges v k place → Leads end edges v j place
  further v place ne l = record {
    rest = rest_is v ne ∙ l.rest;
    is_place = l.is_place;
    later = elim l.later [ inl z ↦ inl z | inr lt ↦ inr (omega arith) ];
  }

  first_at : (v : ℕ) → v < length (set first (end_of end e) (j + 1)) → Leads end edges v j (slice_index (set first (end_of end e) (j + 1)) v)
  first_at v lt = elim (cases_eq v (end_of end e)) [
    | inl same ↦ subst (λ (place : ℕ). Leads end edges v j place) (sym (ap (λ (x : ℕ). slice_index (set first (end_of end e) (j + 1)) x) same ∙ get_or-set_same first (end_of end e) (j + 1) 0 within))
        (subst (λ (place : ℕ). Leads end edges v j place) (let s : suc j ≡ j + 1 = omega arith in s) (subst (λ (x : ℕ). Leads end edges x j (suc j)) (sym same) here))
    | inr ne ↦ subst (λ (place : ℕ). Leads end edges v j place) (sym (get_or-set_other first (end_of end e) v (j + 1) 0 ne))
        (further v (slice_index first v) (λ s. ne (sym s)) (m.firsts v (subst (λ (n : ℕ). v < n) (length-set first (end_of end e) (j + 1)) lt)))
  ]

  next_at : (i : ℕ) (d : Edge) → j ≤ i → slice_get edges i ≡ Some d → Leads end edges (end_of end d) (i + 1) (slice_index (set next j (slice_index first (end_of end e))) i)
  next_at i d le at = elim (cases_eq i j) [
    | inl same ↦
        let d_is : d ≡ e = same_Some d e (sym at ∙ ap (λ (x : ℕ). slice_get edges x) same ∙ stands) in
        let value : slice_index (set next j (slice_index first (end_of end e))) i ≡ slice_index first (end_of end e) = ap (λ (x : ℕ). slice_index (set next j (slice_index first (end_of end e))) x) same ∙ get_or-set_same next j (slice_index first (end_of end e)) 0 (let w = slice_get_within edges j e stands in let s = m.edges_have in omega (arith, w, s)) in
        subst (λ (place : ℕ). Leads end edges (end_of end d) (i + 1) place) (sym value)
        (subst (λ (x : Edge). Leads end edges (end_of end x) (i + 1) (slice_index first (end_of end e))) (sym d_is)
        (subst (λ (n : ℕ). Leads end edges (end_of end e) n (slice_index first (end_of end e))) (let s : k ≡ i + 1 = omega arith in s) (m.firsts (end_of end e) within)))
    | inr ne ↦ subst (λ (place : ℕ). Leads end edges (end_of end d) (i + 1) place) (sym (get_or-set_other next j i (slice_index first (end_of end e)) 0 ne)) (m.nexts i d (let lt : j < i = grind arith in omega arith) at)
  ]

  pub linked : Linking end edges j (set first (end_of end e) (j + 1)) (set next j (slice_index first (end_of end e)))
  linked = record { edges_have = length-set next j (slice_index first (end_of end e)) ∙ m.edges_have; firsts = first_at; nexts = next_at }

pub all_linked : (end : End) (edges : List Edge) (nodes : ℕ) (first next : List ℕ) → length first ≡ nodes → (k : ℕ) → k ≡ 0 → Linking end edges k first next → AreChains end edges nodes first next
all_linked end edges nodes first next size k none m = record {
  nodes_have = size;
  edges_have = m.edges_have;
  firsts = λ v lt. subst (λ (n : ℕ). Leads end edges v n (slice_index first v)) none (m.firsts v (omega arith));
  nexts = λ j e at. m.nexts j e (omega arith) at;
}

-- the same as the code has it
pub linked_at : (end : End) (edges : List Edge) (first next : List ℕ) (k j node : ℕ) → Linking end edges k first next → k ≤ length edges → k ≡ j + 1 → node ≡ end_of end (edge_at edges j) → node < length first → Linking end edges j (set first node (j + 1)) (set next j (slice_index first node))
linked_at end edges first next k j node m within one is lt =
    let at : slice_get edges j ≡ Some (edge_at edges j) = slice_get-get_or edges j _ (omega arith) in
    subst (λ (x : ℕ). Linking end edges j (set first x (j + 1)) (set next j (slice_index first x))) (sym is)
    (linked end edges first next k j (edge_at edges j) m one at (subst (λ (x : ℕ). x < length first) is lt))

pub node_within : (end : End) (edges : List Edge) (n j node : ℕ) → EndsAreBelow end edges n → j < length edges → node ≡ end_of end (edge_at edges j) → node < n
node_within end edges n j node below lt is = subst (λ (x : ℕ). x < n) (sym is) (below j (edge_at edges j) (slice_get-get_or edges j _ lt))

-- what a place of a chain says
module _ (end : End) (edges : List Edge) (nodes : ℕ) (first next : List ℕ) (chains : AreChains end edges nodes first next) (v k place : ℕ) (at : place ≡ suc k) (stands : IsPlace end edges v place) where
  found : IsPlace end edges v (suc k)
  found = subst (λ (p : ℕ). IsPlace end edges v p) at stands

  pub is_edge : k < length edges
  is_edge = slice_get_within edges k found.0 found.1

  pub edge_is : slice_get edges k ≡ Some (edge_at edges k)
  edge_is = slice_get-get_or edges k _ is_edge

  end_is : end_of end (edge_at edges k) ≡ v
  end_is = ap (λ (e : Edge). end_of end e) (same_Some (edge_at edges k) found.0 (sym edge_is ∙ found.1)) ∙ found.2

  more : Leads end edges v (k + 1) (slice_index next k)
  more = subst (λ (x : ℕ). Leads end edges x (k + 1) (slice_index next k)) end_is (chains.nexts k (edge_at edges k) edge_is)

  pub is_place : IsPlace end edges v (slice_index next k)
  is_place = more.is_place

  pub row : from_place end edges v place ≡ k ∷ from_place end edges v (slice_index next k)
  row = ap (λ (p : ℕ). from_place end edges v p) at ∙ ap (λ (es : List Edge). numbers_at end k es v) (drop_at edges k (edge_at edges k) edge_is) ∙ takes end k (edge_at edges k) (drop (suc k) edges) v end_is
      ∙ ap (λ (n : ℕ). k ∷ numbers_at end (k + 1) (drop n edges) v) (let q : suc k ≡ k + 1 = omega arith in q) ∙ ap (λ (ks : List ℕ). k ∷ ks) more.rest

-- ---- the numbers of the edges at a node

among_from : (end : End) (j : ℕ) (es : List Edge) (v k : ℕ) → Among k (numbers_at end j es v) → (i : ℕ) × (k ≡ j + i) × (e : Edge) × (slice_get es i ≡ Some e) × (end_of end e ≡ v)
among_from end j [] v k a = absurd a
among_from end j (e ∷ es) v k a = elim (cases_eq (end_of end e) v) [
  | inl same ↦ elim (subst (λ (ks : List ℕ). Among k ks) (takes end j e es v same) a) [
    | inl q ↦ (0, (let z : k ≡ j + 0 = omega (arith, q) in z), e, refl, same)
    | inr b ↦ let m = among_from end (j + 1) es v k b in (suc m.0, (let p = m.1 in let z : k ≡ j + suc (m.0) = omega (arith, p) in z), m.2, m.3, m.4)
  ]
  | inr ne ↦ let m = among_from end (j + 1) es v k (subst (λ (ks : List ℕ). Among k ks) (skips end j e es v ne) a) in (suc m.0, (let p = m.1 in let z : k ≡ j + suc (m.0) = omega (arith, p) in z), m.2, m.3, m.4)
]

pub among_number : (end : End) (edges : List Edge) (v k : ℕ) → Among k (numbers_at end 0 edges v) → (k < length edges) × (end_of end (edge_at edges k) ≡ v)
among_number end edges v k a =
    let m = among_from end 0 edges v k a in
    let same : k ≡ m.0 = (let p = m.1 in omega (arith, p)) in
    let at : slice_get edges k ≡ Some m.2 = ap (λ (n : ℕ). slice_get edges n) same ∙ m.3 in
    let lt = slice_get_within edges k m.2 at in
    (lt, ap (λ (e : Edge). end_of end e) (get_or_from_slice_get edges k m.2 _ at) ∙ m.4)

number_from : (end : End) (j : ℕ) (es : List Edge) (v i k : ℕ) (e : Edge) → k ≡ j + i → slice_get es i ≡ Some e → end_of end e ≡ v → Among k (numbers_at end j es v)
number_from end j [] v i k e is at same = absurd (none-some e at)
number_from end j (d ∷ es) v zero k e is at same =
    subst (λ (ks : List ℕ). Among k ks) (sym (takes end j d es v (ap (λ (x : Edge). end_of end x) (same_Some d e at) ∙ same))) (inl (let z : k ≡ j = omega (arith, is) in z))
number_from end j (d ∷ es) v (suc i) k e is at same =
    let later = number_from end (j + 1) es v i k e (let z : k ≡ j + 1 + i = omega (arith, is) in z) at same in
    elim (cases_eq (end_of end d) v) [
      | inl here ↦ subst (λ (ks : List ℕ). Among k ks) (sym (takes end j d es v here)) (inr later)
      | inr ne ↦ subst (λ (ks : List ℕ). Among k ks) (sym (skips end j d es v ne)) later
    ]

pub number_among : (end : End) (edges : List Edge) (v k : ℕ) (e : Edge) → slice_get edges k ≡ Some e → end_of end e ≡ v → Among k (numbers_at end 0 edges v)
number_among end edges v k e at same = number_from end 0 edges v k k e (let z : k ≡ 0 + k = omega arith in z) at same
