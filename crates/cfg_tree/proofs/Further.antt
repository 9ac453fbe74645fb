-- The tree, one edge further.
use Rattle.std.proofs.Common.{◌≡◌, ℕ, zero, suc, ◌+◌, ◌<◌, ◌≤◌, ◌==◌, Bool, true, false, cond, ◌⊎◌, inl, inr, None, List, [], ◌∷◌, ◌++◌, length, Some, slice_get, slice_index, set, replicate, refl, sym, ap, subst, ◌∙◌, arith, get_or-set_same, get_or-set_other, append_assoc, length-set, ltb-false, eqb-true, false-eqb}
use Rattle.std.specs.Prelude.{Contains, IsPermutation, ◌&&◌, nat_lt}
use Rattle.std.specs.BinaryHeap.{IsHeap, IsUpperBound, lt_by_cmp}
use Rattle.std.specs.Ordering.{is_lt, nat_cmp, ordering_then}
use Rattle.std.specs.declared.cmp.Ordering.TheVariants.{Less, Equal, Greater}
use Rattle.cfg_tree.specs.Chains.{EndsAreBelow}
use Rattle.std.proofs.lemmas.Bool.{cases_eq}
use Rattle.std.proofs.lemmas.List.{append-nil, length-replicate, length_push}
use Rattle.std.proofs.lemmas.List.Elements.{All-contains, All-from_recursion}
use Rattle.std.proofs.lemmas.List.Sorted.{Contains-permutation, IsPermutation-sym, length_permutation}
use Rattle.std.proofs.lemmas.Option.{get_or_from_slice_get, slice_get-get_or}
use Rattle.ir_tree.specs.declared.edge.Edge.{Edge}
use Rattle.ir_tree.specs.Reach.{is_marked}
use Rattle.spanning_order.specs.Lists.{Among}
use Rattle.spanning_order.specs.Spanning.{Joins, Links, edge_at}
use Rattle.cfg_tree.specs.Growing.{Growing, IsNewEnd, IsOffered}
use Rattle.cfg_tree.specs.Grown.{IsBest, IsGrown}
use Rattle.cfg_tree.specs.Incident.{numbers_at}
use Rattle.cfg_tree.specs.Offers.{Key, OffersBoth, key, key_cmp}
use Rattle.cfg_tree.specs.Walking.{unentered}
use Rattle.cfg_tree.specs.declared.chains.End.TheVariants.{Head, Tail}
use Rattle.cfg_tree.proofs.Chained.{among_number, number_among}
use Rattle.cfg_tree.proofs.Offered.{contains_cases, contains_first, contains_later, nothing_there}
use Rattle.cfg_tree.proofs.Stacks.{less_unentered, some_unentered, waiting, waiting_set}

-- what may still be offered, and what is
abbrev pub offers_left : List Edge → List Bool → List Key → ℕ
offers_left edges marks heap = waiting (λ v. length (numbers_at Tail 0 edges v) + length (numbers_at Head 0 edges v)) 0 marks + length heap

true_not_false : true ≡ false → ⊥
true_not_false e = cc

not_joined_left : (a b : Bool) → a ≡ false → (a && b) ≡ false
not_joined_left a b e = ap (λ (x : Bool). x && b) e

not_joined_right : (a b : Bool) → b ≡ false → (a && b) ≡ false
not_joined_right true b e = e
not_joined_right false b e = refl

-- a key that is not below another is of a heavier edge, or of one as heavy with no greater number
heavier : (a b i j : ℕ) → is_lt (ordering_then (nat_cmp a b) (nat_cmp j i)) ≡ false → (b < a) ⊎ ((b ≡ a) × (i ≤ j))
heavier a b i j h = by (nat_lt a b) (a == b) (nat_lt j i) refl refl refl h
  where
    by : (p q r : Bool) → nat_lt a b ≡ p → (a == b) ≡ q → nat_lt j i ≡ r → is_lt (ordering_then (cond p Less (cond q Equal Greater)) (cond r Less (cond (j == i) Equal Greater))) ≡ false → (b < a) ⊎ ((b ≡ a) × (i ≤ j))
    by true q r e f g x = absurd (true_not_false x)
    by false true true e f g x = absurd (true_not_false x)
    by false true false e f g x = inr (sym (eqb-true a b f), ltb-false j i g)
    by false false r e f g x = let le = ltb-false a b e in let ne = false-eqb a b (sym f) in inl (grind (arith, le, ne))

module _ (edges : List Edge) (weights : List ℕ) (marks : List Bool) (old new : List Key) (v : ℕ) (both : OffersBoth edges weights marks v old new) where
  kept_both : (x : Key) → Contains old x → Contains new x
  kept_both x c = both.entering.kept x (both.leaving.kept x c)

  -- an edge from this node to one that has no mark is offered
  offered_to : (k n : ℕ) (e : Edge) → slice_get edges k ≡ Some e → Links e v n → is_marked marks n ≡ false → Contains new (key weights k)
  offered_to k n e at links bare = elim links [
    | inl h ↦ elim (both.leaving.has k (number_among Tail edges v k e at h.0) (not_joined_right (is_marked marks (edge_at edges k).from) (is_marked marks (edge_at edges k).to) (ap (λ (x : ℕ). is_marked marks x) (ap (λ (d : Edge). d.to) (get_or_from_slice_get edges k e _ at) ∙ h.1) ∙ bare))) [
      | inl a ↦ absurd a
      | inr c ↦ both.entering.kept (key weights k) c
    ]
    | inr h ↦ elim (both.entering.has k (number_among Head edges v k e at h.1) (not_joined_left (is_marked marks (edge_at edges k).from) (is_marked marks (edge_at edges k).to) (ap (λ (x : ℕ). is_marked marks x) (ap (λ (d : Edge). d.from) (get_or_from_slice_get edges k e _ at) ∙ h.0) ∙ bare))) [
      | inl a ↦ absurd a
      | inr c ↦ c
    ]
  ]

  -- and only such edges are
  only_both : is_marked marks v ≡ true → (x : Key) → Contains new x → Contains old x ⊎ IsOffered edges weights marks x
  only_both here x c = elim (both.entering.only x c) [
    | inr k ↦ inr (let a = among_number Head edges v k.0 k.1 in record { number = k.0; within = a.0; is = k.2; marked = inr (ap (λ (u : ℕ). is_marked marks u) a.1 ∙ here) })
    | inl d ↦ elim (both.leaving.only x d) [
      | inr k ↦ inr (let a = among_number Tail edges v k.0 k.1 in record { number = k.0; within = a.0; is = k.2; marked = inl (ap (λ (u : ℕ). is_marked marks u) a.1 ∙ here) })
      | inl b ↦ inl b
    ]
  ]

-- node 0 alone is reached, and its edges are offered
pub growing_starts : (edges : List Edge) (weights : List ℕ) (n : ℕ) (marks : List Bool) (old new : List Key) → 0 < n → marks ≡ set (replicate n false) 0 true → old ≡ [] → IsHeap key_cmp old → OffersBoth edges weights marks 0 old new → Growing edges weights marks new []
growing_starts edges weights n marks old new some marks_are empty ordered both = record {
  reached = 0 ∷ [];
  marked = λ v m. elim (cases_eq v 0) [ inl e ↦ inl e | inr ne ↦ absurd (true_not_false (sym m ∙ bare v ne)) ];
  are_marked = λ v a. elim a [ inl e ↦ ap (λ (x : ℕ). is_marked marks x) e ∙ here | inr b ↦ absurd b ];
  ordered = both.entering.ordered (both.leaving.ordered ordered);
  offered = λ x c. elim (only_both edges weights marks old new 0 both here x c) [ inl d ↦ absurd (nothing_there x (subst (λ (xs : List Key). Contains xs x) empty d)) | inr o ↦ o ];
  candidates = λ k v j. offered_to edges weights marks old new 0 both k v j.edge j.stands (elim j.is_reached [ inl e ↦ subst (λ (x : ℕ). Links j.edge x v) e j.links | inr b ↦ absurd b ]) (bare v (λ e. j.is_new (inl e)));
  completes = λ rest g. g;
}
  where
    long : length (replicate n false) ≡ n
    long = length-replicate n false

    here : is_marked marks 0 ≡ true
    here = ap (λ (bs : List Bool). is_marked bs 0) marks_are ∙ get_or-set_same (replicate n false) 0 true false (subst (λ (m : ℕ). 0 < m) (sym long) some)

    falses : (m v : ℕ) → is_marked (replicate m false) v ≡ false
    falses zero v = refl
    falses (suc m) zero = refl
    falses (suc m) (suc v) = falses m v

    bare : (v : ℕ) → (v ≡ 0 → ⊥) → is_marked marks v ≡ false
    bare v ne = ap (λ (bs : List Bool). is_marked bs v) marks_are ∙ get_or-set_other (replicate n false) 0 v true false ne ∙ falses n v

pub growing_ends : (edges : List Edge) (weights : List ℕ) (marks : List Bool) (heap : List Key) (order : List ℕ) → Growing edges weights marks heap order → heap ≡ [] → IsGrown edges weights (0 ∷ []) order
growing_ends edges weights marks heap order m empty =
    subst (λ (ks : List ℕ). IsGrown edges weights (0 ∷ []) ks) (append-nil order)
    (m.completes [] (λ k new j. nothing_there (key weights k) (subst (λ (xs : List Key). Contains xs (key weights k)) empty (m.candidates k new j))))

-- where every node is reached, no edge joins one
pub all_reached : (edges : List Edge) (weights : List ℕ) (n : ℕ) (marks : List Bool) (heap : List Key) (order : List ℕ) → EndsAreBelow Tail edges n → EndsAreBelow Head edges n → length marks ≡ n →
    Growing edges weights marks heap order → length order + 1 + unentered marks ≡ length marks → length order + 1 ≡ length marks → IsGrown edges weights (0 ∷ []) order
all_reached edges weights n marks heap order tails heads size m count all =
    subst (λ (ks : List ℕ). IsGrown edges weights (0 ∷ []) ks) (append-nil order)
    (m.completes [] (λ k new j. j.is_new (m.marked new (marked_all new (below k new j)))))
  where
    below : (k new : ℕ) → Joins edges m.reached k new → new < length marks
    below k new j =
        let within : new < n = elim j.links [ inl h ↦ subst (λ (u : ℕ). u < n) h.1 (heads k j.edge j.stands) | inr h ↦ subst (λ (u : ℕ). u < n) h.0 (tails k j.edge j.stands) ] in
        omega (arith, within, size)

    marked_all : (v : ℕ) → v < length marks → is_marked marks v ≡ true
    marked_all v within = by (is_marked marks v) refl
      where
        by : (b : Bool) → is_marked marks v ≡ b → b ≡ true
        by true e = refl
        by false e = absurd (let some = some_unentered marks v within e in omega (arith, some, count, all))

-- each edge that is taken leaves one node less to be reached
pub one_reached : (marks : List Bool) (node : ℕ) (order longer : List ℕ) (number : ℕ) → node < length marks → is_marked marks node ≡ false → longer ≡ order ++ number ∷ [] →
    length order + 1 + unentered marks ≡ length marks → length longer + 1 + unentered (set marks node true) ≡ length (set marks node true)
one_reached marks node order longer number within bare put before =
    let less = less_unentered marks node within bare in
    let size = length-set marks node true in
    let long : length longer ≡ length order + 1 = ap length put ∙ length_push order number in
    omega (arith, less, size, long, before)

-- ---- an edge was taken from the heap

module _ (edges : List Edge) (weights : List ℕ) (marks : List Bool) (heap left : List Key) (order : List ℕ) (weight number : ℕ) (m : Growing edges weights marks heap order)
    (popped : IsPermutation heap ((weight, record { 0 = number }) ∷ left)) (greatest : IsHeap key_cmp heap → IsHeap key_cmp left × IsUpperBound key_cmp (weight, record { 0 = number }) heap) where
  was_there : (x : Key) → (x ≡ (weight, record { 0 = number })) ⊎ Contains left x → Contains heap x
  was_there x h = Contains-permutation ((weight, record { 0 = number }) ∷ left) heap x (IsPermutation-sym heap ((weight, record { 0 = number }) ∷ left) popped) (elim h [
    | inl e ↦ subst (λ (y : Key). Contains ((weight, record { 0 = number }) ∷ left) y) (sym e) (contains_first (weight, record { 0 = number }) left)
    | inr c ↦ contains_later (weight, record { 0 = number }) x left c
  ])

  still_there : (x : Key) → Contains heap x → (x ≡ (weight, record { 0 = number })) ⊎ Contains left x
  still_there x c = contains_cases (weight, record { 0 = number }) x left (Contains-permutation heap ((weight, record { 0 = number }) ∷ left) x popped c)

  it : IsOffered edges weights marks (weight, record { 0 = number })
  it = m.offered (weight, record { 0 = number }) (was_there (weight, record { 0 = number }) (inl refl))

  number_is : number ≡ it.number
  number_is = ap (λ (x : Key). x.1.0) it.is

  key_is : (weight, record { 0 = number }) ≡ key weights number
  key_is = it.is ∙ ap (λ (k : ℕ). key weights k) (sym number_is)

  pub is_edge : number < length edges
  is_edge = subst (λ (k : ℕ). k < length edges) (sym number_is) it.within

  edge_is : slice_get edges number ≡ Some (edge_at edges number)
  edge_is = slice_get-get_or edges number _ is_edge

  pub leaves_below : (m n : ℕ) → m ≡ n → EndsAreBelow Tail edges n → (edge_at edges number).from < m
  leaves_below m n e tails = subst (λ (k : ℕ). (edge_at edges number).from < k) (sym e) (tails number (edge_at edges number) edge_is)

  pub enters_below : (m n : ℕ) → m ≡ n → EndsAreBelow Head edges n → (edge_at edges number).to < m
  enters_below m n e heads = subst (λ (k : ℕ). (edge_at edges number).to < k) (sym e) (heads number (edge_at edges number) edge_is)

  has_mark : (is_marked marks (edge_at edges number).from ≡ true) ⊎ (is_marked marks (edge_at edges number).to ≡ true)
  has_mark = subst (λ (k : ℕ). (is_marked marks (edge_at edges k).from ≡ true) ⊎ (is_marked marks (edge_at edges k).to ≡ true)) (sym number_is) it.marked

  -- an edge that joins a node stays in the heap, but for the one that was taken
  joins_still : (k new : ℕ) → Joins edges m.reached k new → (k ≡ number) ⊎ Contains left (key weights k)
  joins_still k new j = elim (still_there (key weights k) (m.candidates k new j)) [ inl e ↦ inl (ap (λ (x : Key). x.1.0) e) | inr c ↦ inr c ]

  bare_new : (k new : ℕ) → Joins edges m.reached k new → is_marked marks new ≡ true → ⊥
  bare_new k new j e = j.is_new (m.marked new e)

  edge_of : (k new : ℕ) (j : Joins edges m.reached k new) → k ≡ number → j.edge ≡ edge_at edges number
  edge_of k new j e = sym (get_or_from_slice_get edges k j.edge _ j.stands) ∙ ap (λ (i : ℕ). edge_at edges i) e

  -- both its ends are reached: it is passed over
  pub passed_over : IsNewEnd (edge_at edges number) marks None → Growing edges weights marks left order
  passed_over ends = record {
    reached = m.reached;
    marked = m.marked;
    are_marked = m.are_marked;
    ordered = (greatest m.ordered).0;
    offered = λ x c. m.offered x (was_there x (inr c));
    candidates = λ k new j. elim (joins_still k new j) [
      | inl e ↦ absurd (bare_new k new j (elim j.links [
        | inl h ↦ ap (λ (u : ℕ). is_marked marks u) (sym h.1 ∙ ap (λ (d : Edge). d.to) (edge_of k new j e)) ∙ ends.1
        | inr h ↦ ap (λ (u : ℕ). is_marked marks u) (sym h.0 ∙ ap (λ (d : Edge). d.from) (edge_of k new j e)) ∙ ends.0
      ]))
      | inr c ↦ c
    ];
    completes = m.completes;
  }

  module _ (node : ℕ) (ends : IsNewEnd (edge_at edges number) marks (Some node)) where
    -- the other end is reached
    linked : (other : ℕ) × Links (edge_at edges number) other node × (is_marked marks other ≡ true)
    linked = elim ends.1 [
      | inl e ↦ ((edge_at edges number).to, inr (sym e, refl), elim has_mark [ inl h ↦ absurd (true_not_false (sym h ∙ ap (λ (u : ℕ). is_marked marks u) (sym e) ∙ ends.0)) | inr h ↦ h ])
      | inr e ↦ ((edge_at edges number).from, inl (refl, sym e), elim has_mark [ inl h ↦ h | inr h ↦ absurd (true_not_false (sym h ∙ ap (λ (u : ℕ). is_marked marks u) (sym e) ∙ ends.0)) ])
    ]

    joined : Joins edges m.reached number node
    joined = record {
      edge = edge_at edges number;
      stands = edge_is;
      old = linked.0;
      links = linked.1;
      is_reached = m.marked linked.0 linked.2;
      is_new = λ a. true_not_false (sym (m.are_marked node a) ∙ ends.0);
    }

    bounded : (j : ℕ) → Contains heap (key weights j) → lt_by_cmp key_cmp (key weights number) (key weights j) ≡ false
    bounded j c = subst (λ (x : Key). lt_by_cmp key_cmp x (key weights j) ≡ false) key_is
        (All-contains (λ (y : Key). lt_by_cmp key_cmp (weight, record { 0 = number }) y ≡ false) heap (key weights j) (All-from_recursion (λ (y : Key). lt_by_cmp key_cmp (weight, record { 0 = number }) y ≡ false) heap (greatest m.ordered).1) c)

    best : IsBest edges weights m.reached number node
    best = record { joins = joined; best = λ j n js. heavier (slice_index weights number) (slice_index weights j) number j (bounded j (m.candidates j n js)) }

    pub in_marks : (n : ℕ) → EndsAreBelow Tail edges n → EndsAreBelow Head edges n → node < n
    in_marks n tails heads = elim ends.1 [ inl e ↦ subst (λ (u : ℕ). u < n) (sym e) (tails number (edge_at edges number) edge_is) | inr e ↦ subst (λ (u : ℕ). u < n) (sym e) (heads number (edge_at edges number) edge_is) ]

    module _ (within : node < length marks) (new : List Key) (both : OffersBoth edges weights (set marks node true) node left new) where
      here : is_marked (set marks node true) node ≡ true
      here = get_or-set_same marks node true false within

      elsewhere : (v : ℕ) → (v ≡ node → ⊥) → is_marked (set marks node true) v ≡ is_marked marks v
      elsewhere v ne = get_or-set_other marks node v true false ne

      still_marked : (v : ℕ) → is_marked marks v ≡ true → is_marked (set marks node true) v ≡ true
      still_marked v h = elim (cases_eq v node) [ inl e ↦ ap (λ (u : ℕ). is_marked (set marks node true) u) e ∙ here | inr ne ↦ elsewhere v ne ∙ h ]

      bare_then : (v : ℕ) → (Among v (node ∷ m.reached) → ⊥) → is_marked (set marks node true) v ≡ false
      bare_then v out = by (is_marked (set marks node true) v) refl
        where
          by : (b : Bool) → is_marked (set marks node true) v ≡ b → b ≡ false
          by false e = refl
          by true e = absurd (out (elim (cases_eq v node) [ inl s ↦ inl s | inr ne ↦ inr (m.marked v (sym (elsewhere v ne) ∙ e)) ]))

      candidate : (k n : ℕ) → Joins edges (node ∷ m.reached) k n → Contains new (key weights k)
      candidate k n j = elim j.is_reached [
        | inl e ↦ offered_to edges weights (set marks node true) left new node both k n j.edge j.stands (subst (λ (u : ℕ). Links j.edge u n) e j.links) (bare_then n j.is_new)
        | inr a ↦ before (record { edge = j.edge; stands = j.stands; old = j.old; links = j.links; is_reached = a; is_new = λ b. j.is_new (inr b) })
      ]
        where
          -- the taken edge has both its ends among the reached
          both_reached : Among (edge_at edges number).from (node ∷ m.reached) × Among (edge_at edges number).to (node ∷ m.reached)
          both_reached = elim linked.1 [
            | inl h ↦ (inr (subst (λ (u : ℕ). Among u m.reached) (sym h.0) (m.marked linked.0 linked.2)), inl h.1)
            | inr h ↦ (inl h.0, inr (subst (λ (u : ℕ). Among u m.reached) (sym h.1) (m.marked linked.0 linked.2)))
          ]

          before : Joins edges m.reached k n → Contains new (key weights k)
          before i = elim (joins_still k n i) [
            | inl e ↦ absurd (j.is_new (elim i.links [
              | inl h ↦ subst (λ (u : ℕ). Among u (node ∷ m.reached)) (sym (ap (λ (d : Edge). d.to) (edge_of k n i e)) ∙ h.1) both_reached.1
              | inr h ↦ subst (λ (u : ℕ). Among u (node ∷ m.reached)) (sym (ap (λ (d : Edge). d.from) (edge_of k n i e)) ∙ h.0) both_reached.0
            ]))
            | inr c ↦ kept_both edges weights (set marks node true) left new node both (key weights k) c
          ]

      pub taken : Growing edges weights (set marks node true) new (order ++ number ∷ [])
      taken = record {
        reached = node ∷ m.reached;
        marked = λ v h. elim (cases_eq v node) [ inl e ↦ inl e | inr ne ↦ inr (m.marked v (sym (elsewhere v ne) ∙ h)) ];
        are_marked = λ v a. elim a [ inl e ↦ ap (λ (u : ℕ). is_marked (set marks node true) u) e ∙ here | inr b ↦ still_marked v (m.are_marked v b) ];
        ordered = both.entering.ordered (both.leaving.ordered (greatest m.ordered).0);
        offered = λ x c. elim (only_both edges weights (set marks node true) left new node both here x c) [
          | inl d ↦ let o = m.offered x (was_there x (inr d)) in record { number = o.number; within = o.within; is = o.is; marked = elim o.marked [ inl h ↦ inl (still_marked (edge_at edges o.number).from h) | inr h ↦ inr (still_marked (edge_at edges o.number).to h) ] }
          | inr o ↦ o
        ];
        candidates = candidate;
        completes = λ rest g. subst (λ (ks : List ℕ). IsGrown edges weights (0 ∷ []) ks) (sym (append_assoc order (number ∷ []) rest)) (m.completes (number ∷ rest) (node, best, g));
      }

      pub taken_less : offers_left edges (set marks node true) new < offers_left edges marks heap
      taken_less =
          let wait = waiting_set (λ (v : ℕ). length (numbers_at Tail 0 edges v) + length (numbers_at Head 0 edges v)) 0 marks node within ends.0 in
          let zero_more : length (numbers_at Tail 0 edges (0 + node)) + length (numbers_at Head 0 edges (0 + node)) ≡ length (numbers_at Tail 0 edges node) + length (numbers_at Head 0 edges node) = ap (λ (v : ℕ). length (numbers_at Tail 0 edges v) + length (numbers_at Head 0 edges v)) (let z : 0 + node ≡ node = omega arith in z) in
          let size = length_permutation heap ((weight, record { 0 = number }) ∷ left) popped in
          let first = both.leaving.few in
          let second = both.entering.few in
          omega (arith, wait, zero_more, size, first, second)

  pub passed_less : offers_left edges marks left < offers_left edges marks heap
  passed_less = let size = length_permutation heap ((weight, record { 0 = number }) ∷ left) popped in omega (arith, size)
