-- The nets in the code are those of values along the edges, of which the last to be known makes a flow.
use Rattle.std.proofs.Common.{◌≡◌, ◌≢◌, ℕ, zero, suc, ◌<◌, ◌==◌, Bool, cond, true, false, ◌⊎◌, inl, inr, List, [], ◌∷◌, length, Some, slice_get, slice_index, set, AllPairs, ℤ, pos, neg_ℤ, ◌+ℤ◌, ◌-ℤ◌, refl, sym, ap, subst, ◌∙◌, arith, length-set, get_or-set_same, get_or-set_other}
use Rattle.std.proofs.lemmas.Bool.{cases_eq, eq-eqb, ne_eqb, eqb-true, eqb-false, cond-true, cond-false}
use Rattle.std.proofs.lemmas.Int.{ints}
use Rattle.std.proofs.lemmas.Option.{same_Some}
use Rattle.ir_tree.specs.declared.edge.Edge.{Edge}
use Rattle.ir_tree.specs.Flows.{brought, net}
use Rattle.spanning_order.specs.Lists.{Among}
use Rattle.spanning_order.specs.Spanning.{Links, Joins, EndsAreNodes}
use Rattle.flow_solve.specs.Ends.{edge_at, JoinsAt}
use Rattle.flow_solve.specs.Nets.{at, paid, pay_all, merge_all, needed}
use Rattle.flow_solve.proofs.Joined.{stands_at, links_at, apart, other_at, ends_within}
use Rattle.flow_solve.proofs.Listed.{get_there, place_of}
use Rattle.flow_solve.proofs.Merging.{length-merge}
use Rattle.flow_solve.proofs.Netting.{put, put_there, put_other, needed_balances, needed_hands_on, needed_away, net_first}

-- the list holds what these values bring to each node
abbrev pub AreNets : List Edge → List ℤ → (ℕ → ℤ) → Type 0
AreNets edges nets x = (v : ℕ) → at nets v ≡ net edges x v

-- ---- counters

at_set : (nets : List ℤ) (u v : ℕ) (z : ℤ) → u < length nets → ((v ≡ u) × (at (set nets u z) v ≡ z)) ⊎ ((v ≢ u) × (at (set nets u z) v ≡ at nets v))
at_set nets u v z lt = elim (cases_eq v u) [
  | inl e ↦ inl (e, subst (λ (x : ℕ). at (set nets u z) x ≡ z) (sym e) (get_or-set_same nets u z (pos 0) lt))
  | inr ne ↦ inr (ne, get_or-set_other nets u v z (pos 0) ne)
]

-- a node gets a number more
at_more : (nets : List ℤ) (u v : ℕ) (z d : ℤ) → u < length nets → z ≡ at nets u +ℤ d → at (set nets u z) v ≡ at nets v +ℤ cond (u == v) d (pos 0)
at_more nets u v z d lt is = elim (at_set nets u v z lt) [
  | inl h ↦ (
      let c : cond (u == v) d (pos 0) ≡ d = cond-true (u == v) d (pos 0) (eq-eqb u v (sym h.0)) in
      let same : at nets u ≡ at nets v = ap (λ (x : ℕ). at nets x) (sym h.0) in
      omega (arith, ints, h.1, is, c, same))
  | inr h ↦ (
      let c : cond (u == v) d (pos 0) ≡ pos 0 = cond-false (u == v) d (pos 0) (ne_eqb u v (λ k. h.0 (sym k))) in
      omega (arith, ints, h.1, c))
]

cond_neg : (b : Bool) (z : ℤ) → cond b (neg_ℤ z) (pos 0) ≡ neg_ℤ (cond b z (pos 0))
cond_neg true z = refl
cond_neg false z = refl

paid-at : (e : Edge) (count : ℕ) (nets : List ℤ) (v : ℕ) → e.from < length nets → e.to < length nets → at (paid e count nets) v ≡ at nets v +ℤ brought e v (pos count)
paid-at e count nets v from to =
    let left : List ℤ = set nets e.from (at nets e.from -ℤ pos count) in
    let first : at left v ≡ at nets v +ℤ cond (e.from == v) (neg_ℤ (pos count)) (pos 0) = at_more nets e.from v (at nets e.from -ℤ pos count) (neg_ℤ (pos count)) from (omega (arith, ints)) in
    let second : at (paid e count nets) v ≡ at left v +ℤ cond (e.to == v) (pos count) (pos 0) = at_more left e.to v (at left e.to +ℤ pos count) (pos count) (subst (λ (n : ℕ). e.to < n) (sym (length-set nets e.from (at nets e.from -ℤ pos count))) to) refl in
    let n = cond_neg (e.from == v) (pos count) in
    omega (arith, ints, first, second, n)

-- what has been paid: the counters of the edges outside the order, and nothing along the others
pub record Paid (edges : List Edge) (ends ks cs : List ℕ) (nets : List ℤ) (before : ℕ → ℤ) : Type 0 where
  pub value : ℕ → ℤ
  pub nets_are : AreNets edges nets value
  pub counters : (i : ℕ) → i < length ks → slice_index ends (slice_index ks i) ≡ 0 → value (slice_index ks i) ≡ pos (slice_index cs i)
  pub others : (k : ℕ) → (Among k ks → ⊥) → value k ≡ before k
  pub in_order : (k : ℕ) → slice_index ends k ≢ 0 → value k ≡ before k

head_apart : (k : ℕ) (ks : List ℕ) → AllPairs (λ i j. i < j) (k ∷ ks) → Among k ks → ⊥
head_apart k ks rising a =
    let p = place_of k ks a in
    let lt : k < slice_index ks p.0 = rising 0 (suc p.0) 0 (omega arith) (omega (arith, p.1)) in
    omega (arith, lt, p.2)

tail_rises : (k : ℕ) (ks : List ℕ) → AllPairs (λ i j. i < j) (k ∷ ks) → AllPairs (λ i j. i < j) ks
tail_rises k ks rising i j d lt within = rising (suc i) (suc j) d (omega arith) (omega arith)

pub length-paid : (e : Edge) (c : ℕ) (nets : List ℤ) → length (paid e c nets) ≡ length nets
length-paid e c nets = length-set (set nets e.from (at nets e.from -ℤ pos c)) e.to (at (set nets e.from (at nets e.from -ℤ pos c)) e.to +ℤ pos c) ∙ length-set nets e.from (at nets e.from -ℤ pos c)

module _ (edges : List Edge) (ends : List ℕ) where
  pays_one : (k c : ℕ) (nets : List ℤ) (x : ℕ → ℤ) → k < length edges → EndsAreNodes edges (length nets) → AreNets edges nets x → x k ≡ pos 0 → AreNets edges (paid (edge_at edges k) c nets) (put k (pos c) x)
  pays_one k c nets x lt nodes are none v =
      let stands = get_there edges k _ lt in
      let w = nodes k (edge_at edges k) stands in
      let p = paid-at (edge_at edges k) c nets v w.0 w.1 in
      let n = net_first edges k (edge_at edges k) stands (pos c) x v none in
      omega (arith, ints, p, n, are v)

  module _ (k c : ℕ) (ks cs : List ℕ) (nets : List ℤ) (x : ℕ → ℤ) (rising : AllPairs (λ i j. i < j) (k ∷ ks)) (within : k < length edges) (nodes : EndsAreNodes edges (length nets))
      (are : AreNets edges nets x) (none : (j : ℕ) → Among j (k ∷ ks) → x j ≡ pos 0)
      (later : (now : List ℤ) (y : ℕ → ℤ) → EndsAreNodes edges (length now) → AreNets edges now y → ((j : ℕ) → Among j ks → y j ≡ pos 0) → Paid edges ends ks cs (pay_all edges ends ks cs now) y) where
    pays_here : (slice_index ends k == 0) ≡ true → Paid edges ends (k ∷ ks) (c ∷ cs) (pay_all edges ends ks cs (paid (edge_at edges k) c nets)) x
    pays_here t =
        let apart_from : (j : ℕ) → Among j ks → j ≢ k = λ j a e. head_apart k ks rising (subst (λ (i : ℕ). Among i ks) e a) in
        let p : Paid edges ends ks cs (pay_all edges ends ks cs (paid (edge_at edges k) c nets)) (put k (pos c) x) = later (paid (edge_at edges k) c nets) (put k (pos c) x)
        (subst (λ (n : ℕ). EndsAreNodes edges n) (sym (length-paid (edge_at edges k) c nets)) nodes)
        (pays_one k c nets x within nodes are (none k (inl refl)))
        (λ j a. put_other k (pos c) x j (apart_from j a) ∙ none j (inr a)) in
        record {
          value = p.value;
          nets_are = p.nets_are;
          counters = counters_here p;
          others = λ j out. p.others j (λ a. out (inr a)) ∙ put_other k (pos c) x j (λ e. out (inl e));
          in_order = λ j h. p.in_order j h ∙ put_other k (pos c) x j (λ e. h (ap (λ (i : ℕ). slice_index ends i) e ∙ eqb-true (slice_index ends k) 0 t));
        }
      where
        counters_here : (p : Paid edges ends ks cs (pay_all edges ends ks cs (paid (edge_at edges k) c nets)) (put k (pos c) x)) (i : ℕ) → i < length (k ∷ ks) → slice_index ends (slice_index (k ∷ ks) i) ≡ 0
            → p.value (slice_index (k ∷ ks) i) ≡ pos (slice_index (c ∷ cs) i)
        counters_here p zero lt h = p.others k (head_apart k ks rising) ∙ put_there k (pos c) x k refl
        counters_here p (suc i) lt h = p.counters i (omega arith) h

    passes_here : (slice_index ends k == 0) ≡ false → Paid edges ends (k ∷ ks) (c ∷ cs) (pay_all edges ends ks cs nets) x
    passes_here t =
        let p : Paid edges ends ks cs (pay_all edges ends ks cs nets) x = later nets x nodes are (λ j a. none j (inr a)) in
        record {
          value = p.value;
          nets_are = p.nets_are;
          counters = counters_there p;
          others = λ j out. p.others j (λ a. out (inr a));
          in_order = p.in_order;
        }
      where
        counters_there : (p : Paid edges ends ks cs (pay_all edges ends ks cs nets) x) (i : ℕ) → i < length (k ∷ ks) → slice_index ends (slice_index (k ∷ ks) i) ≡ 0
            → p.value (slice_index (k ∷ ks) i) ≡ pos (slice_index (c ∷ cs) i)
        counters_there p zero lt h = absurd (eqb-false (slice_index ends k) 0 t h)
        counters_there p (suc i) lt h = p.counters i (omega arith) h

    pays_by : (b : Bool) → (slice_index ends k == 0) ≡ b → Paid edges ends (k ∷ ks) (c ∷ cs) (pay_all edges ends ks cs (cond b (paid (edge_at edges k) c nets) nets)) x
    pays_by true t = pays_here t
    pays_by false t = passes_here t

  pub pays : (ks cs : List ℕ) (nets : List ℤ) (x : ℕ → ℤ) → AllPairs (λ i j. i < j) ks → ((k : ℕ) → Among k ks → k < length edges) → length cs ≡ length ks → EndsAreNodes edges (length nets)
      → AreNets edges nets x → ((k : ℕ) → Among k ks → x k ≡ pos 0) → Paid edges ends ks cs (pay_all edges ends ks cs nets) x
  pays [] cs nets x rising within sizes nodes are none = record { value = x; nets_are = are; counters = λ i lt h. absurd (omega arith); others = λ k h. refl; in_order = λ k h. refl }
  pays (k ∷ ks) [] nets x rising within sizes nodes are none = absurd (omega arith)
  pays (k ∷ ks) (c ∷ cs) nets x rising within sizes nodes are none =
      pays_by k c ks cs nets x rising (within k (inl refl)) nodes are none (λ now y nodes' are' none'. pays ks cs now y (tail_rises k ks rising) (λ j a. within j (inr a)) (omega arith) nodes' are' none') (slice_index ends k == 0) refl

-- ---- the order

-- an edge between reached nodes joins no node later on
pub joins_no_more : (edges : List Edge) (ends reached ks : List ℕ) (k : ℕ) (e : Edge) → JoinsAt edges ends reached ks → slice_get edges k ≡ Some e → Among e.from reached → Among e.to reached → Among k ks → ⊥
joins_no_more edges ends reached [] k e j stands from to a = a
joins_no_more edges ends reached (i ∷ is) k e j stands from to (inl same) =
    let joins : Joins edges reached i (slice_index ends i) = j.0 in
    let here : joins.edge ≡ e = same_Some joins.edge e (sym joins.stands ∙ ap (λ (n : ℕ). slice_get edges n) (sym same) ∙ stands) in
    elim joins.links [
      | inl h ↦ joins.is_new (subst (λ (v : ℕ). Among v reached) (sym (ap (λ (f : Edge). f.to) here) ∙ h.1) to)
      | inr h ↦ joins.is_new (subst (λ (v : ℕ). Among v reached) (sym (ap (λ (f : Edge). f.from) here) ∙ h.0) from)
    ]
joins_no_more edges ends reached (i ∷ is) k e j stands from to (inr a) = joins_no_more edges ends (slice_index ends i ∷ reached) is k e j.1 stands (inr from) (inr to) a

pub joins_a_new : (edges : List Edge) (ends reached ks : List ℕ) (k : ℕ) → JoinsAt edges ends reached ks → Among k ks → Among (slice_index ends k) reached → ⊥
joins_a_new edges ends reached [] k j a b = a
joins_a_new edges ends reached (i ∷ is) k j (inl same) b = let joins : Joins edges reached i (slice_index ends i) = j.0 in joins.is_new (subst (λ (n : ℕ). Among (slice_index ends n) reached) same b)
joins_a_new edges ends reached (i ∷ is) k j (inr a) b = joins_a_new edges ends (slice_index ends i ∷ reached) is k j.1 a (inr b)

abbrev pub all_reached : List ℕ → List ℕ → List ℕ → List ℕ
all_reached ends reached [] = reached
all_reached ends reached (k ∷ ks) = all_reached ends (slice_index ends k ∷ reached) ks

-- with the values that the order's edges need, each joined node is in balance, and the reached ones have the nets of the list
pub record Settled (edges : List Edge) (ends reached ks : List ℕ) (nets : List ℤ) (before : ℕ → ℤ) : Type 0 where
  pub value : ℕ → ℤ
  pub tree : (k : ℕ) → Among k ks → value k ≡ needed (edge_at edges k) (slice_index ends k) nets
  pub rest : (k : ℕ) → (Among k ks → ⊥) → value k ≡ before k
  pub inside : (v : ℕ) → Among v reached → at nets v ≡ net edges value v
  pub outside : (v : ℕ) → Among v (all_reached ends reached ks) → (Among v reached → ⊥) → net edges value v ≡ pos 0

same_needed : (e : Edge) (end : ℕ) (xs ys : List ℤ) → at xs end ≡ at ys end → needed e end xs ≡ needed e end ys
same_needed e end xs ys h = ap (λ (z : ℤ). cond (e.to == end) (neg_ℤ z) z) h

module _ (edges : List Edge) (ends reached : List ℕ) (k : ℕ) (ks : List ℕ) (later : List ℤ) (before : ℕ → ℤ) (joins : Joins edges reached k (slice_index ends k)) (more : JoinsAt edges ends (slice_index ends k ∷ reached) ks)
    (old_in : joins.old < length later) (none : before k ≡ pos 0) (s : Settled edges ends (slice_index ends k ∷ reached) ks later before) where
  settled_one : Settled edges ends reached (k ∷ ks) (set later joins.old (at later joins.old +ℤ at later (slice_index ends k))) before
  settled_one =
      let new : ℕ = slice_index ends k in
      let e : Edge = edge_at edges k in
      let stands : slice_get edges k ≡ Some e = stands_at edges reached k new joins in
      let links : Links e joins.old new = links_at edges reached k new joins in
      let ne : joins.old ≢ new = apart edges reached k new joins in
      let both : List ℤ = set later joins.old (at later joins.old +ℤ at later new) in
      let new_kept : at both new ≡ at later new = get_or-set_other later joins.old new (at later joins.old +ℤ at later new) (pos 0) (λ h. ne (sym h)) in
      let v : ℤ = needed e new later in
      let ends_reached : Among e.from (new ∷ reached) × Among e.to (new ∷ reached) = elim links [
        | inl h ↦ (inr (subst (λ (u : ℕ). Among u reached) (sym h.0) joins.is_reached), inl h.1)
        | inr h ↦ (inl h.0, inr (subst (λ (u : ℕ). Among u reached) (sym h.1) joins.is_reached))
      ] in
      let not_later : Among k ks → ⊥ = joins_no_more edges ends (new ∷ reached) ks k e more stands ends_reached.0 ends_reached.1 in
      let first : s.value k ≡ pos 0 = s.rest k not_later ∙ none in
      let nets_after : (u : ℕ) → net edges (put k v s.value) u ≡ net edges s.value u +ℤ brought e u v = λ u. net_first edges k e stands v s.value u first in
      let old_kept : (j : ℕ) → Among j ks → at both (slice_index ends j) ≡ at later (slice_index ends j) =
      λ j a. get_or-set_other later joins.old (slice_index ends j) (at later joins.old +ℤ at later new) (pos 0) (λ h. joins_a_new edges ends (new ∷ reached) ks j more a (inr (subst (λ (u : ℕ). Among u reached) (sym h) joins.is_reached))) in
      record {
        value = put k v s.value;
        tree = λ j a. elim (cases_eq j k) [
          | inl same ↦ put_there k v s.value j same ∙ same_needed e new later both (sym new_kept) ∙ ap (λ (i : ℕ). needed (edge_at edges i) (slice_index ends i) both) (sym same)
          | inr other ↦ elim a [
            | inl same ↦ absurd (other same)
            | inr b ↦ put_other k v s.value j other ∙ s.tree j b ∙ same_needed (edge_at edges j) (slice_index ends j) later both (sym (old_kept j b))
          ]
        ];
        rest = λ j out. put_other k v s.value j (λ h. out (inl h)) ∙ s.rest j (λ a. out (inr a));
        inside = λ u a. elim (cases_eq u joins.old) [
          | inl same ↦ (
              let here : at both u ≡ at later joins.old +ℤ at later new = ap (λ (i : ℕ). at both i) same ∙ get_or-set_same later joins.old (at later joins.old +ℤ at later new) (pos 0) old_in in
              let was : at later u ≡ net edges s.value u = s.inside u (inr a) in
              let same_place : at later u ≡ at later joins.old = ap (λ (i : ℕ). at later i) same in
              let brings : brought e u v ≡ at later new = ap (λ (i : ℕ). brought e i v) same ∙ needed_hands_on e joins.old new later links ne in
              omega (arith, ints, here, was, same_place, brings, nets_after u))
          | inr other ↦ (
              let here : at both u ≡ at later u = get_or-set_other later joins.old u (at later joins.old +ℤ at later new) (pos 0) other in
              let was : at later u ≡ net edges s.value u = s.inside u (inr a) in
              let brings : brought e u v ≡ pos 0 = needed_away e joins.old new later links ne u v other (λ h. joins.is_new (subst (λ (i : ℕ). Among i reached) h a)) in
              omega (arith, ints, here, was, brings, nets_after u))
        ];
        outside = λ u a out. elim (cases_eq u new) [
          | inl same ↦ (
              let was : at later new ≡ net edges s.value new = s.inside new (inl refl) in
              let brings : brought e new v ≡ neg_ℤ (at later new) = needed_balances e joins.old new later links ne in
              let zero : net edges (put k v s.value) new ≡ pos 0 = omega (arith, ints, was, brings, nets_after new) in
              ap (λ (i : ℕ). net edges (put k v s.value) i) same ∙ zero)
          | inr other ↦ (
              let was : net edges s.value u ≡ pos 0 = s.outside u a (λ b. elim b [ inl h ↦ other h | inr c ↦ out c ]) in
              let brings : brought e u v ≡ pos 0 = needed_away e joins.old new later links ne u v (λ h. out (subst (λ (i : ℕ). Among i reached) (sym h) joins.is_reached)) other in
              omega (arith, ints, was, brings, nets_after u))
        ];
      }

pub settles : (edges : List Edge) (ends reached ks : List ℕ) (nets : List ℤ) (before : ℕ → ℤ) → EndsAreNodes edges (length nets) → JoinsAt edges ends reached ks → AreNets edges nets before → ((k : ℕ) → Among k ks → before k ≡ pos 0)
    → Settled edges ends reached ks (merge_all edges ends ks nets) before
settles edges ends reached [] nets before nodes j are none = record { value = before; tree = λ k a. absurd a; rest = λ k out. refl; inside = λ v a. are v; outside = λ v a out. absurd (out a) }
settles edges ends reached (k ∷ ks) nets before nodes j are none =
    let new : ℕ = slice_index ends k in
    let joins : Joins edges reached k new = j.0 in
    let later : List ℤ = merge_all edges ends ks nets in
    let old_in : joins.old < length later = subst (λ (n : ℕ). joins.old < n) (sym (length-merge edges ends ks nets)) (ends_within edges reached k new joins (length nets) nodes).1 in
    subst (λ (o : ℕ). Settled edges ends reached (k ∷ ks) (set later o (at later o +ℤ at later new)) before) (sym (other_at edges reached k new joins))
    (settled_one edges ends reached k ks later before joins j.1 old_in (none k (inl refl)) (settles edges ends (new ∷ reached) ks nets before nodes j.1 are (λ i a. none i (inr a))))
