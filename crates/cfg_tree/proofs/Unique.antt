-- There is one grown order, the computed one.
use Rattle.std.proofs.Common.{◌≡◌, ℕ, zero, suc, ◌+◌, ◌<◌, ◌≤◌, Bool, true, false, ◌⊎◌, inl, inr, List, [], ◌∷◌, length, Option, None, Some, slice_get, slice_index, set, replicate, refl, sym, ap, subst, ◌∙◌, arith, length-set, get_or-set_other, ltb-true, ltb-false}
use Rattle.std.specs.Prelude.{not, nat_lt, if◌then◌else◌}
use Rattle.std.proofs.lemmas.Bool.{cases_eq}
use Rattle.std.proofs.lemmas.List.{length-replicate}
use Rattle.std.proofs.lemmas.Option.{get_or_from_slice_get, none-some, same_Some, slice_get-get_or, slice_get_within}
use Rattle.ir_tree.specs.declared.edge.Edge.{Edge}
use Rattle.ir_tree.specs.Reach.{is_marked}
use Rattle.spanning_order.specs.Lists.{Among, among}
use Rattle.spanning_order.specs.Spanning.{Joins, edge_at}
use Rattle.cfg_tree.specs.Grown.{IsBest, IsGrown, best_of, better, goes_on, grown_order, joins_one, new_end}
use Rattle.cfg_tree.specs.Chains.{EndsAreBelow}
use Rattle.cfg_tree.specs.Walking.{unentered}
use Rattle.cfg_tree.specs.declared.chains.End.TheVariants.{Head, Tail}
use Rattle.cfg_tree.proofs.Counting.{among_no, among_yes, is_among}
use Rattle.cfg_tree.proofs.Stacks.{all_unentered, less_unentered, some_unentered}

-- ---- an edge joins a node where just one of its ends is reached

abbrev pub Heavier : List ℕ → ℕ → ℕ → Type 0
Heavier weights j k = (slice_index weights j < slice_index weights k) ⊎ ((slice_index weights j ≡ slice_index weights k) × (k ≤ j))

pub joins_test : (edges : List Edge) (reached : List ℕ) (k new : ℕ) → Joins edges reached k new → joins_one reached (edge_at edges k) ≡ true
joins_test edges reached k new j = subst (λ (e : Edge). joins_one reached e ≡ true) (sym (get_or_from_slice_get edges k j.edge _ j.stands)) (elim j.links [
  | inl h ↦ ap (λ (b : Bool). if b then not (among j.edge.to reached) else among j.edge.to reached) (among_yes j.edge.from reached (subst (λ (v : ℕ). Among v reached) (sym h.0) j.is_reached))
      ∙ ap (λ (b : Bool). not b) (among_no j.edge.to reached (λ a. j.is_new (subst (λ (v : ℕ). Among v reached) h.1 a)))
  | inr h ↦ ap (λ (b : Bool). if b then not (among j.edge.to reached) else among j.edge.to reached) (among_no j.edge.from reached (λ a. j.is_new (subst (λ (v : ℕ). Among v reached) h.0 a)))
      ∙ among_yes j.edge.to reached (subst (λ (v : ℕ). Among v reached) (sym h.1) j.is_reached)
])

pub joins_end : (edges : List Edge) (reached : List ℕ) (k new : ℕ) → Joins edges reached k new → new_end reached (edge_at edges k) ≡ new
joins_end edges reached k new j = subst (λ (e : Edge). new_end reached e ≡ new) (sym (get_or_from_slice_get edges k j.edge _ j.stands)) (elim j.links [
  | inl h ↦ ap (λ (b : Bool). if b then j.edge.to else j.edge.from) (among_yes j.edge.from reached (subst (λ (v : ℕ). Among v reached) (sym h.0) j.is_reached)) ∙ h.1
  | inr h ↦ ap (λ (b : Bool). if b then j.edge.to else j.edge.from) (among_no j.edge.from reached (λ a. j.is_new (subst (λ (v : ℕ). Among v reached) h.0 a))) ∙ h.0
])

not_true : (b : Bool) → not b ≡ true → b ≡ false
not_true true e = absurd (let c : false ≡ true = e in cc)
not_true false e = refl

not_among : (v : ℕ) (xs : List ℕ) → among v xs ≡ false → Among v xs → ⊥
not_among v xs e a = absurd (let c : true ≡ false = sym (among_yes v xs a) ∙ e in cc)

pub test_joins : (edges : List Edge) (reached : List ℕ) (k : ℕ) (e : Edge) → slice_get edges k ≡ Some e → joins_one reached e ≡ true → (new : ℕ) × Joins edges reached k new
test_joins edges reached k e at h = by (among e.from reached) refl h
  where
    by : (b : Bool) → among e.from reached ≡ b → (if b then not (among e.to reached) else among e.to reached) ≡ true → (new : ℕ) × Joins edges reached k new
    by true p q = (e.to, record { edge = e; stands = at; old = e.from; links = inl (refl, refl); is_reached = is_among e.from reached p; is_new = not_among e.to reached (not_true (among e.to reached) q) })
    by false p q = (e.from, record { edge = e; stands = at; old = e.to; links = inr (refl, refl); is_reached = is_among e.to reached q; is_new = not_among e.from reached p })

-- ---- the best edge

module _ (weights reached : List ℕ) where
  -- what the search finds among edges that begin with number j
  abbrev Found : ℕ → List Edge → Option ℕ → Type 0
  Found j es None = (i : ℕ) (e : Edge) → slice_get es i ≡ Some e → joins_one reached e ≡ false
  Found j es (Some k) = (i : ℕ) × (k ≡ j + i) × (e : Edge) × (slice_get es i ≡ Some e) × (joins_one reached e ≡ true) × ((n : ℕ) (d : Edge) → slice_get es n ≡ Some d → joins_one reached d ≡ true → Heavier weights (j + n) k)

  heavier_first : (j : ℕ) → Heavier weights (j + 0) j
  heavier_first j = inr (ap (λ (n : ℕ). slice_index weights n) (let z : j + 0 ≡ j = omega arith in z), omega arith)

  more : (j : ℕ) (e : Edge) (es : List Edge) (r : Option ℕ) → Found (j + 1) es r → joins_one reached e ≡ true → Found j (e ∷ es) (Some (better weights j r))
  more j e es None f h = (0, omega arith, e, refl, h, λ n d at g. first n d at g)
    where
      first : (n : ℕ) (d : Edge) → slice_get (e ∷ es) n ≡ Some d → joins_one reached d ≡ true → Heavier weights (j + n) j
      first zero d at g = heavier_first j
      first (suc n) d at g = absurd (let c : true ≡ false = sym g ∙ f n d at in cc)
  more j e es (Some k) f h = by (nat_lt (slice_index weights j) (slice_index weights k)) refl
    where
      same : (n : ℕ) → slice_index weights (j + 1 + n) ≡ slice_index weights (j + suc n)
      same n = ap (λ (m : ℕ). slice_index weights m) (let z : j + 1 + n ≡ j + suc n = omega arith in z)

      by : (b : Bool) → nat_lt (slice_index weights j) (slice_index weights k) ≡ b → Found j (e ∷ es) (Some (if b then k else j))
      by true p = (suc f.0, (let q = f.1 in omega (arith, q)), f.2, f.3, f.4, heavy)
        where
          heavy : (n : ℕ) (d : Edge) → slice_get (e ∷ es) n ≡ Some d → joins_one reached d ≡ true → Heavier weights (j + n) k
          heavy zero d at g = inl (let lt = ltb-true (slice_index weights j) (slice_index weights k) p in let z : slice_index weights (j + 0) ≡ slice_index weights j = ap (λ (m : ℕ). slice_index weights m) (let y : j + 0 ≡ j = omega arith in y) in omega (arith, lt, z))
          heavy (suc n) d at g = elim (f.5 n d at g) [
            | inl lt ↦ inl (let z = same n in omega (arith, lt, z))
            | inr t ↦ inr ((let z = same n in sym z ∙ t.0), (let le = t.1 in omega (arith, le)))
          ]
      by false p = (0, omega arith, e, refl, h, heavy)
        where
          heavy : (n : ℕ) (d : Edge) → slice_get (e ∷ es) n ≡ Some d → joins_one reached d ≡ true → Heavier weights (j + n) j
          heavy zero d at g = heavier_first j
          heavy (suc n) d at g =
              let le = ltb-false (slice_index weights j) (slice_index weights k) p in
              let z = same n in
              elim (f.5 n d at g) [
                | inl lt ↦ weigh (slice_index weights (j + suc n)) (slice_index weights j) n (omega (arith, lt, le, z))
                | inr t ↦ weigh (slice_index weights (j + suc n)) (slice_index weights j) n (let q = t.0 in omega (arith, q, le, z))
              ]
            where
              weigh : (a b n : ℕ) → a ≤ b → (a < b) ⊎ ((a ≡ b) × (j ≤ j + suc n))
              weigh a b n le = elim (cases_eq a b) [ inl e ↦ inr (e, omega arith) | inr ne ↦ inl (grind (arith, le, ne)) ]

  past : (j : ℕ) (e : Edge) (es : List Edge) (r : Option ℕ) → Found (j + 1) es r → joins_one reached e ≡ false → Found j (e ∷ es) r
  past j e es None f h = none
    where
      none : (i : ℕ) (d : Edge) → slice_get (e ∷ es) i ≡ Some d → joins_one reached d ≡ false
      none zero d at = subst (λ (x : Edge). joins_one reached x ≡ false) (same_Some e d at) h
      none (suc i) d at = f i d at
  past j e es (Some k) f h = (suc f.0, (let q = f.1 in omega (arith, q)), f.2, f.3, f.4, heavy)
    where
      heavy : (n : ℕ) (d : Edge) → slice_get (e ∷ es) n ≡ Some d → joins_one reached d ≡ true → Heavier weights (j + n) k
      heavy zero d at g = absurd (let c : true ≡ false = sym g ∙ subst (λ (x : Edge). joins_one reached x ≡ false) (same_Some e d at) h in cc)
      heavy (suc n) d at g = subst (λ (m : ℕ). Heavier weights m k) (let z : j + 1 + n ≡ j + suc n = omega arith in z) (f.5 n d at g)

  finds : (j : ℕ) (es : List Edge) → Found j es (best_of weights reached j es)
  finds j [] = λ i e at. absurd (none-some e at)
  finds j (e ∷ es) = by (joins_one reached e) refl (finds (j + 1) es)
    where
      by : (b : Bool) → joins_one reached e ≡ b → Found (j + 1) es (best_of weights reached (j + 1) es) → Found j (e ∷ es) (if b then Some (better weights j (best_of weights reached (j + 1) es)) else best_of weights reached (j + 1) es)
      by true h f = more j e es (best_of weights reached (j + 1) es) f h
      by false h f = past j e es (best_of weights reached (j + 1) es) f h

  at_zero : (n : ℕ) → 0 + n ≡ n
  at_zero n = omega arith

  module _ (edges : List Edge) where
    pub none_best : ((k new : ℕ) → Joins edges reached k new → ⊥) → best_of weights reached 0 edges ≡ None
    none_best none = by (best_of weights reached 0 edges) refl (finds 0 edges)
      where
        by : (r : Option ℕ) → best_of weights reached 0 edges ≡ r → Found 0 edges r → r ≡ None
        by None e f = refl
        by (Some k) e f = absurd (let t = test_joins edges reached f.0 f.2 f.3 f.4 in none f.0 t.0 t.1)

    pub is_best : (k new : ℕ) → IsBest edges weights reached k new → best_of weights reached 0 edges ≡ Some k
    is_best k new b = by (best_of weights reached 0 edges) refl (finds 0 edges)
      where
        here : slice_get edges k ≡ Some (edge_at edges k)
        here = slice_get-get_or edges k _ (slice_get_within edges k b.joins.edge b.joins.stands)

        by : (r : Option ℕ) → best_of weights reached 0 edges ≡ r → Found 0 edges r → r ≡ Some k
        by None e f = absurd (let c : true ≡ false = sym (joins_test edges reached k new b.joins) ∙ f k (edge_at edges k) here in cc)
        by (Some j) e f =
            let t = test_joins edges reached f.0 f.2 f.3 f.4 in
            let j_is : j ≡ f.0 = f.1 ∙ at_zero f.0 in
            let one : Heavier weights j k = subst (λ (m : ℕ). Heavier weights m k) (sym j_is) (b.best f.0 t.0 t.1) in
            let two : Heavier weights k j = subst (λ (m : ℕ). Heavier weights m j) (at_zero k) (f.5 k (edge_at edges k) here (joins_test edges reached k new b.joins)) in
            ap (λ (m : ℕ). Some m) (equal (slice_index weights j) (slice_index weights k) one two)
          where
            equal : (a c : ℕ) → (a < c) ⊎ ((a ≡ c) × (k ≤ j)) → (c < a) ⊎ ((c ≡ a) × (j ≤ k)) → j ≡ k
            equal a c (inl p) (inl q) = absurd (omega arith)
            equal a c (inl p) (inr q) = absurd (let z = q.0 in omega (arith, z))
            equal a c (inr p) (inl q) = absurd (let z = p.0 in omega (arith, z))
            equal a c (inr p) (inr q) = (let x = p.1 in let y = q.1 in omega (arith, x, y))

    pub none_joins : best_of weights reached 0 edges ≡ None → (k new : ℕ) → Joins edges reached k new → ⊥
    none_joins none k new j =
        let f : Found 0 edges None = subst (λ (r : Option ℕ). Found 0 edges r) none (finds 0 edges) in
        let c : true ≡ false = sym (joins_test edges reached k new j) ∙ f k (edge_at edges k) (slice_get-get_or edges k _ (slice_get_within edges k j.edge j.stands)) in
        cc

    pub best_is : (k : ℕ) → best_of weights reached 0 edges ≡ Some k → IsBest edges weights reached k (new_end reached (edge_at edges k))
    best_is k some =
        let f : Found 0 edges (Some k) = subst (λ (r : Option ℕ). Found 0 edges r) some (finds 0 edges) in
        let t = test_joins edges reached f.0 f.2 f.3 f.4 in
        let k_is : k ≡ f.0 = f.1 ∙ at_zero f.0 in
        let joins : Joins edges reached k t.0 = subst (λ (n : ℕ). Joins edges reached n t.0) (sym k_is) t.1 in
        record {
          joins = subst (λ (v : ℕ). Joins edges reached k v) (sym (joins_end edges reached k t.0 joins)) joins;
          best = λ j n js. subst (λ (m : ℕ). Heavier weights m k) (at_zero j) (f.5 j (edge_at edges j) (slice_get-get_or edges j _ (slice_get_within edges j js.edge js.stands)) (joins_test edges reached j n js));
        }

-- ---- the order

pub is_order : (edges : List Edge) (weights reached ks : List ℕ) (n : ℕ) → IsGrown edges weights reached ks → length ks ≤ n → ks ≡ grown_order n edges weights reached
unfolding grown_order
is_order edges weights reached [] zero g le = refl
is_order edges weights reached [] (suc n) g le = sym (ap (λ (r : Option ℕ). goes_on (λ k. k ∷ grown_order n edges weights (new_end reached (edge_at edges k) ∷ reached)) r) (none_best weights reached edges g))
is_order edges weights reached (k ∷ ks) zero g le = absurd (omega arith)
is_order edges weights reached (k ∷ ks) (suc n) g le =
    let best = ap (λ (r : Option ℕ). goes_on (λ k. k ∷ grown_order n edges weights (new_end reached (edge_at edges k) ∷ reached)) r) (is_best weights reached edges k g.0 g.1) in
    let later = is_order edges weights (g.0 ∷ reached) ks n g.2 (omega arith) in
    let same = ap (λ (v : ℕ). grown_order n edges weights (v ∷ reached)) (joins_end edges reached k g.0 g.1.joins) in
    ap (λ (xs : List ℕ). k ∷ xs) (later ∙ sym same) ∙ sym best

-- a node that the order may join, where the marks are those of the reached nodes
module _ (edges : List Edge) (n : ℕ) (reached : List ℕ) (marks : List Bool) (tails : EndsAreBelow Tail edges n) (heads : EndsAreBelow Head edges n) (size : length marks ≡ n) (marked : (v : ℕ) → is_marked marks v ≡ true → Among v reached) where
  joins_node : (k v : ℕ) → Joins edges reached k v → v < length marks
  joins_node k v j = subst (λ (m : ℕ). v < m) (sym size) (elim j.links [ inl h ↦ subst (λ (u : ℕ). u < n) h.1 (heads k j.edge j.stands) | inr h ↦ subst (λ (u : ℕ). u < n) h.0 (tails k j.edge j.stands) ])

  joins_bare : (k v : ℕ) → Joins edges reached k v → is_marked marks v ≡ false
  joins_bare k v j = by (is_marked marks v) refl
    where
      by : (b : Bool) → is_marked marks v ≡ b → b ≡ false
      by true e = absurd (j.is_new (marked v e))
      by false e = refl

  marked_then : (v u : ℕ) → is_marked (set marks v true) u ≡ true → Among u (v ∷ reached)
  marked_then v u h = elim (cases_eq u v) [ inl e ↦ inl e | inr ne ↦ inr (marked u (sym (get_or-set_other marks v u true false ne) ∙ h)) ]

-- it joins a node without a mark each time, so it is no longer than there are such nodes
short : (edges : List Edge) (weights : List ℕ) (n : ℕ) (reached : List ℕ) (marks : List Bool) (ks : List ℕ) → EndsAreBelow Tail edges n → EndsAreBelow Head edges n → length marks ≡ n → ((v : ℕ) → is_marked marks v ≡ true → Among v reached) → IsGrown edges weights reached ks → length ks ≤ unentered marks
short edges weights n reached marks [] tails heads size marked g = omega arith
short edges weights n reached marks (k ∷ ks) tails heads size marked g =
    let later = short edges weights n (g.0 ∷ reached) (set marks g.0 true) ks tails heads (length-set marks g.0 true ∙ size) (marked_then edges n reached marks tails heads size marked g.0) g.2 in
    let one = less_unentered marks g.0 (joins_node edges n reached marks tails heads size marked k g.0 g.1.joins) (joins_bare edges n reached marks tails heads size marked k g.0 g.1.joins) in
    omega (arith, later, one)

-- the computed order is grown
grown_is : (edges : List Edge) (weights : List ℕ) (n m : ℕ) (reached : List ℕ) (marks : List Bool) → EndsAreBelow Tail edges n → EndsAreBelow Head edges n → length marks ≡ n → ((v : ℕ) → is_marked marks v ≡ true → Among v reached) → unentered marks ≤ m
    → IsGrown edges weights reached (grown_order m edges weights reached)
unfolding grown_order
grown_is edges weights n zero reached marks tails heads size marked few =
    λ k v j. let some = some_unentered marks v (joins_node edges n reached marks tails heads size marked k v j) (joins_bare edges n reached marks tails heads size marked k v j) in omega (arith, some, few)
grown_is edges weights n (suc m) reached marks tails heads size marked few =
    by (best_of weights reached 0 edges) refl
    (λ v less. grown_is edges weights n m (v ∷ reached) (set marks v true) tails heads (length-set marks v true ∙ size) (marked_then edges n reached marks tails heads size marked v) less)
  where
    by : (r : Option ℕ) → best_of weights reached 0 edges ≡ r → ((v : ℕ) → unentered (set marks v true) ≤ m → IsGrown edges weights (v ∷ reached) (grown_order m edges weights (v ∷ reached)))
        → IsGrown edges weights reached (goes_on (λ k. k ∷ grown_order m edges weights (new_end reached (edge_at edges k) ∷ reached)) r)
    by None e later = none_joins weights reached edges e
    by (Some k) e later =
        let best = best_is weights reached edges k e in
        let one = less_unentered marks (new_end reached (edge_at edges k)) (joins_node edges n reached marks tails heads size marked k (new_end reached (edge_at edges k)) best.joins) (joins_bare edges n reached marks tails heads size marked k (new_end reached (edge_at edges k)) best.joins) in
        (new_end reached (edge_at edges k), best, later (new_end reached (edge_at edges k)) (omega (arith, one, few)))

-- node 0 alone is marked
module _ (n : ℕ) (some : 0 < n) where
  first_size : length (set (replicate n false) 0 true) ≡ n
  first_size = length-set (replicate n false) 0 true ∙ length-replicate n false

  falses : (m v : ℕ) → is_marked (replicate m false) v ≡ false
  falses zero v = refl
  falses (suc m) zero = refl
  falses (suc m) (suc v) = falses m v

  first_marked : (v : ℕ) → is_marked (set (replicate n false) 0 true) v ≡ true → Among v (0 ∷ [])
  first_marked v h = elim (cases_eq v 0) [ inl e ↦ inl e | inr ne ↦ absurd (let c : true ≡ false = sym h ∙ get_or-set_other (replicate n false) 0 v true false ne ∙ falses n v in cc) ]

  first_few : unentered (set (replicate n false) 0 true) ≤ n
  first_few =
      let one = less_unentered (replicate n false) 0 (let l = length-replicate n false in omega (arith, l)) (falses n 0) in
      let all = all_unentered n in
      omega (arith, one, all)

pub first_unreached : (n : ℕ) (marks : List Bool) → 0 < n → marks ≡ set (replicate n false) 0 true → 1 + unentered marks ≡ length marks
first_unreached n marks some is = subst (λ (bs : List Bool). 1 + unentered bs ≡ length bs) (sym is)
    (let one = less_unentered (replicate n false) 0 (let l = length-replicate n false in omega (arith, l)) (falses n some n 0) in
    let all = all_unentered n in
    let size = first_size n some in
    omega (arith, one, all, size))

pub order_grows : (edges : List Edge) (weights : List ℕ) (n : ℕ) → 0 < n → EndsAreBelow Tail edges n → EndsAreBelow Head edges n → IsGrown edges weights (0 ∷ []) (grown_order n edges weights (0 ∷ []))
order_grows edges weights n some tails heads = grown_is edges weights n n (0 ∷ []) (set (replicate n false) 0 true) tails heads (first_size n some) (first_marked n some) (first_few n some)

pub one_order : (edges : List Edge) (weights : List ℕ) (n : ℕ) (order : List ℕ) → 0 < n → EndsAreBelow Tail edges n → EndsAreBelow Head edges n → IsGrown edges weights (0 ∷ []) order → order ≡ grown_order n edges weights (0 ∷ [])
one_order edges weights n order some tails heads g =
    is_order edges weights (0 ∷ []) order n g
    (let s = short edges weights n (0 ∷ []) (set (replicate n false) 0 true) order tails heads (first_size n some) (first_marked n some) g in let u = first_few n some in omega (arith, s, u))
