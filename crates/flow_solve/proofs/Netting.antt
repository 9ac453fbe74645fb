-- What edges bring to a node when one of them gets another value, and to all nodes together.
use Rattle.std.proofs.Common.{◌≡◌, ◌≢◌, ℕ, zero, suc, ◌+◌, ◌<◌, ◌==◌, Bool, cond, true, false, inl, inr, List, [], ◌∷◌, Some, slice_get, slice_index_or, ℤ, pos, neg_ℤ, ◌+ℤ◌, ◌-ℤ◌, refl, sym, ap, subst, ◌∙◌, arith}
use Rattle.std.proofs.lemmas.Bool.{cases_eq, eq-eqb, ne_eqb, cond-true, cond-false}
use Rattle.std.proofs.lemmas.Int.{ints}
use Rattle.std.proofs.lemmas.Option.{none-some, same_Some}
use Rattle.ir_tree.specs.declared.edge.Edge.{Edge}
use Rattle.ir_tree.specs.Flows.{brought, net_from, net}
use Rattle.spanning_order.specs.Spanning.{Links, EndsAreNodes}
use Rattle.flow_solve.specs.Nets.{needed}

-- ---- one value more

-- the value a at k, and the others as before
abbrev pub put : ℕ → ℤ → (ℕ → ℤ) → ℕ → ℤ
put k a x j = cond (j == k) a (x j)

pub put_there : (k : ℕ) (a : ℤ) (x : ℕ → ℤ) (j : ℕ) → j ≡ k → put k a x j ≡ a
put_there k a x j e = cond-true (j == k) a (x j) (eq-eqb j k e)

pub put_other : (k : ℕ) (a : ℤ) (x : ℕ → ℤ) (j : ℕ) → j ≢ k → put k a x j ≡ x j
put_other k a x j ne = cond-false (j == k) a (x j) (ne_eqb j k ne)

-- ---- one edge

pub brought-zero : (e : Edge) (v : ℕ) → brought e v (pos 0) ≡ pos 0
brought-zero e v = elim (e.to == v) as (λ p. cond p (pos 0) (pos 0) -ℤ cond (e.from == v) (pos 0) (pos 0) ≡ pos 0) [
  | true ↦ elim (e.from == v) as (λ q. pos 0 -ℤ cond q (pos 0) (pos 0) ≡ pos 0) [ true ↦ refl | false ↦ refl ]
  | false ↦ elim (e.from == v) as (λ q. pos 0 -ℤ cond q (pos 0) (pos 0) ≡ pos 0) [ true ↦ refl | false ↦ refl ]
]

pub brought_is : (e : Edge) (v : ℕ) (z : ℤ) (p q : Bool) → (e.to == v) ≡ p → (e.from == v) ≡ q → brought e v z ≡ cond p z (pos 0) -ℤ cond q z (pos 0)
brought_is e v z p q h k = ap (λ b. cond b z (pos 0) -ℤ cond (e.from == v) z (pos 0)) h ∙ ap (λ b. cond p z (pos 0) -ℤ cond b z (pos 0)) k

-- an edge brings nothing to a node that is none of its ends
pub brought_away : (e : Edge) (v : ℕ) (z : ℤ) → v ≢ e.from → v ≢ e.to → brought e v z ≡ pos 0
brought_away e v z from to = brought_is e v z false false (ne_eqb e.to v (λ h. to (sym h))) (ne_eqb e.from v (λ h. from (sym h)))

module _ (e : Edge) (old new : ℕ) (z : ℤ) (apart : old ≢ new) where
  pub brought_to : e.from ≡ old → e.to ≡ new → (brought e new z ≡ z) × (brought e old z ≡ neg_ℤ z)
  brought_to from to =
      let a : brought e new z ≡ z -ℤ pos 0 = brought_is e new z true false (eq-eqb e.to new to) (ne_eqb e.from new (λ h. apart (sym from ∙ h))) in
      let b : brought e old z ≡ pos 0 -ℤ z = brought_is e old z false true (ne_eqb e.to old (λ h. apart (sym h ∙ to))) (eq-eqb e.from old from) in
      (omega (arith, ints, a), omega (arith, ints, b))

-- the value that an edge needs balances its end, and hands the end's net on to the other
module _ (e : Edge) (old new : ℕ) (nets : List ℤ) (links : Links e old new) (apart : old ≢ new) where
  pub needed_balances : brought e new (needed e new nets) ≡ neg_ℤ (slice_index_or nets new (pos 0))
  needed_balances = elim links [
    | inl h ↦ ap (λ z. brought e new z) (cond-true (e.to == new) (neg_ℤ (slice_index_or nets new (pos 0))) (slice_index_or nets new (pos 0)) (eq-eqb e.to new h.1)) ∙ (brought_to e old new (neg_ℤ (slice_index_or nets new (pos 0))) apart h.0 h.1).0
    | inr h ↦ ap (λ z. brought e new z) (cond-false (e.to == new) (neg_ℤ (slice_index_or nets new (pos 0))) (slice_index_or nets new (pos 0)) (ne_eqb e.to new (λ k. apart (sym h.1 ∙ k))))
        ∙ (brought_to e new old (slice_index_or nets new (pos 0)) (λ k. apart (sym k)) h.0 h.1).1
  ]

  pub needed_hands_on : brought e old (needed e new nets) ≡ slice_index_or nets new (pos 0)
  needed_hands_on = elim links [
    | inl h ↦ ap (λ z. brought e old z) (cond-true (e.to == new) (neg_ℤ (slice_index_or nets new (pos 0))) (slice_index_or nets new (pos 0)) (eq-eqb e.to new h.1))
        ∙ (let b = (brought_to e old new (neg_ℤ (slice_index_or nets new (pos 0))) apart h.0 h.1).1 in omega (arith, ints, b))
    | inr h ↦ ap (λ z. brought e old z) (cond-false (e.to == new) (neg_ℤ (slice_index_or nets new (pos 0))) (slice_index_or nets new (pos 0)) (ne_eqb e.to new (λ k. apart (sym h.1 ∙ k))))
        ∙ (brought_to e new old (slice_index_or nets new (pos 0)) (λ k. apart (sym k)) h.0 h.1).0
  ]

  pub needed_away : (v : ℕ) (z : ℤ) → v ≢ old → v ≢ new → brought e v z ≡ pos 0
  needed_away v z far near = elim links [
    | inl h ↦ brought_away e v z (λ k. far (k ∙ h.0)) (λ k. near (k ∙ h.1))
    | inr h ↦ brought_away e v z (λ k. near (k ∙ h.0)) (λ k. far (k ∙ h.1))
  ]

-- a value along the edge tells what it brings to one end
pub same_value : (e : Edge) (old new : ℕ) (y z : ℤ) → Links e old new → old ≢ new → brought e new y ≡ brought e new z → y ≡ z
same_value e old new y z (inl h) apart same =
    let a = (brought_to e old new y apart h.0 h.1).0 in let b = (brought_to e old new z apart h.0 h.1).0 in sym a ∙ same ∙ b
same_value e old new y z (inr h) apart same =
    let a = (brought_to e new old y (λ k. apart (sym k)) h.0 h.1).1 in let b = (brought_to e new old z (λ k. apart (sym k)) h.0 h.1).1 in omega (arith, ints, a, b, same)

-- ---- all edges

net-same : (n : ℕ) (es : List Edge) (x y : ℕ → ℤ) (v : ℕ) → ((i : ℕ) (e : Edge) → slice_get es i ≡ Some e → brought e v (x (n + i)) ≡ brought e v (y (n + i))) → net_from n es x v ≡ net_from n es y v
net-same n [] x y v agree = refl
net-same n (e ∷ es) x y v agree =
    let zero_off : n + 0 ≡ n = omega arith in
    let here : brought e v (x n) ≡ brought e v (y n) = subst (λ (j : ℕ). brought e v (x j) ≡ brought e v (y j)) zero_off (agree zero e refl) in
    let rest : net_from (n + 1) es x v ≡ net_from (n + 1) es y v = net-same (n + 1) es x y v (λ i f h. let s : n + suc i ≡ (n + 1) + i = omega arith in subst (λ (j : ℕ). brought f v (x j) ≡ brought f v (y j)) s (agree (suc i) f h)) in
    ap (λ z. z +ℤ net_from (n + 1) es x v) here ∙ ap (λ z. brought e v (y n) +ℤ z) rest

regroup : (b c r : ℤ) → b +ℤ r ≡ (c +ℤ r) +ℤ (b -ℤ c)
regroup b c r = omega (arith, ints)

shift : (h r d : ℤ) → h +ℤ (r +ℤ d) ≡ (h +ℤ r) +ℤ d
shift h r d = omega (arith, ints)

net-put : (n : ℕ) (es : List Edge) (i : ℕ) (e : Edge) (a : ℤ) (x : ℕ → ℤ) (v : ℕ) → slice_get es i ≡ Some e → net_from n es (put (n + i) a x) v ≡ net_from n es x v +ℤ (brought e v a -ℤ brought e v (x (n + i)))
net-put n [] i e a x v h = absurd (none-some e h)
net-put n (f ∷ es) zero e a x v h =
    let same : f ≡ e = same_Some f e h in
    let zero_off : n + 0 ≡ n = omega arith in
    let here : put (n + 0) a x n ≡ a = put_there (n + 0) a x n (sym zero_off) in
    let rest : net_from (n + 1) es (put (n + 0) a x) v ≡ net_from (n + 1) es x v = net-same (n + 1) es (put (n + 0) a x) x v (λ i g k. let ne : (n + 1) + i ≢ n + 0 = omega arith in ap (λ z. brought g v z) (put_other (n + 0) a x ((n + 1) + i) ne)) in
    ap (λ z. brought f v z +ℤ net_from (n + 1) es (put (n + 0) a x) v) here ∙ ap (λ z. brought f v a +ℤ z) rest ∙ regroup (brought f v a) (brought f v (x n)) (net_from (n + 1) es x v)
    ∙ ap (λ j. net_from n (f ∷ es) x v +ℤ (brought f v a -ℤ brought f v (x j))) (sym zero_off) ∙ ap (λ g. net_from n (f ∷ es) x v +ℤ (brought g v a -ℤ brought g v (x (n + 0)))) same
net-put n (f ∷ es) (suc i) e a x v h =
    let moved : n + suc i ≡ (n + 1) + i = omega arith in
    let ne : n ≢ n + suc i = omega arith in
    let here : put (n + suc i) a x n ≡ x n = put_other (n + suc i) a x n ne in
    let rest : net_from (n + 1) es (put ((n + 1) + i) a x) v ≡ net_from (n + 1) es x v +ℤ (brought e v a -ℤ brought e v (x ((n + 1) + i))) = net-put (n + 1) es i e a x v h in
    let rest' : net_from (n + 1) es (put (n + suc i) a x) v ≡ net_from (n + 1) es x v +ℤ (brought e v a -ℤ brought e v (x (n + suc i))) =
    subst (λ (j : ℕ). net_from (n + 1) es (put j a x) v ≡ net_from (n + 1) es x v +ℤ (brought e v a -ℤ brought e v (x j))) (sym moved) rest in
    ap (λ z. brought f v z +ℤ net_from (n + 1) es (put (n + suc i) a x) v) here ∙ ap (λ z. brought f v (x n) +ℤ z) rest' ∙ shift (brought f v (x n)) (net_from (n + 1) es x v) (brought e v a -ℤ brought e v (x (n + suc i)))

zero_plus : (k : ℕ) → 0 + k ≡ k
zero_plus k = omega arith

module _ (edges : List Edge) (k : ℕ) (e : Edge) (stands : slice_get edges k ≡ Some e) where
  pub net_after : (a : ℤ) (x : ℕ → ℤ) (v : ℕ) → net edges (put k a x) v ≡ net edges x v +ℤ (brought e v a -ℤ brought e v (x k))
  net_after a x v = subst (λ (j : ℕ). net edges (put j a x) v ≡ net edges x v +ℤ (brought e v a -ℤ brought e v (x j))) (zero_plus k) (net-put 0 edges k e a x v stands)

  -- where it had no value before
  pub net_first : (a : ℤ) (x : ℕ → ℤ) (v : ℕ) → x k ≡ pos 0 → net edges (put k a x) v ≡ net edges x v +ℤ brought e v a
  net_first a x v none = let n = net_after a x v in let z : brought e v (x k) ≡ pos 0 = ap (λ u. brought e v u) none ∙ brought-zero e v in omega (arith, ints, n, z)

pub net_agree : (edges : List Edge) (x y : ℕ → ℤ) (v : ℕ) → ((k : ℕ) (e : Edge) → slice_get edges k ≡ Some e → brought e v (x k) ≡ brought e v (y k)) → net edges x v ≡ net edges y v
net_agree edges x y v agree = net-same 0 edges x y v (λ i e h. subst (λ (j : ℕ). brought e v (x j) ≡ brought e v (y j)) (sym (zero_plus i)) (agree i e h))

net_from-none : (n : ℕ) (es : List Edge) (x : ℕ → ℤ) (v : ℕ) → ((i : ℕ) (e : Edge) → slice_get es i ≡ Some e → brought e v (x (n + i)) ≡ pos 0) → net_from n es x v ≡ pos 0
net_from-none n [] x v none = refl
net_from-none n (e ∷ es) x v none =
    let zero_off : n + 0 ≡ n = omega arith in
    let here : brought e v (x n) ≡ pos 0 = subst (λ (j : ℕ). brought e v (x j) ≡ pos 0) zero_off (none zero e refl) in
    let rest : net_from (n + 1) es x v ≡ pos 0 = net_from-none (n + 1) es x v (λ i f h. let s : n + suc i ≡ (n + 1) + i = omega arith in subst (λ (j : ℕ). brought f v (x j) ≡ pos 0) s (none (suc i) f h)) in
    omega (arith, ints, here, rest)

-- nothing comes to a node where no edge brings anything
pub net_none : (edges : List Edge) (x : ℕ → ℤ) (v : ℕ) → ((k : ℕ) (e : Edge) → slice_get edges k ≡ Some e → brought e v (x k) ≡ pos 0) → net edges x v ≡ pos 0
net_none edges x v none = net_from-none 0 edges x v (λ i e h. subst (λ (j : ℕ). brought e v (x j) ≡ pos 0) (sym (zero_plus i)) (none i e h))

-- ---- all nodes

node_sum : ℕ → (ℕ → ℤ) → ℤ
node_sum zero f = pos 0
node_sum (suc n) f = node_sum n f +ℤ f n

node_sum-add : (n : ℕ) (f g : ℕ → ℤ) → node_sum n (λ v. f v +ℤ g v) ≡ node_sum n f +ℤ node_sum n g
unfolding node_sum
node_sum-add zero f g = refl
node_sum-add (suc n) f g = let h = node_sum-add n f g in omega (arith, ints, h)

node_sum-sub : (n : ℕ) (f g : ℕ → ℤ) → node_sum n (λ v. f v -ℤ g v) ≡ node_sum n f -ℤ node_sum n g
unfolding node_sum
node_sum-sub zero f g = refl
node_sum-sub (suc n) f g = let h = node_sum-sub n f g in omega (arith, ints, h)

node_sum-none : (n : ℕ) (f : ℕ → ℤ) → ((v : ℕ) → v < n → f v ≡ pos 0) → node_sum n f ≡ pos 0
unfolding node_sum
node_sum-none zero f none = refl
node_sum-none (suc n) f none = let h = node_sum-none n f (λ v lt. none v (omega arith)) in let here : f n ≡ pos 0 = none n (omega arith) in omega (arith, ints, h, here)

node_sum-one : (n a : ℕ) (z : ℤ) → a < n → node_sum n (λ v. cond (a == v) z (pos 0)) ≡ z
unfolding node_sum
node_sum-one zero a z lt = absurd (omega arith)
node_sum-one (suc n) a z lt = elim (cases_eq a n) [
  | inl e ↦ (
      let before : node_sum n (λ v. cond (a == v) z (pos 0)) ≡ pos 0 = node_sum-none n (λ v. cond (a == v) z (pos 0)) (λ v lt. cond-false (a == v) z (pos 0) (ne_eqb a v (omega arith))) in
      let here : cond (a == n) z (pos 0) ≡ z = cond-true (a == n) z (pos 0) (eq-eqb a n e) in
      omega (arith, ints, before, here))
  | inr ne ↦ (
      let before : node_sum n (λ v. cond (a == v) z (pos 0)) ≡ z = node_sum-one n a z (omega arith) in
      let here : cond (a == n) z (pos 0) ≡ pos 0 = cond-false (a == n) z (pos 0) (ne_eqb a n ne) in
      omega (arith, ints, before, here))
]

brought-sum : (n : ℕ) (e : Edge) (z : ℤ) → e.from < n → e.to < n → node_sum n (λ v. brought e v z) ≡ pos 0
brought-sum n e z from to =
    let s = node_sum-sub n (λ v. cond (e.to == v) z (pos 0)) (λ v. cond (e.from == v) z (pos 0)) in
    let a = node_sum-one n e.to z to in
    let b = node_sum-one n e.from z from in
    omega (arith, ints, s, a, b)

net_from-sum : (n k : ℕ) (es : List Edge) (x : ℕ → ℤ) → EndsAreNodes es n → node_sum n (λ v. net_from k es x v) ≡ pos 0
net_from-sum n k [] x nodes = node_sum-none n (λ v. pos 0) (λ v lt. refl)
net_from-sum n k (e ∷ es) x nodes =
    let s = node_sum-add n (λ v. brought e v (x k)) (λ v. net_from (k + 1) es x v) in
    let w = nodes zero e refl in
    let a = brought-sum n e (x k) w.0 w.1 in
    let b = net_from-sum n (k + 1) es x (λ i f h. nodes (suc i) f h) in
    omega (arith, ints, s, a, b)

node_sum-first : (n : ℕ) (f : ℕ → ℤ) → 0 < n → ((v : ℕ) → v < n → v ≢ 0 → f v ≡ pos 0) → node_sum n f ≡ f 0
unfolding node_sum
node_sum-first zero f some none = absurd (omega arith)
node_sum-first (suc zero) f some none = omega (arith, ints)
node_sum-first (suc (suc n)) f some none =
    let h = node_sum-first (suc n) f (omega arith) (λ v lt ne. none v (omega arith) ne) in
    let here : f (suc n) ≡ pos 0 = none (suc n) (omega arith) (omega arith) in
    omega (arith, ints, h, here)

-- where all other nodes are in balance, so is node 0
pub node_zero_balances : (edges : List Edge) (n : ℕ) (x : ℕ → ℤ) → EndsAreNodes edges n → 0 < n → ((v : ℕ) → v < n → v ≢ 0 → net edges x v ≡ pos 0) → net edges x 0 ≡ pos 0
node_zero_balances edges n x nodes some others = sym (node_sum-first n (λ v. net edges x v) some others) ∙ net_from-sum n 0 edges x nodes
