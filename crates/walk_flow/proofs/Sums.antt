-- Sums over edges, and when they make a flow.
use Rattle.std.proofs.Common.{◌≡◌, ℕ, zero, suc, ◌+◌, ◌==◌, ◌⊎◌, inl, inr, Bool, true, false, cond, List, [], ◌∷◌, Some, sum_by, refl, sym, ◌∙◌, ap, arith}
use Rattle.std.specs.Prelude.{ℤ, pos, ◌+ℤ◌, ◌-ℤ◌, slice_get}
use Rattle.std.proofs.lemmas.Int.{ints}
use Rattle.std.proofs.lemmas.List.Sums.{sum_by-cons}
use Rattle.std.proofs.lemmas.Option.{none-some, same_Some}
use Rattle.ir_tree.specs.Flows.{brought, net_from, IsFlow}
use Rattle.ir_tree.specs.declared.edge.Edge.{Edge}

-- a number where the test passes
abbrev pub kept : (Edge → Bool) → (Edge → ℕ) → Edge → ℕ
kept test h e = cond (test e) (h e) 0

pub none_add_up : (h : Edge → ℕ) (es : List Edge) → ((j : ℕ) (e : Edge) → slice_get es j ≡ Some e → h e ≡ 0) → sum_by h es ≡ 0
none_add_up h [] none = refl
none_add_up h (e ∷ es) none = omega (arith, sum_by-cons h e es, none 0 e refl, none_add_up h es (λ j x at. none (suc j) x at))

-- one edge alone has a number above 0
pub one_adds_up : (h : Edge → ℕ) (es : List Edge) (i : ℕ) (d : Edge) → slice_get es i ≡ Some d → ((j : ℕ) (e : Edge) → slice_get es j ≡ Some e → (j ≡ i) ⊎ (h e ≡ 0)) → sum_by h es ≡ h d
one_adds_up h [] i d at other = absurd (none-some d at)
one_adds_up h (e ∷ es) zero d at other =
    omega (arith, sum_by-cons h e es, ap h (same_Some e d at), none_add_up h es (λ j x here. elim (other (suc j) x here) [ inl same ↦ absurd (never j same) | inr none ↦ none ]))
  where
    never : (j : ℕ) → suc j ≡ 0 → ⊥
    never j h = omega (arith, h)
one_adds_up h (e ∷ es) (suc i) d at other =
    omega (arith, sum_by-cons h e es, first (other 0 e refl), one_adds_up h es i d at (λ j x here. elim (other (suc j) x here) [ inl same ↦ inl (before j same) | inr none ↦ inr none ]))
  where
    first : (0 ≡ suc i) ⊎ (h e ≡ 0) → h e ≡ 0
    first (inl same) = absurd (omega (arith, same))
    first (inr none) = none

    before : (j : ℕ) → suc j ≡ suc i → j ≡ i
    before j same = omega (arith, same)

pub sums_add : (one two both : Edge → ℕ) (es : List Edge) → ((e : Edge) → both e ≡ one e + two e) → sum_by both es ≡ sum_by one es + sum_by two es
sums_add one two both [] add = refl
sums_add one two both (e ∷ es) add = omega (arith, sum_by-cons both e es, sum_by-cons one e es, sum_by-cons two e es, add e, sums_add one two both es add)

pub kept_add : (test : Edge → Bool) (one two both : Edge → ℕ) (es : List Edge) → ((e : Edge) → both e ≡ one e + two e) → sum_by (kept test both) es ≡ sum_by (kept test one) es + sum_by (kept test two) es
kept_add test one two both es add = sums_add (kept test one) (kept test two) (kept test both) es (λ e. by (test e) e (add e))
  where
    by : (b : Bool) (e : Edge) → both e ≡ one e + two e → cond b (both e) 0 ≡ cond b (one e) 0 + cond b (two e) 0
    by true e h = h
    by false e h = refl

abbrev pub enters : ℕ → Edge → Bool
enters v e = e.to == v

abbrev pub leaves : ℕ → Edge → Bool
leaves v e = e.from == v

-- as much leads to each node as comes from it
abbrev pub Balances : List Edge → (Edge → ℕ) → Type 0
Balances es h = (v : ℕ) → sum_by (kept (enters v) h) es ≡ sum_by (kept (leaves v) h) es

pub balances_add : (one two both : Edge → ℕ) (es : List Edge) → ((e : Edge) → both e ≡ one e + two e) → Balances es one → Balances es two → Balances es both
balances_add one two both es add first second v =
    omega (arith, kept_add (enters v) one two both es add, kept_add (leaves v) one two both es add, first v, second v)

pub balances_none : (es : List Edge) (h : Edge → ℕ) → ((e : Edge) → h e ≡ 0) → Balances es h
balances_none es h none v = none_add_up (kept (enters v) h) es (λ j e at. by (enters v e) (h e) (none e)) ∙ sym (none_add_up (kept (leaves v) h) es (λ j e at. by (leaves v e) (h e) (none e)))
  where
    by : (b : Bool) (n : ℕ) → n ≡ 0 → cond b n 0 ≡ 0
    by true n e = e
    by false n e = refl

-- ---- as whole numbers

brings : (a b : Bool) (n : ℕ) (x : ℤ) → x ≡ pos n → (cond a x (pos 0) -ℤ cond b x (pos 0)) +ℤ pos (cond b n 0) ≡ pos (cond a n 0)
brings true true n x e = omega (arith, ints, e)
brings true false n x e = omega (arith, ints, e)
brings false true n x e = omega (arith, ints, e)
brings false false n x e = omega (arith, ints, e)

net_is : (v k : ℕ) (es : List Edge) (h : Edge → ℕ) (x : ℕ → ℤ) → ((j : ℕ) (e : Edge) → slice_get es j ≡ Some e → x (k + j) ≡ pos (h e)) → net_from k es x v +ℤ pos (sum_by (kept (leaves v) h) es) ≡ pos (sum_by (kept (enters v) h) es)
net_is v k [] h x is = refl
net_is v k (e ∷ es) h x is =
    let here : x k ≡ pos (h e) = ap x (let z : k ≡ k + 0 = omega arith in z) ∙ is 0 e refl in
    let first : brought e v (x k) +ℤ pos (kept (leaves v) h e) ≡ pos (kept (enters v) h e) = brings (enters v e) (leaves v e) (h e) (x k) here in
    let rest = net_is v (k + 1) es h x (λ j d at. ap x (let z : k + 1 + j ≡ k + suc j = omega arith in z) ∙ is (suc j) d at) in
    let outs = sum_by-cons (kept (leaves v) h) e es in
    let ins = sum_by-cons (kept (enters v) h) e es in
    adds (brought e v (x k)) (net_from (k + 1) es x v) (kept (leaves v) h e) (kept (enters v) h e) (sum_by (kept (leaves v) h) es) (sum_by (kept (enters v) h) es) (sum_by (kept (leaves v) h) (e ∷ es)) (sum_by (kept (enters v) h) (e ∷ es)) first rest outs ins
  where
    adds : (a b : ℤ) (p q r s t u : ℕ) → a +ℤ pos p ≡ pos q → b +ℤ pos r ≡ pos s → t ≡ p + r → u ≡ q + s → (a +ℤ b) +ℤ pos t ≡ pos u
    adds a b p q r s t u one two outs ins = omega (arith, ints, one, two, outs, ins)

pub flow_is : (es : List Edge) (h : Edge → ℕ) (x : ℕ → ℤ) → ((j : ℕ) (e : Edge) → slice_get es j ≡ Some e → x j ≡ pos (h e)) → Balances es h → IsFlow es x
flow_is es h x is balanced v =
    zero_net (net_from 0 es x v) (sum_by (kept (leaves v) h) es) (sum_by (kept (enters v) h) es) (net_is v 0 es h x (λ j e at. ap x (let z : 0 + j ≡ j = omega arith in z) ∙ is j e at)) (balanced v)
  where
    zero_net : (n : ℤ) (r s : ℕ) → n +ℤ pos r ≡ pos s → s ≡ r → n ≡ pos 0
    zero_net n r s all same = omega (arith, ints, all, same)
