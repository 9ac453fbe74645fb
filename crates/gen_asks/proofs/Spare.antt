-- A spanning order leaves an edge of a graph that has as many edges as nodes.
use Rattle.std.proofs.Common.{◌≡◌, ℕ, zero, suc, ◌+◌, ◌<◌, ◌≤◌, ◌==◌, ◌⊎◌, inl, inr, Bool, true, false, not, cond, List, [], ◌∷◌, length, filter, count_by, refl, sym, ap, subst, ◌∙◌, arith}
use Rattle.std.proofs.lemmas.Bool.{cases_lt, eq-eqb, eqb-true}
use Rattle.ir_tree.specs.declared.edge.Edge.{Edge}
use Rattle.spanning_order.specs.Lists.{Among}
use Rattle.spanning_order.specs.Spanning.{EndsAreNodes, Grows, IsSpanningOrder, Joins, Links}
use Rattle.spec_items.proofs.Items.{count_cons}

-- how often a number stands in a list, and the list without it
abbrev occurs : ℕ → List ℕ → ℕ
occurs n xs = count_by (λ x. x == n) xs

abbrev without : ℕ → List ℕ → List ℕ
without n xs = filter (λ x. not (x == n)) xs

one_of : (n x : ℕ) (b : Bool) → (x == n) ≡ b → cond {A = ℕ} (x == n) 1 0 ≡ cond {A = ℕ} b 1 0
one_of n x b e = ap (λ (t : Bool). cond {A = ℕ} t 1 0) e

all_counted : (n : ℕ) (xs : List ℕ) → length xs ≡ occurs n xs + length (without n xs)
all_counted n [] = refl
all_counted n (x ∷ xs) = by (x == n) refl (all_counted n xs)
  where
    by : (b : Bool) → (x == n) ≡ b → length xs ≡ occurs n xs + length (without n xs) → suc (length xs) ≡ occurs n (x ∷ xs) + length (cond (not b) (x ∷ without n xs) (without n xs))
    by true e rest = omega (arith, rest, count_cons (λ y. y == n) x xs, one_of n x true e)
    by false e rest = omega (arith, rest, count_cons (λ y. y == n) x xs, one_of n x false e)

stays : (n k : ℕ) (xs : List ℕ) → (k ≡ n → ⊥) → Among k xs → Among k (without n xs)
stays n k [] apart at = absurd at
stays n k (x ∷ xs) apart at = by (x == n) refl at (λ h. stays n k xs apart h)
  where
    by : (b : Bool) → (x == n) ≡ b → Among k (x ∷ xs) → (Among k xs → Among k (without n xs)) → Among k (cond (not b) (x ∷ without n xs) (without n xs))
    by true e (inl q) rest = absurd (apart (q ∙ eqb-true x n e))
    by true e (inr h) rest = rest h
    by false e (inl q) rest = inl q
    by false e (inr h) rest = inr (rest h)

stood : (n k : ℕ) (xs : List ℕ) → Among k (without n xs) → Among k xs × (k ≡ n → ⊥)
stood n k [] at = absurd at
stood n k (x ∷ xs) at = by (x == n) refl at (λ h. stood n k xs h)
  where
    by : (b : Bool) → (x == n) ≡ b → Among k (cond (not b) (x ∷ without n xs) (without n xs)) → (Among k (without n xs) → Among k xs × (k ≡ n → ⊥)) → Among k (x ∷ xs) × (k ≡ n → ⊥)
    by true e h rest = (let r = rest h in (inr r.0, r.1))
    by false e (inl q) rest = (inl q, λ is. absurd (cc (sym e ∙ eq-eqb x n (sym q ∙ is))))
    by false e (inr h) rest = (let r = rest h in (inr r.0, r.1))

fewer : (n k : ℕ) (xs : List ℕ) → occurs k (without n xs) ≤ occurs k xs
fewer n k [] = omega arith
fewer n k (x ∷ xs) = by (x == n) (fewer n k xs)
  where
    by : (b : Bool) → occurs k (without n xs) ≤ occurs k xs → occurs k (cond (not b) (x ∷ without n xs) (without n xs)) ≤ occurs k (x ∷ xs)
    by true rest = omega (arith, rest, count_cons (λ y. y == k) x xs)
    by false rest = omega (arith, rest, count_cons (λ y. y == k) x xs, count_cons (λ y. y == k) x (without n xs))

occurs_some : (n : ℕ) (xs : List ℕ) → Among n xs → 1 ≤ occurs n xs
occurs_some n [] at = absurd at
occurs_some n (x ∷ xs) (inl e) = omega (arith, count_cons (λ y. y == n) x xs, one_of n x true (eq-eqb x n (sym e)))
occurs_some n (x ∷ xs) (inr at) = omega (arith, occurs_some n xs at, count_cons (λ y. y == n) x xs)

some_occurs : (n : ℕ) (xs : List ℕ) → 1 ≤ occurs n xs → Among n xs
some_occurs n [] h = absurd (omega (arith, h))
some_occurs n (x ∷ xs) h = by (x == n) refl (λ k. some_occurs n xs k)
  where
    by : (b : Bool) → (x == n) ≡ b → (1 ≤ occurs n xs → Among n xs) → Among n (x ∷ xs)
    by true e rest = inl (sym (eqb-true x n e))
    by false e rest = inr (rest (omega (arith, h, count_cons (λ y. y == n) x xs, one_of n x false e)))

decide : (n : ℕ) (xs : List ℕ) → Among n xs ⊎ (Among n xs → ⊥)
decide n xs = by (occurs n xs) refl
  where
    by : (k : ℕ) → occurs n xs ≡ k → Among n xs ⊎ (Among n xs → ⊥)
    by zero e = inr (λ at. (let h = occurs_some n xs at in absurd (omega (arith, h, e))))
    by (suc k) e = inl (some_occurs n xs (omega (arith, e)))

-- ---- numbers below a bound

-- distinct ones are no more than the bound
few : (n : ℕ) (xs : List ℕ) → ((x : ℕ) → Among x xs → x < n) → ((v : ℕ) → occurs v xs ≤ 1) → length xs ≤ n
few zero [] below once = omega arith
few zero (x ∷ xs) below once = absurd (let h = below x (inl refl) in omega (arith, h))
few (suc n) xs below once =
    let rest = few n (without n xs) (λ x at. (let s = stood n x xs at in lower x (below x s.0) s.1)) (λ v. (let a = fewer n v xs in let b = once v in omega (arith, a, b))) in
    let o = once n in
    omega (arith, rest, o, all_counted n xs)
  where
    lower : (x : ℕ) → x < suc n → (x ≡ n → ⊥) → x < n
    lower x h apart = by (cases_lt x n)
      where
        by : (x < n) ⊎ (n ≤ x) → x < n
        by (inl k) = k
        by (inr k) = absurd (apart (omega (arith, h, k)))

-- and all of them are no fewer
many : (n : ℕ) (xs : List ℕ) → ((k : ℕ) → k < n → Among k xs) → n ≤ length xs
many zero xs all = omega arith
many (suc n) xs all =
    let rest = many n (without n xs) (λ k h. stays n k xs (λ e. absurd (omega (arith, e, h))) (all k (omega (arith, h)))) in
    let here = occurs_some n xs (all n (omega arith)) in
    omega (arith, rest, here, all_counted n xs)

-- so one of them is missing from a shorter list
missing : (n : ℕ) (xs : List ℕ) → length xs < n → (k : ℕ) × (k < n) × (Among k xs → ⊥)
missing n xs short = by (search n)
  where
    search : (i : ℕ) → ((k : ℕ) → k < i → Among k xs) ⊎ ((k : ℕ) × (k < i) × (Among k xs → ⊥))
    search zero = inl (λ k h. absurd (omega (arith, h)))
    search (suc i) = next (search i) (decide i xs)
      where
        next : ((k : ℕ) → k < i → Among k xs) ⊎ ((k : ℕ) × (k < i) × (Among k xs → ⊥)) → Among i xs ⊎ (Among i xs → ⊥) → ((k : ℕ) → k < suc i → Among k xs) ⊎ ((k : ℕ) × (k < suc i) × (Among k xs → ⊥))
        next (inr r) d = (let h = r.1 in inr (r.0, omega (arith, h), r.2))
        next (inl all) (inr none) = inr (i, omega arith, none)
        next (inl all) (inl here) = inl (λ k h. last k h (cases_lt k i))
          where
            last : (k : ℕ) → k < suc i → (k < i) ⊎ (i ≤ k) → Among k xs
            last k h (inl l) = all k l
            last k h (inr l) = subst (λ (j : ℕ). Among j xs) (let e : i ≡ k = omega (arith, h, l) in e) here

    by : ((k : ℕ) → k < n → Among k xs) ⊎ ((k : ℕ) × (k < n) × (Among k xs → ⊥)) → (k : ℕ) × (k < n) × (Among k xs → ⊥)
    by (inr r) = r
    by (inl all) = absurd (let m = many n xs all in omega (arith, m, short))

-- ---- the order

module _ (edges : List Edge) (n : ℕ) (ends : EndsAreNodes edges n) where
  new_below : (reached : List ℕ) (k new : ℕ) → Joins edges reached k new → new < n
  new_below reached k new j = by j.links
    where
      both : (j.edge.from < n) × (j.edge.to < n)
      both = ends k j.edge j.stands

      by : Links j.edge j.old new → new < n
      by (inl e) = subst (λ (x : ℕ). x < n) e.1 both.1
      by (inr e) = subst (λ (x : ℕ). x < n) e.0 both.0

  grows_few : (reached order : List ℕ) → ((x : ℕ) → Among x reached → x < n) → ((v : ℕ) → occurs v reached ≤ 1) → Grows edges n reached order → length reached + length order ≤ n
  grows_few reached [] below once grows = (let f = few n reached below once in omega (arith, f))
  grows_few reached (k ∷ ks) below once grows =
      let new : ℕ = grows.0 in
      let j : Joins edges reached k new = grows.1 in
      let rest = grows_few (new ∷ reached) ks (λ x at. within x new (new_below reached k new j) at) (λ v. apart v new j.is_new) grows.2 in
      omega (arith, rest)
    where
      within : (x new : ℕ) → new < n → (x ≡ new) ⊎ Among x reached → x < n
      within x new h (inl e) = subst (λ (y : ℕ). y < n) (sym e) h
      within x new h (inr at) = below x at

      apart : (v new : ℕ) → (Among new reached → ⊥) → occurs v (new ∷ reached) ≤ 1
      apart v new fresh = by (new == v) refl
        where
          by : (b : Bool) → (new == v) ≡ b → occurs v (new ∷ reached) ≤ 1
          by false e = (let o = once v in omega (arith, o, count_cons (λ y. y == v) new reached, one_of v new false e))
          by true e = omega (arith, none (occurs v reached) refl, count_cons (λ y. y == v) new reached, one_of v new true e)
            where
              none : (k : ℕ) → occurs v reached ≡ k → occurs v reached ≡ 0
              none zero q = q
              none (suc k) q = absurd (fresh (subst (λ (y : ℕ). Among y reached) (sym (eqb-true new v e)) (some_occurs v reached (omega (arith, q)))))

  -- an edge that the order leaves
  pub spare : (order : List ℕ) → 0 < n → n ≤ length edges → IsSpanningOrder edges n order → (k : ℕ) × (k < length edges) × (Among k order → ⊥)
  spare order some enough spans =
      let f = grows_few (0 ∷ []) order (λ x at. first x at) (λ v. once v) spans in
      missing (length edges) order (omega (arith, f, enough))
    where
      first : (x : ℕ) → Among x (0 ∷ []) → x < n
      first x (inl e) = subst (λ (y : ℕ). y < n) (sym e) some
      first x (inr none) = absurd none

      once : (v : ℕ) → occurs v (0 ∷ []) ≤ 1
      once v = (let c = count_cons (λ y. y == v) 0 [] in let none : occurs v [] ≡ 0 = refl in let o = at_most (0 == v) in omega (arith, c, none, o))
        where
          at_most : (b : Bool) → cond {A = ℕ} b 1 0 ≤ 1
          at_most true = omega arith
          at_most false = omega arith
