-- What one row makes of the words and of the blocks that wait.
use Rattle.std.proofs.Common.{◌≡◌, ℕ, zero, suc, ◌+◌, ◌*◌, ◌<◌, ◌≤◌, Bool, true, false, cond, ◌==◌, ◌⊎◌, inl, inr, List, [], ◌∷◌, ◌++◌, length, min, Some, slice_get, set, refl, sym, ap, subst, ◌∙◌, arith, length-set, get_or-set_same, get_or-set_other, sum_by}
use Rattle.std.specs.Prelude.{bit_and, slice_index}
use Rattle.std.specs.Int.{bit_at}
use Rattle.std.proofs.lemmas.Bool.{eqb-false, eqb-true}
use Rattle.std.proofs.lemmas.List.{length_push}
use Rattle.std.proofs.lemmas.List.Sums.{sum_by-set}
use Rattle.std.proofs.lemmas.Nat.{and_le_l}
use Rattle.std.proofs.lemmas.Nat.Bits.{bit_at_and}
use Rattle.std.proofs.lemmas.Option.{none-some, same_Some}
use Rattle.block_search.specs.Search.{Among}
use Rattle.definite_assignment.specs.Narrowing.{narrow}

abbrev pub total : List ℕ → ℕ
total words = sum_by (λ w. w) words

abbrev pub word : List ℕ → ℕ → ℕ
word words b = slice_index words b

pub among_front : (b : ℕ) (xs ys : List ℕ) → Among b xs → Among b (xs ++ ys)
among_front b [] ys h = absurd h
among_front b (x ∷ xs) ys (inl e) = inl e
among_front b (x ∷ xs) ys (inr h) = inr (among_front b xs ys h)

pub among_last : (b : ℕ) (xs : List ℕ) → Among b (xs ++ b ∷ [])
among_last b [] = inl refl
among_last b (x ∷ xs) = inr (among_last b xs)

pub among_split : (b t : ℕ) (xs : List ℕ) → Among b (xs ++ t ∷ []) → Among b xs ⊎ (b ≡ t)
among_split b t [] (inl e) = inr e
among_split b t [] (inr h) = absurd h
among_split b t (x ∷ xs) (inl e) = inl (inl e)
among_split b t (x ∷ xs) (inr h) = elim (among_split b t xs h) [ inl a ↦ inl (inr a) | inr e ↦ inr e ]

pub eq_or_not : (b t : ℕ) → (b ≡ t) ⊎ (b ≡ t → ⊥)
eq_or_not b t = grind arith

pub record Narrows (row : List ℕ) (out : ℕ) (words work : List ℕ) (after : List ℕ × List ℕ) : Type 0 where
  pub size : length after.0 ≡ length words
  pub le : (b : ℕ) → word after.0 b ≤ word words b
  pub less : (b i : ℕ) → bit_at (word after.0 b) i ≤ bit_at (word words b) i
  pub done : (p t : ℕ) → slice_get row p ≡ Some t → (i : ℕ) → bit_at (word after.0 t) i ≤ bit_at out i
  pub fresh : (b i : ℕ) → bit_at (word after.0 b) i ≡ 0 → (bit_at (word words b) i ≡ 0) ⊎ ((p : ℕ) × (slice_get row p ≡ Some b) × (bit_at out i ≡ 0))
  pub changed : (b : ℕ) → (word after.0 b ≡ word words b) ⊎ Among b after.1
  pub waits : (b : ℕ) → Among b work → Among b after.1
  pub stems : (b : ℕ) → Among b after.1 → Among b work ⊎ (b < length words)
  pub measure : 2 * total after.0 + length after.1 ≤ 2 * total words + length work

module _ (t : ℕ) (ts : List ℕ) (out : ℕ) (words work : List ℕ) (after : List ℕ × List ℕ) where
  -- the word has no bit that isn't handed on
  keeps : bit_and (word words t) out ≡ word words t → Narrows ts out words work after → Narrows (t ∷ ts) out words work after
  keeps is s = record {
    size = s.size;
    le = s.le;
    less = s.less;
    done = done;
    fresh = λ b i h. elim (s.fresh b i h) [ inl old ↦ inl old | inr q ↦ inr (suc q.0, q.1, q.2) ];
    changed = s.changed;
    waits = s.waits;
    stems = s.stems;
    measure = s.measure;
  }
    where
      here : (u : ℕ) → t ≡ u → (i : ℕ) → bit_at (word after.0 u) i ≤ bit_at out i
      here u e i =
          let fewer : bit_at (word after.0 u) i ≤ bit_at (word words u) i = s.less u i in
          let same : bit_at (word words u) i ≡ min (bit_at (word words u) i) (bit_at out i) = subst (λ (v : ℕ). bit_at (word words v) i ≡ min (bit_at (word words v) i) (bit_at out i)) e (ap (λ (w : ℕ). bit_at w i) (sym is) ∙ bit_at_and (word words t) out i) in
          omega (arith, fewer, same)

      done : (p u : ℕ) → slice_get (t ∷ ts) p ≡ Some u → (i : ℕ) → bit_at (word after.0 u) i ≤ bit_at out i
      done zero u h i = here u (same_Some t u h) i
      done (suc p) u h i = s.done p u h i

  module _ (within : t < length words) (apart : bit_and (word words t) out ≡ word words t → ⊥)
      (s : Narrows ts out (set words t (bit_and (word words t) out)) (work ++ t ∷ []) after) where
    cut : List ℕ
    cut = set words t (bit_and (word words t) out)

    there : word (set words t (bit_and (word words t) out)) t ≡ bit_and (word words t) out
    there = get_or-set_same words t (bit_and (word words t) out) 0 within

    other : (b : ℕ) → (b ≡ t → ⊥) → word (set words t (bit_and (word words t) out)) b ≡ word words b
    other b ne = get_or-set_other words t b (bit_and (word words t) out) 0 ne

    le_cut : (b : ℕ) → word (set words t (bit_and (word words t) out)) b ≤ word words b
    le_cut b = by (eq_or_not b t)
      where
        by : (b ≡ t) ⊎ (b ≡ t → ⊥) → word (set words t (bit_and (word words t) out)) b ≤ word words b
        by (inl e) = subst (λ (u : ℕ). word (set words t (bit_and (word words t) out)) u ≤ word words u) (sym e) (omega (arith, there, and_le_l (word words t) out))
        by (inr ne) = omega (arith, other b ne)

    less_cut : (b i : ℕ) → bit_at (word (set words t (bit_and (word words t) out)) b) i ≤ bit_at (word words b) i
    less_cut b i = by (eq_or_not b t)
      where
        by : (b ≡ t) ⊎ (b ≡ t → ⊥) → bit_at (word (set words t (bit_and (word words t) out)) b) i ≤ bit_at (word words b) i
        by (inl e) =
            let bits : bit_at (word (set words t (bit_and (word words t) out)) t) i ≡ min (bit_at (word words t) i) (bit_at out i) = ap (λ (w : ℕ). bit_at w i) there ∙ bit_at_and (word words t) out i in
            subst (λ (u : ℕ). bit_at (word (set words t (bit_and (word words t) out)) u) i ≤ bit_at (word words u) i) (sym e) (omega (arith, bits))
        by (inr ne) = let same : bit_at (word (set words t (bit_and (word words t) out)) b) i ≡ bit_at (word words b) i = ap (λ (w : ℕ). bit_at w i) (other b ne) in omega (arith, same)

    done_cut : (p u : ℕ) → slice_get (t ∷ ts) p ≡ Some u → (i : ℕ) → bit_at (word after.0 u) i ≤ bit_at out i
    done_cut zero u h i =
        let fewer : bit_at (word after.0 t) i ≤ bit_at (word (set words t (bit_and (word words t) out)) t) i = s.less t i in
        let bits : bit_at (word (set words t (bit_and (word words t) out)) t) i ≡ min (bit_at (word words t) i) (bit_at out i) = ap (λ (w : ℕ). bit_at w i) there ∙ bit_at_and (word words t) out i in
        let here : bit_at (word after.0 t) i ≤ bit_at out i = omega (arith, fewer, bits) in
        subst (λ (v : ℕ). bit_at (word after.0 v) i ≤ bit_at out i) (same_Some t u h) here
    done_cut (suc p) u h i = s.done p u h i

    fresh_cut : (b i : ℕ) → bit_at (word after.0 b) i ≡ 0 → (bit_at (word words b) i ≡ 0) ⊎ ((p : ℕ) × (slice_get (t ∷ ts) p ≡ Some b) × (bit_at out i ≡ 0))
    fresh_cut b i h = by (s.fresh b i h)
      where
        zero_of : (m n : ℕ) → min m n ≡ 0 → (m ≡ 0) ⊎ (n ≡ 0)
        zero_of m n e = grind arith

        here : b ≡ t → bit_at (word (set words t (bit_and (word words t) out)) b) i ≡ 0 → (bit_at (word words b) i ≡ 0) ⊎ ((p : ℕ) × (slice_get (t ∷ ts) p ≡ Some b) × (bit_at out i ≡ 0))
        here e k =
            let bits : bit_at (word (set words t (bit_and (word words t) out)) t) i ≡ min (bit_at (word words t) i) (bit_at out i) = ap (λ (w : ℕ). bit_at w i) there ∙ bit_at_and (word words t) out i in
            let none : min (bit_at (word words t) i) (bit_at out i) ≡ 0 = sym bits ∙ (ap (λ (u : ℕ). bit_at (word (set words t (bit_and (word words t) out)) u) i) (sym e) ∙ k) in
            elim (zero_of (bit_at (word words t) i) (bit_at out i) none) [ inl a ↦ inl (ap (λ (u : ℕ). bit_at (word words u) i) e ∙ a) | inr a ↦ inr (0, ap (λ (u : ℕ). Some u) (sym e), a) ]

        old : (b ≡ t) ⊎ (b ≡ t → ⊥) → bit_at (word (set words t (bit_and (word words t) out)) b) i ≡ 0 → (bit_at (word words b) i ≡ 0) ⊎ ((p : ℕ) × (slice_get (t ∷ ts) p ≡ Some b) × (bit_at out i ≡ 0))
        old (inl e) k = here e k
        old (inr ne) k = inl (ap (λ (w : ℕ). bit_at w i) (sym (other b ne)) ∙ k)

        by : (bit_at (word (set words t (bit_and (word words t) out)) b) i ≡ 0) ⊎ ((p : ℕ) × (slice_get ts p ≡ Some b) × (bit_at out i ≡ 0)) → (bit_at (word words b) i ≡ 0) ⊎ ((p : ℕ) × (slice_get (t ∷ ts) p ≡ Some b) × (bit_at out i ≡ 0))
        by (inl k) = old (eq_or_not b t) k
        by (inr q) = inr (suc q.0, q.1, q.2)

    changed_cut : (b : ℕ) → (word after.0 b ≡ word words b) ⊎ Among b after.1
    changed_cut b = by (eq_or_not b t) (s.changed b)
      where
        by : (b ≡ t) ⊎ (b ≡ t → ⊥) → (word after.0 b ≡ word (set words t (bit_and (word words t) out)) b) ⊎ Among b after.1 → (word after.0 b ≡ word words b) ⊎ Among b after.1
        by (inl e) k = inr (s.waits b (subst (λ (u : ℕ). Among b (work ++ u ∷ [])) e (among_last b work)))
        by (inr ne) (inl k) = inl (k ∙ other b ne)
        by (inr ne) (inr a) = inr a

    stems_cut : (b : ℕ) → Among b after.1 → Among b work ⊎ (b < length words)
    stems_cut b a = by (s.stems b a)
      where
        by : Among b (work ++ t ∷ []) ⊎ (b < length (set words t (bit_and (word words t) out))) → Among b work ⊎ (b < length words)
        by (inl w) = elim (among_split b t work w) [ inl x ↦ inl x | inr e ↦ inr (subst (λ (u : ℕ). u < length words) (sym e) within) ]
        by (inr h) = inr (subst (λ (n : ℕ). b < n) (length-set words t (bit_and (word words t) out)) h)

    measure_cut : 2 * total after.0 + length after.1 ≤ 2 * total words + length work
    measure_cut =
        let fewer : total (set words t (bit_and (word words t) out)) + word words t ≡ total words + bit_and (word words t) out = sum_by-set (λ w. w) words t (bit_and (word words t) out) 0 within in
        let below : bit_and (word words t) out ≤ word words t = and_le_l (word words t) out in
        let unequal : bit_and (word words t) out < word words t = grind (arith, below, apart) in
        let rest : 2 * total after.0 + length after.1 ≤ 2 * total (set words t (bit_and (word words t) out)) + length (work ++ t ∷ []) = s.measure in
        omega (arith, rest, fewer, unequal, length_push work t)

    cuts : Narrows (t ∷ ts) out words work after
    cuts = record {
      size = s.size ∙ length-set words t (bit_and (word words t) out);
      le = λ b. let one : word after.0 b ≤ word (set words t (bit_and (word words t) out)) b = s.le b in omega (arith, one, le_cut b);
      less = λ b i. let one : bit_at (word after.0 b) i ≤ bit_at (word (set words t (bit_and (word words t) out)) b) i = s.less b i in omega (arith, one, less_cut b i);
      done = done_cut;
      fresh = fresh_cut;
      changed = changed_cut;
      waits = λ b a. s.waits b (among_front b work (t ∷ []) a);
      stems = stems_cut;
      measure = measure_cut;
    }

module _ (t : ℕ) (ts : List ℕ) (out : ℕ) (words work : List ℕ) (within : t < length words)
    (whole : Narrows ts out words work (narrow ts out words work)) (less : Narrows ts out (set words t (bit_and (word words t) out)) (work ++ t ∷ []) (narrow ts out (set words t (bit_and (word words t) out)) (work ++ t ∷ []))) where
  by_word : (b : Bool) → (bit_and (word words t) out == word words t) ≡ b → Narrows (t ∷ ts) out words work (cond b (narrow ts out words work) (narrow ts out (set words t (bit_and (word words t) out)) (work ++ t ∷ [])))
  by_word true e = keeps t ts out words work _ (eqb-true (bit_and (word words t) out) (word words t) e) whole
  by_word false e = cuts t ts out words work _ within (eqb-false (bit_and (word words t) out) (word words t) e) less

pub narrows : (row : List ℕ) (out : ℕ) (words work : List ℕ) → ((p t : ℕ) → slice_get row p ≡ Some t → t < length words) → Narrows row out words work (narrow row out words work)
narrows [] out words work within = record {
  size = refl;
  le = λ b. omega arith;
  less = λ b i. omega arith;
  done = λ p t h i. absurd (none-some t h);
  fresh = λ b i h. inl h;
  changed = λ b. inl refl;
  waits = λ b a. a;
  stems = λ b a. inl a;
  measure = omega arith;
}
narrows (t ∷ ts) out words work within =
    let more : (p u : ℕ) → slice_get ts p ≡ Some u → u < length words = λ p u h. within (suc p) u h in
    let after : (p u : ℕ) → slice_get ts p ≡ Some u → u < length (set words t (bit_and (word words t) out)) = λ p u h. subst (λ (n : ℕ). u < n) (sym (length-set words t (bit_and (word words t) out))) (more p u h) in
    by_word t ts out words work (within zero t refl) (narrows ts out words work more) (narrows ts out (set words t (bit_and (word words t) out)) (work ++ t ∷ []) after) (bit_and (word words t) out == word words t) refl
