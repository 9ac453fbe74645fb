-- What one row makes of the marks and of the blocks that wait.
use Rattle.std.proofs.Common.{◌≡◌, ℕ, zero, suc, ◌+◌, ◌<◌, Bool, true, false, cond, ◌⊎◌, inl, inr, List, [], ◌∷◌, ◌++◌, length, Some, slice_get, set, refl, sym, ap, subst, ◌∙◌, arith, length-set, get_or-set_same, get_or-set_other, sum_by}
use Rattle.std.proofs.lemmas.List.{length_push}
use Rattle.std.proofs.lemmas.List.Sums.{sum_by-set}
use Rattle.std.proofs.lemmas.Option.{none-some, same_Some}
use Rattle.ir_tree.specs.Reach.{is_marked}
use Rattle.block_search.specs.Search.{Among, spread}

abbrev pub one_unless : Bool → ℕ
one_unless true = 0
one_unless false = 1

abbrev pub unmarked : List Bool → ℕ
unmarked marks = sum_by one_unless marks

pub among_front : (b : ℕ) (xs ys : List ℕ) → Among b xs → Among b (xs ++ ys)
among_front b [] ys h = absurd h
among_front b (x ∷ xs) ys (inl e) = inl e
among_front b (x ∷ xs) ys (inr h) = inr (among_front b xs ys h)

pub among_last : (b : ℕ) (xs : List ℕ) → Among b (xs ++ b ∷ [])
among_last b [] = inl refl
among_last b (x ∷ xs) = inr (among_last b xs)

pub among_split : (b t : ℕ) (xs : List ℕ) → Among b (xs ++ t ∷ []) → Among b xs ⊎ (b ≡ t)
among_split b t [] (inl e) = inr e
among_split b t [] (inr h) = absurd h
among_split b t (x ∷ xs) (inl e) = inl (inl e)
among_split b t (x ∷ xs) (inr h) = elim (among_split b t xs h) [ inl a ↦ inl (inr a) | inr e ↦ inr e ]

-- what holds of the first and of each other holds of each
first_and_more : (t : ℕ) (ts : List ℕ) (P : ℕ → Type 0) → P t → ((p u : ℕ) → slice_get ts p ≡ Some u → P u) → (p u : ℕ) → slice_get (t ∷ ts) p ≡ Some u → P u
first_and_more t ts P here more zero u h = subst P (same_Some t u h) here
first_and_more t ts P here more (suc p) u h = more p u h

eq_or_not : (b t : ℕ) → (b ≡ t) ⊎ (b ≡ t → ⊥)
eq_or_not b t = grind arith

module _ (marks : List Bool) (t : ℕ) (within : t < length marks) where
  pub marked_there : is_marked (set marks t true) t ≡ true
  marked_there = get_or-set_same marks t true false within

  pub at_or_other : (b : ℕ) → (b ≡ t) ⊎ (is_marked (set marks t true) b ≡ is_marked marks b)
  at_or_other b = elim (eq_or_not b t) [ inl e ↦ inl e | inr ne ↦ inr (get_or-set_other marks t b true false ne) ]

pub record Spreads (row : List ℕ) (marks : List Bool) (work : List ℕ) (after : List Bool × List ℕ) : Type 0 where
  pub size : length after.0 ≡ length marks
  pub kept : (b : ℕ) → is_marked marks b ≡ true → is_marked after.0 b ≡ true
  pub done : (p t : ℕ) → slice_get row p ≡ Some t → is_marked after.0 t ≡ true
  pub fresh : (b : ℕ) → is_marked after.0 b ≡ true → (is_marked marks b ≡ true) ⊎ ((p : ℕ) × (slice_get row p ≡ Some b) × Among b after.1)
  pub waits : (b : ℕ) → Among b work → Among b after.1
  pub stems : (b : ℕ) → Among b after.1 → Among b work ⊎ (is_marked after.0 b ≡ true)
  pub measure : unmarked after.0 + length after.1 ≡ unmarked marks + length work

-- the first block of the row has a mark
skips : (t : ℕ) (ts : List ℕ) (marks : List Bool) (work : List ℕ) (after : List Bool × List ℕ) → is_marked marks t ≡ true → Spreads ts marks work after → Spreads (t ∷ ts) marks work after
skips t ts marks work after m s = record {
  size = s.size;
  kept = s.kept;
  done = first_and_more t ts (λ u. is_marked after.0 u ≡ true) (s.kept t m) s.done;
  fresh = λ b h. elim (s.fresh b h) [ inl old ↦ inl old | inr q ↦ inr (suc q.0, q.1, q.2) ];
  waits = s.waits;
  stems = s.stems;
  measure = s.measure;
}

module _ (t : ℕ) (ts : List ℕ) (marks : List Bool) (work : List ℕ) (after : List Bool × List ℕ) (within : t < length marks) (bare : is_marked marks t ≡ false)
    (s : Spreads ts (set marks t true) (work ++ t ∷ []) after) where
  kept_here : (b : ℕ) → is_marked marks b ≡ true → is_marked after.0 b ≡ true
  kept_here b m = s.kept b (elim (at_or_other marks t within b) [ inl e ↦ subst (λ (u : ℕ). is_marked (set marks t true) u ≡ true) (sym e) (marked_there marks t within) | inr e ↦ e ∙ m ])

  fresh_here : (b : ℕ) → is_marked after.0 b ≡ true → (is_marked marks b ≡ true) ⊎ ((p : ℕ) × (slice_get (t ∷ ts) p ≡ Some b) × Among b after.1)
  fresh_here b h = elim (s.fresh b h) [
    | inl old ↦ elim (at_or_other marks t within b) [
      | inl e ↦ inr (zero, ap (λ (u : ℕ). Some u) (sym e), s.waits b (subst (λ (u : ℕ). Among b (work ++ u ∷ [])) e (among_last b work)))
      | inr e ↦ inl (sym e ∙ old)
    ]
    | inr q ↦ inr (suc q.0, q.1, q.2)
  ]

  stems_here : (b : ℕ) → Among b after.1 → Among b work ⊎ (is_marked after.0 b ≡ true)
  stems_here b a = elim (s.stems b a) [
    | inl w ↦ elim (among_split b t work w) [ inl x ↦ inl x | inr e ↦ inr (subst (λ (u : ℕ). is_marked after.0 u ≡ true) (sym e) (s.kept t (marked_there marks t within))) ]
    | inr m ↦ inr m
  ]

  measure_here : unmarked after.0 + length after.1 ≡ unmarked marks + length work
  measure_here =
      let fewer : unmarked (set marks t true) + one_unless (is_marked marks t) ≡ unmarked marks + 0 = sum_by-set one_unless marks t true false within in
      let one : one_unless (is_marked marks t) ≡ 1 = ap one_unless bare in
      omega (arith, s.measure, fewer, one, length_push work t)

  marks_one : Spreads (t ∷ ts) marks work after
  marks_one = record {
    size = s.size ∙ length-set marks t true;
    kept = kept_here;
    done = first_and_more t ts (λ u. is_marked after.0 u ≡ true) (s.kept t (marked_there marks t within)) s.done;
    fresh = fresh_here;
    waits = λ b a. s.waits b (among_front b work (t ∷ []) a);
    stems = stems_here;
    measure = measure_here;
  }

module _ (t : ℕ) (ts : List ℕ) (marks : List Bool) (work : List ℕ) (within : t < length marks)
    (marked : Spreads ts marks work (spread ts marks work)) (bare : Spreads ts (set marks t true) (work ++ t ∷ []) (spread ts (set marks t true) (work ++ t ∷ []))) where
  by_mark : (m : Bool) → is_marked marks t ≡ m → Spreads (t ∷ ts) marks work (cond m (spread ts marks work) (spread ts (set marks t true) (work ++ t ∷ [])))
  by_mark true e = skips t ts marks work _ e marked
  by_mark false e = marks_one t ts marks work _ within e bare

pub spreads : (row : List ℕ) (marks : List Bool) (work : List ℕ) → ((p t : ℕ) → slice_get row p ≡ Some t → t < length marks) → Spreads row marks work (spread row marks work)
spreads [] marks work within = record {
  size = refl;
  kept = λ b m. m;
  done = λ p t h. absurd (none-some t h);
  fresh = λ b m. inl m;
  waits = λ b a. a;
  stems = λ b a. inl a;
  measure = refl;
}
spreads (t ∷ ts) marks work within =
    let more : (p u : ℕ) → slice_get ts p ≡ Some u → u < length marks = λ p u h. within (suc p) u h in
    let after : (p u : ℕ) → slice_get ts p ≡ Some u → u < length (set marks t true) = λ p u h. subst (λ (n : ℕ). u < n) (sym (length-set marks t true)) (more p u h) in
    by_mark t ts marks work (within zero t refl) (spreads ts marks work more) (spreads ts (set marks t true) (work ++ t ∷ []) after) (is_marked marks t) refl
