-- The edges that keep a counter.
use Rattle.std.proofs.Common.{◌≡◌, ℕ, zero, suc, ◌+◌, ◌<◌, ◌==◌, Bool, true, false, ◌⊎◌, inl, inr, List, [], ◌∷◌, ◌++◌, length, slice_index, slice_index_or, take, set, refl, sym, ap, subst, ◌∙◌, arith, length-set, get_or-set_same, get_or-set_other, eqb-true, eq-eqb, ne_eqb}
use Rattle.std.specs.Prelude.{◌&&◌, ◌||◌, AllPairs, if◌then◌else◌, not}
use Rattle.std.proofs.lemmas.Bool.{cases_eq}
use Rattle.std.proofs.lemmas.List.{append-nil, take_more}
use Rattle.std.proofs.lemmas.List.Quantifiers.{all_pairs_push}
use Rattle.ir_tree.specs.Reach.{is_marked}
use Rattle.spanning_order.specs.Counted.{AreCounted}
use Rattle.spanning_order.specs.Lists.{Among, among}
use Rattle.cfg_tree.specs.Counted.{counted_of, is_counted}
use Rattle.cfg_tree.specs.Marked.{AreAmong}

-- ---- the test of membership

or_right : (b : Bool) → (b || true) ≡ true
or_right true = refl
or_right false = refl

pub among_yes : (v : ℕ) (xs : List ℕ) → Among v xs → among v xs ≡ true
among_yes v [] a = absurd a
among_yes v (x ∷ xs) (inl e) = ap (λ (b : Bool). b || among v xs) (eq-eqb v x e)
among_yes v (x ∷ xs) (inr a) = ap (λ (b : Bool). (v == x) || b) (among_yes v xs a) ∙ or_right (v == x)

pub among_no : (v : ℕ) (xs : List ℕ) → (Among v xs → ⊥) → among v xs ≡ false
among_no v [] out = refl
among_no v (x ∷ xs) out = ap (λ (b : Bool). b || among v xs) (ne_eqb v x (λ e. out (inl e))) ∙ among_no v xs (λ a. out (inr a))

pub is_among : (v : ℕ) (xs : List ℕ) → among v xs ≡ true → Among v xs
is_among v [] e = absurd (cc)
is_among v (x ∷ xs) e = elim (cases_eq v x) [
  | inl s ↦ inl s
  | inr ne ↦ inr (is_among v xs (sym (ap (λ (b : Bool). b || among v xs) (ne_eqb v x ne)) ∙ e))
]

among_last : (v x : ℕ) (xs : List ℕ) → among v (xs ++ x ∷ []) ≡ (among v xs || (v == x))
among_last v x [] = by (v == x)
  where
    by : (b : Bool) → (b || false) ≡ b
    by true = refl
    by false = refl
among_last v x (y ∷ ys) = ap (λ (b : Bool). (v == y) || b) (among_last v x ys) ∙ by (v == y) (among v ys) (v == x)
  where
    by : (a b c : Bool) → (a || (b || c)) ≡ ((a || b) || c)
    by true b c = refl
    by false b c = refl

-- ---- marks

pub one_more_mark : (order : List ℕ) (marks : List Bool) (i : ℕ) → i < length order → slice_index order i < length marks → AreAmong (take i order) marks → AreAmong (take (i + 1) order) (set marks (slice_index order i) true)
one_more_mark order marks i lt within m k below =
    let all = ap (λ (xs : List ℕ). among k xs) (take_more order i 0 lt) ∙ among_last k (slice_index order i) (take i order) in
    elim (cases_eq k (slice_index order i)) [
      | inl e ↦ ap (λ (x : ℕ). is_marked (set marks (slice_index order i) true) x) e ∙ get_or-set_same marks (slice_index order i) true false within ∙ sym (all ∙ ap (λ (b : Bool). among k (take i order) || b) (eq-eqb k (slice_index order i) e) ∙ or_right (among k (take i order)))
      | inr ne ↦ get_or-set_other marks (slice_index order i) k true false ne ∙ m k (subst (λ (n : ℕ). k < n) (length-set marks (slice_index order i) true) below)
          ∙ sym (all ∙ ap (λ (b : Bool). among k (take i order) || b) (ne_eqb k (slice_index order i) ne) ∙ by (among k (take i order)))
    ]
  where
    by : (b : Bool) → (b || false) ≡ b
    by true = refl
    by false = refl

-- ---- the counted edges

module _ (order : List ℕ) (entry_first : Bool) where
  pub counted_cases : (n k : ℕ) → Among k (counted_of (suc n) order entry_first) → Among k (counted_of n order entry_first) ⊎ ((k ≡ n) × (is_counted order entry_first n ≡ true))
  counted_cases n k a = by (is_counted order entry_first n) refl a
    where
      in_front : (xs : List ℕ) → Among k (xs ++ n ∷ []) → Among k xs ⊎ (k ≡ n)
      in_front [] (inl e) = inr e
      in_front [] (inr b) = absurd b
      in_front (x ∷ xs) (inl e) = inl (inl e)
      in_front (x ∷ xs) (inr b) = elim (in_front xs b) [ inl c ↦ inl (inr c) | inr e ↦ inr e ]

      by : (b : Bool) → is_counted order entry_first n ≡ b → Among k (counted_of n order entry_first ++ (if b then n ∷ [] else [])) → Among k (counted_of n order entry_first) ⊎ ((k ≡ n) × (is_counted order entry_first n ≡ true))
      by true e h = elim (in_front (counted_of n order entry_first) h) [ inl c ↦ inl c | inr s ↦ inr (s, e) ]
      by false e h = inl (subst (λ (xs : List ℕ). Among k xs) (append-nil (counted_of n order entry_first)) h)

  below : (n k : ℕ) → Among k (counted_of n order entry_first) → k < n
  below zero k a = absurd a
  below (suc n) k a = elim (counted_cases n k a) [ inl b ↦ (let lt = below n k b in omega (arith, lt)) | inr e ↦ (let s = e.0 in omega (arith, s)) ]

  counts : (n k : ℕ) → Among k (counted_of n order entry_first) → is_counted order entry_first k ≡ true
  counts zero k a = absurd a
  counts (suc n) k a = elim (counted_cases n k a) [ inl b ↦ counts n k b | inr e ↦ ap (λ (x : ℕ). is_counted order entry_first x) e.0 ∙ e.1 ]

  front : (k : ℕ) (xs ys : List ℕ) → Among k xs → Among k (xs ++ ys)
  front k [] ys a = absurd a
  front k (x ∷ xs) ys (inl e) = inl e
  front k (x ∷ xs) ys (inr a) = inr (front k xs ys a)

  last : (k : ℕ) (xs : List ℕ) → Among k (xs ++ k ∷ [])
  last k [] = inl refl
  last k (x ∷ xs) = inr (last k xs)

  has : (n k : ℕ) → k < n → is_counted order entry_first k ≡ true → Among k (counted_of n order entry_first)
  has zero k lt e = absurd (omega arith)
  has (suc n) k lt e = elim (cases_eq k n) [
    | inl s ↦ subst (λ (b : Bool). Among k (counted_of n order entry_first ++ (if b then n ∷ [] else []))) (sym (ap (λ (x : ℕ). is_counted order entry_first x) (sym s) ∙ e)) (subst (λ (x : ℕ). Among k (counted_of n order entry_first ++ x ∷ [])) s (last k (counted_of n order entry_first)))
    | inr ne ↦ front k (counted_of n order entry_first) (if is_counted order entry_first n then n ∷ [] else []) (has n k (let l : k < n = grind (arith, ne, lt) in l) e)
  ]

  rising : (n : ℕ) → AllPairs (λ j k. j < k) (counted_of n order entry_first)
  rising zero = λ i j d lt in_list. absurd (let z : j < 0 = in_list in omega (arith, z))
  rising (suc n) = by (is_counted order entry_first n) (rising n)
    where
      at : (xs : List ℕ) (k d : ℕ) → k < length xs → Among (slice_index_or xs k d) xs
      at [] k d lt = absurd (omega arith)
      at (x ∷ xs) zero d lt = inl refl
      at (x ∷ xs) (suc k) d lt = inr (at xs k d (omega arith))

      by : (b : Bool) → AllPairs (λ j k. j < k) (counted_of n order entry_first) → AllPairs (λ j k. j < k) (counted_of n order entry_first ++ (if b then n ∷ [] else []))
      by true before = all_pairs_push (λ (j k : ℕ). j < k) (counted_of n order entry_first) n before (λ k d lt. below n (slice_index_or (counted_of n order entry_first) k d) (at (counted_of n order entry_first) k d lt))
      by false before = subst (λ (xs : List ℕ). AllPairs (λ j k. j < k) xs) (sym (append-nil (counted_of n order entry_first))) before

  pub are_counted : (n : ℕ) → AreCounted n order (counted_of n order entry_first)
  are_counted n = record {
    rising = rising n;
    outside = λ k lt out. has n k lt (ap (λ (b : Bool). not b || (entry_first && (k == 0))) (among_no k order out));
    edges_only = λ k a. below n k a;
    no_others = λ k a inside. zero_only k (counts n k a) inside;
  }
    where
      zero_only : (k : ℕ) → is_counted order entry_first k ≡ true → Among k order → k ≡ 0
      zero_only k e inside = by entry_first (k == 0) refl (sym (ap (λ (b : Bool). not b || (entry_first && (k == 0))) (among_yes k order inside)) ∙ e)
        where
          by : (f z : Bool) → (k == 0) ≡ z → (f && z) ≡ true → k ≡ 0
          by true true q h = eqb-true k 0 q
          by true false q h = absurd (cc)
          by false z q h = absurd (cc)

pub beside_at : (n m : ℕ) (order items counted found slice : List ℕ) (entry_first : Bool) → n ≡ m → order ≡ items → slice ≡ items → counted ≡ found → found ≡ counted_of n slice entry_first → AreCounted m order counted
beside_at n m order items counted found slice entry_first size is same from found_is =
    subst (λ (xs : List ℕ). AreCounted m order xs) (sym (from ∙ found_is ∙ ap (λ (k : ℕ). counted_of k slice entry_first) size ∙ ap (λ (xs : List ℕ). counted_of m xs entry_first) (same ∙ sym is))) (are_counted order entry_first m)

pub order_within : (order : List ℕ) (i : ℕ) → i < length order → Among (slice_index order i) order
order_within [] i lt = absurd (omega arith)
order_within (x ∷ xs) zero lt = inl refl
order_within (x ∷ xs) (suc i) lt = inr (order_within xs i (omega arith))

pub one_more_counted : (order : List ℕ) (entry_first : Bool) (k : ℕ) (marks : List Bool) (old new : List ℕ) (mark counted : Bool) → k < length marks → AreAmong order marks → mark ≡ is_marked marks k → counted ≡ (not mark || (entry_first && (k == 0)))
    → old ≡ counted_of k order entry_first → new ≡ old ++ (if counted then k ∷ [] else []) → new ≡ counted_of (k + 1) order entry_first
one_more_counted order entry_first k marks old new mark counted lt among_marks mark_is counted_is before after =
    after ∙ ap (λ (xs : List ℕ). xs ++ (if counted then k ∷ [] else [])) before
    ∙ ap (λ (b : Bool). counted_of k order entry_first ++ (if b then k ∷ [] else [])) (counted_is ∙ ap (λ (b : Bool). not b || (entry_first && (k == 0))) (mark_is ∙ among_marks k lt))
    ∙ ap (λ (n : ℕ). counted_of n order entry_first) (let z : suc k ≡ k + 1 = omega arith in z)
