-- What the heap holds after an offer.
use Rattle.std.proofs.Common.{◌≡◌, ℕ, zero, suc, ◌<◌, Bool, false, ◌⊎◌, inl, inr, List, [], ◌∷◌, length, slice_index, slice_index_or, refl, sym, ap, subst, ◌∙◌, arith}
use Rattle.std.specs.Prelude.{Contains, IsPermutation}
use Rattle.std.specs.BinaryHeap.{IsHeap}
use Rattle.std.proofs.lemmas.List.Sorted.{Contains-permutation, IsPermutation-sym, length_permutation}
use Rattle.ir_tree.specs.declared.edge.Edge.{Edge}
use Rattle.spanning_order.specs.Spanning.{edge_at}
use Rattle.cfg_tree.specs.Chains.{AreChains, IsPlace, from_place}
use Rattle.cfg_tree.specs.Incident.{numbers_at}
use Rattle.cfg_tree.specs.Offers.{Key, Offers, OffersOne, is_joined, key, key_cmp}
use Rattle.cfg_tree.specs.declared.chains.End.{End}
use Rattle.cfg_tree.proofs.Chained.{is_place, row}

pub contains_first : {X : Type 0} (x : X) (xs : List X) → Contains (x ∷ xs) x
contains_first x xs = (0, (let z : 0 < length (x ∷ xs) = omega arith in z), refl)

pub contains_later : {X : Type 0} (y x : X) (xs : List X) → Contains xs x → Contains (y ∷ xs) x
contains_later y x xs c = (suc c.0, (let p = c.1 in let z : suc c.0 < length (y ∷ xs) = omega (arith, p) in z), c.2)

contains_at : {X : Type 0} (y x : X) (xs : List X) (k : ℕ) → k < length (y ∷ xs) → slice_index_or (y ∷ xs) k x ≡ x → (x ≡ y) ⊎ Contains xs x
contains_at y x xs zero lt e = inl (sym e)
contains_at y x xs (suc k) lt e = inr (k, (let z : k < length xs = omega (arith, lt) in z), e)

pub contains_cases : {X : Type 0} (y x : X) (xs : List X) → Contains (y ∷ xs) x → (x ≡ y) ⊎ Contains xs x
contains_cases y x xs c = contains_at y x xs c.0 c.1 c.2

pub nothing_there : {X : Type 0} (x : X) → Contains [] x → ⊥
nothing_there x c = let p = c.1 in omega (arith, p)

pub pushed : (edges : List Edge) (weights : List ℕ) (marks : List Bool) (k : ℕ) (old new : List Key) → IsPermutation (key weights k ∷ old) new → (IsHeap key_cmp old → IsHeap key_cmp new) → OffersOne edges weights marks k old new
pushed edges weights marks k old new p keeps = record {
  ordered = keeps;
  kept = λ x c. Contains-permutation (key weights k ∷ old) new x p (contains_later (key weights k) x old c);
  only = λ x c. elim (contains_cases (key weights k) x old (Contains-permutation new (key weights k ∷ old) x (IsPermutation-sym (key weights k ∷ old) new p) c)) [ inl e ↦ inr e | inr d ↦ inl d ];
  has = λ bare. Contains-permutation (key weights k ∷ old) new (key weights k) p (contains_first (key weights k) old);
  few = let e = length_permutation (key weights k ∷ old) new p in omega (arith, e);
}

module _ (edges : List Edge) (weights : List ℕ) (marks : List Bool) (all : List ℕ) where
  pub nothing_offered : (old : List Key) → Offers edges weights marks all all old old
  nothing_offered old = record {
    ordered = λ h. h;
    kept = λ x c. c;
    only = λ x c. inl c;
    has = λ k a bare. inl a;
    rests = λ k a. a;
    few = omega arith;
  }

  pub one_more_offered : (k : ℕ) (rest : List ℕ) (old now new : List Key) → Offers edges weights marks all (k ∷ rest) old now → OffersOne edges weights marks k now new → Offers edges weights marks all rest old new
  one_more_offered k rest old now new o one = record {
    ordered = λ h. one.ordered (o.ordered h);
    kept = λ x c. one.kept x (o.kept x c);
    only = λ x c. elim (one.only x c) [ inl d ↦ o.only x d | inr e ↦ inr (k, o.rests k (inl refl), e) ];
    has = λ j a bare. elim (o.has j a bare) [
      | inl b ↦ elim b [
        | inl e ↦ inr (subst (λ (i : ℕ). Contains new (key weights i)) (sym e) (one.has (subst (λ (i : ℕ). is_joined marks (edge_at edges i) ≡ false) e bare)))
        | inr d ↦ inl d
      ]
      | inr c ↦ inr (one.kept (key weights j) c)
    ];
    rests = λ j a. o.rests j (inr a);
    few = let p = o.few in let q = one.few in omega (arith, p, q);
  }

-- ---- one edge further on a chain

module _ (end : End) (edges : List Edge) (nodes : ℕ) (first next : List ℕ) (chains : AreChains end edges nodes first next) (v k place : ℕ) (at : place ≡ suc k) (stands : IsPlace end edges v place) (after : ℕ) (leads : after ≡ slice_index next k) where
  row_then : from_place end edges v place ≡ k ∷ from_place end edges v after
  row_then = row end edges nodes first next chains v k place at stands ∙ ap (λ (p : ℕ). k ∷ from_place end edges v p) (sym leads)

  pub place_after : IsPlace end edges v after
  place_after = subst (λ (p : ℕ). IsPlace end edges v p) (sym leads) (is_place end edges nodes first next chains v k place at stands)

  pub shorter_after : length (from_place end edges v after) < length (from_place end edges v place)
  shorter_after = let e : length (from_place end edges v place) ≡ suc (length (from_place end edges v after)) = ap (λ (ks : List ℕ). length ks) row_then in omega (arith, e)

  pub offers_after : (weights : List ℕ) (marks : List Bool) (old now new : List Key) → Offers edges weights marks (numbers_at end 0 edges v) (from_place end edges v place) old now → OffersOne edges weights marks k now new
      → Offers edges weights marks (numbers_at end 0 edges v) (from_place end edges v after) old new
  offers_after weights marks old now new o one =
      one_more_offered edges weights marks (numbers_at end 0 edges v) k (from_place end edges v after) old now new
      (subst (λ (ks : List ℕ). Offers edges weights marks (numbers_at end 0 edges v) ks old now) row_then o) one

-- a chain begins with all edges at the node
pub offers_start : (end : End) (edges : List Edge) (nodes : ℕ) (first next : List ℕ) → AreChains end edges nodes first next → (v place : ℕ) → v < nodes → place ≡ slice_index first v → (weights : List ℕ) (marks : List Bool) (old : List Key)
    → IsPlace end edges v place × Offers edges weights marks (numbers_at end 0 edges v) (from_place end edges v place) old old
offers_start end edges nodes first next chains v place lt is weights marks old =
    let l = chains.firsts v lt in
    subst (λ (p : ℕ). IsPlace end edges v p × Offers edges weights marks (numbers_at end 0 edges v) (from_place end edges v p) old old) (sym is)
    (l.is_place, subst (λ (ks : List ℕ). Offers edges weights marks (numbers_at end 0 edges v) ks old old) l.rest (nothing_offered edges weights marks (numbers_at end 0 edges v) old))
