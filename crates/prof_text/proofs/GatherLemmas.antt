-- The map of tallies, key by key.
use Rattle.std.proofs.Common.{append-nil, ◌≡◌, ℕ, Bool, true, false, cond, List, [], ◌∷◌, ◌++◌, Option, Some, None, slice_get, refl, sym, ap, ◌∙◌, subst, Ordering, Less, Equal, Greater}
use Rattle.std.specs.Ordering.{is_eq, nat_cmp}
use Rattle.std.specs.Borrow.{Bor}
use Rattle.std.specs.Cmp.Lexicographic.{pointwise, texts_ties}
use Rattle.std.specs.Cmp.{IsEquivalence, nat_eq_equiv, unsigned_ties}
use Rattle.std.specs.List.{IsDistinct, dedup, dedup_from}
use Rattle.std.specs.List.Sorted.{IsSorted, IsStrictlySortedBy}
use Rattle.std.specs.Map.{lookup}
use Rattle.std.specs.Prelude.{◌&&◌, nat_eq}
use Rattle.std.specs.Ordering.{ordering_then}
use Rattle.std.proofs.lemmas.List.Kept.{IsStrictlySortedBy-dedup}
use Rattle.indexmap.specs.IndexMap.{IndexMap, IsUnique, get, get_by, with_value_at}
use Rattle.indexmap.proofs.CallerLemmas.{updates-with_value_at}
use Rattle.std.proofs.lemmas.Map.Entries.{hash_map_get_place}
use Rattle.std.proofs.lemmas.Map.Lookups.{exact_bytes, exact_unsigned, exact_pairs}
use Rattle.std.specs.Cmp.{IsTotalOrder}
use Rattle.std.proofs.lemmas.Cmp.{and_equiv, eq_by_cmp_equiv, nat_list_cmp_total, nat_list_eq_equiv, nat_cmp_total, on_equiv, on_total, then_total}
use Rattle.prof_view.specs.Profile.{ProfileRecord}
use Rattle.std.proofs.lemmas.List.Elements.{filter-append}
use Rattle.prof_text.specs.Merged.{Key, key_cmp, name_cmp, key_of, has_key, of_key}
use Rattle.prof_text.specs.Tally.{Tallies}
use Rattle.prof_text.specs.Gathered.{plain_key, borrowed_key_cmp, is_key, GathersIn, IsTallyAt, with_records}
use Rattle.prof_text.specs.declared.tally.Tally.{Tally}

pub key_cmp_total : IsTotalOrder key_cmp
key_cmp_total = then_total (on_total (λ (k : Key). k.0) nat_list_cmp_total) (on_total (λ (k : Key). k.1) nat_cmp_total)

is_equal : (o : Ordering) → is_eq o ≡ true → o ≡ Equal
is_equal Less h = cc
is_equal Equal h = refl
is_equal Greater h = cc

-- keys that compare alike are the same
pub same_key : (a b : Key) → is_eq (key_cmp a b) ≡ true → a ≡ b
same_key a b h = exact_pairs name_cmp nat_cmp exact_bytes exact_unsigned a b (is_equal (key_cmp a b) h)

pub flip_key : (a b : Key) → is_eq (key_cmp a b) ≡ is_eq (key_cmp b a)
flip_key a b = (eq_by_cmp_equiv key_cmp_total).symm a b

pub key_itself : (a : Key) → is_eq (key_cmp a a) ≡ true
key_itself a = (eq_by_cmp_equiv key_cmp_total).refl a

pub borrowed_key_cmp_total : IsTotalOrder borrowed_key_cmp
borrowed_key_cmp_total = on_total plain_key key_cmp_total

abbrev pub borrowed_key_eq : Bor (List ℕ) × ℕ → Bor (List ℕ) × ℕ → Bool
borrowed_key_eq x y = pointwise nat_eq x.0.now y.0.now && nat_eq x.1 y.1

pub borrowed_key_equiv : IsEquivalence borrowed_key_eq
borrowed_key_equiv = and_equiv (on_equiv (λ (k : Bor (List ℕ) × ℕ). k.0.now) nat_list_eq_equiv) (on_equiv (λ (k : Bor (List ℕ) × ℕ). k.1) nat_eq_equiv)

-- borrowed keys are equal where they compare alike
pub eq_is : (x y : Bor (List ℕ) × ℕ) → borrowed_key_eq x y ≡ is_key (plain_key x) y
eq_is x y =
    both (name_cmp x.0.now y.0.now) (nat_cmp x.1 y.1) (pointwise nat_eq x.0.now y.0.now) (nat_eq x.1 y.1) (texts_ties x.0.now y.0.now) (unsigned_ties x.1 y.1)
  where
    both : (o p : Ordering) (a b : Bool) → a ≡ is_eq o → b ≡ is_eq p → (a && b) ≡ is_eq (ordering_then o p)
    both Less p a b e f = ap (λ t. t && b) e
    both Equal p a b e f = ap (λ t. t && b) e ∙ f
    both Greater p a b e f = ap (λ t. t && b) e

abbrev pub borrowed : Key → Bor (List ℕ) × ℕ
borrowed key = (record { ref_ptr = (0, 0); now = key.0 }, key.1)

-- a look-up by another test that says the same
pub lookup_same : {K V : Type 0} (s t : K → Bool) → ((k : K) → s k ≡ t k) → (es : List (K × V)) → lookup s es ≡ lookup t es
lookup_same s t same [] = refl
lookup_same s t same (e ∷ es) = ap (λ b. cond b (Some e.1) (lookup s es)) (same e.0) ∙ ap (λ o. cond (t e.0) (Some e.1) o) (lookup_same s t same es)

-- a look-up of a borrowed key is one of the key
pub get_key_is : {S : Type 0} (m : IndexMap (Bor (List ℕ) × ℕ) Tally S) (at : Bor (List ℕ) × ℕ) → get_by (borrowed_key_eq at) m ≡ get_by (is_key (plain_key at)) m
get_key_is m at = lookup_same (borrowed_key_eq at) (is_key (plain_key at)) (eq_is at) m.entries

step_put : (b : Bool) (k key : Key) (w : Tally) (old : Option Tally) (fk : List ProfileRecord) (rs : List ProfileRecord) →
    (b ≡ true → Tallies w (fk ++ rs)) → IsTallyAt old fk → IsTallyAt (cond b (Some w) old) (cond b (fk ++ rs) fk)
step_put true k key w old fk rs now was = now refl
step_put false k key w old fk rs now was = was

-- the map with another tally at one key
pub put_at : {S : Type 0} (m n : IndexMap (Bor (List ℕ) × ℕ) Tally S) (f : Key → List ProfileRecord) (at : Bor (List ℕ) × ℕ) (rs : List ProfileRecord) (w : Tally) →
    GathersIn m f →
    ((q : Bor (List ℕ) × ℕ) → get borrowed_key_eq n q ≡ cond (borrowed_key_eq at q) (Some w) (get borrowed_key_eq m q)) →
    Tallies w (f (plain_key at) ++ rs) → GathersIn n (with_records f (plain_key at) rs)
put_at m n f at rs w tallied updates now key =
    let q : Bor (List ℕ) × ℕ = borrowed key in
    let here : get_by (is_key key) n ≡ cond (is_eq (key_cmp key (plain_key at))) (Some w) (get_by (is_key key) m) =
    sym (get_key_is n q) ∙ (updates q
    ∙ (ap (λ (b : Bool). cond b (Some w) (get borrowed_key_eq m q)) (eq_is at q ∙ flip_key (plain_key at) key)
    ∙ ap (λ (o : Option Tally). cond (is_eq (key_cmp key (plain_key at))) (Some w) o) (get_key_is m q))) in
    subst (λ (o : Option Tally). IsTallyAt o (with_records f (plain_key at) rs key)) (sym here)
    (step_put (is_eq (key_cmp key (plain_key at))) key (plain_key at) w (get_by (is_key key) m) (f key) rs
    (λ same. subst (λ (k : Key). Tallies w (f k ++ rs)) (sym (same_key key (plain_key at) same)) now)
    (tallied key))

-- # A tally at a place

module _ {S : Type 0} (m : IndexMap (Bor (List ℕ) × ℕ) Tally S) (f : Key → List ProfileRecord) (place : ℕ) (k : Bor (List ℕ) × ℕ) (t : Tally) (key : Key)
    (unique : IsUnique borrowed_key_eq m) (at : slice_get m.entries place ≡ Some (k, t)) (same : plain_key k ≡ key) (gathers : GathersIn m f) where
  pub tally_at : Tallies t (f key)
  tally_at =
      let found : get_by (is_key (plain_key k)) m ≡ Some t = sym (get_key_is m k) ∙ hash_map_get_place borrowed_key_equiv m place k t unique at in
      subst (λ (l : Key). Tallies t (f l)) same (subst (λ (o : Option Tally). IsTallyAt o (f (plain_key k))) found (gathers (plain_key k)))

  pub put_place : (rs : List ProfileRecord) (w : Tally) → Tallies w (f key ++ rs) → GathersIn (with_value_at m place w) (with_records f key rs)
  put_place rs w now =
      subst (λ (l : Key). GathersIn (with_value_at m place w) (with_records f l rs)) same
      (put_at m (with_value_at m place w) f k rs w gathers (updates-with_value_at m place w borrowed_key_equiv unique k t at).0
      (subst (λ (l : Key). Tallies w (f l ++ rs)) (sym same) now))

abbrev key_at : Key → Option ((Bor (List ℕ) × ℕ) × Tally) → Key
key_at key None = key
key_at key (Some e) = plain_key e.0

-- one place has one key
pub one_entry : {o : Option ((Bor (List ℕ) × ℕ) × Tally)} (k l : Bor (List ℕ) × ℕ) (t u : Tally) → o ≡ Some (k, t) → o ≡ Some (l, u) → plain_key l ≡ plain_key k
one_entry k l t u e f = ap (key_at (plain_key k)) (sym f ∙ e)

-- in another order
pub reordered : {S : Type 0} (m n : IndexMap (Bor (List ℕ) × ℕ) Tally S) (f : Key → List ProfileRecord) →
    ((q : Bor (List ℕ) × ℕ) → get borrowed_key_eq n q ≡ get borrowed_key_eq m q) → GathersIn m f → GathersIn n f
reordered m n f same gathers key =
    let q : Bor (List ℕ) × ℕ = borrowed key in
    subst (λ (o : Option Tally). IsTallyAt o (f key)) (sym (sym (get_key_is n q) ∙ (same q ∙ get_key_is m q))) (gathers key)

-- equal keys are the same
pub equal_key : (x y : Bor (List ℕ) × ℕ) → borrowed_key_eq x y ≡ true → plain_key x ≡ plain_key y
equal_key x y e = same_key (plain_key x) (plain_key y) (sym (eq_is x y) ∙ e)

-- # Keys in order

first_kept : {K : Type 0} (E : K → K → Bool) → IsEquivalence E → (k : K) (ks : List K) → IsDistinct E (k ∷ ks) → dedup_from E k ks ≡ k ∷ ks
unfolding IsDistinct
first_kept E laws k [] distinct = refl
first_kept E laws k (x ∷ xs) distinct =
    ap (λ b. cond b (dedup_from E k xs) (k ∷ dedup_from E x xs)) (laws.symm x k ∙ distinct.0.0)
    ∙ ap (λ ys. k ∷ ys) (first_kept E laws x xs distinct.1)

distinct_kept : {K : Type 0} (E : K → K → Bool) → IsEquivalence E → (ks : List K) → IsDistinct E ks → dedup E ks ≡ ks
distinct_kept E laws [] distinct = refl
distinct_kept E laws (k ∷ ks) distinct = first_kept E laws k ks distinct

-- distinct keys that are sorted rise
pub sorted_rise : (ks : List (Bor (List ℕ) × ℕ)) → IsDistinct borrowed_key_eq ks → IsSorted borrowed_key_cmp ks → IsStrictlySortedBy borrowed_key_cmp ks
sorted_rise ks distinct sorted =
    subst (IsStrictlySortedBy borrowed_key_cmp) (distinct_kept borrowed_key_eq borrowed_key_equiv ks distinct)
    (IsStrictlySortedBy-dedup borrowed_key_cmp_total {E = borrowed_key_eq} eq_is ks sorted)

-- what a look-up found, and what it found nothing of
pub found_at : (o : Option Tally) (t : Tally) (rs : List ProfileRecord) → Some t ≡ o → IsTallyAt o rs → Tallies t rs
found_at o t rs e h = subst (λ (p : Option Tally). IsTallyAt p rs) (sym e) h

pub none_at : (o : Option Tally) (rs : List ProfileRecord) → None ≡ o → IsTallyAt o rs → rs ≡ []
none_at o rs e h = subst (λ (p : Option Tally). IsTallyAt p rs) (sym e) h

step_of_key : (b : Bool) (xs : List ProfileRecord) (r : ProfileRecord) → xs ++ cond b (r ∷ []) [] ≡ cond b (xs ++ r ∷ []) xs
step_of_key true xs r = refl
step_of_key false xs r = append-nil xs

-- one more record
pub of_key_push : (xs : List ProfileRecord) (r : ProfileRecord) (key : Key) → of_key key (xs ++ r ∷ []) ≡ with_records (λ k. of_key k xs) (key_of r) (r ∷ []) key
of_key_push xs r key = filter-append (has_key key) xs (r ∷ []) ∙ step_of_key (has_key key r) (of_key key xs) r
