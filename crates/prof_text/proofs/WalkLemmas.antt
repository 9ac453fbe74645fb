-- A walk over the entries of the map of tallies.
use Rattle.std.proofs.Common.{◌≡◌, ℕ, Bool, true, false, cond, ◌||◌, List, [], ◌∷◌, ◌++◌, Option, Some, None, map, refl, sym, ap, ◌∙◌, subst, Ordering, Less, Equal, Greater, append-nil, not, find, length, slice_get, eq-eqb}
use Rattle.std.specs.Ordering.{is_eq}
use Rattle.std.specs.Borrow.{Bor}
use Rattle.std.specs.Map.{lookup, keys_of}
use Rattle.std.specs.List.{AllByRecursion, AllZip, IsDistinct, list_any}
use Rattle.std.specs.List.Sorted.{IsStrictlySortedBy}
use Rattle.std.specs.Option.{option_map}
use Rattle.std.proofs.lemmas.Map.{lookup-none}
use Rattle.std.proofs.lemmas.Map.Entries.{none_below_head}
use Rattle.std.proofs.lemmas.Map.Keys.{sorted_head, sorted_tail}
use Rattle.std.proofs.lemmas.List.Elements.{recursion_from_All}
use Rattle.prof_view.specs.Profile.{ProfileRecord}
use Rattle.prof_text.specs.Merged.{Key, key_cmp, key_of, of_key, IsMergedKey, IsMerged, IsSumOf}
use Rattle.prof_text.specs.Mismatch.{Fit, LesserFit, IsMismatch, differing, differs_from, counter_numbers, site_numbers}
use Rattle.prof_text.specs.Tally.{Tallies, IsMisfit}
use Rattle.prof_text.specs.declared.error.MergeError.{MergeError}
use Rattle.prof_text.specs.declared.error.MergeError.TheVariants.{CounterMismatch, SiteMismatch, HeaderMismatch, NoMemory}
use Rattle.prof_text.specs.Gathered.{plain_key, borrowed_key_cmp, is_key, IsTallyAt, with_records}
use Rattle.prof_text.specs.declared.tally.Tally.{Tally}
use Rattle.prof_text.proofs.GatherLemmas.{borrowed, borrowed_key_cmp_total, borrowed_key_eq, eq_is, same_key, flip_key, key_itself}

abbrev pub Entry : Type 0
Entry = (Bor (List ℕ) × ℕ) × Tally

-- whether an entry has the key
abbrev pub is_among : Key → List Entry → Bool
is_among key es = list_any (λ (e : Entry). is_eq (key_cmp key (plain_key e.0))) es

-- the records of a key that is among the entries
abbrev pub among : Key → List Entry → List ProfileRecord → List ProfileRecord
among key es records = cond (is_among key es) records []

-- the sum of an entry's records
abbrev pub IsEntrySum : List ProfileRecord → Entry → ProfileRecord → Type 0
IsEntrySum recs e r = (key_of r ≡ plain_key e.0) × IsSumOf (of_key (plain_key e.0) recs) r

pub same_items : {A : Type 0} (xs : List A) → map (λ (x : A). x) xs ≡ xs
same_items [] = refl
same_items (x ∷ xs) = ap (λ ys. x ∷ ys) (same_items xs)

less_is_not_equal : (o : Ordering) → o ≡ Less → is_eq o ≡ false
less_is_not_equal Less h = refl
less_is_not_equal Equal h = cc
less_is_not_equal Greater h = cc

or_left : (a b : Bool) → (a || b) ≡ false → a ≡ false
or_left true b h = h
or_left false b h = refl

or_right : (a b : Bool) → (a || b) ≡ false → b ≡ false
or_right true b h = cc
or_right false b h = h

reach : (P : Bor (List ℕ) × ℕ → Type 0) (ys rest : List Entry) (e : Entry) → AllByRecursion P (keys_of (ys ++ e ∷ rest)) → P e.0
reach P [] rest e h = h.0
reach P (y ∷ ys) rest e h = reach P ys rest e h.1

-- no entry before e has the key of e
pub apart_before : (ys rest : List Entry) (e : Entry) → IsStrictlySortedBy borrowed_key_cmp (keys_of (ys ++ e ∷ rest)) → is_among (plain_key e.0) ys ≡ false
apart_before [] rest e sorted = refl
apart_before (y ∷ ys) rest e sorted =
    let below : borrowed_key_cmp y.0 e.0 ≡ Less = reach (λ k. borrowed_key_cmp y.0 k ≡ Less) ys rest e (sorted_head borrowed_key_cmp y.0 (keys_of (ys ++ e ∷ rest)) sorted) in
    let apart : is_eq (key_cmp (plain_key e.0) (plain_key y.0)) ≡ false = flip_key (plain_key e.0) (plain_key y.0) ∙ less_is_not_equal (key_cmp (plain_key y.0) (plain_key e.0)) below in
    ap (λ (b : Bool). b || is_among (plain_key e.0) ys) apart ∙ apart_before ys rest e (sorted_tail borrowed_key_cmp y.0 (keys_of (ys ++ e ∷ rest)) sorted)

-- the same of entries whose keys differ
pub apart_among : (ys rest : List Entry) (e : Entry) → IsDistinct borrowed_key_eq (keys_of (ys ++ e ∷ rest)) → is_among (plain_key e.0) ys ≡ false
unfolding IsDistinct
apart_among [] rest e distinct = refl
apart_among (y ∷ ys) rest e distinct =
    let other : borrowed_key_eq y.0 e.0 ≡ false = reach (λ k. borrowed_key_eq y.0 k ≡ false) ys rest e distinct.0 in
    let apart : is_eq (key_cmp (plain_key e.0) (plain_key y.0)) ≡ false = flip_key (plain_key e.0) (plain_key y.0) ∙ (sym (eq_is y.0 e.0) ∙ other) in
    ap (λ (b : Bool). b || is_among (plain_key e.0) ys) apart ∙ apart_among ys rest e distinct.1

step_lookup : (b : Bool) (t : Tally) (o p : Option Tally) → b ≡ false → o ≡ p → cond b (Some t) o ≡ p
step_lookup true t o p h e = cc
step_lookup false t o p h e = e

-- a look-up passes over entries that have not the key
pub lookup_behind : (key : Key) (ys zs : List Entry) → is_among key ys ≡ false → lookup (is_key key) (ys ++ zs) ≡ lookup (is_key key) zs
lookup_behind key [] zs h = refl
lookup_behind key (y ∷ ys) zs h =
    step_lookup (is_eq (key_cmp key (plain_key y.0))) y.1 (lookup (is_key key) (ys ++ zs)) (lookup (is_key key) zs)
    (or_left (is_eq (key_cmp key (plain_key y.0))) (is_among key ys) h) (lookup_behind key ys zs (or_right (is_eq (key_cmp key (plain_key y.0))) (is_among key ys) h))

pub lookup_here : (ys rest : List Entry) (e : Entry) → is_among (plain_key e.0) ys ≡ false → lookup (is_key (plain_key e.0)) (ys ++ e ∷ rest) ≡ Some e.1
lookup_here ys rest e apart =
    lookup_behind (plain_key e.0) ys (e ∷ rest) apart
    ∙ ap (λ (b : Bool). cond b (Some e.1) (lookup (is_key (plain_key e.0)) rest)) (key_itself (plain_key e.0))

-- the tally of an entry is that of its key's records
pub tally_here : (f : Key → List ProfileRecord) (ys rest : List Entry) (e : Entry) → is_among (plain_key e.0) ys ≡ false →
    ((key : Key) → IsTallyAt (lookup (is_key key) (ys ++ e ∷ rest)) (f key)) → Tallies e.1 (f (plain_key e.0))
tally_here f ys rest e apart gathers = subst (λ (o : Option Tally). IsTallyAt o (f (plain_key e.0))) (lookup_here ys rest e apart) (gathers (plain_key e.0))

-- ---- absorbing
step_all : (b : Bool) (o : Option Tally) (records : List ProfileRecord) → (b ≡ false → o ≡ None) → IsTallyAt o records → cond b records [] ≡ records
step_all true o records none h = refl
step_all false o records none h = sym (subst (λ (p : Option Tally). IsTallyAt p records) (none refl) h)

-- once all entries have passed, each key's records have
pub among_all : (key : Key) (es : List Entry) (records : List ProfileRecord) → IsTallyAt (lookup (is_key key) es) records → among key es records ≡ records
among_all key es records h =
    step_all (is_among key es) (lookup (is_key key) es) records
    (λ apart. ap (lookup (is_key key)) (sym (append-nil es)) ∙ lookup_behind key es [] apart) h

is_among_push : (key : Key) (ys : List Entry) (e : Entry) → is_among key (ys ++ e ∷ []) ≡ (is_among key ys || is_eq (key_cmp key (plain_key e.0)))
is_among_push key [] e = or_false (is_eq (key_cmp key (plain_key e.0)))
  where
    or_false : (b : Bool) → (b || false) ≡ b
    or_false true = refl
    or_false false = refl
is_among_push key (y ∷ ys) e =
    ap (λ (b : Bool). is_eq (key_cmp key (plain_key y.0)) || b) (is_among_push key ys e)
    ∙ or_assoc (is_eq (key_cmp key (plain_key y.0))) (is_among key ys) (is_eq (key_cmp key (plain_key e.0)))
  where
    or_assoc : (a b c : Bool) → (a || (b || c)) ≡ ((a || b) || c)
    or_assoc true b c = refl
    or_assoc false b c = refl

step_absorb : (b a : Bool) (fk gk ge : List ProfileRecord) → (b ≡ true → (a ≡ false) × (ge ≡ gk)) →
    cond b ((fk ++ cond a gk []) ++ ge) (fk ++ cond a gk []) ≡ fk ++ cond (a || b) gk []
step_absorb true true fk gk ge h = let t : true ≡ false = (h refl).0 in cc
step_absorb true false fk gk ge h = ap (λ (xs : List ProfileRecord). xs ++ ge) (append-nil fk) ∙ ap (λ (xs : List ProfileRecord). fk ++ xs) (h refl).1
step_absorb false true fk gk ge h = refl
step_absorb false false fk gk ge h = refl

-- one more entry that is absorbed
pub absorb_push : (f g : Key → List ProfileRecord) (ys : List Entry) (e : Entry) → is_among (plain_key e.0) ys ≡ false → (key : Key) →
    with_records (λ k. f k ++ among k ys (g k)) (plain_key e.0) (g (plain_key e.0)) key ≡ f key ++ among key (ys ++ e ∷ []) (g key)
absorb_push f g ys e apart key =
    step_absorb (is_eq (key_cmp key (plain_key e.0))) (is_among key ys) (f key) (g key) (g (plain_key e.0))
    (λ same. (ap (λ (k : Key). is_among k ys) (same_key key (plain_key e.0) same) ∙ apart, ap g (sym (same_key key (plain_key e.0) same))))
    ∙ ap (λ (b : Bool). f key ++ cond b (g key) []) (sym (is_among_push key ys e))

-- ---- finishing
pub zip_push : {A B : Type 0} (R : A → B → Type 0) (xs : List A) (ys : List B) (x : A) (y : B) → AllZip R xs ys → R x y → AllZip R (xs ++ x ∷ []) (ys ++ y ∷ [])
zip_push R [] [] x y h r = (r, tt)
zip_push R [] (b ∷ ys) x y h r = absurd h
zip_push R (a ∷ xs) [] x y h r = absurd h
zip_push R (a ∷ xs) (b ∷ ys) x y h r = (h.0, zip_push R xs ys x y h.1 r)

none_beyond : (recs : List ProfileRecord) (key : Key) (es : List Entry) (outs : List ProfileRecord) → AllZip (IsEntrySum recs) es outs →
    AllByRecursion (λ k. key_cmp key (plain_key k) ≡ Less) (keys_of es) → of_key key outs ≡ []
none_beyond recs key [] [] zips below = refl
none_beyond recs key [] (r ∷ outs) zips below = absurd zips
none_beyond recs key (e ∷ es) [] zips below = absurd zips
none_beyond recs key (e ∷ es) (r ∷ outs) zips below =
    ap (λ (b : Bool). cond b (r ∷ of_key key outs) (of_key key outs)) (ap (λ (k : Key). is_eq (key_cmp key k)) zips.0.0 ∙ less_is_not_equal (key_cmp key (plain_key e.0)) below.0)
    ∙ none_beyond recs key es outs zips.1 below.1

-- what the records that are made so far have of a key whose tally is looked up among the entries so far
abbrev pub IsSumAt : List ProfileRecord → Option Tally → List ProfileRecord → Type 0
IsSumAt records None outs = outs ≡ []
IsSumAt records (Some t) outs = (sum : ProfileRecord) × (outs ≡ sum ∷ []) × IsSumOf records sum

step_sum : (b : Bool) (recs : List ProfileRecord) (t : Tally) (o : Option Tally) (r : ProfileRecord) (rest : List ProfileRecord) →
    (b ≡ true → (rest ≡ []) × IsSumOf recs r) → IsSumAt recs o rest → IsSumAt recs (cond b (Some t) o) (cond b (r ∷ rest) rest)
step_sum true recs t o r rest here more = (r, ap (λ (rs : List ProfileRecord). r ∷ rs) (here refl).0, (here refl).1)
step_sum false recs t o r rest here more = more

pub sum_found : (recs : List ProfileRecord) (key : Key) (es : List Entry) (outs : List ProfileRecord) → IsStrictlySortedBy borrowed_key_cmp (keys_of es) → AllZip (IsEntrySum recs) es outs →
    IsSumAt (of_key key recs) (lookup (is_key key) es) (of_key key outs)
sum_found recs key [] [] sorted zips = refl
sum_found recs key [] (r ∷ outs) sorted zips = absurd zips
sum_found recs key (e ∷ es) [] sorted zips = absurd zips
sum_found recs key (e ∷ es) (r ∷ outs) sorted zips =
    subst (λ (k : Key). IsSumAt (of_key key recs) (cond (is_eq (key_cmp key (plain_key e.0))) (Some e.1) (lookup (is_key key) es)) (cond (is_eq (key_cmp key k)) (r ∷ of_key key outs) (of_key key outs))) (sym zips.0.0)
    (step_sum (is_eq (key_cmp key (plain_key e.0))) (of_key key recs) e.1 (lookup (is_key key) es) r (of_key key outs)
    (λ test. let same : key ≡ plain_key e.0 = same_key key (plain_key e.0) test in (
      none_beyond recs key es outs zips.1 (subst (λ (k : Key). AllByRecursion (λ x. key_cmp k (plain_key x) ≡ Less) (keys_of es)) (sym same) (sorted_head borrowed_key_cmp e.0 (keys_of es) sorted)),
      subst (λ (k : Key). IsSumOf (of_key k recs) r) (sym same) zips.0.1,
    ))
    (sum_found recs key es outs (sorted_tail borrowed_key_cmp e.0 (keys_of es) sorted) zips.1))

all_keys_beyond : (recs : List ProfileRecord) (key : Key) (es : List Entry) (outs : List ProfileRecord) → AllZip (IsEntrySum recs) es outs →
    AllByRecursion (λ k. key_cmp key (plain_key k) ≡ Less) (keys_of es) → AllByRecursion (λ (k : Key). key_cmp key k ≡ Less) (map key_of outs)
all_keys_beyond recs key [] [] zips below = tt
all_keys_beyond recs key [] (r ∷ outs) zips below = absurd zips
all_keys_beyond recs key (e ∷ es) [] zips below = absurd zips
all_keys_beyond recs key (e ∷ es) (r ∷ outs) zips below =
    (subst (λ (k : Key). key_cmp key k ≡ Less) (sym zips.0.0) below.0, all_keys_beyond recs key es outs zips.1 below.1)

keys_rise : (recs : List ProfileRecord) (es : List Entry) (outs : List ProfileRecord) → IsStrictlySortedBy borrowed_key_cmp (keys_of es) → AllZip (IsEntrySum recs) es outs → IsStrictlySortedBy key_cmp (map key_of outs)
unfolding IsStrictlySortedBy
keys_rise recs [] [] sorted zips = tt
keys_rise recs [] (r ∷ outs) sorted zips = absurd zips
keys_rise recs (e ∷ es) [] sorted zips = absurd zips
keys_rise recs (e ∷ es) (r ∷ outs) sorted zips = (
  subst (λ (k : Key). AllByRecursion (λ (x : Key). key_cmp k x ≡ Less) (map key_of outs)) (sym zips.0.0) (all_keys_beyond recs (plain_key e.0) es outs zips.1 sorted.0),
  keys_rise recs es outs sorted.1 zips.1,
)

no_records : (t : Tally) → Tallies t [] → ⊥
no_records t h = let e : slice_get (counter_numbers []) 0 ≡ Some (length t.counters.items) = h.counters.number in cc

merged_key : (recs : List ProfileRecord) (o : Option Tally) (outs : List ProfileRecord) → IsTallyAt o recs → IsSumAt recs o outs → IsMergedKey recs outs
merged_key [] None outs tally sum = sum
merged_key [] (Some t) outs tally sum = absurd (no_records t tally)
merged_key (r ∷ rs) None outs tally sum = cc
merged_key (r ∷ rs) (Some t) outs tally sum = sum

pub entries_are_merged : (recs : List ProfileRecord) (es : List Entry) (outs : List ProfileRecord) → IsStrictlySortedBy borrowed_key_cmp (keys_of es) →
    ((key : Key) → IsTallyAt (lookup (is_key key) es) (of_key key recs)) → AllZip (IsEntrySum recs) es outs → IsMerged recs outs
entries_are_merged recs es outs sorted gathers zips = record {
  rises = keys_rise recs es outs sorted zips;
  keys = λ key. merged_key (of_key key recs) (lookup (is_key key) es) (of_key key outs) (gathers key) (sum_found recs key es outs sorted zips);
}

-- ---- the first key that can't be summed
step_fit : (n m : ℕ) (o : Option ℕ) → m ≡ n → o ≡ None → cond (differs_from n m) (Some m) o ≡ None
step_fit n m o same none = ap (λ (b : Bool). cond (not b) (Some m) o) (eq-eqb m n same) ∙ none

fit_alike : (f : ProfileRecord → ℕ) (n : ℕ) (rs : List ProfileRecord) → AllByRecursion (λ (r : ProfileRecord). f r ≡ n) rs → find (differs_from n) (map f rs) ≡ None
fit_alike f n [] h = refl
fit_alike f n (r ∷ rs) h = step_fit n (f r) (find (differs_from n) (map f rs)) h.0 (fit_alike f n rs h.1)

pub differing_none : (f : ProfileRecord → ℕ) (n : ℕ) (rs : List ProfileRecord) → AllByRecursion (λ (r : ProfileRecord). f r ≡ n) rs → differing (map f rs) ≡ None
differing_none f n [] h = refl
differing_none f n (r ∷ rs) h =
    subst (λ (k : ℕ). option_map {U = ℕ × ℕ} (λ (j : ℕ). (k, j)) (find (differs_from k) (map f (r ∷ rs))) ≡ None) (sym h.0)
    (ap (option_map {U = ℕ × ℕ} (λ (j : ℕ). (n, j))) (fit_alike f n (r ∷ rs) h))

-- records that have a sum can be summed
pub sum_fits : (rs : List ProfileRecord) (r : ProfileRecord) → IsSumOf rs r → Fit rs
sum_fits rs r h = record {
  counters = differing_none (λ q. length q.counters) (length r.counters) rs (recursion_from_All (λ (q : ProfileRecord). length q.counters ≡ length r.counters) rs h.counters_alike);
  sites = differing_none (λ q. length q.sites) (length r.sites) rs (recursion_from_All (λ (q : ProfileRecord). length q.sites ≡ length r.sites) rs h.sites_alike);
}

none_fits : (rs : List ProfileRecord) → rs ≡ [] → Fit rs
none_fits rs e = subst Fit (sym e) (record { counters = refl; sites = refl })

fits_at : (recs : List ProfileRecord) (o : Option Tally) (outs : List ProfileRecord) → IsTallyAt o recs → IsSumAt recs o outs → Fit recs
fits_at recs None outs tally sum = none_fits recs tally
fits_at recs (Some t) outs tally sum = sum_fits recs sum.0 sum.2

front_below : (y : Entry) (ys zs : List Entry) → AllByRecursion (λ k. borrowed_key_cmp y.0 k ≡ Less) (keys_of (ys ++ zs)) → AllByRecursion (λ k. borrowed_key_cmp y.0 k ≡ Less) (keys_of ys)
front_below y [] zs h = tt
front_below y (x ∷ ys) zs h = (h.0, front_below y ys zs h.1)

sorted_front : (ys zs : List Entry) → IsStrictlySortedBy borrowed_key_cmp (keys_of (ys ++ zs)) → IsStrictlySortedBy borrowed_key_cmp (keys_of ys)
unfolding IsStrictlySortedBy
sorted_front [] zs sorted = tt
sorted_front (y ∷ ys) zs sorted = (front_below y ys zs sorted.0, sorted_front ys zs sorted.1)

sorted_back : (ys zs : List Entry) → IsStrictlySortedBy borrowed_key_cmp (keys_of (ys ++ zs)) → IsStrictlySortedBy borrowed_key_cmp (keys_of zs)
unfolding IsStrictlySortedBy
sorted_back [] zs sorted = sorted
sorted_back (y ∷ ys) zs sorted = sorted_back ys zs sorted.1

lookup_front : (key : Key) (ys zs : List Entry) → lookup (is_key key) zs ≡ None → lookup (is_key key) (ys ++ zs) ≡ lookup (is_key key) ys
lookup_front key [] zs none = none
lookup_front key (y ∷ ys) zs none = ap (λ (o : Option Tally). cond (is_eq (key_cmp key (plain_key y.0))) (Some y.1) o) (lookup_front key ys zs none)

-- a key below that of e has no entry from e on
none_from : (key : Key) (e : Entry) (rest : List Entry) → key_cmp key (plain_key e.0) ≡ Less → IsStrictlySortedBy borrowed_key_cmp (keys_of (e ∷ rest)) → lookup (is_key key) (e ∷ rest) ≡ None
none_from key e rest below sorted =
    lookup-none (is_key key) (e ∷ rest) (none_below_head borrowed_key_cmp_total (borrowed key) e rest sorted below)

pub lesser_fit : (recs : List ProfileRecord) (ys rest : List Entry) (e : Entry) (outs : List ProfileRecord) → IsStrictlySortedBy borrowed_key_cmp (keys_of (ys ++ e ∷ rest)) →
    ((key : Key) → IsTallyAt (lookup (is_key key) (ys ++ e ∷ rest)) (of_key key recs)) → AllZip (IsEntrySum recs) ys outs → LesserFit (plain_key e.0) recs
lesser_fit recs ys rest e outs sorted gathers zips key below =
    let front : lookup (is_key key) (ys ++ e ∷ rest) ≡ lookup (is_key key) ys = lookup_front key ys (e ∷ rest) (none_from key e rest below (sorted_back ys (e ∷ rest) sorted)) in
    fits_at (of_key key recs) (lookup (is_key key) ys) (of_key key outs)
    (subst (λ (o : Option Tally). IsTallyAt o (of_key key recs)) front (gathers key))
    (sum_found recs key ys outs (sorted_front ys (e ∷ rest) sorted) zips)

pub mismatch_from : (recs : List ProfileRecord) (key : Key) (error : MergeError) → IsMisfit key (of_key key recs) error → LesserFit key recs → IsMismatch recs error
mismatch_from recs key (CounterMismatch name hash first other) misfit lesser =
    record { differ = subst (λ (k : Key). differing (counter_numbers (of_key k recs)) ≡ Some (first, other)) misfit.0 misfit.1; lesser = subst (λ (k : Key). LesserFit k recs) misfit.0 lesser }
mismatch_from recs key (SiteMismatch name hash first other) misfit lesser =
    record {
      counters = subst (λ (k : Key). differing (counter_numbers (of_key k recs)) ≡ None) misfit.0 misfit.1;
      differ = subst (λ (k : Key). differing (site_numbers (of_key k recs)) ≡ Some (first, other)) misfit.0 misfit.2;
      lesser = subst (λ (k : Key). LesserFit k recs) misfit.0 lesser;
    }
mismatch_from recs key (HeaderMismatch input first other) misfit lesser = misfit
mismatch_from recs key NoMemory misfit lesser = tt
