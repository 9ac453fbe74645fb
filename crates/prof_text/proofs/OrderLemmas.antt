-- Lists with the same sums have the same merge.
use Rattle.std.proofs.Common.{◌≡◌, ◌==◌, ◌+◌, ℕ, Bool, true, false, cond, List, [], ◌∷◌, Option, Some, None, length, map, filter, find, sum_by, refl, sym, ap, ◌∙◌, subst, arith, Ordering, Less, Equal, Greater, eqb-true, eq-eqb, All}
use Rattle.std.specs.Ordering.{is_eq, ordering_reverse}
use Rattle.std.specs.Option.{option_map}
use Rattle.std.specs.List.{AllByRecursion, flat_map}
use Rattle.std.specs.List.Sorted.{IsPermutation}
use Rattle.std.proofs.lemmas.List.{ext_get_or}
use Rattle.std.proofs.lemmas.List.Sums.{sum_by-cons, sum_by-append}
use Rattle.std.proofs.lemmas.List.Sorted.{sum_by-IsPermutation}
use Rattle.std.proofs.lemmas.List.Elements.{filter_passes, recursion_from_All}
use Rattle.std.proofs.lemmas.Cmp.{nat_list_cmp_total}
use Rattle.prof_view.specs.Profile.{ProfileRecord}
use Rattle.prof_text.specs.Merged.{Key, Target, key_cmp, key_of, has_key, of_key, name_cmp, of_name, capped, counter_at, site_at, targets_at, IsTotal, IsMergedSite, IsSumOf, IsMergedKey, IsMerged}
use Rattle.prof_text.specs.Mismatch.{Fit, LesserFit, IsMismatch, differing, differs_from}
use Rattle.prof_text.specs.Order.{named_key, SameRecords}
use Rattle.prof_text.specs.declared.error.MergeError.{MergeError}
use Rattle.prof_text.specs.declared.error.MergeError.TheVariants.{CounterMismatch, SiteMismatch, HeaderMismatch, NoMemory}
use Rattle.prof_text.proofs.RiseLemmas.{rising_unique}
use Rattle.prof_text.proofs.GatherLemmas.{key_cmp_total, same_key}
use Rattle.prof_text.proofs.SumLemmas.{alike}
use Rattle.prof_text.proofs.WalkLemmas.{differing_none, sum_fits}

-- ---- lists with the same sum of every number
abbrev pub SameSums : {X : Type 0} → List X → List X → Type 0
SameSums {X} xs ys = (f : X → ℕ) → sum_by f ys ≡ sum_by f xs

pub reordered : (xs ys : List ProfileRecord) → IsPermutation xs ys → SameRecords xs ys
reordered xs ys moved count = sum_by-IsPermutation count xs ys moved

back : {X : Type 0} (xs ys : List X) → SameSums xs ys → SameSums ys xs
back xs ys same f = sym (same f)

nothing_left : {X : Type 0} (y : X) (ys : List X) → SameSums [] (y ∷ ys) → ⊥
nothing_left y ys same =
    let e : 1 + sum_by (λ x. 1) ys ≡ 0 = sym (sum_by-cons (λ x. 1) y ys) ∙ same (λ x. 1) in omega arith

step_filter : {X : Type 0} (b : Bool) (f : X → ℕ) (x : X) (rest : List X) (n : ℕ) → sum_by f rest ≡ n → sum_by f (cond b (x ∷ rest) rest) ≡ cond b (f x) 0 + n
step_filter true f x rest n e = sum_by-cons f x rest ∙ ap (λ (m : ℕ). f x + m) e
step_filter false f x rest n e = e ∙ omega arith

sum_by_filter : {X : Type 0} (p : X → Bool) (f : X → ℕ) (xs : List X) → sum_by f (filter p xs) ≡ sum_by (λ x. cond (p x) (f x) 0) xs
sum_by_filter p f [] = refl
sum_by_filter p f (x ∷ xs) =
    step_filter (p x) f x (filter p xs) (sum_by (λ y. cond (p y) (f y) 0) xs) (sum_by_filter p f xs)
    ∙ sym (sum_by-cons (λ y. cond (p y) (f y) 0) x xs)

same_filter : {X : Type 0} (p : X → Bool) (xs ys : List X) → SameSums xs ys → SameSums (filter p xs) (filter p ys)
same_filter p xs ys same f = sum_by_filter p f ys ∙ (same (λ x. cond (p x) (f x) 0) ∙ sym (sum_by_filter p f xs))

sum_by_flat_map : {X Y : Type 0} (g : X → List Y) (f : Y → ℕ) (xs : List X) → sum_by f (flat_map g xs) ≡ sum_by (λ x. sum_by f (g x)) xs
sum_by_flat_map g f [] = refl
sum_by_flat_map g f (x ∷ xs) =
    sum_by-append f (g x) (flat_map g xs) ∙ (ap (λ (m : ℕ). sum_by f (g x) + m) (sum_by_flat_map g f xs) ∙ sym (sum_by-cons (λ y. sum_by f (g y)) x xs))

same_flat_map : {X Y : Type 0} (g : X → List Y) (xs ys : List X) → SameSums xs ys → SameSums (flat_map g xs) (flat_map g ys)
same_flat_map g xs ys same f = sum_by_flat_map g f ys ∙ (same (λ x. sum_by f (g x)) ∙ sym (sum_by_flat_map g f xs))

-- ---- a number that all elements of one have, all of the other have
abbrev zero_if : Bool → ℕ
zero_if true = 0
zero_if false = 1

off : ℕ → ℕ → ℕ
off n m = zero_if (m == n)

none_off : {X : Type 0} (f : X → ℕ) (n : ℕ) (xs : List X) → AllByRecursion (λ x. f x ≡ n) xs → sum_by (λ x. off n (f x)) xs ≡ 0
unfolding off
none_off f n [] h = refl
none_off f n (x ∷ xs) h =
    let here : off n (f x) ≡ 0 = ap zero_if (eq-eqb (f x) n h.0) in
    let rest : sum_by (λ y. off n (f y)) xs ≡ 0 = none_off f n xs h.1 in
    sum_by-cons (λ y. off n (f y)) x xs ∙ omega arith

on_from_zero : (b : Bool) (n m : ℕ) → (m == n) ≡ b → zero_if b ≡ 0 → m ≡ n
on_from_zero true n m test h = eqb-true m n test
on_from_zero false n m test h = absurd (omega arith)

all_from_zero : {X : Type 0} (f : X → ℕ) (n : ℕ) (xs : List X) → sum_by (λ x. off n (f x)) xs ≡ 0 → AllByRecursion (λ x. f x ≡ n) xs
unfolding off
all_from_zero f n [] h = tt
all_from_zero f n (x ∷ xs) h =
    let both : off n (f x) + sum_by (λ y. off n (f y)) xs ≡ 0 = sym (sum_by-cons (λ y. off n (f y)) x xs) ∙ h in
    (on_from_zero (f x == n) n (f x) refl (omega arith), all_from_zero f n xs (omega arith))

alike_other : {X : Type 0} (f : X → ℕ) (n : ℕ) (xs ys : List X) → SameSums xs ys → AllByRecursion (λ x. f x ≡ n) xs → AllByRecursion (λ x. f x ≡ n) ys
alike_other f n xs ys same h = all_from_zero f n ys (same (λ x. off n (f x)) ∙ none_off f n xs h)

-- ---- one site
same_total : (name : List ℕ) (xs ys us vs : List Target) → SameSums xs ys → IsTotal name xs us → IsTotal name ys vs → us ≡ vs
same_total name [] [] us vs same hu hv = hu ∙ sym hv
same_total name [] (y ∷ ys) us vs same hu hv = absurd (nothing_left y ys same)
same_total name (x ∷ xs) [] us vs same hu hv = absurd (nothing_left x xs (back (x ∷ xs) [] same))
same_total name (x ∷ xs) (y ∷ ys) us vs same hu hv =
    hu ∙ (ap (λ (n : ℕ). (name, capped n) ∷ []) (sym (same (λ (u : Target). u.1))) ∙ sym hv)

same_site : (xs ys us vs : List Target) → SameSums xs ys → IsMergedSite xs us → IsMergedSite ys vs → us ≡ vs
same_site xs ys us vs same hu hv =
    rising_unique (λ (t : Target). t.0) name_cmp nat_list_cmp_total us vs hu.rises hv.rises
    (λ name. same_total name (of_name name xs) (of_name name ys) (of_name name us) (of_name name vs) (same_filter (λ (t : Target). is_eq (name_cmp name t.0)) xs ys same) (hu.totals name) (hv.totals name))

-- ---- one key
same_parts : (a b : List ℕ) (h k : ℕ) (c d : List ℕ) (s t : List (List Target)) → a ≡ b → h ≡ k → c ≡ d → s ≡ t →
    ◌≡◌ {A = ProfileRecord} (record { name = a; hash = h; counters = c; sites = s }) (record { name = b; hash = k; counters = d; sites = t })
same_parts a b h k c d s t e f g i = cc

same_numbers : (f : ProfileRecord → ℕ) (m n : ℕ) (r : ProfileRecord) (rs ys : List ProfileRecord) → SameSums (r ∷ rs) ys → All (λ q. f q ≡ m) (r ∷ rs) → All (λ q. f q ≡ n) ys → m ≡ n
same_numbers f m n r rs [] same hm hn = absurd (nothing_left r rs (back (r ∷ rs) [] same))
same_numbers f m n r rs (y ∷ ys) same hm hn =
    let first : AllByRecursion (λ q. f q ≡ m) (y ∷ ys) = alike_other f m (r ∷ rs) (y ∷ ys) same (recursion_from_All (λ q. f q ≡ m) (r ∷ rs) hm) in
    let second : AllByRecursion (λ q. f q ≡ n) (y ∷ ys) = recursion_from_All (λ q. f q ≡ n) (y ∷ ys) hn in
    sym first.0 ∙ second.0

same_sum : (r : ProfileRecord) (rs ys : List ProfileRecord) (m n : ProfileRecord) → SameSums (r ∷ rs) ys → key_of m ≡ key_of n → IsSumOf (r ∷ rs) m → IsSumOf ys n → m ≡ n
same_sum r rs ys m n same key hm hn =
    let counters_len : length m.counters ≡ length n.counters = same_numbers (λ q. length q.counters) (length m.counters) (length n.counters) r rs ys same hm.counters_alike hn.counters_alike in
    let sites_len : length m.sites ≡ length n.sites = same_numbers (λ q. length q.sites) (length m.sites) (length n.sites) r rs ys same hm.sites_alike hn.sites_alike in
    let counters : m.counters ≡ n.counters = ext_get_or 0 m.counters n.counters counters_len (λ i low. hm.counters i ∙ (ap capped (sym (same (counter_at i))) ∙ sym (hn.counters i))) in
    let sites : m.sites ≡ n.sites = ext_get_or [] m.sites n.sites sites_len
    (λ s low. same_site (targets_at s (r ∷ rs)) (targets_at s ys) (site_at s m) (site_at s n) (same_flat_map (site_at s) (r ∷ rs) ys same) (hm.sites s low) (hn.sites s (omega (arith, sites_len)))) in
    same_parts m.name n.name m.hash n.hash m.counters n.counters m.sites n.sites (ap (λ (k : Key). k.0) key) (ap (λ (k : Key). k.1) key) counters sites

-- the one record of a key has the key
one_has_key : (key : Key) (merged : List ProfileRecord) (m : ProfileRecord) → of_key key merged ≡ m ∷ [] → key ≡ key_of m
one_has_key key merged m e =
    let all : AllByRecursion (λ q. has_key key q ≡ true) (m ∷ []) = subst (AllByRecursion (λ q. has_key key q ≡ true)) e (recursion_from_All (λ q. has_key key q ≡ true) (of_key key merged) (filter_passes (has_key key) merged)) in
    same_key key (key_of m) all.0

same_merged_key : (key : Key) (xs ys us vs : List ProfileRecord) (a b : List ProfileRecord) → SameSums xs ys → of_key key a ≡ us → of_key key b ≡ vs → IsMergedKey xs us → IsMergedKey ys vs → us ≡ vs
same_merged_key key [] [] us vs a b same ea eb hu hv = hu ∙ sym hv
same_merged_key key [] (y ∷ ys) us vs a b same ea eb hu hv = absurd (nothing_left y ys same)
same_merged_key key (x ∷ xs) [] us vs a b same ea eb hu hv = absurd (nothing_left x xs (back (x ∷ xs) [] same))
same_merged_key key (x ∷ xs) (y ∷ ys) us vs a b same ea eb hu hv =
    let in_a : key ≡ key_of hu.0 = one_has_key key a hu.0 (ea ∙ hu.1) in
    let in_b : key ≡ key_of hv.0 = one_has_key key b hv.0 (eb ∙ hv.1) in
    hu.1 ∙ (ap (λ (m : ProfileRecord). m ∷ []) (same_sum x xs (y ∷ ys) hu.0 hv.0 same (sym in_a ∙ in_b) hu.2 hv.2) ∙ sym hv.1)

same_keys : (xs ys : List ProfileRecord) → SameSums xs ys → (key : Key) → SameSums (of_key key xs) (of_key key ys)
same_keys xs ys same key = same_filter (has_key key) xs ys same

pub one_merge : (xs ys a b : List ProfileRecord) → SameRecords xs ys → IsMerged xs a → IsMerged ys b → a ≡ b
one_merge xs ys a b moved ha hb =
    rising_unique key_of key_cmp key_cmp_total a b ha.rises hb.rises
    (λ key. same_merged_key key (of_key key xs) (of_key key ys) (of_key key a) (of_key key b) a b
    (same_keys xs ys moved key) refl refl (ha.keys key) (hb.keys key))

-- ---- the key that is named
none_found : (o : Option ℕ) (n : ℕ) → option_map {U = ℕ × ℕ} (λ (m : ℕ). (n, m)) o ≡ None → o ≡ None
none_found None n h = refl
none_found (Some m) n h = cc

step_fits : (f : ProfileRecord → ℕ) (xs ys : List ProfileRecord) → SameSums xs ys → differing (map f xs) ≡ None → differing (map f ys) ≡ None
step_fits f [] [] same h = refl
step_fits f [] (y ∷ ys) same h = absurd (nothing_left y ys same)
step_fits f (x ∷ xs) ys same h =
    differing_none f (f x) ys (alike_other f (f x) (x ∷ xs) ys same (alike f (f x) (x ∷ xs) (none_found (find (differs_from (f x)) (map f (x ∷ xs))) (f x) h)))

fits_other : (xs ys : List ProfileRecord) → SameSums xs ys → Fit xs → Fit ys
fits_other xs ys same fit = record {
  counters = step_fits (λ q. length q.counters) xs ys same fit.counters;
  sites = step_fits (λ q. length q.sites) xs ys same fit.sites;
}

record IsNamed (key : Key) (xs : List ProfileRecord) : Type 0 where
  misfit : Fit (of_key key xs) → ⊥
  lesser : LesserFit key xs

named : (xs : List ProfileRecord) (error : MergeError) (k : Key) → IsMismatch xs error → named_key error ≡ Some k → IsNamed k xs
named xs (CounterMismatch name hash first other) k h e =
    let same : ◌≡◌ {A = Key} (name, hash) k = cc in
    subst (λ (l : Key). IsNamed l xs) same (record { misfit = λ fit. (let c : None ≡ Some (first, other) = sym fit.counters ∙ h.differ in cc); lesser = h.lesser })
named xs (SiteMismatch name hash first other) k h e =
    let same : ◌≡◌ {A = Key} (name, hash) k = cc in
    subst (λ (l : Key). IsNamed l xs) same (record { misfit = λ fit. (let c : None ≡ Some (first, other) = sym fit.sites ∙ h.differ in cc); lesser = h.lesser })
named xs (HeaderMismatch input first other) k h e = absurd h
named xs NoMemory k h e = cc

by_order : (o : Ordering) (k l : Key) (xs ys : List ProfileRecord) → key_cmp k l ≡ o → SameSums xs ys → IsNamed k xs → IsNamed l ys → k ≡ l
by_order Less k l xs ys is same hk hl = absurd (hk.misfit (fits_other (of_key k ys) (of_key k xs) (back (of_key k xs) (of_key k ys) (same_keys xs ys same k)) (hl.lesser k is)))
by_order Equal k l xs ys is same hk hl = same_key k l (ap is_eq is)
by_order Greater k l xs ys is same hk hl =
    absurd (hl.misfit (fits_other (of_key l xs) (of_key l ys) (same_keys xs ys same l) (hk.lesser l (key_cmp_total.antisymm l k ∙ ap ordering_reverse is))))

pub one_key : (xs ys : List ProfileRecord) (error other : MergeError) (k l : Key) → SameRecords xs ys → IsMismatch xs error → IsMismatch ys other → named_key error ≡ Some k → named_key other ≡ Some l → k ≡ l
one_key xs ys error other k l moved he ho ek el =
    by_order (key_cmp k l) k l xs ys refl moved (named xs error k he ek) (named ys other l ho el)

merged_fits : (xs us : List ProfileRecord) → IsMergedKey xs us → Fit xs
merged_fits [] us h = record { counters = refl; sites = refl }
merged_fits (x ∷ xs) us h = sum_fits (x ∷ xs) h.0 h.2

pub merged_or_not : (xs ys merged : List ProfileRecord) (error : MergeError) (k : Key) → SameRecords xs ys → IsMerged xs merged → IsMismatch ys error → named_key error ≡ Some k → ⊥
merged_or_not xs ys merged error k moved hm he ek =
    (named ys error k he ek).misfit
    (fits_other (of_key k xs) (of_key k ys) (same_keys xs ys moved k) (merged_fits (of_key k xs) (of_key k merged) (hm.keys k)))
