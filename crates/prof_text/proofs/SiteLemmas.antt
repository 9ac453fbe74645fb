-- The sums of the counts of each name.
use Rattle.std.proofs.Common.{◌≡◌, ◌+◌, ℕ, Bool, true, false, cond, List, [], ◌∷◌, ◌++◌, Option, Some, map, min, sum_by, unwrap_or, refl, sym, ap, ◌∙◌, subst, arith, append-nil, Ordering, Less, Equal, Greater}
use Rattle.std.specs.Ordering.{is_eq}
use Rattle.std.specs.Option.{option_map_or}
use Rattle.std.specs.Borrow.{Bor}
use Rattle.std.specs.BTreeMap.{BTreeMap, is_at, get_by, Updates}
use Rattle.std.specs.Map.{lookup, keys_of}
use Rattle.std.specs.List.{AllByRecursion}
use Rattle.std.specs.List.Sorted.{IsStrictlySortedBy}
use Rattle.std.proofs.lemmas.List.Sums.{sum_by_push}
use Rattle.std.proofs.lemmas.List.Elements.{filter-append}
use Rattle.std.proofs.lemmas.Map.Lookups.{exact_bytes}
use Rattle.std.proofs.lemmas.Map.Keys.{sorted_head, sorted_tail}
use Rattle.std.proofs.lemmas.Cmp.{eq_by_cmp_equiv, nat_list_cmp_total}
use Rattle.prof_text.specs.Merged.{Target, IsTotal, IsMergedSite, name_cmp, has_name, of_name, capped, most}
use Rattle.prof_text.specs.Site.{total_of, borrowed_cmp, against, target_of, targets_of}

-- a capped sum, and one more count
pub capped_more : (a b : ℕ) → capped (capped a + b) ≡ capped (a + b)
capped_more a b = omega arith

pub total_push : (xs : List Target) (t : Target) → total_of (xs ++ t ∷ []) ≡ Some (capped (unwrap_or (total_of xs) 0 + t.1))
total_push [] t = refl
total_push (y ∷ ys) t =
    ap (λ (n : ℕ). Some (capped n)) (sum_by_push (λ (u : Target). u.1) (y ∷ ys) t)
    ∙ ap Some (sym (capped_more (sum_by (λ (u : Target). u.1) (y ∷ ys)) t.1))

step_total : (b : Bool) (xs : List Target) (t : Target) → total_of (xs ++ cond b (t ∷ []) []) ≡ cond b (Some (capped (unwrap_or (total_of xs) 0 + t.1))) (total_of xs)
step_total true xs t = total_push xs t
step_total false xs t = ap total_of (append-nil xs)

pub of_name_push : (name : List ℕ) (ts : List Target) (t : Target) → total_of (of_name name (ts ++ t ∷ [])) ≡ cond (has_name name t) (Some (capped (unwrap_or (total_of (of_name name ts)) 0 + t.1))) (total_of (of_name name ts))
of_name_push name ts t = ap total_of (filter-append (has_name name) ts (t ∷ [])) ∙ step_total (has_name name t) (of_name name ts) t

is_equal : (o : Ordering) → is_eq o ≡ true → o ≡ Equal
is_equal Less h = cc
is_equal Equal h = refl
is_equal Greater h = cc

-- names that compare alike are the same
pub same_name : (a b : List ℕ) → is_eq (name_cmp a b) ≡ true → a ≡ b
same_name a b h = exact_bytes a b (is_equal (name_cmp a b) h)

flip_name : (a b : List ℕ) → is_eq (name_cmp a b) ≡ is_eq (name_cmp b a)
flip_name a b = (eq_by_cmp_equiv nat_list_cmp_total).symm a b

-- the map has the total of each name
abbrev pub Counted : BTreeMap (Bor (List ℕ)) ℕ → List Target → Type 0
Counted m ts = (name : List ℕ) → get_by (against name) m ≡ total_of (of_name name ts)

step_counted : (b : Bool) (name k : List ℕ) (old new : Option ℕ) (w : ℕ) (ts : List Target) (count : ℕ) →
    is_eq (name_cmp k name) ≡ b → new ≡ cond b (Some w) old → old ≡ total_of (of_name name ts) →
    (k ≡ name → w ≡ capped (unwrap_or (total_of (of_name name ts)) 0 + count)) →
    new ≡ cond b (Some (capped (unwrap_or (total_of (of_name name ts)) 0 + count))) (total_of (of_name name ts))
step_counted true name k old new w ts count test is was sum = is ∙ ap Some (sum (same_name k name test))
step_counted false name k old new w ts count test is was sum = is ∙ was

pub counted_push : (m n : BTreeMap (Bor (List ℕ)) ℕ) (ts : List Target) (key : Bor (List ℕ)) (count sum w : ℕ) →
    Counted m ts → sum ≡ unwrap_or (get_by (against key.now) m) 0 → w ≡ min (sum + count) most →
    Updates borrowed_cmp m n key (Some w) → Counted n (ts ++ (key.now, count) ∷ [])
counted_push m n ts key count sum w counted is_sum is_w updates name =
    let q : Bor (List ℕ) = record { ref_ptr = (0, 0); now = name } in
    step_counted (is_eq (name_cmp key.now name)) name key.now (get_by (against name) m) (get_by (against name) n) w ts count refl (updates.0 q) (counted name)
    (λ same. is_w ∙ ap (λ (s : ℕ). capped (s + count)) (is_sum ∙ ap (λ (o : Option ℕ). unwrap_or o 0) (ap (λ (k : List ℕ). get_by (against k) m) same ∙ counted name)))
    ∙ (ap (λ (b : Bool). cond b (Some (capped (unwrap_or (total_of (of_name name ts)) 0 + count))) (total_of (of_name name ts))) (flip_name key.now name)
    ∙ sym (of_name_push name ts (key.now, count)))

-- ---- the entries of the map, as targets

less_is_not_equal : (o : Ordering) → o ≡ Less → is_eq o ≡ false
less_is_not_equal Less h = refl
less_is_not_equal Equal h = cc
less_is_not_equal Greater h = cc

none_beyond : (name : List ℕ) (es : List (Bor (List ℕ) × ℕ)) → AllByRecursion (λ (k : Bor (List ℕ)). name_cmp name k.now ≡ Less) (keys_of es) → of_name name (targets_of es) ≡ []
none_beyond name [] h = refl
none_beyond name (e ∷ es) h =
    ap (λ (b : Bool). cond b (target_of e ∷ of_name name (targets_of es)) (of_name name (targets_of es))) (less_is_not_equal (name_cmp name e.0.now) h.0)
    ∙ none_beyond name es h.1

step_found : (b : Bool) (name : List ℕ) (e : Bor (List ℕ) × ℕ) (rest : List Target) (o : Option ℕ) →
    is_eq (name_cmp name e.0.now) ≡ b →
    (b ≡ true → rest ≡ []) → rest ≡ option_map_or (λ (v : ℕ). (name, v) ∷ []) o [] →
    cond b (target_of e ∷ rest) rest ≡ option_map_or (λ (v : ℕ). (name, v) ∷ []) (cond b (Some e.1) o) []
step_found true name e rest o test none more =
    ap (λ (ts : List Target). target_of e ∷ ts) (none refl) ∙ ap (λ (k : List ℕ). (k, e.1) ∷ []) (sym (same_name name e.0.now test))
step_found false name e rest o test none more = more

found : (name : List ℕ) (es : List (Bor (List ℕ) × ℕ)) → IsStrictlySortedBy borrowed_cmp (keys_of es) →
    of_name name (targets_of es) ≡ option_map_or (λ (v : ℕ). (name, v) ∷ []) (lookup (is_at (against name)) es) []
found name [] sorted = refl
found name (e ∷ es) sorted =
    step_found (is_eq (name_cmp name e.0.now)) name e (of_name name (targets_of es)) (lookup (is_at (against name)) es) refl
    (λ test. none_beyond name es (subst (λ (k : List ℕ). AllByRecursion (λ (x : Bor (List ℕ)). name_cmp k x.now ≡ Less) (keys_of es)) (sym (same_name name e.0.now test)) (sorted_head borrowed_cmp e.0 (keys_of es) sorted)))
    (found name es (sorted_tail borrowed_cmp e.0 (keys_of es) sorted))

total_from : (name : List ℕ) (xs ys : List Target) → ys ≡ option_map_or (λ (v : ℕ). (name, v) ∷ []) (total_of xs) [] → IsTotal name xs ys
total_from name [] ys e = e
total_from name (x ∷ xs) ys e = e

all_names : (name : List ℕ) (es : List (Bor (List ℕ) × ℕ)) → AllByRecursion (λ (k : Bor (List ℕ)). name_cmp name k.now ≡ Less) (keys_of es) → AllByRecursion (λ (k : List ℕ). name_cmp name k ≡ Less) (map (λ (t : Target). t.0) (targets_of es))
all_names name [] h = h
all_names name (e ∷ es) h = (h.0, all_names name es h.1)

names_rise : (es : List (Bor (List ℕ) × ℕ)) → IsStrictlySortedBy borrowed_cmp (keys_of es) → IsStrictlySortedBy name_cmp (map (λ (t : Target). t.0) (targets_of es))
unfolding IsStrictlySortedBy
names_rise [] h = h
names_rise (e ∷ es) h = (all_names e.0.now es h.0, names_rise es h.1)

-- the entries of a map with the total of each name are the merged site
pub entries_are_merged : (es : List (Bor (List ℕ) × ℕ)) (ts : List Target) → IsStrictlySortedBy borrowed_cmp (keys_of es) →
    ((name : List ℕ) → lookup (is_at (against name)) es ≡ total_of (of_name name ts)) → IsMergedSite ts (targets_of es)
entries_are_merged es ts sorted counted = record {
  rises = names_rise es sorted;
  totals = λ name. total_from name (of_name name ts) (of_name name (targets_of es)) (found name es sorted ∙ ap (λ (o : Option ℕ). option_map_or (λ (v : ℕ). (name, v) ∷ []) o []) (counted name));
}
