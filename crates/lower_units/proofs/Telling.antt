-- What the table tells of a unit is what all calls tell of it.
use Rattle.std.proofs.Common.{◌≡◌, ℕ, Bool, true, false, cond, max, List, [], ◌∷◌, ◌++◌, ◌||◌, filter, filter_map, map, Option, None, Some, is_some, refl, sym, ap, ◌∙◌, append_assoc, arith}
use Rattle.std.proofs.lemmas.List.{append-nil, map-append}
use Rattle.std.proofs.lemmas.List.Elements.{filter-append}
use Rattle.std.specs.List.{cons_option, list_any}
use Rattle.std.specs.Option.{option_map}
use Rattle.ir_rules.specs.Limits.{reported}
use Rattle.lower_units.specs.Told.{all_told, more_told, or_else, told_after, told_by}
use Rattle.lower_units.specs.declared.told.Told.{Told}
use Rattle.lowering.specs.Asked.{Asked, hash_asked}
use Rattle.lowering.specs.Units.{asked_of, counters_asked, is_asked_of, most, sites_asked}
use Rattle.spec_lists.specs.Each.{first_of}

-- ---- one call more

first_or : {Y : Type 0} (o : Option Y) → first_of (cons_option o []) ≡ o
first_or None = refl
first_or (Some y) = refl

counters_more : (zs : List Asked) (y : Asked) → or_else (first_of (filter_map counters_asked zs)) (counters_asked y) ≡ first_of (filter_map counters_asked (zs ++ y ∷ []))
counters_more [] y = sym (first_or (counters_asked y))
counters_more (z ∷ zs) y = by (counters_asked z) (counters_more zs y)
  where
    by : (o : Option ℕ) → or_else (first_of (filter_map counters_asked zs)) (counters_asked y) ≡ first_of (filter_map counters_asked (zs ++ y ∷ [])) → or_else (first_of (cons_option o (filter_map counters_asked zs))) (counters_asked y) ≡ first_of (cons_option o (filter_map counters_asked (zs ++ y ∷ [])))
    by None rest = rest
    by (Some n) rest = refl

most_more : (ns : List ℕ) (n : ℕ) → most (ns ++ n ∷ []) ≡ max (most ns) n
most_more [] n = let e : max n 0 ≡ max 0 n = omega arith in e
most_more (m ∷ ns) n = let e : max m (max (most ns) n) ≡ max (max m (most ns)) n = omega arith in ap (λ (k : ℕ). max m k) (most_more ns n) ∙ e

sites_more : (zs : List Asked) (y : Asked) → max (reported (most (map sites_asked zs))) (reported (sites_asked y)) ≡ reported (most (map sites_asked (zs ++ y ∷ [])))
sites_more zs y =
    let whole : most (map sites_asked (zs ++ y ∷ [])) ≡ max (most (map sites_asked zs)) (sites_asked y) = ap most (map-append sites_asked zs (y ∷ [])) ∙ most_more (map sites_asked zs) (sites_asked y) in
    least (most (map sites_asked zs)) (sites_asked y) ∙ sym (ap reported whole)
  where
    least : (a b : ℕ) → max (reported a) (reported b) ≡ reported (max a b)
    least a b = omega arith

-- what the calls of one unit tell
abbrev told_from : List Asked → Option Told
told_from zs = option_map (λ (hash : ℕ). record { hash = hash; counters = first_of (filter_map counters_asked zs); sites = reported (most (map sites_asked zs)) }) (first_of (map hash_asked zs))

from_more : (zs : List Asked) (y : Asked) → Some (more_told (told_from zs) y) ≡ told_from (zs ++ y ∷ [])
from_more [] y =
    let none : max (sites_asked y) 0 ≡ sites_asked y = omega arith in
    λ i. Some (record { hash = hash_asked y; counters = sym (first_or (counters_asked y)) i; sites = reported (sym none i) })
from_more (z ∷ zs) y = λ i. Some (record { hash = hash_asked z; counters = counters_more (z ∷ zs) y i; sites = sites_more (z ∷ zs) y i })

one_more : (q : List ℕ) (xs : List Asked) (y : Asked) → told_by q (all_told q xs) y ≡ all_told q (xs ++ y ∷ [])
one_more q xs y = by (is_asked_of q y) ∙ sym (ap told_from (filter-append (is_asked_of q) xs (y ∷ [])))
  where
    by : (b : Bool) → cond b (Some (more_told (all_told q xs) y)) (all_told q xs) ≡ told_from (asked_of q xs ++ cond b (y ∷ []) [])
    by true = from_more (asked_of q xs) y
    by false = sym (ap told_from (append-nil (asked_of q xs)))

after_all : (q : List ℕ) (xs ys : List Asked) → told_after q (all_told q xs) ys ≡ all_told q (xs ++ ys)
after_all q xs [] = sym (ap (all_told q) (append-nil xs))
after_all q xs (y ∷ ys) = ap (λ (t : Option Told). told_after q t ys) (one_more q xs y) ∙ after_all q (xs ++ y ∷ []) ys ∙ ap (all_told q) (append_assoc xs (y ∷ []) ys)

-- from no call on
pub told_is : (q : List ℕ) (asks : List Asked) → told_after q None asks ≡ all_told q asks
told_is q asks = after_all q [] asks

-- ---- units that some call names

some_first : (p : Asked → Bool) (asks : List Asked) → is_some (first_of (map hash_asked (filter p asks))) ≡ list_any p asks
some_first p [] = refl
some_first p (a ∷ asks) = by (p a) (some_first p asks)
  where
    by : (b : Bool) → is_some (first_of (map hash_asked (filter p asks))) ≡ list_any p asks → is_some (first_of (map hash_asked (cond b (a ∷ filter p asks) (filter p asks)))) ≡ (b || list_any p asks)
    by true rest = refl
    by false rest = rest

pub is_named : (q : List ℕ) (asks : List Asked) (o : Option ℕ) → first_of (map hash_asked (asked_of q asks)) ≡ o → list_any (is_asked_of q) asks ≡ is_some o
is_named q asks o e = sym (some_first (is_asked_of q) asks) ∙ ap (λ (h : Option ℕ). is_some h) e

-- where no call names a unit none tells its counters
pub none_told : (zs : List Asked) → first_of (map hash_asked zs) ≡ None → first_of (filter_map counters_asked zs) ≡ None
none_told [] none = refl
none_told (z ∷ zs) none = absurd (cc)
