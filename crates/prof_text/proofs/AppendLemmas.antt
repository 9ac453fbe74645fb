-- The targets of each site, put behind those that it has.
use Rattle.std.proofs.Common.{◌≡◌, ◌≢◌, ◌+◌, ◌<◌, ◌≤◌, ℕ, zero, suc, List, length, get_or, set, ◌++◌, ◌∷◌, [], sym, ap, ◌∙◌, subst, arith, below_more, get_or-set_same, get_or-set_other}
use Rattle.std.specs.Borrow.{Bor}
use Rattle.std.specs.Global.{Vec}
use Rattle.std.proofs.lemmas.List.{map-set, map-append, length-map}
use Rattle.prof_text.specs.Merged.{Target}
use Rattle.prof_text.specs.Site.{target_of, targets_of, sites_of}

-- the sites below i have the targets of both, and those from i on are as they were
abbrev pub Appended : List (List Target) → List (List Target) → List (List Target) → ℕ → Type 0
Appended old now more i =
    ((k : ℕ) → k < i → get_or now k [] ≡ get_or old k [] ++ get_or more k [])
    × ((k : ℕ) → i ≤ k → get_or now k [] ≡ get_or old k [])

set_step : (old now more : List (List Target)) (i : ℕ) (x : List Target) → i < length now → x ≡ get_or now i [] ++ get_or more i [] → Appended old now more i → Appended old (set now i x) more (i + 1)
set_step old now more i x low is h = (
  below_more (λ k. get_or (set now i x) k [] ≡ get_or old k [] ++ get_or more k []) i
      (λ k lt. let ne : k ≢ i = omega arith in rw get_or-set_other (h.0 k lt))
      (rw get_or-set_same (is ∙ ap (λ (ts : List Target). ts ++ get_or more i []) (h.1 i (omega arith)))),
  λ k le. let ne : k ≢ i = omega arith in rw get_or-set_other (h.1 k (omega arith)),
)

site_at_place : (vs : List (Vec (Bor (List ℕ) × ℕ))) (i : ℕ) (v : Vec (Bor (List ℕ) × ℕ)) → i < length vs → v ≡ get_or vs i v → get_or (sites_of vs) i [] ≡ targets_of v.items
site_at_place [] i v low is = absurd (omega arith)
site_at_place (w ∷ vs) zero v low is = ap (λ (u : Vec (Bor (List ℕ) × ℕ)). targets_of u.items) (sym is)
site_at_place (w ∷ vs) (suc i) v low is = site_at_place vs i v (omega arith) is

low_sites : (vs : List (Vec (Bor (List ℕ) × ℕ))) (i : ℕ) → i < length vs → i < length (sites_of vs)
low_sites vs i low = simp length-map low

pub append_step : (old now more : List (Vec (Bor (List ℕ) × ℕ))) (i : ℕ) (a b v : Vec (Bor (List ℕ) × ℕ)) → i < length now → i < length more →
    a ≡ get_or now i a → b ≡ get_or more i b → v.items ≡ a.items ++ b.items →
    Appended (sites_of old) (sites_of now) (sites_of more) i → Appended (sites_of old) (sites_of (set now i v)) (sites_of more) (i + 1)
append_step old now more i a b v low in_more at_now at_more items h =
    let low' : i < length (sites_of now) = low_sites now i low in
    subst (λ (ss : List (List Target)). Appended (sites_of old) ss (sites_of more) (i + 1))
    (sym (map-set (λ (site : Vec (Bor (List ℕ) × ℕ)). targets_of site.items) now i v))
    (set_step (sites_of old) (sites_of now) (sites_of more) i (targets_of v.items) low'
    (ap targets_of items
    ∙ (map-append target_of a.items b.items
    ∙ (ap (λ (ts : List Target). ts ++ targets_of b.items) (sym (site_at_place now i a low at_now))
    ∙ ap (λ (ts : List Target). get_or (sites_of now) i [] ++ ts) (sym (site_at_place more i b in_more at_more)))))
    h)
