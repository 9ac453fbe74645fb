-- Which keys a row keeps, and how often the others were asked for.
use Rattle.std.proofs.Common.{◌≡◌, ◌≢◌, ℕ, zero, suc, ◌+◌, ◌<◌, ◌≤◌, Bool, true, false, ◌&&◌, ◌||◌, not, ◌==◌, List, [], ◌∷◌, ◌++◌, count_by, sym, refl, ap, ◌∙◌, subst, ⊎_elim, arith, true≢false, eq-eqb, ne_eqb, eqb-true}
use Rattle.std.proofs.lemmas.Bool.{cases_Bool, or_cases, or_left, or_right, and_from, not-true}
use Rattle.std.proofs.lemmas.Bool as bool
use Rattle.std.proofs.lemmas.List.Sums.{sum_by-cons, sum_by_push}
use mathlib.Core.Logic.{dite}
use native.Mathlib.Decide.{ℕ_discrete}
use Rattle.count_core.specs.declared.state.CoreView.{CoreView}
use Rattle.count_core.specs.CoreView.{is_at, asks, one_if, is_kept, is_missed, misses}
use Rattle.count_core.specs.StepLaws.{KeptStand}

pub and_left : (a b : Bool) → a && b ≡ true → a ≡ true
and_left true b e = refl
and_left false b e = e

pub and_right : (a b : Bool) → a && b ≡ true → b ≡ true
and_right true b e = e
and_right false b e = absurd (true≢false (sym e))

not_zero : (n : ℕ) → n ≢ 0 → not (n == 0) ≡ true
not_zero n nz = ap not (ne_eqb n 0 nz)

pub kept_yes : (row : ℕ → ℕ) (n p : ℕ) → p < n → row p ≢ 0 → is_kept row n (row p) ≡ true
kept_yes row zero p lt nz = absurd (omega arith)
kept_yes row (suc n) p lt nz =
    dite (ℕ_discrete p n)
    (λ e. or_right (is_kept row n (row p)) _ (and_from (row n == row p) _ (eq-eqb (row n) (row p) (ap row (sym e))) (not_zero (row p) nz)))
    (λ ne. or_left (is_kept row n (row p)) _ (kept_yes row n p (omega arith) nz))

-- a kept key stands at some place
kept_at : (row : ℕ → ℕ) (n key : ℕ) → is_kept row n key ≡ true → (p : ℕ) × (p < n) × (row p ≡ key) × (key ≢ 0)
kept_at row zero key e = absurd (true≢false (sym e))
kept_at row (suc n) key e =
    ⊎_elim
    (λ (h : is_kept row n key ≡ true). let r = kept_at row n key h in (r.0, omega (arith, r.1), r.2, r.3))
    (λ (h : (row n == key) && not (key == 0) ≡ true). (n, omega arith, eqb-true (row n) key (and_left _ _ h), (λ z. true≢false (sym (eq-eqb key 0 z) ∙ not-true _ (and_right (row n == key) _ h)))))
    (or_cases (is_kept row n key) _ e)

pub kept_stand : KeptStand
kept_stand row n key = (kept_at row n key, λ r. subst (λ (k : ℕ). is_kept row n k ≡ true) r.2 (kept_yes row n r.0 r.1 (λ z. r.3 (sym r.2 ∙ z))))

pub kept_no : (row : ℕ → ℕ) (n key : ℕ) → ((p : ℕ) → p < n → row p ≢ 0 → row p ≢ key) → is_kept row n key ≡ false
kept_no row n key apart =
    ⊎_elim
    (λ (h : is_kept row n key ≡ true). let r = kept_at row n key h in absurd (apart r.0 r.1 (λ z. r.3 (sym r.2 ∙ z)) r.2))
    (λ (h : is_kept row n key ≡ false). h)
    (cases_Bool (is_kept row n key))

pub kept_same : (row row' : ℕ → ℕ) (n key : ℕ) → ((p : ℕ) → p < n → row' p ≡ row p) → is_kept row' n key ≡ is_kept row n key
kept_same row row' zero key same = refl
kept_same row row' (suc n) key same = λ i. kept_same row row' n key (λ p lt. same p (omega arith)) i || ((same n (omega arith) i == key) && not (key == 0))

-- a row with more keys keeps what it kept
pub kept_more : (row row' : ℕ → ℕ) (n key : ℕ) → ((p : ℕ) → p < n → row p ≢ 0 → row' p ≡ row p) → is_kept row n key ≡ true → is_kept row' n key ≡ true
kept_more row row' n key more h =
    let r = kept_at row n key h in
    let full : row r.0 ≢ 0 = λ z. r.3 (sym r.2 ∙ z) in
    let same : row' r.0 ≡ key = more r.0 r.1 full ∙ r.2 in
    subst (λ (k : ℕ). is_kept row' n k ≡ true) same (kept_yes row' n r.0 r.1 (λ z. r.3 (sym same ∙ z)))

pub count_le : {X : Type 0} (p q : X → Bool) (xs : List X) → ((x : X) → p x ≡ true → q x ≡ true) → count_by p xs ≤ count_by q xs
count_le p q [] h = omega arith
count_le {X} p q (x ∷ xs) h =
    let l : count_by p (x ∷ xs) ≡ one_if (p x) + count_by p xs = sum_by-cons (λ (y : X). one_if (p y)) x xs in
    let r : count_by q (x ∷ xs) ≡ one_if (q x) + count_by q xs = sum_by-cons (λ (y : X). one_if (q y)) x xs in
    let rest : count_by p xs ≤ count_by q xs = count_le p q xs h in
    let here : one_if (p x) ≤ one_if (q x) = ⊎_elim
    (λ (e : p x ≡ true). subst (λ (b : Bool). one_if (p x) ≤ one_if b) (sym (h x e)) (subst (λ (b : Bool). one_if b ≤ 1) (sym e) (omega arith)))
    (λ (e : p x ≡ false). subst (λ (b : Bool). one_if b ≤ one_if (q x)) (sym e) (omega arith))
    (cases_Bool (p x)) in
    omega arith

pub count_push : {X : Type 0} (p : X → Bool) (xs : List X) (x : X) → count_by p (xs ++ x ∷ []) ≡ count_by p xs + one_if (p x)
count_push {X} p xs x = sum_by_push (λ (y : X). one_if (p y)) xs x

-- an ask for a key that is not kept is a miss
pub asks-le-misses : (kept : ℕ → Bool) (site key : ℕ) (v : CoreView) → kept key ≡ false → asks site key v ≤ misses kept site v
asks-le-misses kept site key v off = count_le (is_at site key) (is_missed kept site) v.asked
    (λ e h. and_from (e.0 == site) _ (and_left _ _ h) (ap (λ k. not (kept k)) (eqb-true e.1 key (and_right (e.0 == site) _ h)) ∙ ap not off))

-- with more keys kept no more is missed
pub misses-le : (kept kept' : ℕ → Bool) (site : ℕ) (v : CoreView) → ((k : ℕ) → kept k ≡ true → kept' k ≡ true) → misses kept' site v ≤ misses kept site v
misses-le kept kept' site v more = count_le (is_missed kept' site) (is_missed kept site) v.asked
    (λ e h. and_from (e.0 == site) _ (and_left _ _ h) (⊎_elim
    (λ (y : kept e.1 ≡ true). absurd (true≢false (sym (more e.1 y) ∙ not-true (kept' e.1) (and_right (e.0 == site) _ h))))
    (λ (n : kept e.1 ≡ false). ap not n)
    (cases_Bool (kept e.1))))

-- one ask more
pub at_same : (site key : ℕ) → is_at site key (site, key) ≡ true
at_same site key = and_from (site == site) (key == key) (eq-eqb site site refl) (eq-eqb key key refl)

pub at_other_key : (site key site' key' : ℕ) → key' ≢ key → is_at site key (site', key') ≡ false
at_other_key site key site' key' ne = bool.and_right (site' == site) _ (ne_eqb key' key ne)

pub at_other_site : (site key site' key' : ℕ) → site' ≢ site → is_at site key (site', key') ≡ false
at_other_site site key site' key' ne = bool.and_left _ _ (ne_eqb site' site ne)

pub missed_elsewhere : (kept : ℕ → Bool) (site site' key : ℕ) → site' ≢ site → is_missed kept site (site', key) ≡ false
missed_elsewhere kept site site' key ne = bool.and_left _ _ (ne_eqb site' site ne)

pub missed_kept : (kept : ℕ → Bool) (site site' key : ℕ) → kept key ≡ true → is_missed kept site (site', key) ≡ false
missed_kept kept site site' key on = bool.and_right (site' == site) _ (ap not on)

pub missed_other : (kept : ℕ → Bool) (site key : ℕ) → kept key ≡ false → is_missed kept site (site, key) ≡ true
missed_other kept site key off = and_from (site == site) _ (eq-eqb site site refl) (ap not off)
