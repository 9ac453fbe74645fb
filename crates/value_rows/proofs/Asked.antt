-- Counts over what a seat asked for, over the keys of one site.
use Rattle.std.proofs.Common.{◌≡◌, ◌≢◌, ℕ, zero, suc, ◌+◌, ◌<◌, ◌≤◌, Bool, true, false, ◌&&◌, ◌==◌, cond, List, [], ◌∷◌, length, get_or, count_by, filter, map, sym, refl, ap, ◌∙◌, arith, ⊎_elim, true≢false, eqb-true, eq-eqb, Contains}
use Rattle.std.proofs.lemmas.Bool.{cases_Bool, or_left, or_right, or_cases}
use Rattle.std.proofs.lemmas.List.Sums.{sum_by-cons}
use Rattle.std.specs.List.{list_any}
use Rattle.count_core.specs.CoreView.{one_if}
use Rattle.value_rows.specs.Row.{keys_asked, has_key}

count_cons : {X : Type 0} (p : X → Bool) (x : X) (xs : List X) → count_by p (x ∷ xs) ≡ one_if (p x) + count_by p xs
count_cons {X} p x xs = sum_by-cons (λ (y : X). one_if (p y)) x xs

-- what is counted of the asks of a site is counted of its keys
pub count_keys : (site : ℕ) (p : ℕ → Bool) (xs : List (ℕ × ℕ)) → count_by (λ e. (e.0 == site) && p e.1) xs ≡ count_by p (keys_asked site xs)
count_keys site p [] = refl
count_keys site p (e ∷ xs) = here (count_keys site p xs) (e.0 == site) refl
  where
    here : count_by (λ e. (e.0 == site) && p e.1) xs ≡ count_by p (keys_asked site xs) → (b : Bool) → (e.0 == site) ≡ b → count_by (λ e. (e.0 == site) && p e.1) (e ∷ xs) ≡ count_by p (map (λ e. e.1) (cond (e.0 == site) (e ∷ filter (λ e. e.0 == site) xs) (filter (λ e. e.0 == site) xs)))
    here rest true is =
        count_cons (λ e. (e.0 == site) && p e.1) e xs
        ∙ ap (λ b. one_if (b && p e.1) + count_by (λ e. (e.0 == site) && p e.1) xs) is
        ∙ ap (λ n. one_if (p e.1) + n) rest
        ∙ sym (count_cons p e.1 (keys_asked site xs))
        ∙ ap (λ b. count_by p (map (λ e. e.1) (cond b (e ∷ filter (λ e. e.0 == site) xs) (filter (λ e. e.0 == site) xs)))) (sym is)
    here rest false is =
        count_cons (λ e. (e.0 == site) && p e.1) e xs
        ∙ ap (λ b. one_if (b && p e.1) + count_by (λ e. (e.0 == site) && p e.1) xs) is
        ∙ (let z : 0 + count_by (λ e. (e.0 == site) && p e.1) xs ≡ count_by p (keys_asked site xs) = omega (arith, rest) in z)
        ∙ ap (λ b. count_by p (map (λ e. e.1) (cond b (e ∷ filter (λ e. e.0 == site) xs) (filter (λ e. e.0 == site) xs)))) (sym is)

-- what is counted stands somewhere
pub count_find : (p : ℕ → Bool) (xs : List ℕ) → 0 < count_by p xs → (i : ℕ) × (i < length xs) × (p (get_or xs i 0) ≡ true)
count_find p [] some_one = absurd (omega arith)
count_find p (x ∷ xs) some_one =
    ⊎_elim
    (λ (here : p x ≡ true). (0, omega arith, here))
    (λ (no_here : p x ≡ false).
    let c : count_by p (x ∷ xs) ≡ one_if (p x) + count_by p xs = count_cons p x xs in
    let z : one_if (p x) ≡ 0 = ap one_if no_here in
    let r = count_find p xs (omega arith) in
    (suc r.0, omega (arith, r.1), r.2))
    (cases_Bool (p x))

-- a key that the row has stands at some place
pub key_find : (kept : List (ℕ × ℕ)) (key : ℕ) → has_key kept key ≡ true → (p : ℕ) × (p < length kept) × ((get_or kept p (0, 0)).0 ≡ key)
key_find [] key e = absurd (true≢false (sym e))
key_find (x ∷ xs) key e =
    ⊎_elim
    (λ (here : (x.0 == key) ≡ true). (0, omega arith, eqb-true x.0 key here))
    (λ (there : has_key xs key ≡ true). let r = key_find xs key there in (suc r.0, omega (arith, r.1), r.2))
    (or_cases (x.0 == key) (has_key xs key) e)

pub key_there : (kept : List (ℕ × ℕ)) (p : ℕ) → p < length kept → has_key kept (get_or kept p (0, 0)).0 ≡ true
key_there [] p lt = absurd (omega arith)
key_there (x ∷ xs) zero lt = or_left (x.0 == x.0) (has_key xs x.0) (eq-eqb x.0 x.0 refl)
key_there (x ∷ xs) (suc p) lt = or_right (x.0 == (get_or xs p (0, 0)).0) _ (key_there xs p (omega arith))

abbrev pub member : List ℕ → ℕ → Bool
member ys x = list_any (λ y. y == x) ys

pub member_at : (ys : List ℕ) (x : ℕ) → Contains ys x → member ys x ≡ true
member_at [] x (k, lt, _) = absurd (omega arith)
member_at (y ∷ ys) x (zero, lt, e) = or_left (y == x) (member ys x) (eq-eqb y x e)
member_at (y ∷ ys) x (suc k, lt, e) = or_right (y == x) (member ys x) (member_at ys x (k, omega arith, e))

-- the list without the first x
erase : List ℕ → ℕ → List ℕ
erase [] x = []
erase (y ∷ ys) x = cond (y == x) ys (y ∷ erase ys x)

length-erase : (ys : List ℕ) (x : ℕ) → member ys x ≡ true → suc (length (erase ys x)) ≡ length ys
unfolding erase
length-erase [] x e = absurd (true≢false (sym e))
length-erase (y ∷ ys) x e = here (λ there. length-erase ys x there) (y == x) refl
  where
    here : (member ys x ≡ true → suc (length (erase ys x)) ≡ length ys) → (b : Bool) → (y == x) ≡ b → suc (length (cond (y == x) ys (y ∷ erase ys x))) ≡ suc (length ys)
    here rest true is = ap (λ b. suc (length (cond b ys (y ∷ erase ys x)))) is
    here rest false is =
        ap (λ b. suc (length (cond b ys (y ∷ erase ys x)))) is
        ∙ ap suc (rest (⊎_elim (λ (same : (y == x) ≡ true). absurd (true≢false (sym same ∙ is))) (λ (there : member ys x ≡ true). there) (or_cases (y == x) (member ys x) e)))

member-erase : (ys : List ℕ) (x z : ℕ) → z ≢ x → member ys z ≡ true → member (erase ys x) z ≡ true
unfolding erase
member-erase [] x z ne e = e
member-erase (y ∷ ys) x z ne e = here (λ there. member-erase ys x z ne there) (y == x) refl
  where
    here : (member ys z ≡ true → member (erase ys x) z ≡ true) → (b : Bool) → (y == x) ≡ b → member (cond (y == x) ys (y ∷ erase ys x)) z ≡ true
    here rest true is =
        ap (λ b. member (cond b ys (y ∷ erase ys x)) z) is
        ∙ ⊎_elim
        (λ (same : (y == z) ≡ true). absurd (ne (sym (eqb-true y z same) ∙ eqb-true y x is)))
        (λ (there : member ys z ≡ true). there)
        (or_cases (y == z) (member ys z) e)
    here rest false is =
        ap (λ b. member (cond b ys (y ∷ erase ys x)) z) is
        ∙ ⊎_elim
        (λ (same : (y == z) ≡ true). or_left (y == z) (member (erase ys x) z) same)
        (λ (there : member ys z ≡ true). or_right (y == z) (member (erase ys x) z) (rest there))
        (or_cases (y == z) (member ys z) e)

-- the keys of a row are distinct, from the first on
abbrev pub DistinctKeys : List (ℕ × ℕ) → Type 0
DistinctKeys [] = Unit {0}
DistinctKeys (e ∷ es) = (has_key es e.0 ≡ false) × DistinctKeys es

-- distinct keys that all stand in a list are no more than it has
pub pigeonhole : (kept : List (ℕ × ℕ)) (ys : List ℕ) → DistinctKeys kept → ((z : ℕ) → has_key kept z ≡ true → member ys z ≡ true) → length kept ≤ length ys
pigeonhole [] ys d m = omega arith
pigeonhole (e ∷ es) ys d m =
    let there = m e.0 (or_left (e.0 == e.0) (has_key es e.0) (eq-eqb e.0 e.0 refl)) in
    let less = length-erase ys e.0 there in
    let rest : length es ≤ length (erase ys e.0) = pigeonhole es (erase ys e.0) d.1
    (λ z h. member-erase ys e.0 z (λ same. true≢false (sym h ∙ ap (has_key es) same ∙ d.0)) (m z (or_right (e.0 == z) (has_key es z) h))) in
    omega arith

pub no_key : (kept : List (ℕ × ℕ)) (key : ℕ) → ((p : ℕ) → p < length kept → (get_or kept p (0, 0)).0 ≢ key) → has_key kept key ≡ false
no_key kept key apart =
    ⊎_elim
    (λ (h : has_key kept key ≡ true). let r = key_find kept key h in absurd (apart r.0 r.1 r.2))
    (λ (h : has_key kept key ≡ false). h)
    (cases_Bool (has_key kept key))

pub distinct_keys : (kept : List (ℕ × ℕ)) → ((i j : ℕ) → i < j → j < length kept → (get_or kept i (0, 0)).0 ≢ (get_or kept j (0, 0)).0) → DistinctKeys kept
distinct_keys [] d = tt
distinct_keys (e ∷ es) d = (no_key es e.0 (λ p lt same. d 0 (suc p) (omega arith) (omega arith) (sym same)), distinct_keys es (λ i j lt lt'. d (suc i) (suc j) (omega arith) (omega arith)))
