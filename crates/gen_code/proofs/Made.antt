-- What is made of the items of a list, one item further.
use Rattle.std.proofs.Common.{◌≡◌, ℕ, ◌+◌, ◌<◌, Bool, true, false, cond, ◌||◌, List, [], ◌∷◌, ◌++◌, length, take, get_or, filter, map, Result, Ok, Err, IfOk, refl, sym, ap, ◌∙◌}
use Rattle.std.proofs.lemmas.List.{take_more}
use Rattle.std.specs.List.{list_any}
use Rattle.spec_lists.proofs.Each.{each_taken}
use Rattle.spec_lists.specs.Each.{each}

module _ {X Y : Type 0} where
  -- one for each, with its number
  pub item_put : (make : ℕ → X → Y) (xs : List X) (i : ℕ) (d x : X) (now next : List Y) (y : Y) → i < length xs → x ≡ get_or xs i d → y ≡ make i x → now ≡ each (λ j z. make j z ∷ []) 0 (take i xs) → next ≡ now ++ y ∷ [] → next ≡ each (λ j z. make j z ∷ []) 0 (take (i + 1) xs)
  item_put make xs i d x now next y h is made was put =
      put ∙ (λ k. was k ++ made k ∷ []) ∙ ap (λ (z : X). each (λ j w. make j w ∷ []) 0 (take i xs) ++ make i z ∷ []) is ∙ sym (each_taken (λ j z. make j z ∷ []) xs i d h)

  map_push : (h : X → Y) (xs : List X) (x : X) → map h (xs ++ x ∷ []) ≡ map h xs ++ h x ∷ []
  map_push h [] x = refl
  map_push h (y ∷ ys) x = ap (λ (l : List Y). h y ∷ l) (map_push h ys x)

  -- one for each
  pub map_put : (h : X → Y) (xs : List X) (i : ℕ) (x : X) (now next : List Y) (y : Y) → i < length xs → x ≡ get_or xs i x → y ≡ h x → now ≡ map h (take i xs) → next ≡ now ++ y ∷ [] → next ≡ map h (take (i + 1) xs)
  map_put h xs i x now next y lt is made was put =
      put ∙ (λ k. was k ++ made k ∷ []) ∙ sym (ap (map h) (take_more xs i x lt) ∙ map_push h (take i xs) (get_or xs i x) ∙ ap (λ (z : X). map h (take i xs) ++ h z ∷ []) (sym is))

  kept_push : (h : X → Y) (keep : X → Bool) (xs : List X) (x : X) → map h (filter keep (xs ++ x ∷ [])) ≡ map h (filter keep xs) ++ map h (filter keep (x ∷ []))
  kept_push h keep [] x = refl
  kept_push h keep (y ∷ ys) x = by (keep y) (kept_push h keep ys x)
    where
      by : (b : Bool) → map h (filter keep (ys ++ x ∷ [])) ≡ map h (filter keep ys) ++ map h (filter keep (x ∷ [])) → map h (cond b (y ∷ filter keep (ys ++ x ∷ [])) (filter keep (ys ++ x ∷ []))) ≡ map h (cond b (y ∷ filter keep ys) (filter keep ys)) ++ map h (filter keep (x ∷ []))
      by true e = ap (λ (l : List Y). h y ∷ l) e
      by false e = e

  -- one for each that is kept
  pub kept_put : (h : X → Y) (keep : X → Bool) (xs : List X) (i : ℕ) (x : X) (now next : List Y) → i < length xs → x ≡ get_or xs i x → now ≡ map h (filter keep (take i xs)) → next ≡ now ++ map h (filter keep (x ∷ [])) → next ≡ map h (filter keep (take (i + 1) xs))
  kept_put h keep xs i x now next lt is was put =
      put ∙ ap (λ (l : List Y). l ++ map h (filter keep (x ∷ []))) was
      ∙ sym (ap (λ (l : List X). map h (filter keep l)) (take_more xs i x lt) ∙ kept_push h keep (take i xs) (get_or xs i x) ∙ ap (λ (z : X). map h (filter keep (take i xs)) ++ map h (filter keep (z ∷ []))) (sym is))

module _ {X : Type 0} (h : X → Bool) where
  any_push : (xs : List X) (x : X) → list_any h (xs ++ x ∷ []) ≡ (list_any h xs || h x)
  any_push [] x = by (h x)
    where
      by : (b : Bool) → (b || false) ≡ (false || b)
      by true = refl
      by false = refl
  any_push (y ∷ ys) x = by (h y) (any_push ys x)
    where
      by : (b : Bool) → list_any h (ys ++ x ∷ []) ≡ (list_any h ys || h x) → (b || list_any h (ys ++ x ∷ [])) ≡ ((b || list_any h ys) || h x)
      by true e = refl
      by false e = e

  -- whether some item passes
  pub any_put : (xs : List X) (i : ℕ) (x : X) (now next y : Bool) → i < length xs → x ≡ get_or xs i x → y ≡ h x → now ≡ list_any h (take i xs) → next ≡ (now || y) → next ≡ list_any h (take (i + 1) xs)
  any_put xs i x now next y lt is made was put =
      put ∙ (λ k. was k || made k) ∙ sym (ap (list_any h) (take_more xs i x lt) ∙ any_push (take i xs) (get_or xs i x) ∙ ap (λ (z : X). list_any h (take i xs) || h z) (sym is))

-- what follows of what a call gives
pub if_ok_then : {X E : Type 0} {P Q : X → Type 0} (r : Result X E) → ((x : X) → P x → Q x) → IfOk r P → IfOk r Q
if_ok_then (Ok x) h p = h x p
if_ok_then (Err e) h p = tt
