-- Where a search in two lists, one after the other, ends.
use Rattle.std.proofs.Common.{◌≡◌, ℕ, Bool, true, false, cond, List, [], ◌∷◌, ◌++◌, Option, Some, None, find, is_some, slice_get, refl, ap, ◌∙◌}

module _ (p : ℕ → Bool) where
  step_front : (b : Bool) (n : ℕ) (o w : Option ℕ) → (is_some o ≡ true → w ≡ o) → is_some (cond b (Some n) o) ≡ true → cond b (Some n) w ≡ cond b (Some n) o
  step_front true n o w more h = refl
  step_front false n o w more h = more h

  -- a hit in the front is the hit
  pub find_front : (ns ms : List ℕ) → is_some (find p ns) ≡ true → find p (ns ++ ms) ≡ find p ns
  find_front [] ms h = cc
  find_front (n ∷ ns) ms h = step_front (p n) n (find p ns) (find p (ns ++ ms)) (find_front ns ms) h

  step_back : (b : Bool) (n : ℕ) (o w v : Option ℕ) → (o ≡ None → w ≡ v) → cond b (Some n) o ≡ None → cond b (Some n) w ≡ v
  step_back true n o w v more h = cc
  step_back false n o w v more h = more h

  -- where the front has no hit, the search goes on behind it
  pub find_back : (ns ms : List ℕ) → find p ns ≡ None → find p (ns ++ ms) ≡ find p ms
  find_back [] ms h = refl
  find_back (n ∷ ns) ms h = step_back (p n) n (find p ns) (find p (ns ++ ms)) (find p ms) (find_back ns ms) h

  -- a first number that passes is the hit
  pub find_head : (ms : List ℕ) (n : ℕ) → slice_get ms 0 ≡ Some n → p n ≡ true → find p ms ≡ Some n
  find_head [] n e h = cc
  find_head (m ∷ ms) n e h =
      let same : m ≡ n = cc in
      let passes : p m ≡ true = cc in
      ap (λ b. cond b (Some m) (find p ms)) passes ∙ ap Some same
