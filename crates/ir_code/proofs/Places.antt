-- Names and their places in a list.
use Rattle.std.proofs.Common.{◌≡◌, ℕ, suc, ◌+◌, ◌≤◌, Bool, true, false, cond, List, [], ◌∷◌, length, Option, Some, None, refl, sym, ◌∙◌, ap, subst, inl, inr, arith}
use Rattle.std.specs.Prelude.{position, unwrap_or, nat_lt}
use Rattle.std.specs.List.{position_or_len}
use Rattle.std.proofs.lemmas.List.Recursion.{is_position_or_len}
use Rattle.std.proofs.lemmas.Bool.{cases_lt, cond_below, cond_above}
use Rattle.ir_tree.specs.Names.{same}
use Rattle.ir_code.specs.Names.{number_of, number_in, AreNumbered}
use Rattle.ir_code.specs.declared.names.Numbers.{Numbers}

-- the first place of a name, and the number of names where it is not among them
abbrev pub place_of : List (List ℕ) → List ℕ → ℕ
place_of [] x = 0
place_of (n ∷ ns) x = cond (same x n) 0 (suc (place_of ns x))

place_below : (n x : List ℕ) (ns : List (List ℕ)) (b : Bool) → place_of ns x ≤ length ns → cond b 0 (suc (place_of ns x)) ≤ suc (length ns)
place_below n x ns true h = omega arith
place_below n x ns false h = omega arith

place_bound : (names : List (List ℕ)) (x : List ℕ) → place_of names x ≤ length names
place_bound [] x = omega arith
place_bound (n ∷ ns) x = place_below n x ns (same x n) (place_bound ns x)

place_step : (b : Bool) (n : ℕ) → cond b 0 (suc n) ≡ cond b 0 (1 + n)
place_step true n = refl
place_step false n = omega arith

place_is_position : (names : List (List ℕ)) (x : List ℕ) → place_of names x ≡ position_or_len (same x) names
place_is_position names x =
    is_position_or_len (λ ns. place_of ns x) (same x) refl (λ n ns. place_step (same x n) (place_of ns x)) names

at_position : (a n : ℕ) → a ≤ n → unwrap_or (cond (nat_lt a n) (Some a) None) n ≡ a
at_position a n h = elim (cases_lt a n) [
  | inl l ↦ ap (λ (o : Option ℕ). unwrap_or o n) (sym (cond_below {X = Option ℕ} a n (Some a) None l))
  | inr g ↦
      let e : n ≡ a = omega arith in
      ap (λ (o : Option ℕ). unwrap_or o n) (sym (cond_above {X = Option ℕ} a n (Some a) None None g refl)) ∙ e
]

-- the place of a name is its first position, or the number of names
position_is : (names : List (List ℕ)) (x : List ℕ) → unwrap_or (position (same x) names) (length names) ≡ place_of names x
position_is names x =
    let p = place_is_position names x in
    at_position (position_or_len (same x) names) (length names) (subst (λ k. k ≤ length names) p (place_bound names x)) ∙ sym p

-- numbers by place are those of the definition
pub placed : (names : List (List ℕ)) → ◌≡◌ {A = List ℕ → ℕ} (number_of names) (place_of names)
placed names = λ i x. position_is names x i

-- the numbers that are found are those of the names
pub numbers_are : (numbers : Numbers) (names : List (List ℕ)) → AreNumbered numbers names → ◌≡◌ {A = List ℕ → ℕ} (number_in numbers) (number_of names)
numbers_are numbers names h = λ i x. unwrap_or (h.found x i) (h.count i)
