-- The first place of a name in a list that grows by one name at its end.
use Rattle.std.proofs.Common.{◌≡◌, ℕ, Bool, true, false, cond, List, [], ◌∷◌, ◌++◌, length, Option, None, Some, is_some, is_none, position, refl, sym, subst, ◌∙◌, arith}
use Rattle.std.proofs.lemmas.Grind.{common_steps}
use Rattle.std.proofs.lemmas.List.{length_push}
use Rattle.std.proofs.lemmas.List.Folds.{position_or_len_push}
use Rattle.std.proofs.lemmas.List.Sums.{prefix_len-le-length}
use Rattle.std.specs.Cmp.Lexicographic.{same_text, nat_list_eq_equiv}
use Rattle.ir_tree.specs.Names.{same}

module _ {X : Type 0} (p : X → Bool) (xs : List X) (y : X) where
  pub position-push-kept : is_some (position p xs) ≡ true → position p (xs ++ y ∷ []) ≡ position p xs
  position-push-kept there = grind (arith, position_or_len_push, length_push, prefix_len-le-length, common_steps)

  pub position-push-passed : p y ≡ false → position p (xs ++ y ∷ []) ≡ position p xs
  position-push-passed fails = grind (arith, position_or_len_push, length_push, prefix_len-le-length, common_steps)

  pub position-push-found : p y ≡ true → is_some (position p xs) ≡ false → position p (xs ++ y ∷ []) ≡ Some (length xs)
  position-push-found passes absent = grind (arith, position_or_len_push, length_push, prefix_len-le-length, common_steps)

module _ (names : List (List ℕ)) (n q : List ℕ) where
  -- a name that is there already
  pub position-again : is_some (position (same n) names) ≡ true → position (same q) (names ++ n ∷ []) ≡ position (same q) names
  position-again there = by (same q n) refl
    where
      by : (b : Bool) → same q n ≡ b → position (same q) (names ++ n ∷ []) ≡ position (same q) names
      by true e = position-push-kept (same q) names n (subst (λ (m : List ℕ). is_some (position (same m) names) ≡ true) (sym (same_text q n (sym e))) there)
      by false e = position-push-passed (same q) names n e

  -- a name that is new
  pub position-new : is_some (position (same n) names) ≡ false → position (same q) (names ++ n ∷ []) ≡ cond (same n q) (Some (length names)) (position (same q) names)
  position-new absent = by (same n q) refl
    where
      by : (b : Bool) → same n q ≡ b → position (same q) (names ++ n ∷ []) ≡ cond b (Some (length names)) (position (same q) names)
      by true e = position-push-found (same q) names n (nat_list_eq_equiv.symm q n ∙ e) (subst (λ (m : List ℕ). is_some (position (same m) names) ≡ false) (same_text n q (sym e)) absent)
      by false e = position-push-passed (same q) names n (nat_list_eq_equiv.symm q n ∙ e)

-- what an index finds once a key, a copy of the new name n, has its place
pub index_grows : (names : List (List ℕ)) (n k q : List ℕ) (place : ℕ) (before after : Option ℕ) → k ≡ n → place ≡ length names → is_some (position (same n) names) ≡ false → before ≡ position (same q) names → after ≡ cond (same k q) (Some place) before → after ≡ position (same q) (names ++ n ∷ [])
index_grows names n k q place before after copy at absent made put = let grown = position-new names n q absent in put ∙ (λ i. cond (same (copy i) q) (Some (at i)) (made i)) ∙ sym grown

pub none_not : {X : Type 0} (o : Option X) → true ≡ is_none o → is_some o ≡ false
none_not None e = refl
none_not (Some x) e = cc

pub not_none : {X : Type 0} (o : Option X) → false ≡ is_none o → is_some o ≡ true
not_none None e = cc
not_none (Some x) e = refl
