-- Numbers of places, one place further.
use Rattle.std.proofs.Common.{◌≡◌, ℕ, ◌+◌, ◌==◌, ◌<◌, ◌&&◌, Bool, true, false, cond, List, length, take, get_or, Option, None, Some, is_none, refl, sym, ap, ◌∙◌}
use Rattle.std.proofs.lemmas.Bool.{eqb-true}
use Rattle.gen_code.proofs.Lists.{or_none, position_more}
use Rattle.gen_code.specs.Numbered.{same_place}
use Rattle.gen_code.specs.Tables.{or_else}
use Rattle.gen_plan.specs.Gen.{number_of}
use Rattle.spec_items.proofs.Made.{both}

same_is : (one : ℕ × ℕ) (b i : ℕ) → same_place one (b, i) ≡ true → one ≡ (b, i)
same_is one b i e =
    let r = both (one.0 == b) (one.1 == i) e in
    let first : one.0 ≡ b = eqb-true one.0 b r.0 in
    let second : one.1 ≡ i = eqb-true one.1 i r.1 in
    λ k. (first k, second k)

-- a new place, and one that has its number already
module _ (old : ℕ × ℕ → Option ℕ) (new : Option ℕ) (place : ℕ × ℕ) (b i number : ℕ) where
  pub put_new : is_none (old place) ≡ true → new ≡ cond (same_place place (b, i)) (Some number) (old (b, i)) → new ≡ cond (same_place place (b, i)) (or_else (old (b, i)) (Some number)) (old (b, i))
  put_new none put = by (same_place place (b, i)) refl put
    where
      absent : (o : Option ℕ) → is_none o ≡ true → Some number ≡ or_else o (Some number)
      absent None e = refl
      absent (Some x) e = cc

      by : (t : Bool) → same_place place (b, i) ≡ t → new ≡ cond t (Some number) (old (b, i)) → new ≡ cond t (or_else (old (b, i)) (Some number)) (old (b, i))
      by true e p = p ∙ absent (old (b, i)) (ap (λ (at : ℕ × ℕ). is_none (old at)) (sym (same_is place b i e)) ∙ none)
      by false e p = p

  pub put_again : is_none (old place) ≡ false → new ≡ old (b, i) → new ≡ cond (same_place place (b, i)) (or_else (old (b, i)) (Some number)) (old (b, i))
  put_again some kept = by (same_place place (b, i)) refl
    where
      present : (o : Option ℕ) → is_none o ≡ false → o ≡ or_else o (Some number)
      present None e = cc
      present (Some x) e = refl

      by : (t : Bool) → same_place place (b, i) ≡ t → new ≡ cond t (or_else (old (b, i)) (Some number)) (old (b, i))
      by true e = kept ∙ present (old (b, i)) (ap (λ (at : ℕ × ℕ). is_none (old at)) (sym (same_is place b i e)) ∙ some)
      by false e = kept

pub as_one : (t : Bool) (old : Option ℕ) (number : ℕ) → cond t (or_else old (Some number)) old ≡ or_else old (cond t (Some number) None)
as_one true old number = refl
as_one false old number = sym (or_none old)

-- the places of a list
pub number_more : (places : List (ℕ × ℕ)) (k b i : ℕ) (d place : ℕ × ℕ) (old new : Option ℕ) → k < length places → place ≡ get_or places k d → old ≡ number_of b i (take k places)
    → new ≡ cond (same_place place (b, i)) (or_else old (Some k)) old → new ≡ number_of b i (take (k + 1) places)
number_more places k b i d place old new h is was put =
    put ∙ as_one (same_place place (b, i)) old k
    ∙ (λ j. or_else (was j) (cond (same_place (is j) (b, i)) (Some k) None))
    ∙ sym (position_more (λ (at : ℕ × ℕ). at.0 == b && at.1 == i) places k d h)

-- ---- edges

pub not_put : (old : Option ℕ) (x y z : Bool) (o : Option ℕ) → z ≡ false → old ≡ or_else old (cond (x && (y && z)) o None)
not_put old x y z o e = sym (ap (λ (w : Bool). or_else old (cond (x && (y && w)) o None)) e ∙ by x y)
  where
    by : (x y : Bool) → or_else old (cond (x && (y && false)) o None) ≡ old
    by true true = or_none old
    by true false = or_none old
    by false true = or_none old
    by false false = or_none old

pub none_put : (old : Option ℕ) (t : Bool) → old ≡ or_else old (cond t None None)
none_put old true = sym (or_none old)
none_put old false = sym (or_none old)

pub is_put : (old new : Option ℕ) (x y z : Bool) (number : ℕ) → z ≡ true → new ≡ cond (x && y) (or_else old (Some number)) old → new ≡ or_else old (cond (x && (y && z)) (Some number) None)
is_put old new x y z number e put = put ∙ as_one (x && y) old number ∙ ap (λ (t : Bool). or_else old (cond t (Some number) None)) (by x y) ∙ sym (ap (λ (w : Bool). or_else old (cond (x && (y && w)) (Some number) None)) e)
  where
    by : (x y : Bool) → (x && y) ≡ (x && (y && true))
    by true true = refl
    by true false = refl
    by false true = refl
    by false false = refl
