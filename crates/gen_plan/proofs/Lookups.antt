-- The first item that is made of edges, and blocks by their numbers.
use Rattle.std.proofs.Common.{◌≡◌, ℕ, suc, ◌+◌, Bool, true, false, cond, List, [], ◌∷◌, ◌++◌, Option, Some, None, slice_get, refl, ◌∙◌, ap, arith}
use Rattle.std.proofs.lemmas.Bool.{eqb-true}
use Rattle.std.proofs.lemmas.Option.{none-some}
use Rattle.ir_model.specs.Log.{is_at}
use Rattle.ir_tree.specs.Operands.{listed}
use Rattle.spec_lists.specs.Each.{each, first_of}
use Rattle.spec_items.proofs.Made.{same_number}

pub is_at_some : (b : ℕ) (o : Option ℕ) → is_at b o ≡ true → o ≡ Some b
is_at_some b None e = absurd (cc)
is_at_some b (Some x) e = ap Some (eqb-true x b e)

pub at_itself : (b : ℕ) → is_at b (Some b) ≡ true
at_itself b = same_number b

pub first_listed : {X : Type 0} (o : Option X) → first_of (listed o) ≡ o
first_listed None = refl
first_listed (Some x) = refl

module _ {X Y : Type 0} where
  -- the first item that is made, and of which it is
  pub first_made : (test : X → Bool) (make : ℕ → Option Y) (n : ℕ) (xs : List X) (y : Y) → first_of (each (λ k x. cond (test x) (listed (make k)) []) n xs) ≡ Some y → (i : ℕ) × (x : X) × (slice_get xs i ≡ Some x) × (test x ≡ true) × (make (n + i) ≡ Some y)
  first_made test make n [] y e = absurd (none-some y e)
  first_made test make n (x ∷ xs) y e = by (test x) refl (make n) refl (λ q. first_made test make (n + 1) xs y q) e
    where
      later_one : ((i : ℕ) × (z : X) × (slice_get xs i ≡ Some z) × (test z ≡ true) × (make (n + 1 + i) ≡ Some y)) → (i : ℕ) × (z : X) × (slice_get (x ∷ xs) i ≡ Some z) × (test z ≡ true) × (make (n + i) ≡ Some y)
      later_one r = (suc r.0, r.1, r.2, r.3, ap make (let i = r.0 in let q : n + suc i ≡ n + 1 + i = omega arith in q) ∙ r.4)

      by : (b : Bool) → test x ≡ b → (o : Option Y) → make n ≡ o → (first_of (each (λ k z. cond (test z) (listed (make k)) []) (n + 1) xs) ≡ Some y → (i : ℕ) × (z : X) × (slice_get xs i ≡ Some z) × (test z ≡ true) × (make (n + 1 + i) ≡ Some y)) →
          first_of (cond b (listed o) [] ++ each (λ k z. cond (test z) (listed (make k)) []) (n + 1) xs) ≡ Some y → (i : ℕ) × (z : X) × (slice_get (x ∷ xs) i ≡ Some z) × (test z ≡ true) × (make (n + i) ≡ Some y)
      by true t (Some z) o later q = (0, x, refl, t, ap make (let s : n + 0 ≡ n = omega arith in s) ∙ o ∙ q)
      by true t None o later q = later_one (later q)
      by false t o u later q = later_one (later q)
