-- What the look-up of a local operand finds, against the list of a function's values.
use Rattle.std.proofs.Common.{◌≡◌, ℕ, ◌⊎◌, inl, inr, ◌↔◌, Bool, true, false, ◌&&◌, ◌||◌, List, [], ◌∷◌, map, Option, Some, None, is_some, refl, sym, ap, ◌∙◌}
use Rattle.std.specs.Cmp.Lexicographic.{bytes_decides}
use Rattle.std.specs.List.{list_any}
use Rattle.std.proofs.lemmas.Bool.{and_from, and_parts, false≢true, or_cases, or_left, or_right}
use Rattle.check_operands.specs.Found.{gives_found}
use Rattle.ir_rules.specs.Existing.{value_names}
use Rattle.ir_rules.specs.Lists.{Among, is_among}
use Rattle.ir_rules.specs.Scopes.{values}
use Rattle.ir_rules.specs.Typing.{gives, has_type}
use Rattle.ir_tree.specs.Names.{same}
use Rattle.ir_tree.specs.declared.types.Function.{Function}
use Rattle.ir_tree.specs.declared.types.Ret.{Ret}
use Rattle.ir_tree.specs.declared.types.Ty.{Ty}

abbrev Name : Type 0
Name = List ℕ

abbrev Value : Type 0
Value = Name × Ret

pub alike : (a b : Bool) → (a ≡ true → b ≡ true) → (b ≡ true → a ≡ true) → a ≡ b
alike true true there back = refl
alike true false there back = absurd (false≢true (there refl))
alike false true there back = absurd (false≢true (back refl))
alike false false there back = refl

pub same_is : (n x : Name) → same n x ≡ true → n ≡ x
same_is n x h = (bytes_decides n x).0 h

pub is_same : (n x : Name) → n ≡ x → same n x ≡ true
is_same n x h = (bytes_decides n x).1 h

-- a test of what was found
abbrev passes : (Ret → Bool) → Option Ret → Bool
passes p None = false
passes p (Some r) = p r

module _ (n : Name) (p : Ret → Bool) (o : Option Ret) where
  abbrev test : Value → Bool
  test v = same n v.0 && p v.1

  found : (vs : List Value) → ((r : Ret) → Among {X = Value} (n, r) vs → o ≡ Some r) → list_any test vs ≡ true → passes p o ≡ true
  found [] there h = absurd (false≢true h)
  found (v ∷ vs) there h = by (or_cases (test v) (list_any test vs) h) (λ k. found vs (λ r at. there r (inr at)) k)
    where
      by : (test v ≡ true) ⊎ (list_any test vs ≡ true) → (list_any test vs ≡ true → passes p o ≡ true) → passes p o ≡ true
      by (inl k) rest =
          let both = and_parts (same n v.0) (p v.1) k in
          let is : ◌≡◌ {A = Value} (n, v.1) v = λ i. (same_is n v.0 both.0 i, v.1) in
          ap (passes p) (there v.1 (inl is)) ∙ both.1
      by (inr k) rest = rest k

  among : (r : Ret) → p r ≡ true → (vs : List Value) → Among {X = Value} (n, r) vs → list_any test vs ≡ true
  among r h [] at = absurd at
  among r h (v ∷ vs) (inl e) = or_left (test v) (list_any test vs) (and_from (same n v.0) (p v.1) (is_same n v.0 (ap (λ (w : Value). w.0) e)) (ap (λ (w : Value). p w.1) (sym e) ∙ h))
  among r h (v ∷ vs) (inr at) = or_right (test v) (list_any test vs) (among r h vs at)

any_value : (n : Name) (p : Ret → Bool) (o : Option Ret) (vs : List Value) → ((r : Ret) → Among {X = Value} (n, r) vs ↔ (o ≡ Some r)) → passes p o ≡ list_any (λ (v : Value). same n v.0 && p v.1) vs
any_value n p o vs tell = alike (passes p o) (list_any (λ (v : Value). same n v.0 && p v.1) vs) (by o refl) (found n p o vs (λ r. (tell r).0))
  where
    by : (q : Option Ret) → o ≡ q → passes p q ≡ true → list_any (λ (v : Value). same n v.0 && p v.1) vs ≡ true
    by None e h = absurd (false≢true h)
    by (Some r) e h = among n p o r h vs ((tell r).1 e)

and_true : (t : Bool) → (t && true) ≡ t
and_true true = refl
and_true false = refl

named : (n : Name) (vs : List Value) → list_any (λ (v : Value). same n v.0 && true) vs ≡ is_among n (map (λ v. v.0) vs)
named n [] = refl
named n (v ∷ vs) = λ i. and_true (same n v.0) i || named n vs i

some_passes : (o : Option Ret) → is_some o ≡ passes (λ r. true) o
some_passes None = refl
some_passes (Some r) = refl

gives_passes : (t : Ty) (o : Option Ret) → gives_found t o ≡ passes (gives t) o
gives_passes t None = refl
gives_passes t (Some r) = refl

-- a name is that of a value where its look-up finds a type
pub local_exists : (f : Function) (n : Name) (o : Option Ret) → ((r : Ret) → Among {X = Value} (n, r) (values f) ↔ (o ≡ Some r)) → is_some o ≡ is_among n (value_names f)
local_exists f n o tell = some_passes o ∙ (any_value n (λ r. true) o (values f) tell ∙ named n (values f))

pub local_fits : (f : Function) (t : Ty) (n : Name) (o : Option Ret) → ((r : Ret) → Among {X = Value} (n, r) (values f) ↔ (o ≡ Some r)) → gives_found t o ≡ has_type (values f) t n
local_fits f t n o tell = gives_passes t o ∙ any_value n (gives t) o (values f) tell
