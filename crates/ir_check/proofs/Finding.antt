-- The place of a function's name among the names of a module, which stand once.
use Rattle.std.proofs.Common.{◌≡◌, ℕ, zero, suc, ◌+◌, ◌-◌, ◌<◌, ◌≤◌, ◌⊎◌, inl, inr, Bool, true, false, cond, not, nat_lt, List, [], ◌∷◌, ◌++◌, length, Option, None, Some, refl, sym, ap, ◌∙◌, arith}
use Rattle.std.specs.List.{count_by, position_or_len, prefix_len}
use Rattle.std.specs.Option.{SomeIff}
use Rattle.std.specs.Prelude.{position}
use Rattle.std.proofs.lemmas.Bool.{cases_lt}
use Rattle.std.proofs.lemmas.Bool.Decides.{nat_tests}
use Rattle.std.proofs.lemmas.List.{length-append, length-map}
use Rattle.std.proofs.lemmas.List.Sums.{sum_by-cons}
use Rattle.ir_check.proofs.Once.{times_append}
use Rattle.ir_rules.specs.Accepted.{IsAccepted}
use Rattle.ir_rules.specs.Lists.{times}
use Rattle.ir_rules.specs.Scopes.{function_names, symbols, variables}
use Rattle.ir_tree.specs.Functions.{function_place}
use Rattle.ir_tree.specs.Names.{Indexes, first_place, same}
use Rattle.ir_tree.specs.declared.index.Index.{Index}
use Rattle.ir_tree.specs.declared.types.Global1.{Global1}
use Rattle.ir_tree.specs.declared.types.Module.{Module}

-- how far a place lies behind the first n
abbrev pub past : ℕ → Option ℕ → Option ℕ
past n None = None
past n (Some k) = cond (nat_lt k n) None (Some (k - n))

is_less : (k n : ℕ) → k < n → nat_lt k n ≡ true
is_less k n h = grind (arith, nat_tests)

is_more : (k n : ℕ) → n ≤ k → nat_lt k n ≡ false
is_more k n h = grind (arith, nat_tests)

module _ {X : Type 0} (p : X → Bool) where
  at_first : (x : X) (xs : List X) → p x ≡ true → position_or_len p (x ∷ xs) ≡ 0
  at_first x xs h = λ i. cond {A = ℕ} (not (h i)) (1 + prefix_len (λ y. not (p y)) xs) 0

  behind_first : (x : X) (xs : List X) → p x ≡ false → position_or_len p (x ∷ xs) ≡ 1 + position_or_len p xs
  behind_first x xs h = λ i. cond {A = ℕ} (not (h i)) (1 + prefix_len (λ y. not (p y)) xs) 0

  counted : (x : X) (xs : List X) (b : Bool) → p x ≡ b → count_by p (x ∷ xs) ≡ cond {A = ℕ} b 1 0 + count_by p xs
  counted x xs b h = sum_by-cons (λ y. cond {A = ℕ} (p y) 1 0) x xs ∙ ap (λ (t : Bool). cond {A = ℕ} t 1 0 + count_by p xs) h

  -- where none of the first passes the test, the place is told by the others
  none_before : (xs ys : List X) → count_by p xs ≡ 0 → position_or_len p (xs ++ ys) ≡ length xs + position_or_len p ys
  none_before [] ys e = omega arith
  none_before (x ∷ xs) ys e = by (p x) refl (λ h. none_before xs ys (omega (arith, e, counted x xs false h)))
    where
      by : (b : Bool) → p x ≡ b → (p x ≡ false → position_or_len p (xs ++ ys) ≡ length xs + position_or_len p ys) → position_or_len p (x ∷ (xs ++ ys)) ≡ suc (length xs) + position_or_len p ys
      by true h rest = absurd (omega (arith, e, counted x xs true h))
      by false h rest = omega (arith, behind_first x (xs ++ ys) h, rest h)

  -- where one of the first passes it, the place is among them
  some_before : (xs ys : List X) → 1 ≤ count_by p xs → position_or_len p (xs ++ ys) < length xs
  some_before [] ys some = absurd (omega (arith, some))
  some_before (x ∷ xs) ys some = by (p x) refl (λ h. some_before xs ys (omega (arith, some, counted x xs false h)))
    where
      by : (b : Bool) → p x ≡ b → (p x ≡ false → position_or_len p (xs ++ ys) < length xs) → position_or_len p (x ∷ (xs ++ ys)) < suc (length xs)
      by true h rest = omega (arith, at_first x (xs ++ ys) h)
      by false h rest = omega (arith, behind_first x (xs ++ ys) h, rest h)

  none_passes : (ys : List X) → count_by p ys ≡ 0 → length ys ≤ position_or_len p ys
  none_passes [] e = omega arith
  none_passes (x ∷ xs) e = by (p x) refl (λ h. none_passes xs (omega (arith, e, counted x xs false h)))
    where
      by : (b : Bool) → p x ≡ b → (p x ≡ false → length xs ≤ position_or_len p xs) → suc (length xs) ≤ position_or_len p (x ∷ xs)
      by true h rest = absurd (omega (arith, e, counted x xs true h))
      by false h rest = omega (arith, behind_first x xs h, rest h)

  none_at_all : (ys : List X) → count_by p ys ≡ 0 → position p ys ≡ None
  none_at_all ys e = ap (λ (t : Bool). cond {A = Option ℕ} t (Some (position_or_len p ys)) None) (is_more (position_or_len p ys) (length ys) (none_passes ys e))

  -- one list behind another, in which at most one item passes the test
  pub behind : (xs ys : List X) → count_by p xs + count_by p ys ≤ 1 → past (length xs) (position p (xs ++ ys)) ≡ position p ys
  behind xs ys once = by (count_by p xs) refl
    where
      apart : (b : Bool) → nat_lt (position_or_len p ys) (length ys) ≡ b → past (length xs) (cond {A = Option ℕ} b (Some (length xs + position_or_len p ys)) None) ≡ cond b (Some (position_or_len p ys)) None
      apart true h = ap (λ (t : Bool). cond {A = Option ℕ} t None (Some (length xs + position_or_len p ys - length xs))) (is_more (length xs + position_or_len p ys) (length xs) (omega arith)) ∙ ap Some (let e : length xs + position_or_len p ys - length xs ≡ position_or_len p ys = omega arith in e)
      apart false h = refl

      moved : (a b n : ℕ) → nat_lt (n + a) (n + b) ≡ nat_lt a b
      moved a b n = grind (arith, nat_tests)

      by : (n : ℕ) → count_by p xs ≡ n → past (length xs) (position p (xs ++ ys)) ≡ position p ys
      by zero e =
          let there : position_or_len p (xs ++ ys) ≡ length xs + position_or_len p ys = none_before xs ys e in
          let all : length (xs ++ ys) ≡ length xs + length ys = length-append xs ys in
          (λ i. past (length xs) (cond {A = Option ℕ} (nat_lt (there i) (all i)) (Some (there i)) None)) ∙ (λ i. past (length xs) (cond {A = Option ℕ} (moved (position_or_len p ys) (length ys) (length xs) i) (Some (length xs + position_or_len p ys)) None)) ∙ apart (nat_lt (position_or_len p ys) (length ys)) refl
      by (suc n) e =
          let some : 1 ≤ count_by p xs = omega (arith, e) in
          let within : position_or_len p (xs ++ ys) < length xs = some_before xs ys some in
          let all : length (xs ++ ys) ≡ length xs + length ys = length-append xs ys in
          let inside : nat_lt (position_or_len p (xs ++ ys)) (length (xs ++ ys)) ≡ true = is_less (position_or_len p (xs ++ ys)) (length (xs ++ ys)) (omega (arith, within, all)) in
          ap (λ (t : Bool). past (length xs) (cond {A = Option ℕ} t (Some (position_or_len p (xs ++ ys))) None)) inside
          ∙ ap (λ (t : Bool). cond {A = Option ℕ} t None (Some (position_or_len p (xs ++ ys) - length xs))) (is_less (position_or_len p (xs ++ ys)) (length xs) within)
          ∙ sym (none_at_all ys (omega (arith, e, once)))

-- a difference that is checked
pub checked_past : (n k : ℕ) (r : Option ℕ) → SomeIff r (n ≤ k) (k - n) → r ≡ past n (Some k)
checked_past n k None h = by (cases_lt k n)
  where
    by : (k < n) ⊎ (n ≤ k) → None ≡ past n (Some k)
    by (inl less) = ap (λ (t : Bool). cond {A = Option ℕ} t None (Some (k - n))) (sym (is_less k n less))
    by (inr more) = absurd (h more)
checked_past n k (Some d) h = ap (λ (d : ℕ). Some d) h.1 ∙ ap (λ (t : Bool). cond {A = Option ℕ} t None (Some (k - n))) (sym (is_more k n h.0))

-- the index of an accepted module's symbols finds functions behind its global variables
pub finds_function : (m : Module) (index : Index) (name : List ℕ) → IsAccepted m → Indexes index (symbols m) → (found : Option ℕ) → found ≡ first_place index name → past (length m.globals) found ≡ function_place m.functions name
finds_function m index name accepted indexes found is =
    let long : length m.globals ≡ length (variables m) = sym (length-map m.globals (λ (g : Global1). g.name)) in
    let once : times name (variables m) + times name (function_names m) ≤ 1 = (let most : times name (symbols m) ≤ 1 = accepted.formed.distinct name in omega (arith, most, times_append name (variables m) (function_names m))) in
    (λ i. past (long i) ((is ∙ indexes name) i)) ∙ behind (same name) (variables m) (function_names m) once
