-- The place of a symbol tells whether it is a global variable or a function, since symbols stand once.
use Rattle.std.proofs.Common.{◌≡◌, ℕ, zero, suc, ◌+◌, ◌-◌, ◌<◌, ◌≤◌, ◌⊎◌, inl, inr, Bool, true, false, cond, not, ◌&&◌, ◌||◌, nat_lt, List, [], ◌∷◌, ◌++◌, length, map, get_or, position, Option, Some, None, slice_get, refl, sym, ap, ◌∙◌, arith}
use Rattle.std.specs.List.{list_any, position_or_len}
use Rattle.std.proofs.lemmas.Bool.{cases_lt, le-ltb, lt-ltb, ltb-false}
use Rattle.std.proofs.lemmas.List.{get_or-append_right, get_or_append_left, length-append, length-map}
use Rattle.std.proofs.lemmas.List.Quantifiers.{position-Some}
use Rattle.std.proofs.lemmas.List.Sums.{fails_before_first, sum_by-append, sum_by-cons}
use Rattle.std.proofs.lemmas.Option.{none-some}
use Rattle.check_operands.specs.Found.{called, has_types, is_profile_at}
use Rattle.ir_rules.specs.Calling.{is_signature}
use Rattle.ir_rules.specs.Declarations.{param_types, same_ret, same_tys}
use Rattle.ir_rules.specs.Kinds.{is_profile_variable, kind_of}
use Rattle.ir_rules.specs.Lists.{is_among, times}
use Rattle.ir_rules.specs.Scopes.{Signature, function_names, is_of_profile, signature, signatures, symbols, variables}
use Rattle.ir_tree.specs.Functions.{is_profile_name}
use Rattle.ir_tree.specs.Names.{same}
use Rattle.ir_tree.specs.declared.types.Function.{Function}
use Rattle.ir_tree.specs.declared.types.Global1.{Global1}
use Rattle.ir_tree.specs.declared.types.Module.{Module}
use Rattle.ir_tree.specs.declared.types.Ret.{Ret}
use Rattle.ir_tree.specs.declared.types.Ty.{Ty}

abbrev Name : Type 0
Name = List ℕ

-- ---- how often a name stands in a list

abbrev one : Name → Name → ℕ
one n x = cond {A = ℕ} (same n x) 1 0

times_cons : (n x : Name) (xs : List Name) → times n (x ∷ xs) ≡ one n x + times n xs
times_cons n x xs = sum_by-cons (one n) x xs

times_append : (n : Name) (xs ys : List Name) → times n (xs ++ ys) ≡ times n xs + times n ys
times_append n xs ys = sum_by-append (one n) xs ys

one_if : (n x : Name) → same n x ≡ true → one n x ≡ 1
one_if n x h = ap (λ (b : Bool). cond {A = ℕ} b 1 0) h

-- a name that stands nowhere is not among the list
not_among : (n : Name) (xs : List Name) → times n xs ≡ 0 → is_among n xs ≡ false
not_among n [] h = refl
not_among n (x ∷ xs) h = by (same n x) refl (not_among n xs (omega (arith, h, times_cons n x xs)))
  where
    by : (b : Bool) → same n x ≡ b → is_among n xs ≡ false → (b || is_among n xs) ≡ false
    by true e rest = absurd (omega (arith, h, times_cons n x xs, one_if n x e))
    by false e rest = rest

-- a name at a place of the list is among it
at_place : (n : Name) (xs : List Name) (i : ℕ) → i < length xs → same n (get_or xs i []) ≡ true → is_among n xs ≡ true
at_place n [] i h e = absurd (omega (arith, h))
at_place n (x ∷ xs) zero h e = ap (λ (b : Bool). b || is_among n xs) e
at_place n (x ∷ xs) (suc i) h e = by (same n x) (at_place n xs i (omega (arith, h)) e)
  where
    by : (b : Bool) → is_among n xs ≡ true → (b || is_among n xs) ≡ true
    by true rest = refl
    by false rest = rest

stands : (n : Name) (xs : List Name) (i : ℕ) → i < length xs → same n (get_or xs i []) ≡ true → 1 ≤ times n xs
stands n [] i h e = absurd (omega (arith, h))
stands n (x ∷ xs) zero h e = omega (arith, times_cons n x xs, one_if n x e)
stands n (x ∷ xs) (suc i) h e = omega (arith, times_cons n x xs, stands n xs i (omega (arith, h)) e)

nowhere : (n : Name) (xs : List Name) → ((i : ℕ) → i < length xs → same n (get_or xs i []) ≡ false) → times n xs ≡ 0
nowhere n [] h = refl
nowhere n (x ∷ xs) h =
    let here : one n x ≡ 0 = ap (λ (b : Bool). cond {A = ℕ} b 1 0) (h 0 (omega arith)) in
    let rest : times n xs ≡ 0 = nowhere n xs (λ i l. h (suc i) (omega (arith, l))) in
    omega (arith, times_cons n x xs, here, rest)

no_place : (n : Name) (xs : List Name) → position (same n) xs ≡ None → times n xs ≡ 0
no_place n xs e = nowhere n xs (λ i l. fails_before_first (same n) xs i [] (omega (arith, l, within)))
  where
    within : length xs ≤ position_or_len (same n) xs
    within = by (nat_lt (position_or_len (same n) xs) (length xs)) refl
      where
        by : (b : Bool) → nat_lt (position_or_len (same n) xs) (length xs) ≡ b → length xs ≤ position_or_len (same n) xs
        by true k = absurd (none-some (position_or_len (same n) xs) (sym e ∙ ap (λ (b : Bool). cond b (Some (position_or_len (same n) xs)) None) k))
        by false k = ltb-false (position_or_len (same n) xs) (length xs) k

-- ---- a call's types against those of the function of its name

module _ (n : Name) (r : Ret) (ts : List Ty) where
  abbrev fits_one : Signature → Bool
  fits_one s = is_signature n r ts s

  abbrev given : List Function → List Name
  given fs = map (λ (f : Function). f.name) fs

  none_of_name : (fs : List Function) → times n (given fs) ≡ 0 → list_any fits_one (map signature fs) ≡ false
  none_of_name [] h = refl
  none_of_name (f ∷ fs) h = by (same n f.name) refl (none_of_name fs (omega (arith, h, times_cons n f.name (given fs))))
    where
      by : (b : Bool) → same n f.name ≡ b → list_any fits_one (map signature fs) ≡ false → ((b && (same_ret r f.ret && same_tys ts (param_types f))) || list_any fits_one (map signature fs)) ≡ false
      by true e rest = absurd (omega (arith, h, times_cons n f.name (given fs), one_if n f.name e))
      by false e rest = rest

  one_of_name : (fs : List Function) (q : ℕ) → times n (given fs) ≤ 1 → q < length (given fs) → same n (get_or (given fs) q []) ≡ true → list_any fits_one (map signature fs) ≡ has_types r ts (slice_get fs q)
  one_of_name [] q once l e = absurd (omega (arith, l))
  one_of_name (f ∷ fs) zero once l e =
      let none : list_any fits_one (map signature fs) ≡ false = none_of_name fs (omega (arith, once, times_cons n f.name (given fs), one_if n f.name e)) in
      (λ i. (e i && (same_ret r f.ret && same_tys ts (param_types f))) || none i) ∙ or_none (same_ret r f.ret && same_tys ts (param_types f))
    where
      or_none : (b : Bool) → (b || false) ≡ b
      or_none true = refl
      or_none false = refl
  one_of_name (f ∷ fs) (suc q) once l e = by (same n f.name) refl (λ few. one_of_name fs q few (omega (arith, l)) e)
    where
      by : (b : Bool) → same n f.name ≡ b → (times n (given fs) ≤ 1 → list_any fits_one (map signature fs) ≡ has_types r ts (slice_get fs q)) → ((b && (same_ret r f.ret && same_tys ts (param_types f))) || list_any fits_one (map signature fs)) ≡ has_types r ts (slice_get fs q)
      by true k rest = absurd (omega (arith, once, times_cons n f.name (given fs), one_if n f.name k, stands n (given fs) q (omega (arith, l)) e))
      by false k rest = rest (omega (arith, once, times_cons n f.name (given fs)))

-- ---- a symbol of a module, by its place

module _ (m : Module) (n : Name) (once : times n (symbols m) ≤ 1) where
  of_variables : length (variables m) ≡ length m.globals
  of_variables = length-map m.globals (λ (g : Global1). g.name)

  -- either it is a global variable and no function, or the other way round
  record Variable (p : ℕ) : Type 0 where
    below : nat_lt p (length m.globals) ≡ true
    is : is_among n (variables m) ≡ true
    no : is_among n (function_names m) ≡ false
    none : times n (function_names m) ≡ 0

  record Named (p : ℕ) : Type 0 where
    behind : nat_lt p (length m.globals) ≡ false
    no : is_among n (variables m) ≡ false
    is : is_among n (function_names m) ≡ true
    within : p - length m.globals < length (function_names m)
    there : same n (get_or (function_names m) (p - length m.globals) []) ≡ true

  kinds : (p : ℕ) → position (same n) (symbols m) ≡ Some p → Variable p ⊎ Named p
  kinds p e = by (cases_lt p (length m.globals))
    where
      at : (p < length (symbols m)) × (same n (get_or (symbols m) p []) ≡ true) × ((k : ℕ) → k < p → same n (get_or (symbols m) k []) ≡ false)
      at = position-Some (same n) (symbols m) p [] e

      split : times n (variables m) + times n (function_names m) ≤ 1
      split = omega (arith, once, times_append n (variables m) (function_names m))

      by : (p < length m.globals) ⊎ (length m.globals ≤ p) → Variable p ⊎ Named p
      by (inl l) =
          let l' : p < length (variables m) = omega (arith, l, of_variables) in
          let same_at : same n (get_or (variables m) p []) ≡ true = ap (same n) (sym (get_or_append_left (variables m) (function_names m) [] p l')) ∙ at.1 in
          let none' : times n (function_names m) ≡ 0 = omega (arith, split, stands n (variables m) p l' same_at) in
          inl (record {
            below = lt-ltb p (length m.globals) l;
            is = at_place n (variables m) p l' same_at;
            no = not_among n (function_names m) none';
            none = none';
          })
      by (inr l) =
          let within' : p - length m.globals < length (function_names m) = omega (arith, at.0, l, of_variables, length-append (variables m) (function_names m)) in
          let same_at : same n (get_or (function_names m) (p - length m.globals) []) ≡ true = ap (same n) (sym (get_or-append_right (variables m) (function_names m) (length m.globals) p [] of_variables l)) ∙ at.1 in
          inr (record {
            behind = le-ltb p (length m.globals) l;
            no = not_among n (variables m) (omega (arith, split, stands n (function_names m) (p - length m.globals) within' same_at));
            is = at_place n (function_names m) (p - length m.globals) within' same_at;
            within = within';
            there = same_at;
          })

  or_both : (xs ys : List Name) → is_among n (xs ++ ys) ≡ (is_among n xs || is_among n ys)
  or_both [] ys = refl
  or_both (x ∷ xs) ys = ap (λ (b : Bool). same n x || b) (or_both xs ys) ∙ assoc (same n x) (is_among n xs) (is_among n ys)
    where
      assoc : (a b c : Bool) → (a || (b || c)) ≡ ((a || b) || c)
      assoc true b c = refl
      assoc false b c = refl

  or_true : (a : Bool) → (a || true) ≡ true
  or_true true = refl
  or_true false = refl

  is_symbol : (p : ℕ) → position (same n) (symbols m) ≡ Some p → is_among n (symbols m) ≡ true
  is_symbol p e = let at = position-Some (same n) (symbols m) p [] e in at_place n (symbols m) p at.0 at.1

  first_only : (v f : Bool) → ((v && true) || (f && false)) ≡ v
  first_only true true = refl
  first_only true false = refl
  first_only false true = refl
  first_only false false = refl

  second_only : (v f : Bool) → ((v && false) || (f && true)) ≡ f
  second_only true true = refl
  second_only true false = refl
  second_only false true = refl
  second_only false false = refl

  profile_at : (p : ℕ) → position (same n) (symbols m) ≡ Some p → is_of_profile m n ≡ is_profile_at (kind_of m.functions) (length m.globals) n p
  profile_at p e = by (kinds p e)
    where
      by : Variable p ⊎ Named p → is_of_profile m n ≡ is_profile_at (kind_of m.functions) (length m.globals) n p
      by (inl v) = (λ i. (is_profile_variable (kind_of m.functions) n && v.is i) || (is_profile_name n && v.no i)) ∙ (first_only (is_profile_variable (kind_of m.functions) n) (is_profile_name n) ∙ ap (λ (b : Bool). cond b (is_profile_variable (kind_of m.functions) n) (is_profile_name n)) (sym v.below))
      by (inr f) = (λ i. (is_profile_variable (kind_of m.functions) n && f.no i) || (is_profile_name n && f.is i)) ∙ (second_only (is_profile_variable (kind_of m.functions) n) (is_profile_name n) ∙ ap (λ (b : Bool). cond b (is_profile_variable (kind_of m.functions) n) (is_profile_name n)) (sym f.behind))

  pub absent : (allowed : Bool) (place : Option ℕ) → place ≡ position (same n) (symbols m) → place ≡ None → false ≡ (is_among n (symbols m) && (allowed || not (is_of_profile m n)))
  absent allowed place told e = ap (λ (b : Bool). b && (allowed || not (is_of_profile m n))) (sym (not_among n (symbols m) (no_place n (symbols m) (sym told ∙ e))))

  pub allowed_stands : (place : Option ℕ) (p : ℕ) (allowed : Bool) → place ≡ position (same n) (symbols m) → place ≡ Some p → allowed ≡ true → allowed ≡ (is_among n (symbols m) && (allowed || not (is_of_profile m n)))
  allowed_stands place p allowed told e h =
      let there : is_among n (symbols m) ≡ true = is_symbol p (sym told ∙ e) in
      h ∙ sym (λ i. there i && (h i || not (is_of_profile m n)))

  pub stands_unless : (place : Option ℕ) (p : ℕ) (allowed is : Bool) → place ≡ position (same n) (symbols m) → place ≡ Some p → allowed ≡ false → is ≡ is_profile_at (kind_of m.functions) (length m.globals) n p → not is ≡ (is_among n (symbols m) && (allowed || not (is_of_profile m n)))
  stands_unless place p allowed is told e h was =
      let there : is_among n (symbols m) ≡ true = is_symbol p (sym told ∙ e) in
      let same_is : is ≡ is_of_profile m n = was ∙ sym (profile_at p (sym told ∙ e)) in
      ap not same_is ∙ sym (λ i. there i && (h i || not (is_of_profile m n)))

  -- the function of a name is the one at its place
  pub called_at : (place : Option ℕ) (r : Ret) (ts : List Ty) → place ≡ position (same n) (symbols m) → has_types r ts (called m place) ≡ list_any (is_signature n r ts) (signatures m)
  called_at None r ts told =
      let no : times n (symbols m) ≡ 0 = no_place n (symbols m) (sym told) in
      sym (none_of_name n r ts m.functions (omega (arith, no, times_append n (variables m) (function_names m))))
  called_at (Some p) r ts told = by (kinds p (sym told))
    where
      by : Variable p ⊎ Named p → has_types r ts (called m (Some p)) ≡ list_any (is_signature n r ts) (signatures m)
      by (inl v) = ap (λ (b : Bool). has_types r ts (cond b None (slice_get m.functions (p - length m.globals)))) v.below ∙ sym (none_of_name n r ts m.functions v.none)
      by (inr f) =
          ap (λ (b : Bool). has_types r ts (cond b None (slice_get m.functions (p - length m.globals)))) f.behind ∙ sym (one_of_name n r ts m.functions (p - length m.globals) (omega (arith, once, times_append n (variables m) (function_names m))) f.within f.there)
