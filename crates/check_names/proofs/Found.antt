-- The first global of a name, where names stand once.
use Rattle.std.proofs.Common.{◌≡◌, ℕ, ◌+◌, ◌<◌, ◌≤◌, ◌==◌, ◌⊎◌, inl, inr, Bool, true, false, not, ◌&&◌, ◌||◌, cond, nat_lt, List, [], ◌∷◌, ◌++◌, length, map, position, Option, None, Some, is_some, slice_get, refl, sym, ap, subst, ◌∙◌, arith, length-append}
use Rattle.std.specs.List.{find, list_any, position_or_len}
use Rattle.std.proofs.lemmas.Bool.Decides.{nat_tests}
use Rattle.std.proofs.lemmas.List.{length-map}
use Rattle.std.proofs.lemmas.List.Folds.{find_at, list_any-append, prefix_len-append}
use Rattle.std.proofs.lemmas.List.Sums.{prefix_len-le-length, sum_by-append, sum_by-cons}
use Rattle.std.proofs.lemmas.Option.{cond_some, none-some, same_Some, slice_get_past}
use Rattle.check_names.proofs.Names.{first_counts, variable_name}
use Rattle.ir_rules.specs.Kinds.{is_profile_variable, kind_of}
use Rattle.ir_rules.specs.Lists.{is_among, times}
use Rattle.ir_rules.specs.Scopes.{function_names, is_program_symbol, symbols, variables}
use Rattle.ir_tree.specs.Functions.{is_profile_name}
use Rattle.ir_tree.specs.Names.{same}
use Rattle.ir_tree.specs.declared.types.Global1.{Global1}
use Rattle.ir_tree.specs.declared.types.Module.{Module}

-- ---- a test of the global of a name

abbrev has_name : List ℕ → Global1 → Bool
has_name name g = same name g.name

count_here : (n : ℕ) → cond {A = ℕ} true 1 0 + n ≡ 0 → ⊥
count_here n e = omega (arith, e)

none_any : (name : List ℕ) (test : Global1 → Bool) (gs : List Global1) → times name (map variable_name gs) ≡ 0 → list_any (λ g. same name g.name && test g) gs ≡ false
none_any name test [] none = refl
none_any name test (g ∷ gs) none = by (same name g.name) refl (none_any name test gs)
  where
    total : cond {A = ℕ} (same name g.name) 1 0 + times name (map variable_name gs) ≡ 0
    total = sym (sum_by-cons (λ y. cond {A = ℕ} (same name y) 1 0) g.name (map variable_name gs)) ∙ none

    by : (b : Bool) → same name g.name ≡ b → (times name (map variable_name gs) ≡ 0 → list_any (λ x. same name x.name && test x) gs ≡ false) → ((same name g.name && test g) || list_any (λ x. same name x.name && test x) gs) ≡ false
    by true e further = absurd (count_here (times name (map variable_name gs)) (ap (λ (b : Bool). cond {A = ℕ} b 1 0 + times name (map variable_name gs)) (sym e) ∙ total))
    by false e further =
        let rest : times name (map variable_name gs) ≡ 0 = omega (arith, ap (λ (b : Bool). cond {A = ℕ} b 1 0 + times name (map variable_name gs)) (sym e) ∙ total) in
        ap (λ (b : Bool). (b && test g) || list_any (λ x. same name x.name && test x) gs) e ∙ further rest

or_false : (b : Bool) → (b || false) ≡ b
or_false true = refl
or_false false = refl

pub any_found : (name : List ℕ) (test : Global1 → Bool) (gs : List Global1) (found : Global1) → times name (map variable_name gs) ≤ 1 → find (λ g. same name g.name) gs ≡ Some found → list_any (λ g. same name g.name && test g) gs ≡ test found
any_found name test [] found once at = absurd (none-some found at)
any_found name test (g ∷ gs) found once at = by (same name g.name) refl (any_found name test gs found)
  where
    total : cond {A = ℕ} (same name g.name) 1 0 + times name (map variable_name gs) ≤ 1
    total = subst (λ (n : ℕ). n ≤ 1) (sum_by-cons (λ y. cond {A = ℕ} (same name y) 1 0) g.name (map variable_name gs)) once

    by : (b : Bool) → same name g.name ≡ b → (times name (map variable_name gs) ≤ 1 → find (λ x. same name x.name) gs ≡ Some found → list_any (λ x. same name x.name && test x) gs ≡ test found) → ((same name g.name && test g) || list_any (λ x. same name x.name && test x) gs) ≡ test found
    by true e further =
        let is : g ≡ found = same_Some g found (ap (λ (b : Bool). cond {A = Option Global1} b (Some g) (find (λ x. same name x.name) gs)) (sym e) ∙ at) in
        let one : cond {A = ℕ} true 1 0 + times name (map variable_name gs) ≤ 1 = subst (λ (b : Bool). cond {A = ℕ} b 1 0 + times name (map variable_name gs) ≤ 1) e total in
        let rest : times name (map variable_name gs) ≡ 0 = omega (arith, one) in
        (λ j. (e j && test g) || none_any name test gs rest j) ∙ or_false (test g) ∙ ap test is
    by false e further =
        let one : cond {A = ℕ} false 1 0 + times name (map variable_name gs) ≤ 1 = subst (λ (b : Bool). cond {A = ℕ} b 1 0 + times name (map variable_name gs) ≤ 1) e total in
        let rest : times name (map variable_name gs) ≤ 1 = omega (arith, one) in
        ap (λ (b : Bool). (b && test g) || list_any (λ x. same name x.name && test x) gs) e
        ∙ further rest (ap (λ (b : Bool). cond {A = Option Global1} b (Some g) (find (λ x. same name x.name) gs)) (sym e) ∙ at)

pub any_absent : (name : List ℕ) (test : Global1 → Bool) (gs : List Global1) → find (λ g. same name g.name) gs ≡ None → list_any (λ g. same name g.name && test g) gs ≡ false
any_absent name test [] none = refl
any_absent name test (g ∷ gs) none = by (same name g.name) refl (any_absent name test gs)
  where
    by : (b : Bool) → same name g.name ≡ b → (find (λ x. same name x.name) gs ≡ None → list_any (λ x. same name x.name && test x) gs ≡ false) → ((same name g.name && test g) || list_any (λ x. same name x.name && test x) gs) ≡ false
    by true e further = absurd (none-some g (sym none ∙ ap (λ (b : Bool). cond {A = Option Global1} b (Some g) (find (λ x. same name x.name) gs)) e))
    by false e further =
        ap (λ (b : Bool). (b && test g) || list_any (λ x. same name x.name && test x) gs) e
        ∙ further (ap (λ (b : Bool). cond {A = Option Global1} b (Some g) (find (λ x. same name x.name) gs)) (sym e) ∙ none)

pub any_is_some : (name : List ℕ) (gs : List Global1) → is_some (find (λ g. same name g.name) gs) ≡ list_any (λ g. same name g.name) gs
any_is_some name [] = refl
any_is_some name (g ∷ gs) = by (same name g.name) (any_is_some name gs)
  where
    by : (b : Bool) → is_some (find (λ x. same name x.name) gs) ≡ list_any (λ x. same name x.name) gs → is_some (cond {A = Option Global1} b (Some g) (find (λ x. same name x.name) gs)) ≡ (b || list_any (λ x. same name x.name) gs)
    by true e = refl
    by false e = e

-- ---- the place of a name among all names

first_mapped : (name : List ℕ) (gs : List Global1) → position_or_len (same name) (map variable_name gs) ≡ position_or_len (λ g. same name g.name) gs
first_mapped name [] = refl
first_mapped name (g ∷ gs) = ap (λ (n : ℕ). cond {A = ℕ} (not (same name g.name)) (1 + n) 0) (first_mapped name gs)

below_by : (i n : ℕ) → nat_lt i n ≡ true → i < n
below_by i n e = grind (arith, nat_tests)

above_by : (i n : ℕ) → nat_lt i n ≡ false → n ≤ i
above_by i n e = grind (arith, nat_tests)

place_some : {X : Type 0} (p : X → Bool) (xs : List X) (i : ℕ) → Some i ≡ position p xs → (position_or_len p xs ≡ i) × (i < length xs)
place_some p xs i at =
    let parts = cond_some (nat_lt (position_or_len p xs) (length xs)) (position_or_len p xs) i (sym at) in
    (parts.1, subst (λ (k : ℕ). k < length xs) parts.1 (below_by (position_or_len p xs) (length xs) parts.0))

none_by : (b : Bool) (i : ℕ) → ◌≡◌ {A = Option ℕ} None (cond b (Some i) None) → b ≡ false
none_by true i e = cc
none_by false i e = refl

place_none : {X : Type 0} (p : X → Bool) (xs : List X) → None ≡ position p xs → length xs ≤ position_or_len p xs
place_none p xs at = above_by (position_or_len p xs) (length xs) (none_by (nat_lt (position_or_len p xs) (length xs)) (position_or_len p xs) at)

-- the first of two lists put together
joined_first : {X : Type 0} (p : X → Bool) (xs ys : List X) → ((position_or_len p xs < length xs) × (position_or_len p (xs ++ ys) ≡ position_or_len p xs)) ⊎ ((position_or_len p xs ≡ length xs) × (length xs ≤ position_or_len p (xs ++ ys)))
joined_first p xs ys = grind (arith, nat_tests, prefix_len-append (λ x. not (p x)) xs ys, prefix_len-le-length (λ x. not (p x)) xs)

one_counts : (n : ℕ) → true ≡ not (1 + n == 0)
one_counts n = grind (arith, nat_tests)

none_counts : (n : ℕ) → n ≡ 0 + n
none_counts n = omega arith

some_test : (n : ℕ) → n ≡ 1 → not (n == 0) ≡ true
some_test n e = grind (arith, nat_tests)

none_test : (n : ℕ) → n ≡ 0 → not (n == 0) ≡ false
none_test n e = grind (arith, nat_tests)

first_some : (i n c : ℕ) → not (nat_lt i n) ≡ (c == 0) → i < n → 1 ≤ c
first_some i n c e h = grind (arith, nat_tests)

first_none : (i n c : ℕ) → not (nat_lt i n) ≡ (c == 0) → n ≤ i → c ≡ 0
first_none i n c e h = grind (arith, nat_tests)

is_variable : (v f profile intrinsic : Bool) → v ≡ true → f ≡ false → not profile ≡ ((v || f) && not ((profile && v) || (intrinsic && f)))
is_variable true false true true a b = refl
is_variable true false true false a b = refl
is_variable true false false true a b = refl
is_variable true false false false a b = refl
is_variable true true p i a b = absurd (cc b)
is_variable false f p i a b = absurd (cc a)

is_function : (v f profile intrinsic : Bool) → v ≡ false → f ≡ true → not intrinsic ≡ ((v || f) && not ((profile && v) || (intrinsic && f)))
is_function false true true true a b = refl
is_function false true true false a b = refl
is_function false true false true a b = refl
is_function false true false false a b = refl
is_function false false p i a b = absurd (cc b)
is_function true f p i a b = absurd (cc a)

is_neither : (v f profile intrinsic : Bool) → v ≡ false → f ≡ false → false ≡ ((v || f) && not ((profile && v) || (intrinsic && f)))
is_neither false false p i a b = refl
is_neither false true p i a b = absurd (cc b)
is_neither true f p i a b = absurd (cc a)

module _ (m : Module) (name : List ℕ) where
  long : length (variables m) ≡ length m.globals
  long = length-map m.globals variable_name

  found_first : find (λ g. same name g.name) m.globals ≡ slice_get m.globals (position_or_len (same name) (variables m))
  found_first = find_at (λ g. same name g.name) m.globals ∙ ap (λ (i : ℕ). slice_get m.globals i) (sym (first_mapped name m.globals))

  pub at_place : (i : ℕ) → Some i ≡ position (same name) (symbols m) → slice_get m.globals i ≡ find (λ g. same name g.name) m.globals
  at_place i at = by (joined_first (same name) (variables m) (function_names m))
    where
      here : position_or_len (same name) (symbols m) ≡ i
      here = (place_some (same name) (symbols m) i at).0

      by : ((position_or_len (same name) (variables m) < length (variables m)) × (position_or_len (same name) (symbols m) ≡ position_or_len (same name) (variables m))) ⊎ ((position_or_len (same name) (variables m) ≡ length (variables m)) × (length (variables m) ≤ position_or_len (same name) (symbols m))) → slice_get m.globals i ≡ find (λ g. same name g.name) m.globals
      by (inl w) = ap (λ (k : ℕ). slice_get m.globals k) (sym here ∙ w.1) ∙ sym found_first
      by (inr w) =
          let past : length m.globals ≤ i = omega (arith, w.1, here, long) in
          let end : length m.globals ≤ position_or_len (same name) (variables m) = omega (arith, w.0, long) in
          slice_get_past m.globals i past ∙ sym (found_first ∙ slice_get_past m.globals (position_or_len (same name) (variables m)) end)

  pub at_none : None ≡ position (same name) (symbols m) → find (λ g. same name g.name) m.globals ≡ None
  at_none at = by (joined_first (same name) (variables m) (function_names m))
    where
      past : length (symbols m) ≤ position_or_len (same name) (symbols m)
      past = place_none (same name) (symbols m) at

      by : ((position_or_len (same name) (variables m) < length (variables m)) × (position_or_len (same name) (symbols m) ≡ position_or_len (same name) (variables m))) ⊎ ((position_or_len (same name) (variables m) ≡ length (variables m)) × (length (variables m) ≤ position_or_len (same name) (symbols m))) → find (λ g. same name g.name) m.globals ≡ None
      by (inl w) = absurd (omega (arith, past, w.0, w.1, length-append (variables m) (function_names m)))
      by (inr w) =
          let end : length m.globals ≤ position_or_len (same name) (variables m) = omega (arith, w.0, long) in
          found_first ∙ slice_get_past m.globals (position_or_len (same name) (variables m)) end

  -- ---- a name of the program's

  among_counts : (names : List (List ℕ)) → is_among name names ≡ not (times name names == 0)
  among_counts [] = refl
  among_counts (x ∷ xs) = by (same name x) (among_counts xs) ∙ ap (λ (n : ℕ). not (n == 0)) (sym (sum_by-cons (λ y. cond {A = ℕ} (same name y) 1 0) x xs))
    where
      by : (b : Bool) → is_among name xs ≡ not (times name xs == 0) → (b || is_among name xs) ≡ not (cond {A = ℕ} b 1 0 + times name xs == 0)
      by true e = one_counts (times name xs)
      by false e = e ∙ ap (λ (n : ℕ). not (n == 0)) (none_counts (times name xs))

  all_times : times name (symbols m) ≡ times name (variables m) + times name (function_names m)
  all_times = sum_by-append (λ y. cond {A = ℕ} (same name y) 1 0) (variables m) (function_names m)

  abbrev profile : Bool
  profile = is_profile_variable (kind_of m.functions) name

  parts : is_program_symbol m name ≡ ((is_among name (variables m) || is_among name (function_names m)) && not ((profile && is_among name (variables m)) || (is_profile_name name && is_among name (function_names m))))
  parts = ap (λ (b : Bool). b && not ((profile && is_among name (variables m)) || (is_profile_name name && is_among name (function_names m)))) (list_any-append (same name) (variables m) (function_names m))

  module _ (once : times name (symbols m) ≤ 1) (i : ℕ) (at : Some i ≡ position (same name) (symbols m)) where
    one : times name (symbols m) ≡ 1
    one =
        let told = place_some (same name) (symbols m) i at in
        let below : position_or_len (same name) (symbols m) < length (symbols m) = omega (arith, told.0, told.1) in
        let some : 1 ≤ times name (symbols m) = first_some (position_or_len (same name) (symbols m)) (length (symbols m)) (times name (symbols m)) (first_counts (same name) (symbols m)) below in
        omega (arith, some, once)

    counted : ((i < length m.globals) × (times name (variables m) ≡ 1)) ⊎ ((length m.globals ≤ i) × (times name (variables m) ≡ 0))
    counted = by (joined_first (same name) (variables m) (function_names m))
      where
        here : position_or_len (same name) (symbols m) ≡ i
        here = (place_some (same name) (symbols m) i at).0

        by : ((position_or_len (same name) (variables m) < length (variables m)) × (position_or_len (same name) (symbols m) ≡ position_or_len (same name) (variables m))) ⊎ ((position_or_len (same name) (variables m) ≡ length (variables m)) × (length (variables m) ≤ position_or_len (same name) (symbols m))) → ((i < length m.globals) × (times name (variables m) ≡ 1)) ⊎ ((length m.globals ≤ i) × (times name (variables m) ≡ 0))
        by (inl w) =
            let some : 1 ≤ times name (variables m) = first_some (position_or_len (same name) (variables m)) (length (variables m)) (times name (variables m)) (first_counts (same name) (variables m)) w.0 in
            inl (omega (arith, w.0, w.1, here, long), omega (arith, some, one, all_times))
        by (inr w) =
            let end : length (variables m) ≤ position_or_len (same name) (variables m) = omega (arith, w.0) in
            inr (omega (arith, w.1, here, long), first_none (position_or_len (same name) (variables m)) (length (variables m)) (times name (variables m)) (first_counts (same name) (variables m)) end)

    pub of_variable : i < length m.globals → not (is_profile_variable (kind_of m.functions) name) ≡ is_program_symbol m name
    of_variable within = by counted
      where
        by : ((i < length m.globals) × (times name (variables m) ≡ 1)) ⊎ ((length m.globals ≤ i) × (times name (variables m) ≡ 0)) → not (is_profile_variable (kind_of m.functions) name) ≡ is_program_symbol m name
        by (inl w) =
            let none : times name (function_names m) ≡ 0 = omega (arith, w.1, one, all_times) in
            is_variable (is_among name (variables m)) (is_among name (function_names m)) profile (is_profile_name name) (among_counts (variables m) ∙ some_test (times name (variables m)) w.1) (among_counts (function_names m) ∙ none_test (times name (function_names m)) none) ∙ sym parts
        by (inr w) = absurd (omega (arith, w.0, within))

    pub of_function : length m.globals ≤ i → not (is_profile_name name) ≡ is_program_symbol m name
    of_function past = by counted
      where
        by : ((i < length m.globals) × (times name (variables m) ≡ 1)) ⊎ ((length m.globals ≤ i) × (times name (variables m) ≡ 0)) → not (is_profile_name name) ≡ is_program_symbol m name
        by (inl w) = absurd (omega (arith, w.0, past))
        by (inr w) =
            let some : times name (function_names m) ≡ 1 = omega (arith, w.1, one, all_times) in
            is_function (is_among name (variables m)) (is_among name (function_names m)) profile (is_profile_name name) (among_counts (variables m) ∙ none_test (times name (variables m)) w.1) (among_counts (function_names m) ∙ some_test (times name (function_names m)) some) ∙ sym parts

  pub of_none : None ≡ position (same name) (symbols m) → false ≡ is_program_symbol m name
  of_none at =
      let none : times name (symbols m) ≡ 0 = first_none (position_or_len (same name) (symbols m)) (length (symbols m)) (times name (symbols m)) (first_counts (same name) (symbols m)) (place_none (same name) (symbols m) at) in
      let v : times name (variables m) ≡ 0 = omega (arith, none, all_times) in
      let f : times name (function_names m) ≡ 0 = omega (arith, none, all_times) in
      is_neither (is_among name (variables m)) (is_among name (function_names m)) profile (is_profile_name name) (among_counts (variables m) ∙ none_test (times name (variables m)) v) (among_counts (function_names m) ∙ none_test (times name (function_names m)) f) ∙ sym parts

  pub variable_once : times name (symbols m) ≤ 1 → times name (variables m) ≤ 1
  variable_once once = omega (arith, once, all_times)
