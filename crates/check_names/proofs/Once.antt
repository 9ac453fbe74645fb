-- Where no place breaks the rule on names, each name stands once.
use Rattle.std.proofs.Common.{◌≡◌, ℕ, zero, suc, ◌+◌, ◌<◌, ◌≤◌, ◌==◌, Bool, true, false, ◌&&◌, ◌⊎◌, inl, inr, cond, List, [], ◌∷◌, ◌++◌, length, take, get_or, map, None, Some, slice_get, refl, sym, ap, subst, ◌∙◌, arith, add-one, append_assoc}
use Rattle.std.proofs.lemmas.Bool.Decides.{nat_tests}
use Rattle.std.proofs.lemmas.Option.{none-some, same_Some, slice_get_cases}
use Rattle.std.proofs.lemmas.List.{append-nil}
use Rattle.std.proofs.lemmas.List.Sums.{sum_by_push}
use Rattle.std.proofs.Math.Seq.{take-length}
use Rattle.std.specs.Cmp.Lexicographic.{same_text}
use Rattle.check_names.proofs.Names.{function_name, functions_taken, named_more, variable_name, variables_taken}
use Rattle.check_names.proofs.Outside.{named_places}
use Rattle.check_names.specs.Outer.{global_places, misspelled}
use Rattle.ir_rules.specs.Lists.{is_new, times}
use Rattle.ir_rules.specs.Naming.{are_param_names, is_new_symbol, naming}
use Rattle.ir_rules.specs.Parts.{function_places, place, places, unless}
use Rattle.ir_rules.specs.Scopes.{symbols, variables}
use Rattle.ir_rules.specs.declared.place.Place.{Place}
use Rattle.ir_tree.specs.Names.{same}
use Rattle.ir_tree.specs.Spelling.{is_global_name}
use Rattle.ir_tree.specs.declared.types.Function.{Function}
use Rattle.ir_tree.specs.declared.types.Global1.{Global1}
use Rattle.ir_tree.specs.declared.types.Module.{Module}
use Rattle.spec_lists.specs.Each.{each, first_of}

none_left : {Y : Type 0} (ys zs : List Y) → first_of (ys ++ zs) ≡ None → first_of ys ≡ None
none_left [] zs none = refl
none_left (y ∷ ys) zs none = cc

none_right : {Y : Type 0} (ys zs : List Y) → first_of (ys ++ zs) ≡ None → first_of zs ≡ None
none_right [] zs none = none
none_right (y ∷ ys) zs none = cc

at_zero : (n : ℕ) → n + zero ≡ n
at_zero n = omega arith

at_next : (n i : ℕ) → n + suc i ≡ n + 1 + i
at_next n i = omega arith

from_zero : (n : ℕ) → 0 + n ≡ n
from_zero n = omega arith

none_of_each : {X Y : Type 0} (make : ℕ → X → List Y) (n : ℕ) (xs : List X) → first_of (each make n xs) ≡ None → (i : ℕ) (x : X) → slice_get xs i ≡ Some x → first_of (make (n + i) x) ≡ None
none_of_each make n [] none i x at = absurd (none-some x at)
none_of_each {X} make n (y ∷ ys) none zero x at =
    ap (λ (k : ℕ). first_of (make k x)) (at_zero n) ∙ (ap (λ (z : X). first_of (make n z)) (sym (same_Some y x at)) ∙ none_left (make n y) (each make (n + 1) ys) none)
none_of_each make n (y ∷ ys) none (suc i) x at =
    ap (λ (k : ℕ). first_of (make k x)) (at_next n i) ∙ none_of_each make (n + 1) ys (none_right (make n y) (each make (n + 1) ys) none) i x at

in_range : {X : Type 0} (xs : List X) (i : ℕ) (x : X) → slice_get xs i ≡ Some x → i < length xs
in_range [] i x at = absurd (none-some x at)
in_range (y ∷ ys) zero x at = omega arith
in_range (y ∷ ys) (suc i) x at = omega (arith, in_range ys i x at)

zero_is : (n : ℕ) → (n == 0) ≡ true → n ≡ 0
zero_is n e = grind (arith, nat_tests)

kept : (b : Bool) (at : Place) → first_of (unless b at) ≡ None → b ≡ true
kept true at none = refl
kept false at none = cc

and_left : (a b : Bool) → (a && b) ≡ true → a ≡ true
and_left true b e = refl
and_left false b e = e

and_right : (a b : Bool) → (a && b) ≡ true → b ≡ true
and_right true b e = e
and_right false b e = cc

-- one name more, which is new
one_more : (names : List (List ℕ)) (x name : List ℕ) → is_new x names ≡ true → times name names ≤ 1 → times name (names ++ x ∷ []) ≤ 1
one_more names x name fresh one = by (same name x) refl
  where
    push : times name (names ++ x ∷ []) ≡ times name names + cond {A = ℕ} (same name x) 1 0
    push = sum_by_push (λ y. cond {A = ℕ} (same name y) 1 0) names x

    by : (b : Bool) → same name x ≡ b → times name (names ++ x ∷ []) ≤ 1
    by true e =
        let none : times x names ≡ 0 = zero_is (times x names) fresh in
        let here : times name names ≡ 0 = ap (λ (y : List ℕ). times y names) (same_text name x (sym e)) ∙ none in
        let more : times name (names ++ x ∷ []) ≡ times name names + 1 = push ∙ ap (λ (b : Bool). times name names + cond {A = ℕ} b 1 0) e in
        omega (arith, here, more)
    by false e =
        let more : times name (names ++ x ∷ []) ≡ times name names + 0 = push ∙ ap (λ (b : Bool). times name names + cond {A = ℕ} b 1 0) e in
        omega (arith, one, more)

module _ (m : Module) (none : first_of (places (naming m) m) ≡ None) where
  all_none : first_of (global_places (naming m).global m.globals ++ each (function_places (naming m)) 0 m.functions) ≡ None
  all_none = ap (λ (ps : List Place). first_of ps) (sym (named_places m)) ∙ none

  new_variable : (n : ℕ) (g : Global1) → slice_get m.globals n ≡ Some g → is_new g.name (map variable_name (take n m.globals)) ≡ true
  new_variable n g at =
      let within : n < length m.globals = in_range m.globals n g at in
      let here : first_of (unless ((naming m).global (0 + n) g) (place 0 0 (0 + n))) ≡ None = none_of_each (λ (i : ℕ) (v : Global1). unless ((naming m).global i v) (place 0 0 i)) 0 m.globals (none_left (global_places (naming m).global m.globals) (each (function_places (naming m)) 0 m.functions) all_none) n g at in
      let test : (naming m).global (0 + n) g ≡ true = kept ((naming m).global (0 + n) g) (place 0 0 (0 + n)) here in
      let fresh : is_new g.name (take (0 + n) (symbols m)) ≡ true = and_right (is_global_name g.name) (is_new_symbol m (0 + n) g.name) test in
      ap (λ (ns : List (List ℕ)). is_new g.name ns) (sym (ap (λ (i : ℕ). take i (symbols m)) (from_zero n) ∙ variables_taken m n (omega (arith, within)))) ∙ fresh

  new_function : (k : ℕ) (f : Function) → slice_get m.functions k ≡ Some f → is_new f.name (variables m ++ map function_name (take k m.functions)) ≡ true
  new_function k f at =
      let here : first_of (function_places (naming m) (0 + k) f) ≡ None = none_of_each (function_places (naming m)) 0 m.functions (none_right (global_places (naming m).global m.globals) (each (function_places (naming m)) 0 m.functions) all_none) k f at in
      let head : first_of (unless ((naming m).head (0 + k) f) (place (0 + k) 0 0)) ≡ None = none_left (unless ((naming m).head (0 + k) f) (place (0 + k) 0 0)) (misspelled (0 + k) f.blocks) here in
      let test : (naming m).head (0 + k) f ≡ true = kept ((naming m).head (0 + k) f) (place (0 + k) 0 0) head in
      let fresh : is_new f.name (take (length m.globals + (0 + k)) (symbols m)) ≡ true = and_left (is_new_symbol m (length m.globals + (0 + k)) f.name) (are_param_names f) (and_right (is_global_name f.name) (is_new_symbol m (length m.globals + (0 + k)) f.name && are_param_names f) test) in
      ap (λ (ns : List (List ℕ)). is_new f.name ns) (sym (ap (λ (i : ℕ). take (length m.globals + i) (symbols m)) (from_zero k) ∙ functions_taken m k)) ∙ fresh

  module _ (name : List ℕ) where
    variable_step : (n : ℕ) → suc n ≤ length m.globals → times name (map variable_name (take n m.globals)) ≤ 1 → times name (map variable_name (take (suc n) m.globals)) ≤ 1
    variable_step n within so_far = by (slice_get_cases m.globals n).1
      where
        by : ((g : Global1) × (n < length m.globals) × (slice_get m.globals n ≡ Some g) × (get_or m.globals n g ≡ g)) ⊎ ((length m.globals ≤ n) × (slice_get m.globals n ≡ None)) → times name (map variable_name (take (suc n) m.globals)) ≤ 1
        by (inl w) =
            let more : times name (map variable_name (take n m.globals) ++ w.0.name ∷ []) ≤ 1 = one_more (map variable_name (take n m.globals)) w.0.name name (new_variable n w.0 w.2) so_far in
            subst (λ (ns : List (List ℕ)). times name ns ≤ 1) (sym (named_more variable_name m.globals n w.0 w.1 (sym w.3)) ∙ ap (λ (i : ℕ). map variable_name (take i m.globals)) (add-one n)) more
        by (inr w) = absurd (omega (arith, w.0, within))

    function_step : (k : ℕ) → suc k ≤ length m.functions → times name (variables m ++ map function_name (take k m.functions)) ≤ 1 → times name (variables m ++ map function_name (take (suc k) m.functions)) ≤ 1
    function_step k within so_far = by (slice_get_cases m.functions k).1
      where
        by : ((f : Function) × (k < length m.functions) × (slice_get m.functions k ≡ Some f) × (get_or m.functions k f ≡ f)) ⊎ ((length m.functions ≤ k) × (slice_get m.functions k ≡ None)) → times name (variables m ++ map function_name (take (suc k) m.functions)) ≤ 1
        by (inl w) =
            let more : times name ((variables m ++ map function_name (take k m.functions)) ++ w.0.name ∷ []) ≤ 1 = one_more (variables m ++ map function_name (take k m.functions)) w.0.name name (new_function k w.0 w.2) so_far in
            subst (λ (ns : List (List ℕ)). times name ns ≤ 1) (append_assoc (variables m) (map function_name (take k m.functions)) (w.0.name ∷ []) ∙ ap (λ (ns : List (List ℕ)). variables m ++ ns) (sym (named_more function_name m.functions k w.0 w.1 (sym w.3)) ∙ ap (λ (i : ℕ). map function_name (take i m.functions)) (add-one k))) more
        by (inr w) = absurd (omega (arith, w.0, within))

    once_in_variables : (n : ℕ) → n ≤ length m.globals → times name (map variable_name (take n m.globals)) ≤ 1
    once_in_variables zero within = omega arith
    once_in_variables (suc n) within = variable_step n within (once_in_variables n (omega (arith, within)))

    once_in_all : (k : ℕ) → k ≤ length m.functions → times name (variables m ++ map function_name (take k m.functions)) ≤ 1
    once_in_all zero within =
        let all : times name (map variable_name (take (length m.globals) m.globals)) ≤ 1 = once_in_variables (length m.globals) (omega arith) in
        subst (λ (ns : List (List ℕ)). times name ns ≤ 1) ((λ j. map variable_name (take-length m.globals j)) ∙ sym (append-nil (variables m))) all
    once_in_all (suc k) within = function_step k within (once_in_all k (omega (arith, within)))

pub names_once : (m : Module) → first_of (places (naming m) m) ≡ None → (name : List ℕ) → times name (symbols m) ≤ 1
names_once m none name = subst (λ (ns : List (List ℕ)). times name ns ≤ 1) (λ j. variables m ++ map function_name (take-length m.functions j)) (once_in_all m none name (length m.functions) (omega arith))
