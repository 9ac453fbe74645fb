-- A line that means a call means a valid one.
use Rattle.std.proofs.Common.{◌≡◌, ℕ, ◌^◌, ◌-◌, ◌%◌, ◌<◌, ◌≤◌, Bool, true, false, cond, nat_lt, nat_le, not, ◌==◌, List, [], ◌∷◌, ◌++◌, map, length, slice_get, Option, Some, None, Result, Ok, Err, All, refl, sym, ap, subst, arith}
use Rattle.std.proofs.lemmas.Bool.Decides.{nat_tests}
use Rattle.std.proofs.lemmas.List.Elements.{All-nil, All-cons}
use Rattle.std.proofs.lemmas.Nat.{mod_below}
use Rattle.std.specs.Option.{option_and_then}
use Rattle.ir_tree.specs.declared.types.Ty.{Ty}
use Rattle.ir_tree.specs.declared.types.Ty.TheVariants.{I1, I8, I16, I32, I64, Ptr}
use Rattle.ir_tree.specs.Functions.{function_at, function_number}
use Rattle.ir_tree.specs.Types.{when, is_integer_of, literal_of, literal_of_width}
use Rattle.ir_tree.specs.declared.types.Function.{Function}
use Rattle.ir_tree.specs.declared.types.Module.{Module}
use Rattle.ir_model.specs.declared.result.Call.{Call}
use Rattle.ir_model.specs.Run.{FitsAll, FitsFunction, IsValidCall, IsValidCallList}
use Rattle.std.specs.Str.Parse.{digits_value}
use Rattle.call_list.specs.Form.{has_minus, digits_of, Form, Passed, IsCall, Malformed, form_of}
use Rattle.call_list.specs.Lines.{lines_of}
use Rattle.call_list.specs.Meaning.{is_defined, value_of, values_of, onto, called, call_of, call_at, meaning_of_form, meaning}
use Rattle.call_list.specs.declared.line.LineError.{LineError}
use Rattle.call_list.specs.Reading.{call_in, calls_in, meanings, Answers}

when_is : {A : Type 0} (b : Bool) (x y : A) → cond b (Some x) None ≡ Some y → (b ≡ true) × (x ≡ y)
when_is true x y e = (refl, cc)
when_is false x y e = absurd (cc)

width_fits : (minus : Bool) (n w v : ℕ) → 0 < 2 ^ w → literal_of_width minus n w ≡ Some v → v < 2 ^ w
width_fits true n w v positive e =
    let (test, is) = when_is (nat_le n (2 ^ (w - 1))) ((2 ^ w - n) % 2 ^ w) v e in
    subst (λ k. k < 2 ^ w) is (mod_below (2 ^ w - n) (2 ^ w) positive)
width_fits false n w v positive e =
    let (test, is) = when_is (nat_lt n (2 ^ w)) n v e in
    subst (λ k. k < 2 ^ w) is (below n (2 ^ w) test)
  where
    below : (n most : ℕ) → nat_lt n most ≡ true → n < most
    below n most h = grind (arith, nat_tests)

is_below : (n most : ℕ) → n < most → nat_lt n most ≡ true
is_below n most h = grind (arith, nat_tests)

literal_fits : (ty : Ty) (minus : Bool) (n v : ℕ) → literal_of ty minus n ≡ Some v → is_integer_of ty v ≡ true
literal_fits I1 minus n v e = is_below v (2 ^ 1) (width_fits minus n 1 v (omega arith) e)
literal_fits I8 minus n v e = is_below v (2 ^ 8) (width_fits minus n 8 v (omega arith) e)
literal_fits I16 minus n v e = is_below v (2 ^ 16) (width_fits minus n 16 v (omega arith) e)
literal_fits I32 minus n v e = is_below v (2 ^ 32) (width_fits minus n 32 v (omega arith) e)
literal_fits I64 minus n v e = is_below v (2 ^ 64) (width_fits minus n 64 v (omega arith) e)
literal_fits Ptr minus n v e = absurd (cc)

value_fits : (ty : Ty) (word : List ℕ) (v : ℕ) → value_of ty word ≡ Some v → is_integer_of ty v ≡ true
unfolding value_of
value_fits ty word v e = literal_fits ty (has_minus word) (digits_value 10 (digits_of word)) v e

-- the parts of values that were found
onto_is : (o : Option ℕ) (rest : Option (List ℕ)) (vs : List ℕ) → onto o rest ≡ Some vs → (x : ℕ) × (xs : List ℕ) × (o ≡ Some x) × (rest ≡ Some xs) × (x ∷ xs ≡ vs)
onto_is None rest vs e = absurd (cc)
onto_is (Some x) None vs e = absurd (cc)
onto_is (Some x) (Some xs) vs e = (x, xs, refl, refl, cc)

values_fit : (ps : List (Ty × List ℕ)) (ws : List (List ℕ)) (vs : List ℕ) → values_of ps ws ≡ Some vs → FitsAll ps vs
values_fit [] [] vs e = let none : [] ≡ vs = cc in subst (FitsAll []) none tt
values_fit [] (w ∷ ws) vs e = absurd (cc)
values_fit (p ∷ ps) [] vs e = absurd (cc)
values_fit (p ∷ ps) (w ∷ ws) vs e =
    let (x, xs, first, rest, is) = onto_is (value_of p.0 w) (values_of ps ws) vs e in
    subst (FitsAll (p ∷ ps)) is (value_fits p.0 w x first, values_fit ps ws xs rest)

defined : (n : ℕ) → not (n == 0) ≡ true → 0 < n
defined n h = grind (arith, nat_tests)

call_fits : (m : Module) (k : ℕ) (f : Function) (words : List (List ℕ)) (values : Option (List ℕ)) (c : Call)
    → function_at m k ≡ Some f → is_defined f ≡ true → values_of f.params words ≡ values → called k values ≡ Ok (Some c) → IsValidCall m c
call_fits m k f words None c found is_there e h = absurd (cc)
call_fits m k f words (Some vs) c found is_there e h =
    let is : record { function = k; args = vs } ≡ c = cc in
    let fits : FitsFunction (function_at m k) vs =
    subst (λ o. FitsFunction o vs) (sym found) (defined (length f.blocks) is_there, values_fit f.params words vs e) in
    subst (IsValidCall m) is fits

found_fits : (m : Module) (k : ℕ) (words : List (List ℕ)) (c : Call) (o : Option Function) → function_at m k ≡ o
    → call_of k (option_and_then (λ f. when (is_defined f) f) o) words ≡ Ok (Some c) → IsValidCall m c
found_fits m k words c None found e = absurd (cc)
found_fits m k words c (Some f) found e = tested (is_defined f) refl e
  where
    tested : (b : Bool) → is_defined f ≡ b → call_of k (when b f) words ≡ Ok (Some c) → IsValidCall m c
    tested true is e = call_fits m k f words (values_of f.params words) c found is refl e
    tested false is e = absurd (cc)

placed_fits : (m : Module) (o : Option ℕ) (words : List (List ℕ)) (c : Call) → call_at m o words ≡ Ok (Some c) → IsValidCall m c
placed_fits m None words c e = absurd (cc)
placed_fits m (Some k) words c e = found_fits m k words c (function_at m k) refl e

form_fits : (m : Module) (form : Form) (c : Call) → meaning_of_form m form ≡ Ok (Some c) → IsValidCall m c
form_fits m Passed c e = absurd (cc)
form_fits m Malformed c e = absurd (cc)
form_fits m (IsCall name words) c e = placed_fits m (function_number m name) words c e

line_fits : (m : Module) (line : List ℕ) (c : Call) → meaning m line ≡ Ok (Some c) → IsValidCall m c
unfolding meaning
line_fits m line c e = form_fits m (form_of line) c e

lines_fit : (m : Module) (lines : List (List ℕ)) → All (IsValidCall m) (calls_in (map (meaning m) lines))
lines_fit m [] = All-nil (IsValidCall m)
lines_fit m (line ∷ lines) = one (meaning m line) refl (lines_fit m lines)
  where
    one : (x : Result (Option Call) LineError) → meaning m line ≡ x → All (IsValidCall m) (calls_in (map (meaning m) lines)) → All (IsValidCall m) (call_in x ++ calls_in (map (meaning m) lines))
    one (Ok None) e rest = rest
    one (Ok (Some c)) e rest = All-cons (IsValidCall m) c (calls_in (map (meaning m) lines)) (line_fits m line c e) rest
    one (Err x) e rest = rest

text_fits : (m : Module) (text : List ℕ) → All (IsValidCall m) (calls_in (meanings m text))
unfolding meanings
text_fits m text = lines_fit m (lines_of text)

-- what reading answers is a valid call list
pub valid_calls : (m : Module) (text : List ℕ) (calls : List Call) → Answers (length text) (meanings m text) (Ok calls) → IsValidCallList m calls
valid_calls m text calls answers =
    record { count = answers.3; valid = subst (All (IsValidCall m)) (sym answers.2) (text_fits m text) }
