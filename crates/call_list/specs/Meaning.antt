-- What a line of a calls text means for a module: no call, a call, or a fault.
use Rattle.std.specs.Prelude.{◌≡◌, ℕ, Bool, not, List, [], ◌∷◌, Option, Some, None, Result, Ok, Err, ⊤}
use Rattle.std.specs.Option.{option_map, option_and_then, ok_or}
use Rattle.std.specs.Str.Parse.{digits_value}
use Rattle.ir_tree.specs.Functions.{is_declared, function_at, function_number}
use Rattle.ir_tree.specs.Types.{when, literal_of}
use Rattle.ir_tree.specs.declared.types.Ty.{Ty}
use Rattle.ir_tree.specs.declared.types.Function.{Function}
use Rattle.ir_tree.specs.declared.types.Module.{Module}
use Rattle.ir_model.specs.declared.result.Call.{Call}
use Rattle.call_list.specs.declared.line.LineError.{LineError}
use Rattle.call_list.specs.declared.line.LineError.TheVariants as fault
use Rattle.call_list.specs.Form.{has_minus, digits_of, Form, Passed, IsCall, Malformed, form_of}

-- a function with blocks is defined
abbrev pub is_defined : Function → Bool
is_defined f = not (is_declared f)

abbrev pub defined_at : Module → ℕ → Option Function
defined_at m k = option_and_then (λ f. when (is_defined f) f) (function_at m k)

-- an argument as a value of the parameter's type, none outside the range of its literals
unfoldable pub value_of : Ty → List ℕ → Option ℕ
value_of ty word = literal_of ty (has_minus word) (digits_value 10 (digits_of word))

abbrev pub onto : Option ℕ → Option (List ℕ) → Option (List ℕ)
onto None rest = None
onto (Some x) rest = option_map (λ xs. x ∷ xs) rest

-- one value for each parameter
abbrev pub values_of : List (Ty × List ℕ) → List (List ℕ) → Option (List ℕ)
values_of [] [] = Some []
values_of [] (w ∷ ws) = None
values_of (p ∷ ps) [] = None
values_of (p ∷ ps) (w ∷ ws) = onto (value_of p.0 w) (values_of ps ws)

abbrev pub called : ℕ → Option (List ℕ) → Result (Option Call) LineError
called k None = Err fault.BadArgs
called k (Some values) = Ok (Some (record { function = k; args = values }))

abbrev pub call_of : ℕ → Option Function → List (List ℕ) → Result (Option Call) LineError
call_of k None words = Err fault.NoFunction
call_of k (Some f) words = called k (values_of f.params words)

abbrev pub call_at : Module → Option ℕ → List (List ℕ) → Result (Option Call) LineError
call_at m None words = Err fault.NoFunction
call_at m (Some k) words = call_of k (defined_at m k) words

abbrev pub meaning_of_form : Module → Form → Result (Option Call) LineError
meaning_of_form m Passed = Ok None
meaning_of_form m Malformed = Err fault.BadLine
meaning_of_form m (IsCall name words) = call_at m (function_number m name) words

unfoldable pub meaning : Module → List ℕ → Result (Option Call) LineError
meaning m line = meaning_of_form m (form_of line)

-- What a function answers is this meaning, unless memory ran out.
abbrev pub Fails : {A : Type 0} → LineError → Result A LineError → Type 0
Fails fault.BadLine r = r ≡ Err fault.BadLine
Fails fault.NoFunction r = r ≡ Err fault.NoFunction
Fails fault.BadArgs r = r ≡ Err fault.BadArgs
Fails fault.NoMemory r = ⊤

abbrev pub Means : {A : Type 0} → Result A LineError → Result A LineError → Type 0
Means (Ok x) r = r ≡ Ok x
Means (Err e) r = Fails e r
