-- What a calls text gives: its calls in order, or the fault of the first line that has one.
use Rattle.std.specs.Prelude.{◌≡◌, ℕ, ◌+◌, ◌<◌, ◌≤◌, true, ⊤, List, [], ◌∷◌, ◌++◌, Option, Some, None, Result, Ok, Err, All, length, map, take, slice_get, is_ok, Vec}
use Rattle.ir_tree.specs.declared.types.Module.{Module}
use Rattle.ir_model.specs.declared.result.Call.{Call}
use Rattle.call_list.specs.declared.line.LineError.{LineError}
use Rattle.call_list.specs.declared.line.LineError.TheVariants as fault
use Rattle.call_list.specs.declared.error.CallsError.{CallsError}
use Rattle.call_list.specs.declared.error.CallsError.TheVariants as errors
use Rattle.call_list.specs.Lines.{lines_of}
use Rattle.call_list.specs.Meaning.{meaning}

abbrev pub Meanings : Type 0
Meanings = List (Result (Option Call) LineError)

unfoldable pub meanings : Module → List ℕ → Meanings
meanings m text = map (meaning m) (lines_of text)

-- the longest text, in bytes, and the most calls
abbrev pub text_most : ℕ
text_most = 16777216

abbrev pub calls_most : ℕ
calls_most = 16384

-- the calls among the meanings, in order
abbrev pub call_in : Result (Option Call) LineError → List Call
call_in (Ok None) = []
call_in (Ok (Some call)) = call ∷ []
call_in (Err e) = []

abbrev pub calls_in : Meanings → List Call
calls_in [] = []
calls_in (x ∷ xs) = call_in x ++ calls_in xs

-- no line has a fault
abbrev pub NoFault : Meanings → Type 0
NoFault xs = All (λ x. is_ok x ≡ true) xs

-- Line n, counted from 1, has this fault, and no line before it has one.
pub record FaultsFirst (xs : Meanings) (n : ℕ) (e : LineError) : Type 0 where
  pub place : ℕ
  pub number : n ≡ place + 1
  pub here : slice_get xs place ≡ Some (Err e)
  pub before : NoFault (take place xs)

-- what a vector of calls lists
abbrev pub items_of : {Z : Type 0} → Result (Vec Call Z) CallsError → Result (List Call) CallsError
items_of (Ok calls) = Ok calls.items
items_of (Err e) = Err e

-- What reading answers for the meanings of the lines of a text of this length
abbrev pub Answers : ℕ → Meanings → Result (List Call) CallsError → Type 0
Answers size xs (Ok calls) = (size ≤ text_most) × NoFault xs × (calls ≡ calls_in xs) × (length calls ≤ calls_most)
Answers size xs (Err (errors.BadLine n)) = (size ≤ text_most) × FaultsFirst xs n fault.BadLine
Answers size xs (Err (errors.NoFunction n)) = (size ≤ text_most) × FaultsFirst xs n fault.NoFunction
Answers size xs (Err (errors.BadArgs n)) = (size ≤ text_most) × FaultsFirst xs n fault.BadArgs
Answers size xs (Err (errors.TooMany n)) = (size ≤ text_most) × NoFault xs × (n ≡ length (calls_in xs)) × (calls_most < n)
Answers size xs (Err (errors.TextLimit n)) = (n ≡ size) × (text_most < size)
Answers size xs (Err errors.NoMemory) = ⊤
