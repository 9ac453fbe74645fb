-- The brackets that are open inside an outer one, as a list that grows at its end.
use Rattle.std.specs.Prelude.{◌≡◌, ℕ, Bool, true, false, List, [], ◌∷◌, fold, Result, Ok, Err, Option, Some, None}
use Rattle.ir_read.specs.declared.stop.Stop.{Stop}
use Rattle.ir_read.specs.declared.stop.Stop.TheVariants.{Syntax, NoMemory}

-- the kinds of the inside brackets, the innermost first
abbrev pub nest_of : ℕ → List ℕ → List ℕ
nest_of outer inside = fold (λ nest kind. kind ∷ nest) (outer ∷ []) inside

-- the answer is whether the outer bracket is closed; else these are open in it
abbrev pub Nests : Result Bool Stop → Option (List ℕ) → ℕ → List ℕ → Type 0
Nests (Ok true) nest outer inside = nest ≡ Some []
Nests (Ok false) nest outer inside = nest ≡ Some (nest_of outer inside)
Nests (Err Syntax) nest outer inside = nest ≡ None
Nests (Err NoMemory) nest outer inside = Unit {0}
