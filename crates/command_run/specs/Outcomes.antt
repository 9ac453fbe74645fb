-- The results of calls in order: their outcomes, and what is said of the first that did not return.
use Rattle.std.specs.Prelude.{◌≡◌, ℕ, ◌+◌, List, [], ◌∷◌, ◌++◌, codes, decimal, Option, Some, None}
use Rattle.ir_tree.specs.Functions.{function_at}
use Rattle.ir_tree.specs.declared.types.Module.{Module}
use Rattle.ir_model.specs.declared.result.Call.{Call}
use Rattle.ir_model.specs.declared.result.CallResult.{CallResult}
use Rattle.ir_model.specs.declared.result.End.{End}
use Rattle.ir_model.specs.declared.result.End.TheVariants.{Returned, Trapped, StepsSpent}
use Rattle.ir_model.specs.Run.{run_of, result_of}
use Rattle.call_list.specs.Outcome.{outcome_of, trap_text}

-- the result of a call that is given so many steps
unfoldable pub result_in : Module → ℕ → Call → CallResult
result_in m steps call = result_of (run_of m call steps)

-- the outcomes of the calls, numbered from k, in order
abbrev pub outcomes : Module → ℕ → ℕ → List Call → List ℕ
outcomes m steps k [] = []
outcomes m steps k (call ∷ calls) = outcome_of (function_at m call.function) k (result_in m steps call) ++ outcomes m steps (k + 1) calls

-- what is said of call k where it did not return
abbrev pub unreturned : ℕ → End → Option (List ℕ)
unreturned k (Returned value) = None
unreturned k (Trapped kind) = Some (codes "call " ++ decimal k ++ codes " trapped " ++ trap_text kind)
unreturned k StepsSpent = Some (codes "call " ++ decimal k ++ codes " steps spent")

abbrev pub or_else : Option (List ℕ) → Option (List ℕ) → Option (List ℕ)
or_else None other = other
or_else (Some line) other = Some line

-- what is said of the first call that did not return
abbrev pub first_unreturned : Module → ℕ → ℕ → List Call → Option (List ℕ)
first_unreturned m steps k [] = None
first_unreturned m steps k (call ∷ calls) = or_else (unreturned k ((result_in m steps call).end)) (first_unreturned m steps (k + 1) calls)

-- the call returned within its steps
abbrev pub HasReturned : Module → ℕ → Call → Type 0
HasReturned m steps call = (value : Option ℕ) × ((result_in m steps call).end ≡ Returned value)
