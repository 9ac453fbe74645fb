-- Results that were made already: their outcomes, and what is said of the first call that did not return.
use Rattle.std.proofs.Common.{refl, sym, ap, ap₂, ◌∙◌}
use Rattle.std.specs.Prelude.{◌≡◌, ℕ, ◌+◌, List, [], ◌∷◌, ◌++◌, map, slice_get, Option, None}
use Rattle.ir_tree.specs.Functions.{function_at, numbered}
use Rattle.ir_tree.specs.declared.types.Function.{Function}
use Rattle.ir_tree.specs.declared.types.Module.{Module}
use Rattle.ir_model.specs.declared.result.Call.{Call}
use Rattle.ir_model.specs.declared.result.CallResult.{CallResult}
use Rattle.ir_model.specs.Run.{run_of, result_of}
use Rattle.call_list.specs.Outcome.{outcome_of}
use Rattle.command_run.specs.Outcomes.{first_unreturned, or_else, outcomes, result_in, unreturned}

-- the outcomes of calls with these results, numbered from k, in order
abbrev pub told_from : List Function → ℕ → List Call → List CallResult → List ℕ
told_from functions k [] results = []
told_from functions k (call ∷ calls) [] = []
told_from functions k (call ∷ calls) (result ∷ results) = outcome_of (slice_get functions call.function) k result ++ told_from functions (k + 1) calls results

-- what is said of the first of these results, numbered from k, of a call that did not return
abbrev pub first_told : ℕ → List CallResult → Option (List ℕ)
first_told k [] = None
first_told k (result ∷ results) = or_else (unreturned k result.end) (first_told (k + 1) results)

abbrev pub results_in : Module → ℕ → List Call → List CallResult
results_in m steps calls = map (λ (c : Call). result_of (run_of m c steps)) calls

-- of the results of their runs they are the outcomes of the calls
pub told_is : (m : Module) (steps k : ℕ) (calls : List Call) → told_from (numbered m.functions) k calls (results_in m steps calls) ≡ outcomes m steps k calls
unfolding result_in
told_is m steps k [] = refl
told_is m steps k (call ∷ calls) = ap (λ t. outcome_of (function_at m call.function) k (result_in m steps call) ++ t) (told_is m steps (k + 1) calls)

pub first_is : (m : Module) (steps k : ℕ) (calls : List Call) → first_told k (results_in m steps calls) ≡ first_unreturned m steps k calls
unfolding result_in
first_is m steps k [] = refl
first_is m steps k (call ∷ calls) = ap (or_else (unreturned k (result_in m steps call).end)) (first_is m steps (k + 1) calls)
