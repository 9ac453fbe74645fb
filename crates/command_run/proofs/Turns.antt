-- One more result of a call, and the end of them.
use Rattle.std.proofs.Common.{◌≡◌, ℕ, ◌+◌, suc, ◌<◌, ◌≤◌, List, [], ◌∷◌, ◌++◌, Option, Some, None, length, drop, get_or, sym, ap, ◌∙◌, append-nil, append_assoc, add-one, subst}
use Rattle.std.specs.Prelude.{slice_get}
use Rattle.std.proofs.Math.Seq.{drop-cons}
use Rattle.std.proofs.Math.ListN.{drop_of_length-le}
use Rattle.ir_tree.specs.declared.types.Function.{Function}
use Rattle.ir_model.specs.declared.result.Call.{Call}
use Rattle.ir_model.specs.declared.result.CallResult.{CallResult}
use Rattle.call_list.specs.Outcome.{outcome_of}
use Rattle.command_run.specs.OutcomeLaws.{or_else_assoc, or_else_none}
use Rattle.command_run.specs.Outcomes.{or_else, unreturned}
use Rattle.command_run.specs.Told.{first_told, told_from}

pub next_result : (results : List CallResult) (i : ℕ) (result d : CallResult) → i < length results → result ≡ get_or results i d → drop i results ≡ result ∷ drop (i + 1) results
next_result results i result d within is = drop-cons results i d within ∙ ap (λ r. r ∷ drop (suc i) results) (sym is) ∙ ap (λ n. result ∷ drop n results) (sym (add-one i))

pub told_turn : (functions : List Function) (i : ℕ) (left : List Call) (call : Call) (rest : List Call) (results : List CallResult) (result : CallResult) (more : List CallResult) (out text done : List ℕ)
    → left ≡ call ∷ rest → results ≡ result ∷ more → text ≡ outcome_of (slice_get functions call.function) i result → out ++ told_from functions i left results ≡ done
    → (out ++ text) ++ told_from functions (i + 1) rest more ≡ done
told_turn functions i left call rest results result more out text done first then_result is put =
    append_assoc out text (told_from functions (i + 1) rest more)
    ∙ ap (λ t. out ++ (t ++ told_from functions (i + 1) rest more)) is
    ∙ ap (λ rs. out ++ told_from functions i (call ∷ rest) rs) (sym then_result)
    ∙ ap (λ cs. out ++ told_from functions i cs results) (sym first)
    ∙ put

pub first_turn : (i : ℕ) (results : List CallResult) (result : CallResult) (more : List CallResult) (halted next all : Option (List ℕ))
    → results ≡ result ∷ more → next ≡ or_else halted (unreturned i result.end) → or_else halted (first_told i results) ≡ all → or_else next (first_told (i + 1) more) ≡ all
first_turn i results result more halted next all first is so_far =
    ap (λ h. or_else h (first_told (i + 1) more)) is
    ∙ or_else_assoc halted (unreturned i result.end) (first_told (i + 1) more)
    ∙ ap (λ rs. or_else halted (first_told i rs)) (sym first)
    ∙ so_far

pub told_end : (functions : List Function) (i : ℕ) (calls : List Call) (results : List CallResult) (out done : List ℕ) → length calls ≤ i
    → out ++ told_from functions i (drop i calls) (drop i results) ≡ done → out ≡ done
told_end functions i calls results out done past put =
    sym (append-nil out) ∙ ap (λ cs. out ++ told_from functions i cs (drop i results)) (sym (drop_of_length-le calls past)) ∙ put

pub first_end : (i : ℕ) (results : List CallResult) (halted all : Option (List ℕ)) → length results ≤ i → or_else halted (first_told i (drop i results)) ≡ all → halted ≡ all
first_end i results halted all past so_far =
    sym (or_else_none halted) ∙ ap (λ rs. or_else halted (first_told i rs)) (sym (drop_of_length-le results past)) ∙ so_far
