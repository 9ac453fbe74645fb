-- One more call is run, and what a run that halts nowhere says of its calls.
use Rattle.std.proofs.Common.{◌≡◌, ℕ, suc, ◌+◌, ◌<◌, ◌≤◌, Option, None, Some, List, [], ◌∷◌, ◌++◌, length, drop, refl, sym, ap, ap₂, ◌∙◌, append_assoc, append-nil, add-one, get_or}
use Rattle.std.specs.Prelude.{slice_get, All}
use Rattle.std.proofs.Math.Seq.{drop-cons}
use Rattle.std.proofs.Math.ListN.{drop_of_length-le}
use Rattle.std.proofs.lemmas.List.Elements.{All-cons, All-head, All-nil, All-tail}
use Rattle.ir_tree.specs.Functions.{function_at}
use Rattle.ir_tree.specs.declared.types.Module.{Module}
use Rattle.ir_model.specs.declared.result.Call.{Call}
use Rattle.ir_model.specs.declared.result.CallResult.{CallResult}
use Rattle.ir_model.specs.Run.{run_of, result_of}
use Rattle.ir_model.specs.declared.result.End.{End}
use Rattle.ir_model.specs.declared.result.End.TheVariants.{Returned, Trapped, StepsSpent}
use Rattle.call_list.specs.Outcome.{outcome_of}
use Rattle.command_run.specs.Outcomes.{HasReturned, first_unreturned, or_else, outcomes, result_in, unreturned}

abbrev pub outcome_in : Module → ℕ → ℕ → Call → List ℕ
outcome_in m steps k call = outcome_of (function_at m call.function) k (result_in m steps call)

pub outcomes_turn : (m : Module) (steps i : ℕ) (left : List Call) (call : Call) (rest : List Call) (out text done : List ℕ)
    → left ≡ call ∷ rest → text ≡ outcome_in m steps i call → out ++ outcomes m steps i left ≡ done → (out ++ text) ++ outcomes m steps (i + 1) rest ≡ done
outcomes_turn m steps i left call rest out text done first is put =
    append_assoc out text (outcomes m steps (i + 1) rest)
    ∙ ap (λ t. out ++ (t ++ outcomes m steps (i + 1) rest)) is
    ∙ ap (λ calls. out ++ outcomes m steps i calls) (sym first)
    ∙ put

pub or_else_assoc : (a b c : Option (List ℕ)) → or_else (or_else a b) c ≡ or_else a (or_else b c)
or_else_assoc None b c = refl
or_else_assoc (Some x) b c = refl

pub halts_turn : (m : Module) (steps i : ℕ) (left : List Call) (call : Call) (rest : List Call) (halted next all : Option (List ℕ))
    → left ≡ call ∷ rest → next ≡ or_else halted (unreturned i (result_in m steps call).end) → or_else halted (first_unreturned m steps i left) ≡ all
    → or_else next (first_unreturned m steps (i + 1) rest) ≡ all
halts_turn m steps i left call rest halted next all first is so_far =
    ap (λ h. or_else h (first_unreturned m steps (i + 1) rest)) is
    ∙ or_else_assoc halted (unreturned i (result_in m steps call).end) (first_unreturned m steps (i + 1) rest)
    ∙ ap (λ calls. or_else halted (first_unreturned m steps i calls)) (sym first)
    ∙ so_far

pub or_else_none : (a : Option (List ℕ)) → or_else a None ≡ a
or_else_none None = refl
or_else_none (Some x) = refl

pub outcomes_end : (m : Module) (steps i : ℕ) (left : List Call) (out done : List ℕ) → left ≡ [] → out ++ outcomes m steps i left ≡ done → out ≡ done
outcomes_end m steps i left out done none put = sym (append-nil out) ∙ ap (λ calls. out ++ outcomes m steps i calls) (sym none) ∙ put

pub halts_end : (m : Module) (steps i : ℕ) (left : List Call) (halted all : Option (List ℕ)) → left ≡ [] → or_else halted (first_unreturned m steps i left) ≡ all → halted ≡ all
halts_end m steps i left halted all none so_far = sym (or_else_none halted) ∙ ap (λ calls. or_else halted (first_unreturned m steps i calls)) (sym none) ∙ so_far

both_none : (a b : Option (List ℕ)) → or_else a b ≡ None → (a ≡ None) × (b ≡ None)
both_none None b e = (refl, e)
both_none (Some x) b e = absurd (cc)

returned_end : (m : Module) (steps k : ℕ) (call : Call) (end : End) → (result_in m steps call).end ≡ end → unreturned k end ≡ None → HasReturned m steps call
returned_end m steps k call (Returned value) is e = (value, is)
returned_end m steps k call (Trapped kind) is e = absurd (cc)
returned_end m steps k call StepsSpent is e = absurd (cc)

-- where none is named, every call returned
pub all_returned : (m : Module) (steps k : ℕ) (calls : List Call) → first_unreturned m steps k calls ≡ None → All (HasReturned m steps) calls
all_returned m steps k [] e = All-nil (HasReturned m steps)
all_returned m steps k (call ∷ calls) e =
    let (here, behind) = both_none (unreturned k (result_in m steps call).end) (first_unreturned m steps (k + 1) calls) e in
    All-cons (HasReturned m steps) call calls (returned_end m steps k call (result_in m steps call).end refl here) (all_returned m steps (k + 1) calls behind)

pub result_is : (m code : Module) (steps : ℕ) (call : Call) (ended : CallResult) → code ≡ m → ended ≡ result_of (run_of code call steps) → ended ≡ result_in m steps call
unfolding result_in
result_is m code steps call ended same is = is ∙ ap (λ n. result_of (run_of n call steps)) same

pub next_call : (calls : List Call) (i : ℕ) (call d : Call) → i < length calls → call ≡ get_or calls i d → drop i calls ≡ call ∷ drop (i + 1) calls
next_call calls i call d within is = drop-cons calls i d within ∙ ap (λ c. c ∷ drop (suc i) calls) (sym is) ∙ ap (λ n. call ∷ drop n calls) (sym (add-one i))

ends_none : (m : Module) (steps k : ℕ) (call : Call) → HasReturned m steps call → unreturned k (result_in m steps call).end ≡ None
ends_none m steps k call returned = rw returned.1 refl

-- where every call returned, none is named as one that did not
pub none_unreturned : (m : Module) (steps k : ℕ) (calls : List Call) → All (HasReturned m steps) calls → first_unreturned m steps k calls ≡ None
none_unreturned m steps k [] all = refl
none_unreturned m steps k (call ∷ calls) all =
    ap₂ or_else (ends_none m steps k call (All-head (HasReturned m steps) call calls all))
    (none_unreturned m steps (k + 1) calls (All-tail (HasReturned m steps) call calls all))
