-- What is seen of the run of a call on resolved code is the call's result, and its marks are those of the call.
use Rattle.std.proofs.Common.{◌≡◌, ℕ, suc, ◌+◌, ◌<◌, Bool, true, false, cond, List, [], ◌∷◌, ◌++◌, length, map, Some, None, refl, sym, ◌∙◌, ap, subst, arith}
use Rattle.std.specs.Prelude.{nat_lt}
use Rattle.std.proofs.lemmas.List.{length-map}
use Rattle.ir_tree.specs.Blocks.{labels}
use Rattle.ir_tree.specs.Functions.{function_at, numbered}
use Rattle.ir_tree.specs.declared.types.Ty.{Ty}
use Rattle.ir_tree.specs.declared.types.Block.{Block}
use Rattle.ir_tree.specs.declared.types.Function.{Function}
use Rattle.ir_tree.specs.declared.types.Module.{Module}
use Rattle.ir_memory.specs.declared.value.Value.{Value}
use Rattle.ir_memory.specs.declared.value.Value.TheVariants as value
use Rattle.ir_model.specs.declared.probe.Event.{Event}
use Rattle.ir_model.specs.declared.probe.Event.TheVariants as event
use Rattle.ir_model.specs.declared.result.CallResult.{CallResult}
use Rattle.ir_model.specs.declared.result.End.{End}
use Rattle.ir_model.specs.declared.result.End.TheVariants as end
use Rattle.spec_machines.specs.Machine.{Ran, Open, Ended, shown_first, shown_of, go_on, run, seen}
use Rattle.ir_model.specs.Initial.{initial_memory}
use Rattle.ir_model.specs.State.{arguments as model_arguments}
use Rattle.ir_model.specs.State.{Frame, State, What, Added, Noted, Chose, Shown, Did, Targeted, Printed, Entered, Walked, printed, printed_one, Stop, Returns, Traps}
use Rattle.ir_model.specs.Step.{step}
use Rattle.ir_model.specs.Run.{at_first, begun, first_entered, result_of, marks, marks_one, mark_of, marks_of, FitsAll}
use Rattle.ir_code.specs.Resolved.{register_names, numbered_code, function_code, module_code}
use Rattle.ir_code.specs.Symbols.{symbol_input}
use Rattle.ir_code.specs.Units.{Unit_, counter_span, site_span, told, all_told, numbered_marks}
use Rattle.ir_machine.specs.declared.state.Sight.{Sight}
use Rattle.ir_machine.specs.declared.state.Sight.TheVariants as sight
use Rattle.ir_machine.specs.Steps.{CodeState, CodeShown, Byte, Saw, bytes, sights, seen_marks, code_step, events_of, first_registers, first_state, result_from}
use Rattle.ir_machine.proofs.Places.{placed as places}
use Rattle.ir_machine.proofs.Operations.{behind_none}
use Rattle.ir_machine.proofs.WaysOut.{AreWithin, run_within, shown_behind}
use Rattle.ir_machine.proofs.InStep.{units, placed_code, placed, view, view_one, Related, begins, first_number, same_runs}

pub bytes-append : (xs ys : List CodeShown) → bytes (xs ++ ys) ≡ bytes xs ++ bytes ys
bytes-append [] ys = refl
bytes-append (Byte b ∷ xs) ys = ap (λ l. b ∷ l) (bytes-append xs ys)
bytes-append (Saw s ∷ xs) ys = bytes-append xs ys

pub sights-append : (xs ys : List CodeShown) → sights (xs ++ ys) ≡ sights xs ++ sights ys
sights-append [] ys = refl
sights-append (Byte b ∷ xs) ys = sights-append xs ys
sights-append (Saw s ∷ xs) ys = ap (λ l. s ∷ l) (sights-append xs ys)

pub events-append : (xs ys : List Sight) → events_of (xs ++ ys) ≡ events_of xs ++ events_of ys
events-append [] ys = refl
events-append (sight.Entered k ∷ xs) ys = events-append xs ys
events-append (sight.Left k b p ∷ xs) ys = events-append xs ys
events-append (sight.Added c s ∷ xs) ys = ap (λ l. event.Added c s ∷ l) (events-append xs ys)
events-append (sight.Noted s k ∷ xs) ys = ap (λ l. event.Noted s k ∷ l) (events-append xs ys)

-- no byte is a mark
pub marks_no_bytes : (es : List Event) → bytes (seen_marks es) ≡ []
marks_no_bytes [] = refl
marks_no_bytes (event.Walked k e ∷ es) = marks_no_bytes es
marks_no_bytes (event.Target k s c ∷ es) = marks_no_bytes es
marks_no_bytes (event.Added c s ∷ es) = marks_no_bytes es
marks_no_bytes (event.Noted s c ∷ es) = marks_no_bytes es
marks_no_bytes (event.Chose k s v ∷ es) = marks_no_bytes es

all_told-append : (us : List Unit_) (xs ys : List What) → all_told us (xs ++ ys) ≡ all_told us xs ++ all_told us ys
all_told-append us [] ys = refl
all_told-append us (x ∷ xs) ys =
    ap (λ l. told us x ++ l) (all_told-append us xs ys) ∙ sym (append_again (told us x) (all_told us xs) (all_told us ys))
  where
    append_again : (xs bs cs : List Event) → (xs ++ bs) ++ cs ≡ xs ++ (bs ++ cs)
    append_again [] bs cs = refl
    append_again (a ∷ xs) bs cs = ap (λ l. a ∷ l) (append_again xs bs cs)

abbrev seen_events : List Event → List Event
seen_events es = events_of (sights (seen_marks es))

added_seen : (e : Event) (b : Bool) → seen_events (e ∷ []) ≡ e ∷ [] → seen_events (cond b (e ∷ []) []) ≡ cond b (e ∷ []) []
added_seen e true h = h
added_seen e false h = refl

told_seen : (us : List Unit_) (w : What) → seen_events (told us w) ≡ told us w
told_seen us (Added name counter step) =
    added_seen (event.Added ((counter_span us name).first + counter) step) (nat_lt counter (counter_span us name).count) refl
told_seen us (Noted name site callee) =
    added_seen (event.Noted ((site_span us name).first + site) callee) (nat_lt site (site_span us name).count) refl
told_seen us (Chose v) = refl

one_told : (us : List Unit_) (w : What) → seen_events (told us w) ≡ all_told us (mark_of w)
one_told us (Added name counter step) =
    told_seen us (Added name counter step) ∙ sym (behind_none (told us (Added name counter step)))
one_told us (Noted name site callee) =
    told_seen us (Noted name site callee) ∙ sym (behind_none (told us (Noted name site callee)))
one_told us (Chose v) = refl

abbrev pub with_end : End → List ℕ → CallResult
with_end e text = record { printed = text; end = e }

module _ (m : Module) where
  byte_one : (x : Shown) → bytes (view_one m x) ≡ printed_one x
  byte_one (Did k l p what) = marks_no_bytes (told (units m) what)
  byte_one (Targeted k l p callee) = refl
  byte_one (Printed b) = refl
  byte_one (Entered k) = refl
  byte_one (Walked k l p) = refl

  view_bytes : (xs : List Shown) → bytes (view m xs) ≡ printed xs
  view_bytes [] = refl
  view_bytes (x ∷ xs) = bytes-append (view_one m x) (view m xs) ∙ (λ i. byte_one x i ++ view_bytes xs i)

  event_one : (x : Shown) → events_of (sights (view_one m x)) ≡ all_told (units m) (marks_one x)
  event_one (Did k l p what) = one_told (units m) what
  event_one (Targeted k l p callee) = refl
  event_one (Printed b) = refl
  event_one (Entered k) = refl
  event_one (Walked k l p) = refl

  view_events : (xs : List Shown) → events_of (sights (view m xs)) ≡ all_told (units m) (marks xs)
  view_events [] = refl
  view_events (x ∷ xs) =
      ap events_of (sights-append (view_one m x) (view m xs))
      ∙ events-append (sights (view_one m x)) (sights (view m xs))
      ∙ (λ i. event_one x i ++ view_events xs i)
      ∙ sym (all_told-append (units m) (marks_one x) (marks xs))

  -- what is printed of a run is the result
  seen_result : (r : Ran Shown Stop) → result_from [] (seen (view m) r) ≡ result_of r
  seen_result (Open p) = ap (with_end end.StepsSpent) (view_bytes p)
  seen_result (Ended p (Returns v)) = ap (with_end (end.Returned v)) (view_bytes p)
  seen_result (Ended p (Traps kind)) = ap (with_end (end.Trapped kind)) (view_bytes p)

  shown_seen : (r : Ran Shown Stop) → shown_of (seen (view m) r) ≡ view m (shown_of r)
  shown_seen (Open p) = refl
  shown_seen (Ended p e) = refl

  entered_first : (k : ℕ) (r : Ran Shown Stop) → result_of (shown_first (Entered k ∷ []) r) ≡ result_of r
  entered_first k (Open p) = refl
  entered_first k (Ended p (Returns v)) = refl
  entered_first k (Ended p (Traps kind)) = refl

  entered_marks : (k : ℕ) (r : Ran Shown Stop) → marks_of (shown_first (Entered k ∷ []) r) ≡ marks_of r
  entered_marks k (Open p) = refl
  entered_marks k (Ended p e) = refl

  -- numbers by place are those of the definition
  pub code_placed : (f : Function) → placed_code m f ≡ function_code (symbol_input m) (counter_span (units m)) (site_span (units m)) f
  code_placed f =
      λ i. numbered_code (symbol_input m) (counter_span (units m)) (site_span (units m)) (sym (places (register_names f)) i) (sym (places (labels f.blocks)) i) f

  pub all_placed : placed m ≡ module_code m
  all_placed = λ i. map (λ f. code_placed f i) (numbered m.functions)

  fits_length : (ps : List (Ty × List ℕ)) (vs : List ℕ) → FitsAll ps vs → length vs ≡ length ps
  fits_length [] [] h = refl
  fits_length [] (v ∷ vs) h = absurd h
  fits_length (p ∷ ps) [] h = absurd h
  fits_length (p ∷ ps) (v ∷ vs) h = ap suc (fits_length ps vs h.1)

  module _ (k n : ℕ) (args : List ℕ) (f : Function) (at : function_at m k ≡ Some f) (fits : FitsAll f.params args) where
    abbrev start : CodeState
    start = first_state (initial_memory m) k (placed_code m f) args

    abbrev start_frame : Block → Frame
    start_frame b = record {
      function = k;
      block = b.label;
      place = 0;
      registers = model_arguments f.params (map value.Int args);
      base = (initial_memory m).next;
      into = None;
    }

    abbrev model_start : Block → State
    model_start b = record { frames = start_frame b ∷ []; shared = at_first m }

    abbrev regs : List Value
    regs = first_registers (placed_code m f) (map value.Int args)

    starts : (b : Block) (bs : List Block) → f.blocks ≡ b ∷ bs → Related m (model_start b) start
    starts b bs e = record {
      function = f;
      frame = start_frame b;
      registers = regs;
      into = None;
      rest = [];
      code_rest = [];
      shared = at_first m;
      state_is = refl;
      code_is = ap (λ (place : ℕ). let s : CodeState = record { frames = record { function = k; block = place; place = 0; registers = regs; base = (initial_memory m).next; into = None } ∷ []; shared = at_first m } in s) (sym (first_number m f b bs e));
      at = at;
      holds = begins m f (map value.Int args) (length-map args value.Int ∙ fits_length f.params args fits);
      below = tt;
    }

    -- the code shows what it sees of the call's run, and both end so
    pub record Matches (r : Ran Shown Stop) : Type 0 where
      pub result : result_from [] (run (code_step (placed m)) n start) ≡ result_of r
      pub marks : events_of (sights (shown_of (run (code_step (placed m)) n start))) ≡ numbered_marks m r
      pub ran : List Shown
      pub shown : shown_of r ≡ Entered k ∷ ran
      pub seen_of : sights (shown_of (run (code_step (placed m)) n start)) ≡ sights (view m ran)
      pub within : AreWithin m n ran

    matches_blocks : (bs : List Block) → f.blocks ≡ bs → 0 < length bs → Matches (go_on (first_entered m k args f bs) (run (step m) n))
    matches_blocks [] e h = absurd (omega arith)
    matches_blocks (b ∷ bs) e h =
        let r : Ran Shown Stop = run (step m) n (model_start b) in
        let same : seen (view m) r ≡ run (code_step (placed m)) n start = same_runs m n (model_start b) start (starts b bs e) in
        record {
          result = ap (result_from []) (sym same) ∙ seen_result r ∙ sym (entered_first k r);
          marks = ap (λ x. events_of (sights (shown_of x))) (sym same)
              ∙ ap (λ x. events_of (sights x)) (shown_seen r)
              ∙ view_events (shown_of r)
              ∙ ap (all_told (units m)) (sym (entered_marks k r));
          ran = shown_of r;
          shown = shown_behind (Entered k ∷ []) r;
          seen_of = ap (λ x. sights (shown_of x)) (sym same) ∙ ap sights (shown_seen r);
          within = run_within m n (model_start b);
        }

    pub matches : 0 < length f.blocks → Matches (go_on (begun m k args (function_at m k)) (run (step m) n))
    matches h =
        subst (λ o. Matches (go_on (begun m k args o) (run (step m) n))) (sym at) (matches_blocks f.blocks refl h)
