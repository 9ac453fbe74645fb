-- The run of the code of a module, begun as a call begins, is what the code sees of the call's run.
use Rattle.std.proofs.Common.{◌≡◌, ℕ, ◌<◌, List, [], ◌∷◌, length, Option, Some, None, refl, sym, ◌∙◌, ap, subst, arith, get_or}
use Rattle.std.specs.Prelude.{slice_get}
use Rattle.std.specs.Option.{option_map}
use Rattle.std.proofs.lemmas.List.{length-map}
use Rattle.std.proofs.lemmas.Option.{slice_get-map, slice_get_read, slice_get_within}
use Rattle.ir_tree.specs.Functions.{function_at, numbered}
use Rattle.ir_tree.specs.declared.types.Function.{Function}
use Rattle.ir_tree.specs.declared.types.Module.{Module}
use Rattle.ir_model.specs.Initial.{initial_memory}
use Rattle.ir_model.specs.declared.result.Call.{Call}
use Rattle.spec_machines.specs.Machine.{Ran, shown_of, run}
use Rattle.ir_model.specs.State.{Shown, Entered, Stop}
use Rattle.ir_model.specs.Run.{run_of, result_of, FitsFunction, IsValidCall}
use Rattle.ir_code.specs.Images.{memory_of, module_images}
use Rattle.ir_code.specs.Resolved.{function_code, module_code}
use Rattle.ir_code.specs.Symbols.{symbol_input}
use Rattle.ir_code.specs.Units.{counter_span, numbered_marks, site_span, units_of}
use Rattle.ir_code.specs.declared.code.FunctionCode.{FunctionCode}
use Rattle.ir_code.specs.declared.images.GlobalImage.{GlobalImage}
use Rattle.ir_machine.specs.Slots.{HasEdgeIn}
use Rattle.ir_machine.specs.Steps.{CodeShown, CodeState, call_run, code_step, events_of, first_state, result_from, sights, start_in, start_of}
use Rattle.ir_machine.proofs.First.{first_memory_is}
use Rattle.ir_machine.proofs.InStep.{placed, placed_code, view}
use Rattle.ir_machine.proofs.Results.{Matches, all_placed, code_placed, matches}
use Rattle.ir_machine.proofs.WaysOut.{AreWithin}

-- the code of a function of the module
abbrev pub code_of : Module → Function → FunctionCode
code_of m f = function_code (symbol_input m) (counter_span (units_of m)) (site_span (units_of m)) f

within : (m : Module) (k : ℕ) (vs : List ℕ) (o : Option Function) → slice_get (numbered m.functions) k ≡ o → FitsFunction o vs → k < length (numbered m.functions)
within m k vs None e fits = absurd fits
within m k vs (Some f) e fits = slice_get_within (numbered m.functions) k f e

-- the function of a valid call has code
pub call_within : (m : Module) (c : Call) (codes : List FunctionCode) → IsValidCall m c → codes ≡ module_code m → c.function < length codes
call_within m c codes valid are =
    let k = within m c.function c.args (function_at m c.function) refl valid in
    let e = ap length are ∙ length-map (numbered m.functions) (code_of m) in
    omega (arith, k, e)

-- ---- the run of the code

-- this run of the code is what it sees of the call's run
pub record IsRun (m : Module) (c : Call) (n : ℕ) (r : Ran CodeShown Stop) : Type 0 where
  pub result : result_from [] r ≡ result_of (run_of m c n)
  pub marks : events_of (sights (shown_of r)) ≡ numbered_marks m (run_of m c n)
  pub ran : List Shown
  pub shown : shown_of (run_of m c n) ≡ Entered c.function ∷ ran
  pub seen_of : sights (shown_of r) ≡ sights (view m ran)
  pub within : AreWithin m n ran
  pub defined : HasEdgeIn (function_at m c.function) None 0

module _ (m : Module) (c : Call) (n : ℕ) where
  module _ (f : Function) (at : function_at m c.function ≡ Some f) where
    starts : start_of m c ≡ first_state (initial_memory m) c.function (placed_code m f) c.args
    starts =
        let found : slice_get (module_code m) c.function ≡ Some (code_of m f) =
        slice_get-map (code_of m) (numbered m.functions) c.function ∙ ap (option_map (code_of m)) at in
        ap (start_in (memory_of (module_images m)) c) found
        ∙ (λ i. first_state (first_memory_is m i) c.function (sym (code_placed m f) i) c.args)

    run_starts : call_run m c n ≡ run (code_step (placed m)) n (first_state (initial_memory m) c.function (placed_code m f) c.args)
    run_starts = λ i. run (code_step (sym (all_placed m) i)) n (starts i)

  call_in : (o : Option Function) → function_at m c.function ≡ o → FitsFunction o c.args → IsRun m c n (call_run m c n)
  call_in None at fits = absurd fits
  call_in (Some f) at fits =
      let same : Matches m c.function n c.args f at fits.1 (run_of m c n) = matches m c.function n c.args f at fits.1 fits.0 in
      let there : IsRun m c n (run (code_step (placed m)) n (first_state (initial_memory m) c.function (placed_code m f) c.args)) = record {
        result = same.result;
        marks = same.marks;
        ran = same.ran;
        shown = same.shown;
        seen_of = same.seen_of;
        within = same.within;
        defined = subst (λ (o : Option Function). HasEdgeIn o None 0) (sym at) fits.0;
      } in
      subst (IsRun m c n) (sym (run_starts f at)) there

  -- the run of a valid call
  pub call_is : IsValidCall m c → IsRun m c n (call_run m c n)
  call_is valid = call_in (function_at m c.function) refl valid

-- ---- the machine at the start of a call

module _ (m : Module) (c : Call) (codes : List FunctionCode) (made : FunctionCode) (images : List GlobalImage) (args : List ℕ) (s : CodeState) where
  -- the machine of the code begins as the call does
  begins_as : IsValidCall m c → codes ≡ module_code m → made ≡ get_or codes c.function made → images ≡ module_images m → args ≡ c.args → s ≡ first_state (memory_of images) c.function made args → s ≡ start_of m c
  begins_as valid are is_made images_are args_are starts =
      let found : slice_get codes c.function ≡ Some made =
      slice_get_read codes (length codes) c.function made refl (call_within m c codes valid are) is_made in
      let there : slice_get (module_code m) c.function ≡ Some made = ap (λ cs. slice_get cs c.function) (sym are) ∙ found in
      starts
      ∙ (λ i. first_state (memory_of (images_are i)) c.function made (args_are i))
      ∙ ap (start_in (memory_of (module_images m)) c) (sym there)

  -- and runs so
  pub run_is : (n : ℕ) → IsValidCall m c → codes ≡ module_code m → made ≡ get_or codes c.function made → images ≡ module_images m → args ≡ c.args → s ≡ first_state (memory_of images) c.function made args → run (code_step codes) n s ≡ call_run m c n
  run_is n valid are is_made images_are args_are starts =
      λ i. run (code_step (are i)) n (begins_as valid are is_made images_are args_are starts i)
