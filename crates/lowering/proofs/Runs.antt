-- So each run is the same.
use Rattle.std.proofs.Common.{◌≡◌, ℕ, zero, suc, ◌+◌, ◌*◌, ◌<◌, ◌==◌, List, [], ◌∷◌, length, map, Option, Some, None, refl, sym, ◌∙◌, ap, subst, arith}
use Rattle.std.specs.Option.{option_map}
use Rattle.std.proofs.lemmas.List.{append-nil, length-map}
use Rattle.spec_machines.proofs.Runs.{on_same}
use Rattle.spec_machines.specs.Machine.{go_on, run}
use Rattle.ir_likeness.specs.Like.{AreLike, EndsWith, printed_of, signature_at, signature_of}
use Rattle.ir_memory.specs.Memory.{MemoryState}
use Rattle.ir_memory.specs.declared.value.Value.TheVariants.{Int}
use Rattle.ir_model.specs.Initial.{initial_memory}
use Rattle.ir_model.specs.Run.{FitsFunction, IsValidCall, begun, first_entered, run_of}
use Rattle.ir_model.specs.State.{Entered, State, Stop, arguments}
use Rattle.ir_model.specs.Step.{Step, goes_to, step}
use Rattle.ir_model.specs.declared.result.Call.{Call}
use Rattle.ir_tree.specs.Functions.{function_at}
use Rattle.ir_tree.specs.declared.types.Block.{Block}
use Rattle.ir_tree.specs.declared.types.Function.{Function}
use Rattle.ir_tree.specs.declared.types.Module.{Module}
use Rattle.lowering.specs.Lowered.{lowered, lowered_block, lowered_function}
use Rattle.lowering.proofs.Steps.{step_same}
use Rattle.lowering.proofs.Symbols.{function_same, memory_same}

module _ (m : Module) where
  abbrev n : Module
  n = lowered m

  run_same : (k : ℕ) (s : State) → run (step n) k s ≡ run (step m) k s
  run_same zero s = refl
  run_same (suc k) s = ap (λ x. go_on x (run (step n) k)) (step_same m s) ∙ on_same (step m s) (run (step n) k) (run (step m) k) (run_same k)

  entered_same : (k : ℕ) (values : List ℕ) (f : Function) (bs : List Block) → first_entered n k values (lowered_function f) (map lowered_block bs) ≡ first_entered m k values f bs
  entered_same k values f [] = refl
  entered_same k values f (b ∷ bs) = ap enters (memory_same m)
    where
      enters : MemoryState → Step
      enters memory =
          goes_to
          (record { function = k; block = b.label; place = 0; registers = arguments f.params (map Int values); base = memory.next; into = None } ∷ [])
          (record { memory = memory; output = 0 }) (Entered k ∷ [])

  begun_in : (k : ℕ) (values : List ℕ) (f : Option Function) → begun n k values (option_map lowered_function f) ≡ begun m k values f
  begun_in k values None = refl
  begun_in k values (Some f) = entered_same k values f f.blocks

  pub same_run : (c : Call) (k : ℕ) → run_of n c k ≡ run_of m c k
  same_run c k =
      ap (λ f. go_on (begun n c.function c.args f) (run (step n) k)) (function_same m c.function)
      ∙ ap (λ x. go_on x (run (step n) k)) (begun_in c.function c.args (function_at m c.function))
      ∙ on_same (begun m c.function c.args (function_at m c.function)) (run (step n) k) (run (step m) k) (run_same k)

  -- ---- what is valid stays valid

  fits_in : (f : Option Function) (values : List ℕ) → FitsFunction f values → FitsFunction (option_map lowered_function f) values
  fits_in None values fit = fit
  fits_in (Some f) values fit = (subst (λ (k : ℕ). 0 < k) (sym (length-map f.blocks lowered_block)) fit.0, fit.1)

  pub stays_valid : (c : Call) → IsValidCall m c → IsValidCall n c
  stays_valid c valid = subst (λ (f : Option Function). FitsFunction f c.args) (sym (function_same m c.function)) (fits_in (function_at m c.function) c.args valid)

  -- ---- the same behaviour at no cost

  signature_in : (f : Option Function) → option_map signature_of (option_map lowered_function f) ≡ option_map signature_of f
  signature_in None = refl
  signature_in (Some f) = ap (λ k. Some (record { name = f.name; ret = f.ret; params = map (λ p. p.0) f.params; declared = k == 0 })) (length-map f.blocks lowered_block)

  pub alike : AreLike m n 1 0
  alike = record {
    signatures = λ k. ap (option_map signature_of) (function_same m k) ∙ signature_in (function_at m k);
    ends = λ c k valid bytes stop ends. subst (λ ran. EndsWith ran bytes stop) (sym (same_run c (1 * k + 0) ∙ ap (run_of m c) (once k))) ends;
    ends_only = λ c k valid bytes stop ends. subst (λ ran. EndsWith ran bytes stop) (same_run c k) ends;
    prints = λ c k valid. ([], ap printed_of (same_run c (1 * k + 0) ∙ ap (run_of m c) (once k)) ∙ sym (append-nil (printed_of (run_of m c k))));
    prints_only = λ c k valid. ([], sym (ap printed_of (same_run c k)) ∙ sym (append-nil (printed_of (run_of n c k))));
  }
    where
      once : (k : ℕ) → 1 * k + 0 ≡ k
      once k = omega arith
