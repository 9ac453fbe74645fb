-- The law of steps, for modules: from a simulation to the same behaviour.
use Rattle.std.proofs.Common.{◌≡◌, ℕ, ◌+◌, ◌*◌, ◌≤◌, List, [], ◌∷◌, ◌++◌, refl, sym, ◌∙◌, ap, append_assoc}
use Rattle.std.proofs.lemmas.List.{append-nil}
use Rattle.ir_tree.specs.Functions.{function_at}
use Rattle.ir_tree.specs.declared.types.Module.{Module}
use Rattle.ir_model.specs.Run.{run_of, begun, IsValidCall}
use Rattle.ir_model.specs.State.{Shown, State, Stop, printed, printed_one}
use Rattle.ir_model.specs.Step.{step}
use Rattle.ir_model.specs.declared.result.Call.{Call}
use Rattle.spec_machines.specs.Machine.{Ran, Open, Ended, many, then_go}
use Rattle.spec_machines.specs.Simulation.{IsView, Alike, Simulates, Reaches}
use Rattle.spec_machines.proofs.Steps.{Back, ahead_from, back_from, same_stays_owed}
use Rattle.ir_likeness.specs.Like.{AreLike, EndsWith, printed_of, signature_at}

printed-more : (xs ys : List Shown) → printed (xs ++ ys) ≡ printed xs ++ printed ys
printed-more [] ys = refl
printed-more (x ∷ xs) ys = ap (λ l. printed_one x ++ l) (printed-more xs ys) ∙ sym (append_assoc (printed_one x) (printed xs) (printed ys))

pub printed_view : IsView printed
printed_view = record { none = refl; more = printed-more }

abbrev pub Bytes : List Shown → List Shown → Stop → Type 0
Bytes p q e = printed p ≡ printed q

-- ---- what it is that one run reaches the other

reaches_ends : (x y : Ran Shown Stop) → Reaches printed printed Bytes x y → (bytes : List ℕ) (stop : Stop) → EndsWith x bytes stop → EndsWith y bytes stop
reaches_ends (Open p) y w bytes stop e = absurd (not_ended e.1)
  where
    not_ended : {shown : List Shown} → Open p ≡ Ended shown stop → ⊥
    not_ended h = cc
reaches_ends (Ended p d) (Open q) w bytes stop e = absurd w
reaches_ends (Ended p d) (Ended q f) w bytes stop e = (q, ends_at, sym w.0 ∙ ap printed same_shown ∙ e.2)
  where
    same_shown : p ≡ e.0
    same_shown = let h = e.1 in cc

    ends_at : Ended q f ≡ Ended q stop
    ends_at = let h = e.1 in let k = w.1 in cc

reaches_prints : (x y : Ran Shown Stop) → Reaches printed printed Bytes x y → (rest : List ℕ) × (printed_of y ≡ printed_of x ++ rest)
reaches_prints (Open p) (Open q) w = w
reaches_prints (Open p) (Ended q e) w = w
reaches_prints (Ended p d) (Open q) w = absurd w
reaches_prints (Ended p d) (Ended q e) w = ([], sym w.0 ∙ sym (append-nil (printed p)))

-- ---- the law

-- starts of a call, of which the second takes up to `late` steps
abbrev pub Starts : (m m' : Module) (late : ℕ) (J : State → State → Type 0) → Type 0
Starts m m' late J = (c : Call) → IsValidCall m c → (k : ℕ) × (k ≤ late) × Alike printed printed Bytes J (begun m c.function c.args (function_at m c.function)) (then_go (begun m' c.function c.args (function_at m' c.function)) (many (step m') k))

module _ (m m' : Module) (most late : ℕ) (J : State → State → Type 0) (signatures : (k : ℕ) → signature_at m' k ≡ signature_at m k) (simulates : Simulates printed printed Bytes (step m) (step m') most J) (starts : Starts m m' late J) where
  forward : (c : Call) (n : ℕ) → IsValidCall m c → Reaches printed printed Bytes (run_of m c n) (run_of m' c (most * n + late))
  forward c n valid =
      let s = starts c valid in
      ahead_from printed printed Bytes (step m) (step m') most J printed_view printed_view (same_stays_owed printed printed printed_view printed_view) simulates late s.0 s.1 (begun m c.function c.args (function_at m c.function)) (begun m' c.function c.args (function_at m' c.function)) s.2 n

  backward : (c : Call) (n : ℕ) → IsValidCall m c → Reaches printed printed (Back printed printed Bytes) (run_of m' c n) (run_of m c n)
  backward c n valid =
      let s = starts c valid in
      back_from printed printed Bytes (step m) (step m') most J printed_view printed_view (same_stays_owed printed printed printed_view printed_view) simulates (λ p q e h. h) s.0 (begun m c.function c.args (function_at m c.function)) (begun m' c.function c.args (function_at m' c.function)) s.2 n

  turned : (x y : Ran Shown Stop) → Reaches printed printed (Back printed printed Bytes) x y → Reaches printed printed Bytes x y
  turned (Open p) (Open q) w = w
  turned (Open p) (Ended q e) w = w
  turned (Ended p d) (Open q) w = w
  turned (Ended p d) (Ended q e) w = (sym w.0, w.1)

  pub like_by : AreLike m m' most late
  like_by = record {
    signatures = signatures;
    ends = λ c n valid. reaches_ends (run_of m c n) (run_of m' c (most * n + late)) (forward c n valid);
    ends_only = λ c n valid. reaches_ends (run_of m' c n) (run_of m c n) (turned (run_of m' c n) (run_of m c n) (backward c n valid));
    prints = λ c n valid. reaches_prints (run_of m c n) (run_of m' c (most * n + late)) (forward c n valid);
    prints_only = λ c n valid. reaches_prints (run_of m' c n) (run_of m c n) (turned (run_of m' c n) (run_of m c n) (backward c n valid));
  }
