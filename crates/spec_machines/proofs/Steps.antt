-- The law of steps: where each step of one machine is matched by some of another, their runs go side by side.
use Rattle.std.proofs.Common.{◌≡◌, ℕ, zero, suc, ◌+◌, ◌*◌, ◌≤◌, List, ◌++◌, sym, subst, ◌∙◌, ap, arith, mul-suc}
use Rattle.spec_machines.specs.Machine.{Next, Goes, Stops, Ran, go_on, run, then_go, many}
use Rattle.spec_machines.specs.Simulation.{IsView, Alike, Matched, Simulates, Reaches, StaysOwed}
use Rattle.spec_machines.proofs.Runs.{on_same, on_then, run_many, run_longer, within_on}
use Rattle.spec_machines.proofs.Views.{reaches_open, reaches_first, reaches_within, within_reaches}

module _ {A B C E : Type 0} (f : List A → List C) (g : List B → List C) (R : List A → List B → E → Type 0) where
  -- what is owed, with the machines exchanged
  abbrev pub Back : List B → List A → E → Type 0
  Back q p e = R p q e

  back_owed : StaysOwed f g R → StaysOwed g f Back
  back_owed owed o p q r e same h = owed q r o p e (sym same) h

-- ---- one step that is matched

module _ {A B C E S T : Type 0} (f : List A → List C) (g : List B → List C) (R : List A → List B → E → Type 0) (J : S → T → Type 0) where
  alike_back : (x : Next A E S) (y : Next B E T) → Alike f g R J x y → Alike g f (Back f g R) (λ t s. J s t) y x
  alike_back (Goes o s) (Goes p t) h = (sym h.0, h.1)
  alike_back (Goes o s) (Stops p e) h = h
  alike_back (Stops o d) (Goes p t) h = h
  alike_back (Stops o d) (Stops p e) h = (subst (λ k. R o p k) h.1 h.0, sym h.1)

  -- runs go side by side from what is alike, where they do from related states
  alike_on : IsView f → IsView g → StaysOwed f g R → (go : S → Ran A E) (go' : T → Ran B E) → ((s : S) (t : T) → J s t → Reaches f g R (go s) (go' t)) → (x : Next A E S) (y : Next B E T) → Alike f g R J x y → Reaches f g R (go_on x go) (go_on y go')
  alike_on first second owed go go' h (Goes o s) (Goes p t) w = reaches_first f g R first second owed o p w.0 (go s) (go' t) (h s t w.1)
  alike_on first second owed go go' h (Goes o s) (Stops p e) w = absurd w
  alike_on first second owed go go' h (Stops o d) (Goes p t) w = absurd w
  alike_on first second owed go go' h (Stops o d) (Stops p e) w = w

-- ---- whole runs

module _ {A B C E S T : Type 0} (f : List A → List C) (g : List B → List C) (R : List A → List B → E → Type 0) (step : S → Next A E S) (step' : T → Next B E T) (most : ℕ) (J : S → T → Type 0) (first : IsView f) (second : IsView g) (owed : StaysOwed f g R) (simulates : Simulates f g R step step' most J) where
  ahead_turn : (n : ℕ) → ((s : S) (t : T) → J s t → Reaches f g R (run step n s) (run step' (most * n) t)) → (s : S) (t : T) → Matched f g R step' most J (step s) t → Reaches f g R (run step (suc n) s) (run step' (most * suc n) t)
  ahead_turn n h s t matched =
      let k = matched.0 in
      let both = alike_on f g R J first second owed (run step n) (run step' (most * n)) h (step s) (many step' (suc k) t) matched.2 in
      let there = subst (λ r. Reaches f g R (run step (suc n) s) r) (sym (run_many step' (suc k) (most * n) t)) both in
      let enough : suc k + most * n ≤ most * suc n = omega (arith, matched.1, mul-suc most n) in
      reaches_within f g R first second (run step (suc n) s) (run step' (suc k + most * n) t) (run step' (most * suc n) t) there (run_longer step' (suc k + most * n) (most * suc n) enough t)

  -- the second machine gets at least as far in `most` times as many steps
  pub ahead : (n : ℕ) (s : S) (t : T) → J s t → Reaches f g R (run step n s) (run step' (most * n) t)
  ahead zero s t j = reaches_open f g R first second (run step' (most * zero) t)
  ahead (suc n) s t j = ahead_turn n (ahead n) s t (simulates s t j)

  -- the same from starts of which the second takes up to `late` steps
  pub ahead_from : (late k : ℕ) → k ≤ late → (x : Next A E S) (y : Next B E T) → Alike f g R J x (then_go y (many step' k)) → (n : ℕ) → Reaches f g R (go_on x (run step n)) (go_on y (run step' (most * n + late)))
  ahead_from late k few x y alike n =
      let both = alike_on f g R J first second owed (run step n) (run step' (most * n)) (ahead n) x (then_go y (many step' k)) alike in
      let as_run = on_then y (many step' k) (run step' (most * n)) ∙ on_same y (λ t. go_on (many step' k t) (run step' (most * n))) (run step' (k + most * n)) (λ t. sym (run_many step' k (most * n) t)) in
      let there = subst (λ r. Reaches f g R (go_on x (run step n)) r) as_run both in
      let enough : k + most * n ≤ most * n + late = omega arith in
      reaches_within f g R first second (go_on x (run step n)) (go_on y (run step' (k + most * n))) (go_on y (run step' (most * n + late))) there (within_on y (run step' (k + most * n)) (run step' (most * n + late)) (run_longer step' (k + most * n) (most * n + late) enough))

  module _ (looks : (p : List A) (q : List B) (e : E) → R p q e → f p ≡ g q) where
    looks_back : (q : List B) (p : List A) (e : E) → Back f g R q p e → g q ≡ f p
    looks_back q p e h = sym (looks p q e h)

    back_turn : (n : ℕ) → ((t : T) (s : S) → J s t → Reaches g f (Back f g R) (run step' n t) (run step n s)) → (s : S) (t : T) → Matched f g R step' most J (step s) t → Reaches g f (Back f g R) (run step' (suc n) t) (run step (suc n) s)
    back_turn n h s t matched =
        let k = matched.0 in
        let both = alike_on g f (Back f g R) (λ t s. J s t) second first (back_owed f g R owed) (run step' n) (run step n) h (many step' (suc k) t) (step s) (alike_back f g R J (step s) (many step' (suc k) t) matched.2) in
        let there = subst (λ r. Reaches g f (Back f g R) r (run step (suc n) s)) (sym (run_many step' (suc k) n t)) both in
        let fewer : suc n ≤ suc k + n = omega arith in
        within_reaches g f (Back f g R) second first looks_back (run step' (suc n) t) (run step' (suc k + n) t) (run step (suc n) s) (run_longer step' (suc n) (suc k + n) fewer t) there

    -- the first machine gets at least as far in as many steps
    pub back : (n : ℕ) (t : T) (s : S) → J s t → Reaches g f (Back f g R) (run step' n t) (run step n s)
    back zero t s j = reaches_open g f (Back f g R) second first (run step zero s)
    back (suc n) t s j = back_turn n (back n) s t (simulates s t j)

    pub back_from : (k : ℕ) (x : Next A E S) (y : Next B E T) → Alike f g R J x (then_go y (many step' k)) → (n : ℕ) → Reaches g f (Back f g R) (go_on y (run step' n)) (go_on x (run step n))
    back_from k x y alike n =
        let both = alike_on g f (Back f g R) (λ t s. J s t) second first (back_owed f g R owed) (run step' n) (run step n) (back n) (then_go y (many step' k)) x (alike_back f g R J x (then_go y (many step' k)) alike) in
        let as_run = on_then y (many step' k) (run step' n) ∙ on_same y (λ t. go_on (many step' k t) (run step' n)) (run step' (k + n)) (λ t. sym (run_many step' k n t)) in
        let there = subst (λ r. Reaches g f (Back f g R) r (go_on x (run step n))) as_run both in
        let fewer : n ≤ k + n = omega arith in
        within_reaches g f (Back f g R) second first looks_back (go_on y (run step' n)) (go_on y (run step' (k + n))) (go_on x (run step n)) (within_on y (run step' n) (run step' (k + n)) (run_longer step' n (k + n) fewer)) there

-- ---- another view of the same

module _ {A B C D E S T : Type 0} (f : List A → List C) (g : List B → List C) (R : List A → List B → E → Type 0) (f' : List A → List D) (g' : List B → List D) (Q : List A → List B → E → Type 0) (J : S → T → Type 0) (views : (p : List A) (q : List B) → f p ≡ g q → f' p ≡ g' q) (owes : (p : List A) (q : List B) (e : E) → R p q e → Q p q e) where
  alike_to : (x : Next A E S) (y : Next B E T) → Alike f g R J x y → Alike f' g' Q J x y
  alike_to (Goes o s) (Goes p t) h = (views o p h.0, h.1)
  alike_to (Goes o s) (Stops p e) h = h
  alike_to (Stops o d) (Goes p t) h = h
  alike_to (Stops o d) (Stops p e) h = (owes o p d h.0, h.1)

  pub simulates_to : (step : S → Next A E S) (step' : T → Next B E T) (most : ℕ) → Simulates f g R step step' most J → Simulates f' g' Q step step' most J
  simulates_to step step' most simulates s t j =
      let matched = simulates s t j in
      (matched.0, matched.1, alike_to (step s) (many step' (suc matched.0) t) matched.2)

module _ {A B C E : Type 0} (f : List A → List C) (g : List B → List C) (first : IsView f) (second : IsView g) where
  pub same_stays_owed : StaysOwed {A = A} {B = B} {C = C} {E = E} f g (λ p q e. f p ≡ g q)
  same_stays_owed o p q r e same h = first.more o p ∙ ap (λ l. l ++ f p) same ∙ ap (λ l. g q ++ l) h ∙ sym (second.more q r)
