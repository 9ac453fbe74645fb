-- Turns of the loop that steps: what the machine did is a step of the run, and who listens was told what is seen of it.
use Rattle.std.proofs.Common.{◌≡◌, ℕ, suc, ◌+◌, ◌-◌, ◌<◌, List, [], ◌++◌, Some, None, refl, sym, ◌∙◌, ap, subst, append_assoc, arith}
use Rattle.std.proofs.lemmas.List.{append-nil}
use Rattle.ir_model.specs.declared.probe.Event.{Event}
use Rattle.ir_model.specs.declared.result.End.{End}
use Rattle.ir_model.specs.declared.result.End.TheVariants as end
use Rattle.spec_machines.specs.Machine.{Goes, Stops, Ran, Open, Ended, shown_first, shown_of, go_on, run}
use Rattle.ir_model.specs.State.{Stop}
use Rattle.ir_code.specs.declared.code.FunctionCode.{FunctionCode}
use Rattle.ir_machine.specs.declared.state.Machine.{Machine}
use Rattle.ir_machine.specs.declared.state.Sight.{Sight}
use Rattle.ir_machine.specs.declared.state.Turn.{Turn}
use Rattle.ir_machine.specs.Steps.{CodeState, CodeStep, CodeShown, After, bytes, code_step, end_of, events_of, result_from, sights, state_of, turn_end, turn_sights}
use Rattle.ir_machine.proofs.Results.{bytes-append, sights-append, events-append, with_end}

shown_twice : (o p : List CodeShown) (r : Ran CodeShown Stop) → shown_first o (shown_first p r) ≡ shown_first (o ++ p) r
shown_twice o p (Open q) = ap (λ l. Open l) (sym (append_assoc o p q))
shown_twice o p (Ended q e) = ap (λ l. Ended l e) (sym (append_assoc o p q))

shown_behind_code : (o : List CodeShown) (r : Ran CodeShown Stop) → shown_of (shown_first o r) ≡ o ++ shown_of r
shown_behind_code o (Open p) = refl
shown_behind_code o (Ended p e) = refl

module _ {P W : Type 0} (heard : P → List Event → P → Type 0) (saw : W → List Sight → W → Type 0) (code : List FunctionCode) (n : ℕ) (start : CodeState) (before : List ℕ) (first_probe : P) (first_watcher : W) where
  -- how far the run is: it showed this, and what is left of it begins in the machine's state
  pub record SoFar (left : ℕ) (m : Machine) (probe : P) (watcher : W) : Type 0 where
    pub shown : List CodeShown
    pub is_run : run (code_step code) n start ≡ shown_first shown (run (code_step code) left (state_of m))
    pub is_printed : m.printed.items ≡ before ++ bytes shown
    pub marks : heard first_probe (events_of (sights shown)) probe
    pub walks : saw first_watcher (sights shown) watcher

  -- how the run is over
  pub record IsOver (e : End) (m : Machine) (probe : P) (watcher : W) : Type 0 where
    pub result : with_end e m.printed.items ≡ result_from before (run (code_step code) n start)
    pub marks : heard first_probe (events_of (sights (shown_of (run (code_step code) n start)))) probe
    pub walks : saw first_watcher (sights (shown_of (run (code_step code) n start))) watcher

  module _ (more_heard : (p q r : P) (xs ys : List Event) → heard p xs q → heard q ys r → heard p (xs ++ ys) r) (more_seen : (p q r : W) (xs ys : List Sight) → saw p xs q → saw q ys r → saw p (xs ++ ys) r) where
    module _ (left : ℕ) (m m' : Machine) (p p' : P) (w w' : W) (t : Turn) (far : SoFar (suc left) m p w) (h : heard p (events_of (turn_sights t)) p') (g : saw w (turn_sights t) w') where
      heard_more : (o : List CodeShown) → turn_sights t ≡ sights o → heard first_probe (events_of (sights (far.shown ++ o))) p'
      heard_more o e =
          let same : events_of (sights far.shown) ++ events_of (turn_sights t) ≡ events_of (sights (far.shown ++ o)) =
          ap (λ s. events_of (sights far.shown) ++ events_of s) e ∙ sym (events-append (sights far.shown) (sights o)) ∙ ap events_of (sym (sights-append far.shown o)) in
          subst (λ l. heard first_probe l p') same (more_heard first_probe p p' (events_of (sights far.shown)) (events_of (turn_sights t)) far.marks h)

      seen_more : (o : List CodeShown) → turn_sights t ≡ sights o → saw first_watcher (sights (far.shown ++ o)) w'
      seen_more o e =
          let same : sights far.shown ++ turn_sights t ≡ sights (far.shown ++ o) =
          ap (λ s. sights far.shown ++ s) e ∙ sym (sights-append far.shown o) in
          subst (λ l. saw first_watcher l w') same (more_seen first_watcher w w' (sights far.shown) (turn_sights t) far.walks g)

      printed_more : (o : List CodeShown) → m'.printed.items ≡ m.printed.items ++ bytes o → m'.printed.items ≡ before ++ bytes (far.shown ++ o)
      printed_more o e =
          e ∙ ap (λ l. l ++ bytes o) far.is_printed ∙ append_assoc before (bytes far.shown) (bytes o) ∙ ap (λ l. before ++ l) (sym (bytes-append far.shown o))

      -- the machine went on
      further : (x : CodeStep) → x ≡ code_step code (state_of m) → After x m.printed.items t m' → turn_end t ≡ None → SoFar left m' p' w'
      further (Goes o s) e a q = record {
        shown = far.shown ++ o;
        is_run = far.is_run
            ∙ ap (λ y. shown_first far.shown (go_on y (run (code_step code) left))) (sym e)
            ∙ ap (λ z. shown_first far.shown (shown_first o (run (code_step code) left z))) (sym a.2)
            ∙ shown_twice far.shown o (run (code_step code) left (state_of m'));
        is_printed = printed_more o a.3;
        marks = heard_more o a.1;
        walks = seen_more o a.1;
      }
      further (Stops o stop) e a q = cc (q, a.0)

      -- the machine stopped
      over : (e : End) (x : CodeStep) → x ≡ code_step code (state_of m) → After x m.printed.items t m' → turn_end t ≡ Some e → IsOver e m' p' w'
      over e (Goes o s) is a q = cc (q, a.0)
      over e (Stops o stop) is a q =
          let same_end : e ≡ end_of stop = cc (q, a.0) in
          let whole : run (code_step code) n start ≡ Ended (far.shown ++ o) stop =
          far.is_run ∙ ap (λ y. shown_first far.shown (go_on y (run (code_step code) left))) (sym is) in
          record {
            result = (λ i. with_end (same_end i) (printed_more o a.2 i)) ∙ ap (result_from before) (sym whole);
            marks = subst (λ r. heard first_probe (events_of (sights (shown_of r))) p') (sym whole) (heard_more o a.1);
            walks = subst (λ r. saw first_watcher (sights (shown_of r)) w') (sym whole) (seen_more o a.1);
          }

      pub goes_further : After (code_step code (state_of m)) m.printed.items t m' → turn_end t ≡ None → SoFar left m' p' w'
      goes_further a q = further (code_step code (state_of m)) refl a q

      pub is_over : (e : End) → After (code_step code (state_of m)) m.printed.items t m' → turn_end t ≡ Some e → IsOver e m' p' w'
      is_over e a q = over e (code_step code (state_of m)) refl a q

  -- what was told so far is a first part of the marks of the run
  pub first_part : ((p q r : P) (xs ys : List Event) → heard p xs q → heard q ys r → heard p (xs ++ ys) r) → (left : ℕ) (m : Machine) (p p' : P) (w : W) → SoFar left m p w → heard p [] p' → (told rest : List Event) × (events_of (sights (shown_of (run (code_step code) n start))) ≡ told ++ rest) × heard first_probe told p'
  first_part more left m p p' w far h =
      let later : List CodeShown = shown_of (run (code_step code) left (state_of m)) in
      let first : List Event = events_of (sights far.shown) in (
        first ++ [],
        events_of (sights later),
        ap (λ r. events_of (sights (shown_of r))) far.is_run
            ∙ ap (λ l. events_of (sights l)) (shown_behind_code far.shown (run (code_step code) left (state_of m)))
            ∙ ap events_of (sights-append far.shown later)
            ∙ events-append (sights far.shown) (sights later)
            ∙ ap (λ l. l ++ events_of (sights later)) (sym (append-nil first)),
        more first_probe p p' first [] far.marks h,
      )

  -- no step is left
  pub spent : (m : Machine) (p : P) (w : W) → SoFar 0 m p w → IsOver end.StepsSpent m p w
  spent m p w far =
      let whole : run (code_step code) n start ≡ Open (far.shown ++ []) = far.is_run in
      let all : far.shown ++ [] ≡ far.shown = append-nil far.shown in
      let is : run (code_step code) n start ≡ Open far.shown = whole ∙ ap (λ l. Open l) all in
      record {
        result = ap (with_end end.StepsSpent) far.is_printed ∙ ap (result_from before) (sym is);
        marks = subst (λ r. heard first_probe (events_of (sights (shown_of r))) p) (sym is) far.marks;
        walks = subst (λ r. saw first_watcher (sights (shown_of r)) w) (sym is) far.walks;
      }

  -- before the first step
  pub at_first : (m : Machine) → start ≡ state_of m → m.printed.items ≡ before → heard first_probe [] first_probe → saw first_watcher [] first_watcher → SoFar n m first_probe first_watcher
  at_first m s b h g = record {
    shown = [];
    is_run = ap (run (code_step code) n) s ∙ sym (nothing_first (run (code_step code) n (state_of m)));
    is_printed = b ∙ sym (append-nil before);
    marks = h;
    walks = g;
  }
    where
      nothing_first : (r : Ran CodeShown Stop) → shown_first [] r ≡ r
      nothing_first (Open q) = refl
      nothing_first (Ended q e) = refl

pub one_left : (i steps : ℕ) → i < steps → steps - i ≡ suc (steps - (i + 1))
one_left i steps h = omega arith
