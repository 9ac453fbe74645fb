-- The log of what is shown, part by part.
use Rattle.std.proofs.Common.{◌≡◌, ℕ, Bool, true, false, List, [], ◌∷◌, ◌++◌, map, refl, sym, ◌∙◌, ap, append_assoc}
use Rattle.spec_machines.specs.Machine.{Ran, Open, Ended, shown_first}
use Rattle.ir_model.specs.Log.{HasReturned, Walk, log, log_of, logged}
use Rattle.ir_model.specs.State.{Frame, What, Shown, Did, Printed, Stop, Returns, Traps}
use Rattle.ir_model.specs.Step.{targeted}

pub log-append : (xs ys : List Shown) → log (xs ++ ys) ≡ log xs ++ log ys
log-append [] ys = refl
log-append (x ∷ xs) ys = ap (λ l. logged x ++ l) (log-append xs ys) ∙ sym (append_assoc (logged x) (log xs) (log ys))

pub log_text : (text : List ℕ) → log (map Printed text) ≡ []
log_text [] = refl
log_text (b ∷ bs) = log_text bs

pub log_deeds : (k : ℕ) (l : List ℕ) (place : ℕ) (whats : List What) → log (map (Did k l place) whats) ≡ []
log_deeds k l place [] = refl
log_deeds k l place (w ∷ ws) = log_deeds k l place ws

pub log_targeted : (through : Bool) (fr : Frame) (k : ℕ) → log (targeted through fr k) ≡ []
log_targeted true fr k = refl
log_targeted false fr k = refl

-- items behind ones that are no walks
pub log_behind : (xs ys : List Shown) → log xs ≡ [] → log (xs ++ ys) ≡ log ys
log_behind xs ys none = log-append xs ys ∙ ap (λ (l : List Walk). l ++ log ys) none

pub log_first : (o : List Shown) (r : Ran Shown Stop) → log_of (shown_first o r) ≡ log o ++ log_of r
log_first o (Open p) = log-append o p
log_first o (Ended p e) = log-append o p

-- a run returns where what comes behind its first part does
pub returned_later : (o : List Shown) (r : Ran Shown Stop) → HasReturned (shown_first o r) → HasReturned r
returned_later o (Open p) h = absurd h
returned_later o (Ended p (Returns v)) h = tt
returned_later o (Ended p (Traps kind)) h = absurd h
