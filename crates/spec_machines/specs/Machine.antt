-- Abstract machines: a function that steps from state to state and shows items on the way, and the run that applies
-- it. `A` is the type of the items that are shown, `E` that of the ends, `S` that of the states.
use Rattle.std.specs.Prelude.{◌≡◌, ℕ, zero, suc, List, [], ◌++◌}

-- what one step comes to: the next state or an end, with the items that the step shows
pub data Next (A E S : Type 0) : Type 0 where
  Goes : (shown : List A) (state : S) → Next A E S
  Stops : (shown : List A) (end : E) → Next A E S

-- what a run of some number of steps comes to: it is still open, or it has ended
pub data Ran (A E : Type 0) : Type 0 where
  Open : (shown : List A) → Ran A E
  Ended : (shown : List A) (end : E) → Ran A E

module _ {A E : Type 0} where
  -- the same, with these items shown before
  abbrev pub shown_first : List A → Ran A E → Ran A E
  shown_first o (Open p) = Open (o ++ p)
  shown_first o (Ended p e) = Ended (o ++ p) e

  -- all that was shown
  abbrev pub shown_of : Ran A E → List A
  shown_of (Open p) = p
  shown_of (Ended p e) = p

  -- The second run is the first one or goes on from it: an end stays, and what was shown is shown first
  abbrev pub Within : Ran A E → Ran A E → Type 0
  Within (Open p) (Open q) = (rest : List A) × (q ≡ p ++ rest)
  Within (Open p) (Ended q e) = (rest : List A) × (q ≡ p ++ rest)
  Within (Ended p d) (Open q) = ⊥
  Within (Ended p d) (Ended q e) = (p ≡ q) × (d ≡ e)

module _ {A E S : Type 0} where
  -- a step, and then what comes after it
  abbrev pub go_on : Next A E S → (S → Ran A E) → Ran A E
  go_on (Goes o s) go = shown_first o (go s)
  go_on (Stops o e) go = Ended o e

  -- at most this many steps from a state
  abbrev pub run : (S → Next A E S) → ℕ → S → Ran A E
  run step zero s = Open []
  run step (suc n) s = go_on (step s) (run step n)

  -- the same, with these items shown before
  abbrev pub more_shown : List A → Next A E S → Next A E S
  more_shown o (Goes p s) = Goes (o ++ p) s
  more_shown o (Stops p e) = Stops (o ++ p) e

  -- a step, and then a further one
  abbrev pub then_go : Next A E S → (S → Next A E S) → Next A E S
  then_go (Goes o s) go = more_shown o (go s)
  then_go (Stops o e) go = Stops o e

  -- this many steps as one, up to an end
  abbrev pub many : (S → Next A E S) → ℕ → S → Next A E S
  many step zero s = Goes [] s
  many step (suc k) s = then_go (step s) (many step k)

-- the run, where of its items only what `f` makes of them is looked at
abbrev pub seen : {A C E : Type 0} → (List A → List C) → Ran A E → Ran C E
seen f (Open p) = Open (f p)
seen f (Ended p e) = Ended (f p) e
