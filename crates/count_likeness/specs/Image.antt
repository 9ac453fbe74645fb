-- What the module that counts shows in place of what the original shows: counters that rise and call targets that are noted.
use Rattle.std.specs.Prelude.{◌≡◌, ℕ, ◌+◌, ◌*◌, List, [], ◌∷◌, ◌++◌, map, Option}
use Rattle.ir_model.specs.Run.{IsValidCall, marks, run_of}
use Rattle.ir_model.specs.State.{Shown, Did, Targeted, Printed, Entered, Walked, What, Added, Noted, Chose, Returns}
use Rattle.ir_model.specs.declared.result.Call.{Call}
use Rattle.ir_tree.specs.Operands.{listed}
use Rattle.ir_tree.specs.declared.types.Module.{Module}
use Rattle.spec_machines.specs.Machine.{Ended}

-- Where things are counted, by function number: the name of a function's unit; the counters that rise where the function is
-- entered; those that rise where it leaves a block by a successor position; the counter of the select at a place behind the
-- phis of a block; and the site of the call there
pub record Image : Type 0 where
  pub unit : ℕ → List ℕ
  pub entry : ℕ → List ℕ
  pub way : ℕ → List ℕ → ℕ → List ℕ
  pub condition : ℕ → List ℕ → ℕ → Option ℕ
  pub site : ℕ → List ℕ → ℕ → Option ℕ

-- counters that rise by one
abbrev pub risen : List ℕ → List ℕ → List What
risen unit counters = map (λ c. Added unit c 1) counters

-- The counted marks of what is shown. What the original shows of counters and targets itself stays
abbrev pub counted_what : Image → ℕ → List ℕ → ℕ → What → List What
counted_what image k l i (Added unit counter amount) = Added unit counter amount ∷ []
counted_what image k l i (Noted unit site callee) = Noted unit site callee ∷ []
counted_what image k l i (Chose v) = map (λ c. Added (image.unit k) c v) (listed (image.condition k l i))

abbrev pub counted_one : Image → Shown → List What
counted_one image (Did k l i what) = counted_what image k l i what
counted_one image (Targeted k l i callee) = map (λ s. Noted (image.unit k) s callee) (listed (image.site k l i))
counted_one image (Printed b) = []
counted_one image (Entered k) = risen (image.unit k) (image.entry k)
counted_one image (Walked k l p) = risen (image.unit k) (image.way k l p)

abbrev pub counted_marks : Image → List Shown → List What
counted_marks image [] = []
counted_marks image (x ∷ xs) = counted_one image x ++ counted_marks image xs

-- For every call that returns within n steps, the second module returns the same within its cost, and its marks are the counted
-- marks of what the first showed
abbrev pub MarksAre : Image → Module → Module → ℕ → ℕ → Type 0
MarksAre image m m' most late =
    (c : Call) (n : ℕ) → IsValidCall m c → (shown : List Shown) (value : Option ℕ) → run_of m c n ≡ Ended shown (Returns value)
    → (shown' : List Shown) × (run_of m' c (most * n + late) ≡ Ended shown' (Returns value)) × (marks shown' ≡ counted_marks image shown)
