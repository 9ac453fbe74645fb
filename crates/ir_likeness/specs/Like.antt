-- The same behaviour at a cost: what takes the first module n steps takes the second at most `most` times n and `late` more.
use Rattle.std.specs.Prelude.{◌≡◌, ℕ, ◌+◌, ◌*◌, Bool, List, ◌++◌, map, Option}
use Rattle.std.specs.Option.{option_map}
use Rattle.ir_tree.specs.Functions.{function_at, is_declared}
use Rattle.ir_tree.specs.declared.types.Function.{Function}
use Rattle.ir_tree.specs.declared.types.Module.{Module}
use Rattle.ir_tree.specs.declared.types.Ret.{Ret}
use Rattle.ir_tree.specs.declared.types.Ty.{Ty}
use Rattle.ir_model.specs.Run.{run_of, IsValidCall}
use Rattle.ir_model.specs.State.{Shown, Stop, printed}
use Rattle.ir_model.specs.declared.result.Call.{Call}
use Rattle.spec_machines.specs.Machine.{Ran, Ended, shown_of}

-- a function's name, what it returns, the types of its parameters, and whether it is declared
pub record Signature : Type 0 where
  pub name : List ℕ
  pub ret : Ret
  pub params : List Ty
  pub declared : Bool

abbrev pub signature_of : Function → Signature
signature_of f = record { name = f.name; ret = f.ret; params = map (λ p. p.0) f.params; declared = is_declared f }

abbrev pub signature_at : Module → ℕ → Option Signature
signature_at m k = option_map signature_of (function_at m k)

-- a run ended, with these items shown
abbrev pub EndsWith : Ran Shown Stop → List ℕ → Stop → Type 0
EndsWith ran bytes stop = (shown : List Shown) × (ran ≡ Ended shown stop) × (printed shown ≡ bytes)

abbrev pub printed_of : Ran Shown Stop → List ℕ
printed_of ran = printed (shown_of ran)

-- The two modules have the same functions by number, and for each call: where one ends, so does the other, with the same end and
-- the same bytes, the second within its cost and the first within as many steps; and what one has printed the other has
-- printed or goes on to print.
pub record AreLike (m m' : Module) (most late : ℕ) : Type 0 where
  pub signatures : (k : ℕ) → signature_at m' k ≡ signature_at m k
  pub ends : (c : Call) (n : ℕ) → IsValidCall m c → (bytes : List ℕ) (stop : Stop) → EndsWith (run_of m c n) bytes stop → EndsWith (run_of m' c (most * n + late)) bytes stop
  pub ends_only : (c : Call) (n : ℕ) → IsValidCall m c → (bytes : List ℕ) (stop : Stop) → EndsWith (run_of m' c n) bytes stop → EndsWith (run_of m c n) bytes stop
  pub prints : (c : Call) (n : ℕ) → IsValidCall m c → (rest : List ℕ) × (printed_of (run_of m' c (most * n + late)) ≡ printed_of (run_of m c n) ++ rest)
  pub prints_only : (c : Call) (n : ℕ) → IsValidCall m c → (rest : List ℕ) × (printed_of (run_of m c n) ≡ printed_of (run_of m' c n) ++ rest)
