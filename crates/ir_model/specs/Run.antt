-- The run of a call, what of it is a result, and which calls are valid.
use Rattle.std.specs.Prelude.{◌≡◌, ℕ, ◌<◌, ◌≤◌, true, List, [], ◌∷◌, ◌++◌, Option, Some, None, length, map, All}
use Rattle.ir_tree.specs.Functions.{function_at}
use Rattle.ir_tree.specs.Types.{is_integer_of}
use Rattle.ir_tree.specs.declared.types.Ty.{Ty}
use Rattle.ir_tree.specs.declared.types.Block.{Block}
use Rattle.ir_tree.specs.declared.types.Function.{Function}
use Rattle.ir_tree.specs.declared.types.Module.{Module}
use Rattle.ir_model.specs.declared.result.TrapKind.TheVariants as trap
use Rattle.ir_model.specs.declared.result.End.TheVariants as end
use Rattle.ir_model.specs.declared.result.CallResult.{CallResult}
use Rattle.ir_model.specs.declared.result.Call.{Call}
use Rattle.ir_memory.specs.declared.value.Value.TheVariants.{Int}
use Rattle.ir_model.specs.Initial.{initial_memory}
use Rattle.spec_machines.specs.Machine.{Ran, Open, Ended, go_on, run, shown_of}
use Rattle.ir_model.specs.State.{arguments, Shared, Shown, Did, Targeted, Printed, Entered, Walked, What, Added, Noted, Chose, printed, Stop, Returns, Traps}
use Rattle.ir_model.specs.Step.{Step, fails, goes_to, step}

-- what the functions share at first: the globals, and nothing printed
abbrev pub at_first : Module → Shared
at_first m = record { memory = initial_memory m; output = 0 }

-- the state in which function k is entered with these arguments
abbrev pub first_entered : Module → ℕ → List ℕ → Function → List Block → Step
first_entered m k values f [] = fails trap.Unreachable
first_entered m k values f (b ∷ bs) =
    goes_to
    (record { function = k; block = b.label; place = 0; registers = arguments f.params (map Int values); base = (initial_memory m).next; into = None } ∷ [])
    (at_first m) (Entered k ∷ [])

abbrev pub begun : Module → ℕ → List ℕ → Option Function → Step
begun m k values None = fails trap.Unreachable
begun m k values (Some f) = first_entered m k values f f.blocks

-- The run of a call, which ends or has taken n steps
abbrev pub run_of : Module → Call → ℕ → Ran Shown Stop
run_of m c n = go_on (begun m c.function c.args (function_at m c.function)) (run (step m) n)

-- What was printed, and the end: the value that the call returned, its trap, or that it is still open
abbrev pub result_of : Ran Shown Stop → CallResult
result_of (Open shown) = record { printed = printed shown; end = end.StepsSpent }
result_of (Ended shown (Returns value)) = record { printed = printed shown; end = end.Returned value }
result_of (Ended shown (Traps kind)) = record { printed = printed shown; end = end.Trapped kind }

-- The marks of a run: what is added to counters and which call targets are noted, in order, by the names of their units
abbrev pub mark_of : What → List What
mark_of (Added unit counter amount) = Added unit counter amount ∷ []
mark_of (Noted unit site callee) = Noted unit site callee ∷ []
mark_of (Chose v) = []

abbrev pub marks_one : Shown → List What
marks_one (Did k l place what) = mark_of what
marks_one (Targeted k l place callee) = []
marks_one (Printed b) = []
marks_one (Entered k) = []
marks_one (Walked k l p) = []

abbrev pub marks : List Shown → List What
marks [] = []
marks (x ∷ xs) = marks_one x ++ marks xs

abbrev pub marks_of : Ran Shown Stop → List What
marks_of ran = marks (shown_of ran)

-- One argument for each parameter, each an integer of the parameter's type
abbrev pub FitsAll : List (Ty × List ℕ) → List ℕ → Type 0
FitsAll [] [] = Unit {0}
FitsAll [] (v ∷ vs) = ⊥
FitsAll (p ∷ ps) [] = ⊥
FitsAll (p ∷ ps) (v ∷ vs) = (is_integer_of p.0 v ≡ true) × FitsAll ps vs

abbrev pub FitsFunction : Option Function → List ℕ → Type 0
FitsFunction None values = ⊥
FitsFunction (Some f) values = (0 < length f.blocks) × FitsAll f.params values

-- A call is valid where its function is defined, all its parameters are integers, and each has an argument of its type
abbrev pub IsValidCall : Module → Call → Type 0
IsValidCall m c = FitsFunction (function_at m c.function) c.args

-- the most calls of a list
abbrev pub calls_most : ℕ
calls_most = 16384

pub record IsValidCallList (m : Module) (calls : List Call) : Type 0 where
  pub count : length calls ≤ calls_most
  pub valid : All (IsValidCall m) calls
