-- The calls that a calls text makes on a program.
use Rattle.std.specs.Prelude.{◌≡◌, ℕ, List, length, Ok, Err}
use Rattle.ir_tree.specs.declared.types.Module.{Module}
use Rattle.ir_model.specs.declared.result.Call.{Call}
use Rattle.call_list.specs.Reading.{Answers, meanings}
use Rattle.call_list.specs.declared.error.CallsError.{CallsError}
use Rattle.pgo_shell.specs.Judgement.{Part}
use Rattle.command_texts.specs.CallsLines.{OfText, calls_line}
use Rattle.command_texts.specs.CallsLaws.{calls_apart, same_calls}

-- the calls text makes these calls on the module
abbrev pub MakesCalls : List ℕ → Module → List Call → Type 0
MakesCalls text m calls = Answers (length text) (meanings m text) (Ok calls)

-- the calls text is refused with this line
abbrev pub BadCalls : List ℕ → Module → List ℕ → List ℕ → Type 0
BadCalls file m text line = (e : CallsError) × OfText e × Answers (length text) (meanings m text) (Err e) × (line ≡ calls_line file e)

-- the text of a file as calls on a module
abbrev pub calls_on : List ℕ → Module → List ℕ → Part (List Call)
calls_on file m text = record {
  refuses = BadCalls file m text;
  finds = MakesCalls text m;
  apart = λ line calls refused found. calls_apart (length text) (meanings m text) refused.0 calls refused.1 refused.2 found;
  one = λ a b p q. same_calls (length text) (meanings m text) a b p q;
}
