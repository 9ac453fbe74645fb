-- A command on a module and calls of it, whatever it makes of them: what its two texts come to, and what stands after it.
use Rattle.std.specs.Prelude.{◌≡◌, ℕ, List, [], ◌∷◌, ◌++◌, All, Some}
use Rattle.ir_tree.specs.declared.types.Module.{Module}
use Rattle.ir_model.specs.declared.result.Call.{Call}
use Rattle.pgo_base.specs.Outside.{SameFiles}
use Rattle.pgo_shell.specs.Judgement.{Made, Part, Whole, making, then}
use Rattle.pgo_shell.specs.Shell.{Task, text_of}
use Rattle.pgo_shell.specs.World.{World}
use Rattle.command_texts.specs.Calls.{MakesCalls, calls_on}
use Rattle.command_texts.specs.Program.{IsProgram, program}
use Rattle.command_lines.specs.TextAt.{text_at}
use Rattle.command_run.specs.Outcomes.{HasReturned}

-- the command with its words: the module's file, the calls' file, and the steps that each call is given
pub record CallFiles : Type 0 where
  pub «module» : List ℕ
  pub calls : List ℕ
  pub steps : ℕ

-- the kinds of module that it takes, and what it makes of one and calls with so many steps, which fix whether it halts
module _ (takes : List ℕ → Module → Part (Unit {0})) (Makes : Module → ℕ → List Call → Made → Type 0) (agrees : (m : Module) (steps : ℕ) (calls : List Call) (a b : Made) → Makes m steps calls a → Makes m steps calls b → a.halted ≡ b.halted) where
  -- what the calls text comes to, on a program of such a kind: calls on it, and what is made of them
  abbrev pub calls_judgement : CallFiles → Module → List ℕ → Whole
  calls_judgement f m calls_text = then (calls_on f.calls m calls_text) (λ calls. making (Makes m f.steps calls) (agrees m f.steps calls))

  -- what it comes to on a program
  abbrev pub kind_judgement : CallFiles → Module → List ℕ → Whole
  kind_judgement f m calls_text = then (takes f.«module» m) (λ u. calls_judgement f m calls_text)

  -- what the two texts come to: a program of a kind that it takes, calls on it, and what is made of them
  abbrev pub texts_judgement : CallFiles → List ℕ → List ℕ → Whole
  texts_judgement f program_text calls_text = then (program f.«module» program_text) (λ m. kind_judgement f m calls_text)

  abbrev pub calls_task : CallFiles → Task
  calls_task f = record {
    reads = f.«module» ∷ f.calls ∷ [];
    writes = [];
    judges = λ texts. texts_judgement f (text_at texts 0) (text_at texts 1);
  }

-- What stands after such a command that ended well: its files held a program of a kind that it takes and calls of it, every call
-- returned within its steps, and this was put; no file changed
pub record CallsStand (takes : List ℕ → Module → Part (Unit {0})) (puts : Module → ℕ → List Call → List ℕ) (f : CallFiles) (old new : World) : Type 0 where
  pub program : List ℕ
  pub list : List ℕ
  pub program_is : text_of old.files f.«module» ≡ Some program
  pub list_is : text_of old.files f.calls ≡ Some list
  pub m : Module
  pub made : List Call
  pub spelled : IsProgram program m
  pub taken : (takes f.«module» m).finds tt
  pub listed : MakesCalls list m made
  pub returned : All (HasReturned m f.steps) made
  pub put : old.shows → new.put ≡ old.put ++ puts m f.steps made
  pub kept : SameFiles old.files new.files
