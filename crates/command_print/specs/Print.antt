-- What `print MODULE` makes of a module.
use Rattle.std.specs.Prelude.{◌≡◌, ℕ, List, [], ◌∷◌, ◌++◌, Some, None}
use Rattle.std.proofs.Common.{ap, sym, ◌∙◌}
use Rattle.canonical_text.specs.Canonical.{canonical}
use Rattle.ir_tree.specs.declared.types.Module.{Module}
use Rattle.pgo_base.specs.Outside.{SameFiles}
use Rattle.pgo_shell.specs.Judgement.{Made, Whole, halt_of, making, then}
use Rattle.pgo_shell.specs.Shell.{Task, text_of}
use Rattle.pgo_shell.specs.World.{World}
use Rattle.command_texts.specs.Program.{IsProgram, program}
use Rattle.command_lines.specs.TextAt.{text_at}

-- the canonical text of the module
abbrev pub print_made : Module → Made
print_made m = record { halted = None; output = canonical m; written = [] }

abbrev pub PrintMakes : Module → Made → Type 0
PrintMakes m made = made ≡ print_made m

pub print_agrees : (m : Module) (a b : Made) → PrintMakes m a → PrintMakes m b → a.halted ≡ b.halted
print_agrees m a b p q = ap halt_of (p ∙ sym q)

-- a `print` with its word: the module's file
pub record PrintFiles : Type 0 where
  pub «module» : List ℕ

-- what the text comes to: a program, and its canonical text
abbrev pub print_judgement : PrintFiles → List ℕ → Whole
print_judgement f text = then (program f.«module» text) (λ m. making (PrintMakes m) (print_agrees m))

abbrev pub print_task : PrintFiles → Task
print_task f = record { reads = f.«module» ∷ []; writes = []; judges = λ texts. print_judgement f (text_at texts 0) }

-- What stands after a `print` that ended well: its file held a program, and the program's canonical text was put; no file changed
pub record PrintStands (f : PrintFiles) (old new : World) : Type 0 where
  pub program : List ℕ
  pub program_is : text_of old.files f.«module» ≡ Some program
  pub m : Module
  pub spelled : IsProgram program m
  pub put : old.shows → new.put ≡ old.put ++ canonical m
  pub kept : SameFiles old.files new.files
