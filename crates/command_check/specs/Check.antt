-- What `check MODULE` makes of a module.
use Rattle.std.specs.Prelude.{◌≡◌, ℕ, List, [], ◌∷◌, ◌++◌, Some, None, codes}
use Rattle.std.proofs.Common.{ap, sym, ◌∙◌}
use Rattle.ir_tree.specs.declared.types.Module.{Module}
use Rattle.ir_rules.specs.Kinds.{kind_of}
use Rattle.ir_rules.specs.declared.place.Kind.{Kind}
use Rattle.ir_rules.specs.declared.place.Kind.TheVariants.{Plain, Counted, Lowered}
use Rattle.pgo_base.specs.Outside.{SameFiles}
use Rattle.pgo_shell.specs.Judgement.{Made, Whole, halt_of, making, then}
use Rattle.pgo_shell.specs.Shell.{Task, text_of}
use Rattle.pgo_shell.specs.World.{World}
use Rattle.command_texts.specs.Program.{IsProgram, program}
use Rattle.command_lines.specs.TextAt.{text_at}

-- a kind in a line
abbrev pub kind_line : Kind → List ℕ
kind_line Plain = codes "plain\n"
kind_line Counted = codes "counted\n"
kind_line Lowered = codes "lowered\n"

-- the kind of the module
abbrev pub check_made : Module → Made
check_made m = record { halted = None; output = kind_line (kind_of m.functions); written = [] }

abbrev pub CheckMakes : Module → Made → Type 0
CheckMakes m made = made ≡ check_made m

pub check_agrees : (m : Module) (a b : Made) → CheckMakes m a → CheckMakes m b → a.halted ≡ b.halted
check_agrees m a b p q = ap halt_of (p ∙ sym q)

-- a `check` with its word: the module's file
pub record CheckFiles : Type 0 where
  pub «module» : List ℕ

-- what the text comes to: a program, and its kind
abbrev pub check_judgement : CheckFiles → List ℕ → Whole
check_judgement f text = then (program f.«module» text) (λ m. making (CheckMakes m) (check_agrees m))

abbrev pub check_task : CheckFiles → Task
check_task f = record { reads = f.«module» ∷ []; writes = []; judges = λ texts. check_judgement f (text_at texts 0) }

-- What stands after a `check` that ended well: its file held a program, and the program's kind was put; no file changed
pub record CheckStands (f : CheckFiles) (old new : World) : Type 0 where
  pub program : List ℕ
  pub program_is : text_of old.files f.«module» ≡ Some program
  pub m : Module
  pub spelled : IsProgram program m
  pub put : old.shows → new.put ≡ old.put ++ kind_line (kind_of m.functions)
  pub kept : SameFiles old.files new.files
