-- What `gen MODULE OUT` makes of a module.
use Rattle.std.specs.Prelude.{◌≡◌, ℕ, Bool, List, [], ◌∷◌, Some}
use Rattle.gen_module.specs.Made.{IsMade}
use Rattle.gen_plan.specs.Gen.{counted}
use Rattle.ir_rules.specs.Accepted.{IsAccepted}
use Rattle.ir_rules.specs.Kinds.{kind_of}
use Rattle.ir_rules.specs.declared.place.Kind.TheVariants.{Plain}
use Rattle.ir_tree.specs.declared.types.Module.{Module}
use Rattle.pgo_shell.specs.Judgement.{Whole, then}
use Rattle.pgo_shell.specs.Shell.{Task, text_of}
use Rattle.pgo_shell.specs.World.{World}
use Rattle.command_lines.specs.TextAt.{text_at}
use Rattle.command_texts.specs.Program.{IsProgram, is_plain, program}
use Rattle.command_written.specs.Laws.{ModuleStands}
use Rattle.command_written.specs.Written.{writes}

-- a `gen` with its words: the module's file, the file that it writes, and whether the entry is counted first
pub record GenFiles : Type 0 where
  pub «module» : List ℕ
  pub out : List ℕ
  pub entry_first : Bool

-- what the text comes to: a program, which is plain, and the module that counts it in the file
abbrev pub gen_judgement : GenFiles → List ℕ → Whole
gen_judgement f text = then (program f.«module» text) (λ m. then (is_plain f.«module» m) (λ u. writes (counted f.entry_first m)))

abbrev pub gen_task : GenFiles → Task
gen_task f = record { reads = f.«module» ∷ []; writes = f.out ∷ []; judges = λ texts. gen_judgement f (text_at texts 0) }

-- the module that counts an accepted plain one is accepted as one that counts, and behaves as it does with its log for marks
abbrev pub PlainAreMade : Type 0
PlainAreMade = (first : Bool) (m : Module) → IsAccepted m → kind_of m.functions ≡ Plain → IsMade first m (counted first m)

-- What stands after a `gen` that ended well: its file held a plain program, and the file `out` holds the canonical text of the module
-- that counts it. This module is accepted as one that counts, behaves as the program within four steps for one and one more, and has the
-- program's log in counters for its marks. No other file changed, and nothing was put
pub record GenStands (f : GenFiles) (old new : World) : Type 0 where
  pub program : List ℕ
  pub program_is : text_of old.files f.«module» ≡ Some program
  pub m : Module
  pub spelled : IsProgram program m
  pub plain : kind_of m.functions ≡ Plain
  pub made : IsMade f.entry_first m (counted f.entry_first m)
  pub stands : ModuleStands f.out (counted f.entry_first m) old new
