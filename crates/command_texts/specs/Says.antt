-- What a refusal of the code says.
use Rattle.std.specs.Prelude.{◌≡◌, ℕ, List, ◌++◌, codes, ⊤}
use Rattle.ir_tree.specs.declared.types.Module.{Module}
use Rattle.ir_check.specs.declared.errors.CheckError.{CheckError}
use Rattle.call_list.specs.declared.error.CallsError.{CallsError}
use Rattle.pgo_shell.specs.declared.command.Refusal.{Refusal}
use Rattle.pgo_shell.specs.declared.command.Refusal.TheVariants as refusal
use Rattle.command_texts.specs.CallsLines.{OfText, calls_line}
use Rattle.command_texts.specs.CheckLines.{IsRefusedModule, OfModule, check_line}

-- it says why the calls text is refused, unless memory ran out
abbrev pub SaysCalls : List ℕ → CallsError → Refusal → Type 0
SaysCalls file error (refusal.Text line) = OfText error × (line.items ≡ calls_line file error)
SaysCalls file error refusal.NoMemory = ⊤

-- it says this reason against a module, unless memory ran out
abbrev pub SaysCheck : List ℕ → CheckError → Refusal → Type 0
SaysCheck file error (refusal.Text line) = OfModule error × (line.items ≡ check_line file error)
SaysCheck file error refusal.NoMemory = ⊤

-- it says why the module is not accepted, unless memory ran out
abbrev pub SaysNotAccepted : List ℕ → Module → Refusal → Type 0
SaysNotAccepted file m (refusal.Text line) = (e : CheckError) × (IsRefusedModule m e × (line.items ≡ check_line file e))
SaysNotAccepted file m refusal.NoMemory = ⊤
