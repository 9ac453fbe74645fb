-- What a refusal of the code says.
use Rattle.std.specs.Prelude.{◌≡◌, ℕ, List, ⊤}
use Rattle.pgo_shell.specs.declared.command.Refusal.{Refusal}
use Rattle.pgo_shell.specs.declared.command.Refusal.TheVariants as refusal

-- it says this, unless memory ran out
abbrev pub RefusedWith : List ℕ → Refusal → Type 0
RefusedWith bytes (refusal.Text line) = line.items ≡ bytes
RefusedWith bytes refusal.NoMemory = ⊤
