-- The lines that say why a module is not lowered.
use Rattle.std.specs.Prelude.{◌≡◌, ℕ, List, [], ◌++◌, codes, decimal, ⊤}
use Rattle.instr_lower.specs.declared.error.LowerError.{LowerError}
use Rattle.instr_lower.specs.declared.error.LowerError.TheVariants as error
use Rattle.pgo_shell.specs.declared.command.Refusal.{Refusal}
use Rattle.pgo_shell.specs.declared.command.Refusal.TheVariants as refusal
use Rattle.command_texts.specs.CheckLines.{limit_name}
use Rattle.command_texts.specs.Program.{kind_word}

-- an answer that the module itself gives, and not want of memory
abbrev pub OfModule : LowerError → Type 0
OfModule (error.WrongKind found) = Unit {0}
OfModule (error.HashDiffers name first other) = Unit {0}
OfModule (error.CountDiffers name first other) = Unit {0}
OfModule (error.IndexPast name index count) = Unit {0}
OfModule (error.NoIncrement name) = Unit {0}
OfModule (error.Limit which found) = Unit {0}
OfModule error.NoMemory = ⊥

-- what is said of a module that is not lowered: of a unit by the name that its global holds, else of the module's file
abbrev pub lower_line : List ℕ → LowerError → List ℕ
lower_line file (error.WrongKind found) = file ++ codes ": wrong kind " ++ kind_word found
lower_line file (error.HashDiffers name first other) = name ++ codes " hash " ++ decimal first ++ codes " differs from " ++ decimal other
lower_line file (error.CountDiffers name first other) = name ++ codes " has " ++ decimal first ++ codes " and " ++ decimal other ++ codes " counters"
lower_line file (error.IndexPast name index count) = name ++ codes " index " ++ decimal index ++ codes " of " ++ decimal count
lower_line file (error.NoIncrement name) = name ++ codes " has no increment"
lower_line file (error.Limit which found) = file ++ codes ": limit " ++ limit_name which ++ codes " " ++ decimal found
lower_line file error.NoMemory = []

-- a refusal of the code says this, unless memory ran out
abbrev pub SaysLowering : List ℕ → LowerError → Refusal → Type 0
SaysLowering file e (refusal.Text line) = OfModule e × (line.items ≡ lower_line file e)
SaysLowering file e refusal.NoMemory = ⊤
