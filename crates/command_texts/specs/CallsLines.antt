-- The lines that say why a calls text is refused.
use Rattle.std.specs.Prelude.{ℕ, List, [], ◌++◌, codes, decimal}
use Rattle.call_list.specs.declared.error.CallsError.{CallsError}
use Rattle.call_list.specs.declared.error.CallsError.TheVariants as errors

-- an answer that the calls text itself gives, and not want of memory
abbrev pub OfText : CallsError → Type 0
OfText (errors.BadLine n) = Unit {0}
OfText (errors.NoFunction n) = Unit {0}
OfText (errors.BadArgs n) = Unit {0}
OfText (errors.TooMany n) = Unit {0}
OfText (errors.TextLimit n) = Unit {0}
OfText errors.NoMemory = ⊥

-- what is said of a calls text that is refused
abbrev pub calls_line : List ℕ → CallsError → List ℕ
calls_line file (errors.BadLine n) = file ++ codes ": bad line " ++ decimal n
calls_line file (errors.NoFunction n) = file ++ codes ": no function in line " ++ decimal n
calls_line file (errors.BadArgs n) = file ++ codes ": bad arguments in line " ++ decimal n
calls_line file (errors.TooMany n) = file ++ codes ": too many calls"
calls_line file (errors.TextLimit n) = file ++ codes ": too long"
calls_line file errors.NoMemory = []
