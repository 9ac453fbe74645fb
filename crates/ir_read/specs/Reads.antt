use Rattle.std.specs.Prelude.{◌≡◌, List, Option, None, Some, Result, Ok, Err}
use Rattle.ir_lex.specs.Tokens.{Token}
use Rattle.ir_read.specs.declared.stop.Stop.{Stop}
use Rattle.ir_read.specs.declared.stop.Stop.TheVariants.{Syntax, NoMemory}
use Rattle.ir_read.specs.Ahead.{Ahead}

-- The result is what a rule reads from the tokens ahead, and those behind it are left. `Syntax` is answered where the
-- rule reads nothing, and then what is left is open, as after want of memory.
abbrev pub Reads : {A : Type 0} → Result A Stop → Ahead → Ahead → (List Token → Option (A × List Token)) → Type 0
Reads (Ok x) old new read = (read old.tokens ≡ Some (x, new.tokens)) × (new.whole ≡ old.whole)
Reads (Err Syntax) old new read = read old.tokens ≡ None
Reads (Err NoMemory) old new read = Unit {0}
