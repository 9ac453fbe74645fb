use Rattle.std.specs.Prelude.{◌≡◌, ℕ, ◌<◌, ◌≤◌, List, length}
use Rattle.ir_lex.specs.Tokens.{Token}
use Rattle.ir_lex.specs.Meaning.{Lexes}
use Rattle.ir_grammar.specs.Grammar.{Spells}
use Rattle.ir_tree.specs.declared.types.Module.{Module}
use Rattle.ir_read.specs.declared.error.ReadError.{ReadError}
use Rattle.ir_read.specs.declared.error.ReadError.TheVariants.{Syntax, TextLimit, NoMemory}

-- The text spells the module: it is cut into tokens, and these spell the module by the grammar.
abbrev pub SpellsText : List ℕ → Module → Type 0
SpellsText text m = (ts : List Token) × (Lexes text ts × Spells ts m)

-- a text spells one module at most
abbrev pub OneModule : Type 0
OneModule = (text : List ℕ) (m n : Module) → SpellsText text m → SpellsText text n → m ≡ n

-- the most bytes that a text has
abbrev pub most_bytes : ℕ
most_bytes = 16777216

-- the refusal has its cause
abbrev pub Refuses : List ℕ → ReadError → Type 0
Refuses text (Syntax at) = (at ≤ length text) × (length text ≤ most_bytes) × ((m : Module) → SpellsText text m → ⊥)
Refuses text (TextLimit found) = (found ≡ length text) × (most_bytes < length text)
Refuses text NoMemory = Unit {0}
