-- What holds of the canonical text of each module that some text spells.
use Rattle.std.specs.Prelude.{◌≡◌, ℕ, List}
use Rattle.ir_lex.specs.Tokens.{Token}
use Rattle.ir_lex.specs.Meaning.{Lexes}
use Rattle.ir_tree.specs.declared.types.Module.{Module}
use Rattle.ir_grammar.specs.Grammar.{Spells}
use Rattle.canonical_text.specs.Canonical.{canonical}
use Rattle.spellable.specs.Modules.{IsSpellable}
use Rattle.spellable.specs.Lines.{AllRead}

-- The text spells the module: it is cut into tokens, and these spell the module by the grammar.
abbrev pub SpellsText : List ℕ → Module → Type 0
SpellsText text m = (ts : List Token) × (Lexes text ts × Spells ts m)

-- The canonical text of a module whose parts are spellable spells the module.
abbrev pub CanonicalSpells : Type 0
CanonicalSpells = (m : Module) → IsSpellable m → SpellsText (canonical m) m

-- Each part of a module that some text spells is spellable.
abbrev pub SpelledIsSpellable : Type 0
SpelledIsSpellable = (text : List ℕ) (m : Module) → SpellsText text m → IsSpellable m

-- The canonical text of a module that some text spells spells it too.
abbrev pub PrintedSpells : Type 0
PrintedSpells = (text : List ℕ) (m : Module) → SpellsText text m → SpellsText (canonical m) m

-- The names of the tokens of a text are such as are spelled.
abbrev pub NamesAreRead : Type 0
NamesAreRead = (text : List ℕ) (ts : List Token) → Lexes text ts → AllRead ts

-- The canonical text of a module that some text spells spells this module and no other, so that what is read from it is the
-- module again.
abbrev pub PrintedOnce : Type 0
PrintedOnce = (text : List ℕ) (m n : Module) → SpellsText text m → SpellsText (canonical m) n → n ≡ m
