-- What is read from the canonical text of a module that some text spells.
use Rattle.std.specs.Prelude.{◌≡◌, ℕ, ◌≤◌, List, length}
use Rattle.ir_tree.specs.declared.types.Module.{Module}
use Rattle.ir_read.specs.Spelled.{SpellsText, Refuses, most_bytes}
use Rattle.ir_read.specs.declared.error.ReadError.TheVariants.{Syntax, TextLimit}
use Rattle.canonical_text.specs.Canonical.{canonical}

-- The canonical text of a module that some text spells is read as this module and as no other, and is refused for no syntax,
-- nor, where it keeps the limit of a text, for its length.
pub record PrintedIsRead : Type 0 where
  pub spells : (text : List ℕ) (m : Module) → SpellsText text m → SpellsText (canonical m) m
  pub once : (text : List ℕ) (m n : Module) → SpellsText text m → SpellsText (canonical m) n → m ≡ n
  pub no_syntax : (text : List ℕ) (m : Module) (at : ℕ) → SpellsText text m → Refuses (canonical m) (Syntax at) → ⊥
  pub no_limit : (m : Module) (found : ℕ) → length (canonical m) ≤ most_bytes → Refuses (canonical m) (TextLimit found) → ⊥
