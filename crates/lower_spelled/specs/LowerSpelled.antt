-- The lowered form of a module that some text spells is read back from its own text.
use Rattle.std.specs.Prelude.{◌≡◌, ℕ, List}
use Rattle.canonical_text.specs.Canonical.{canonical}
use Rattle.ir_tree.specs.declared.types.Module.{Module}
use Rattle.lowered_rules.specs.Kept.{IsLowerable}
use Rattle.lowering.specs.Lowered.{lowered}
use Rattle.printed_spells.specs.Laws.{SpellsText}
use Rattle.spellable.specs.Modules.{IsSpellable}

-- its parts are spellable where those of the module are
abbrev pub LoweredPartsAreSpellable : Type 0
LoweredPartsAreSpellable = (m : Module) → IsLowerable m → IsSpellable m → IsSpellable (lowered m)

-- its canonical text spells it
abbrev pub CanonicalSpellsLowered : Type 0
CanonicalSpellsLowered = (text : List ℕ) (m : Module) → SpellsText text m → IsLowerable m → SpellsText (canonical (lowered m)) (lowered m)

-- and no other module
abbrev pub SpellsLoweredAlone : Type 0
SpellsLoweredAlone = (text : List ℕ) (m n : Module) → SpellsText text m → IsLowerable m → SpellsText (canonical (lowered m)) n → n ≡ lowered m
