-- The module that counts a plain module that some text spells is read back from its own text.
use Rattle.std.specs.Prelude.{◌≡◌, ℕ, ◌<◌, ◌^◌, Bool, false, List, length}
use Rattle.canonical_text.specs.Canonical.{canonical}
use Rattle.gen_plan.specs.Gen.{counted}
use Rattle.ir_rules.specs.Accepted.{IsAccepted}
use Rattle.ir_rules.specs.Kinds.{kind_of}
use Rattle.ir_rules.specs.Lists.{Among}
use Rattle.ir_rules.specs.declared.place.Kind.TheVariants.{Plain}
use Rattle.ir_tree.specs.Functions.{is_declared}
use Rattle.ir_tree.specs.declared.types.Function.{Function}
use Rattle.ir_tree.specs.declared.types.Module.{Module}
use Rattle.printed_spells.specs.Laws.{SpellsText}
use Rattle.spellable.specs.Modules.{IsSpellable}

-- the name of each defined function has so few bytes that a text can tell how many, as the dimension of an array: each name in
-- memory has
abbrev pub HaveShortNames : List Function → Type 0
HaveShortNames fs = (f : Function) → Among f fs → is_declared f ≡ false → length f.name < 2 ^ 64

-- its parts are spellable where those of the plain module are
abbrev pub PartsAreSpellable : Type 0
PartsAreSpellable = (entry_first : Bool) (m : Module) → IsAccepted m → kind_of m.functions ≡ Plain → HaveShortNames m.functions → IsSpellable m → IsSpellable (counted entry_first m)

-- its canonical text spells it
abbrev pub CanonicalSpellsCounted : Type 0
CanonicalSpellsCounted = (entry_first : Bool) (text : List ℕ) (m : Module) → SpellsText text m → IsAccepted m → kind_of m.functions ≡ Plain → HaveShortNames m.functions → SpellsText (canonical (counted entry_first m)) (counted entry_first m)

-- and no other module
abbrev pub SpellsCountedAlone : Type 0
SpellsCountedAlone = (entry_first : Bool) (text : List ℕ) (m n : Module) → SpellsText text m → IsAccepted m → kind_of m.functions ≡ Plain → HaveShortNames m.functions → SpellsText (canonical (counted entry_first m)) n → n ≡ counted entry_first m
