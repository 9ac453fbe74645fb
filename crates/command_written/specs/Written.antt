-- What a command makes that writes one module.
use Rattle.std.specs.Prelude.{◌≡◌, [], ◌∷◌, None}
use Rattle.std.proofs.Common.{ap, sym, ◌∙◌}
use Rattle.canonical_text.specs.Canonical.{canonical}
use Rattle.ir_tree.specs.declared.types.Module.{Module}
use Rattle.pgo_shell.specs.Judgement.{Made, Whole, halt_of, making}

-- the canonical text of the module, in one file
abbrev pub module_made : Module → Made
module_made m = record { halted = None; output = []; written = canonical m ∷ [] }

abbrev pub ModuleMakes : Module → Made → Type 0
ModuleMakes m made = made ≡ module_made m

pub module_agrees : (m : Module) (a b : Made) → ModuleMakes m a → ModuleMakes m b → a.halted ≡ b.halted
module_agrees m a b p q = ap halt_of (p ∙ sym q)

-- no text is refused any more, and this module is written
abbrev pub writes : Module → Whole
writes m = making (ModuleMakes m) (module_agrees m)
