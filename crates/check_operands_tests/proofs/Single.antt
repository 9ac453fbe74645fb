-- A module of one function that is defined is plain.
use Rattle.std.proofs.Common.{◌≡◌, ℕ, Bool, false, ◌&&◌, ◌||◌, if◌then◌else◌, List, [], ◌∷◌, sym, ap, ◌∙◌, codes}
use Rattle.std.specs.List.{list_any}
use Rattle.check_operands_tests.specs.Alone.{IsAlone}
use Rattle.ir_rules.specs.Kinds.{declares, declares_increments, declares_notes, kind_of}
use Rattle.ir_rules.specs.declared.place.Kind.{Kind}
use Rattle.ir_rules.specs.declared.place.Kind.TheVariants.{Plain, Counted, Lowered}
use Rattle.ir_tree.specs.Functions.{is_declared}
use Rattle.ir_tree.specs.Names.{same}
use Rattle.ir_tree.specs.declared.types.Function.{Function}
use Rattle.ir_tree.specs.declared.types.Module.{Module}

undeclared : (f : Function) (name : List ℕ) → is_declared f ≡ false → list_any (declares name) (f ∷ []) ≡ false
undeclared f name h = λ i. (h i && same f.name name) || false

pub plain : (m : Module) (f : Function) → IsAlone m f → is_declared f ≡ false → Plain ≡ kind_of m.functions
unfolding declares_increments declares_notes
plain m f alone h =
    let increments : list_any (declares (codes "llvm.instrprof.increment")) (f ∷ []) ≡ false = undeclared f (codes "llvm.instrprof.increment") h in
    let notes : list_any (declares (codes "__llvm_profile_instrument_target")) (f ∷ []) ≡ false = undeclared f (codes "__llvm_profile_instrument_target") h in
    sym (ap kind_of alone.only ∙ (λ i. if increments i then Counted else (if notes i then Lowered else Plain)))
