-- The globals of a unit, by what the table of units tells of it.
use Rattle.std.specs.Prelude.{ℕ, false, List, [], ◌∷◌, unwrap_or}
use Rattle.ir_tree.specs.declared.types.Global1.{Global1}
use Rattle.ir_tree.specs.declared.types.Init.{Init}
use Rattle.ir_tree.specs.declared.types.MemTy.{MemTy, Array', end_of-MemTy, more_of-MemTy}
use Rattle.ir_tree.specs.declared.types.MemTy.TheVariants.{Scalar}
use Rattle.ir_tree.specs.declared.types.Ty.TheVariants.{I64}
use Rattle.lower_units.specs.declared.told.Told.{Told}
use Rattle.lowering.specs.Units as spec
use Rattle.lowering.specs.Units.{counters_global, data_symbol, name_held}
use Rattle.pgo_base.specs.Hash.{hash8}

abbrev pub words : ℕ → MemTy
words count = Array' count _ (more_of-MemTy (Scalar I64) end_of-MemTy)

-- the global of a unit's data, which it holds at first
abbrev pub data_global : List ℕ → Init → Global1
data_global symbol init = record { name = data_symbol symbol; constant = false; mem = words 4; init = init }

abbrev pub told_globals : Global1 → Told → List Global1
told_globals g told =
    counters_global g.name (unwrap_or told.counters 0)
    ∷ spec.data_global g.name (hash8 (name_held g)) told.hash (unwrap_or told.counters 0) told.sites
    ∷ []
