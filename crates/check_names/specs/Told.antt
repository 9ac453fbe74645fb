-- What the globals of a profile tell of a unit, by the look-up of a name.
use Rattle.std.specs.Prelude.{ℕ, Bool, ◌&&◌, ◌++◌, List, [], ◌∷◌, codes, Option, None, Some}
use Rattle.std.specs.List.{list_any}
use Rattle.std.specs.Option.{option_map}
use Rattle.check_names.specs.declared.unit.Cell.{Cell}
use Rattle.check_names.specs.declared.unit.Cell.TheVariants.{Byte, Word}
use Rattle.ir_rules.specs.Initialisers.{has_hash}
use Rattle.ir_rules.specs.Intrinsics.{is_counter_total}
use Rattle.ir_rules.specs.Units.{Data, in_front, is_i64, is_i8, literal_of, text_of}
use Rattle.ir_tree.specs.Names.{same}
use Rattle.ir_tree.specs.declared.types.Global1.{Global1}
use Rattle.ir_tree.specs.declared.types.Init.{Init}
use Rattle.ir_tree.specs.declared.types.Module.{Module}
use Rattle.ir_tree.specs.declared.types.Ty.{Ty}

-- the cells of an array that holds bytes, or words of 64 bits
abbrev pub is_cell : Cell → Ty → Bool
is_cell Byte ty = is_i8 ty
is_cell Word ty = is_i64 ty

-- the hash of a unit's name and its number of counters, by its data
abbrev pub told : Option Data → Option (ℕ × ℕ)
told o = option_map (λ (d : Data). (d.name_hash, d.counters)) o

-- so many counters may a unit have, and its name has the hash
abbrev pub tells : Module → List ℕ → ℕ → ℕ → Bool
tells m unit hash counters = is_counter_total counters && list_any (λ (g : Global1). same (codes "__profn_" ++ unit) g.name && has_hash hash (text_of g)) m.globals

abbrev pub literals_in_list : List Init → Option (List ℕ)
literals_in_list [] = Some []
literals_in_list (i ∷ is) = in_front (literal_of i) (literals_in_list is)

-- the first and third of four literals, where each is one
abbrev pub told_by : Option ℕ → Option ℕ → Option ℕ → Option ℕ → Option (ℕ × ℕ)
told_by None b c d = None
told_by (Some x) None c d = None
told_by (Some x) (Some y) None d = None
told_by (Some x) (Some y) (Some z) None = None
told_by (Some hash) (Some y) (Some counters) (Some s) = Some (hash, counters)
