-- Rule 18. Counters are counted and targets are noted in a lowered module alone. `atomicrmw` names the counters of a unit with
-- their number, and one of them; a note names the data of a unit and one of its sites.
use Rattle.std.specs.Prelude.{ℕ, Bool, true, false, ◌&&◌, nat_lt, if◌then◌else◌, List, [], ◌∷◌}
use Rattle.std.specs.List.{list_any}
use Rattle.ir_rules.specs.Declarations.{is_target_note}
use Rattle.ir_rules.specs.Intrinsics.{is_number}
use Rattle.ir_rules.specs.Kinds.{is_lowered_kind, is_unit_counters, is_unit_data, kind_of}
use Rattle.ir_rules.specs.Parts.{Rule, places, silent}
use Rattle.ir_rules.specs.Units.{is_i64, is_some_length, length_of, sites_of}
use Rattle.ir_rules.specs.declared.place.Place.{Place}
use Rattle.ir_tree.specs.Names.{same}
use Rattle.ir_tree.specs.Operands.{Use}
use Rattle.ir_tree.specs.declared.types.Global1.{Global1}
use Rattle.ir_tree.specs.declared.types.Instr.{Instr}
use Rattle.ir_tree.specs.declared.types.Instr.TheVariants.{Binary, Compare, Convert, Freeze, Select, Phi, Alloca, Load, Store, Gep, Call, Count}
use Rattle.ir_tree.specs.declared.types.Module.{Module}
use Rattle.ir_tree.specs.declared.types.Operand.{Operand}
use Rattle.ir_tree.specs.declared.types.Operand.TheVariants.{Int, Null, Local, Global}

-- the counters of a unit, of this number
abbrev pub has_counters : Module → List ℕ → ℕ → Bool
has_counters m name size = is_unit_counters name && list_any (λ (g : Global1). same name g.name && is_some_length size (length_of is_i64 g.mem)) m.globals

-- the data of a unit that has more than so many sites
abbrev pub has_site : Module → List ℕ → ℕ → Bool
has_site m name site = is_unit_data name && list_any (λ (g : Global1). same name g.name && nat_lt site (sites_of g)) m.globals

abbrev pub names_site_of : Module → Operand → Operand → Bool
names_site_of m (Int value) site = false
names_site_of m Null site = false
names_site_of m (Local name) site = false
names_site_of m (Global name) site = is_number (has_site m name) site

-- the arguments of a note; where their number is another one the call breaks the rule on calls
abbrev pub notes_well : Module → List Use → Bool
notes_well m [] = true
notes_well m (a ∷ []) = true
notes_well m (a ∷ b ∷ []) = true
notes_well m (target ∷ unit ∷ site ∷ []) = names_site_of m unit.1 site.1
notes_well m (a ∷ b ∷ c ∷ d ∷ more) = true

abbrev pub calls_note_well : Module → Operand → List Use → Bool
calls_note_well m (Int value) args = true
calls_note_well m Null args = true
calls_note_well m (Local name) args = true
calls_note_well m (Global name) args = if is_target_note name then notes_well m args else true

abbrev pub is_counted_well : Module → Instr → Bool
is_counted_well m (Binary dest op flags ty left right) = true
is_counted_well m (Compare dest pred ty left right) = true
is_counted_well m (Convert dest op flags from value to) = true
is_counted_well m (Freeze dest ty value) = true
is_counted_well m (Select dest cond ty first second prof) = true
is_counted_well m (Phi dest ty entries) = true
is_counted_well m (Alloca dest mem) = true
is_counted_well m (Load dest ty address) = true
is_counted_well m (Store ty value address) = true
is_counted_well m (Gep dest inbounds mem address indices) = true
is_counted_well m (Call dest ret callee args prof) = calls_note_well m callee args
is_counted_well m (Count symbol size index step) = is_lowered_kind (kind_of m.functions) && (nat_lt index size && has_counters m symbol size)

abbrev pub counting : Module → Rule
counting m = record silent { item = λ f b block i x. is_counted_well m x }

abbrev pub breaks_18 : Module → List Place
breaks_18 m = places (counting m) m
