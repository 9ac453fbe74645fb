-- The rules on what counts, as they are checked: the global variable that a name finds, and the rule of an instruction.
use Rattle.std.specs.Prelude.{ℕ, Bool, true, false, ◌==◌, ◌≤◌, nat_lt, if◌then◌else◌, List, Option, None, Some, slice_get}
use Rattle.std.specs.Option.{option_and_then}
use Rattle.check_counting.specs.declared.walk.Checked.{Checked}
use Rattle.check_counting.specs.declared.walk.Checked.TheVariants.{Intrinsics, Counters}
use Rattle.ir_rules.specs.Counting.{counting, has_site, is_counted_well}
use Rattle.ir_rules.specs.Declarations.{is_increment, is_increment_step, is_value_note}
use Rattle.ir_rules.specs.Intrinsics.{counts_well, intrinsics, is_number, names_counter, names_site}
use Rattle.ir_rules.specs.Lists.{times}
use Rattle.ir_rules.specs.Parts.{Rule, place, unless}
use Rattle.ir_rules.specs.Scopes.{symbols}
use Rattle.ir_rules.specs.Units.{is_i64, is_some_length, length_of, sites_of}
use Rattle.ir_rules.specs.declared.place.Place.{Place}
use Rattle.ir_tree.specs.Names.{Indexes, first_place}
use Rattle.ir_tree.specs.Operands.{Use}
use Rattle.ir_tree.specs.declared.index.Index.{Index}
use Rattle.ir_tree.specs.declared.types.Block.{Block}
use Rattle.ir_tree.specs.declared.types.Global1.{Global1}
use Rattle.ir_tree.specs.declared.types.Instr.{Instr}
use Rattle.ir_tree.specs.declared.types.Module.{Module}
use Rattle.ir_tree.specs.declared.types.Operand.{Operand}
use Rattle.ir_tree.specs.declared.types.Operand.TheVariants.{Int, Null, Local, Global}
use Rattle.spec_lists.specs.Each.{each}

-- ---- the rules

abbrev pub keeps : Checked → Module → Instr → Bool
keeps Intrinsics m x = counts_well m x
keeps Counters m x = is_counted_well m x

abbrev pub rule : Checked → Module → Rule
rule Intrinsics m = intrinsics m
rule Counters m = counting m

-- the instructions of block b that fail
abbrev pub item_places : (Instr → Bool) → ℕ → ℕ → Block → List Place
item_places test k b block = each (λ i x. unless (test x) (place k b i)) 0 block.instrs

-- ---- names

-- the index has the symbols of a module, which stand once
pub record IsScope (index : Index) (m : Module) : Type 0 where
  pub indexed : Indexes index (symbols m)
  pub once : (n : List ℕ) → times n (symbols m) ≤ 1

-- the global variable of a name, by its place among the symbols
abbrev pub variable_of : Index → List Global1 → List ℕ → Option Global1
variable_of index globals name = option_and_then (slice_get globals) (first_place index name)

abbrev pub if_any : (Global1 → Bool) → Option Global1 → Bool
if_any test None = false
if_any test (Some g) = test g

-- so many counters
abbrev pub has_length : ℕ → Global1 → Bool
has_length size g = is_some_length size (length_of is_i64 g.mem)

-- more than so many sites
abbrev pub has_more : ℕ → Global1 → Bool
has_more site g = nat_lt site (sites_of g)

-- ---- arguments

abbrev pub number_of : Operand → Option ℕ
number_of (Int value) = Some value
number_of Null = None
number_of (Local name) = None
number_of (Global name) = None

abbrev pub is_target_kind : Operand → Bool
is_target_kind o = is_number (λ value. value == 0) o

abbrev pub is_site : Operand → Bool
is_site o = is_number (λ value. nat_lt value 65536) o

abbrev pub is_site_of : Module → List ℕ → Operand → Bool
is_site_of m name o = is_number (has_site m name) o

-- a call with four arguments, and one with five
abbrev pub of_four : Module → List ℕ → Use → Use → Use → Use → Bool
of_four m name unit hash counters index = if is_increment name then names_counter m unit hash counters index else true

abbrev pub of_five : Module → List ℕ → Use → Use → Use → Use → Use → Bool
of_five m name unit second third fourth fifth =
    if is_increment_step name then names_counter m unit second third fourth
    else if is_value_note name then names_site m unit second fourth fifth
    else true
