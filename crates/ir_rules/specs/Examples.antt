-- The rules at work: for each rule a module that breaks it alone, with its place, and one just inside.
use Rattle.std.specs.Prelude.{◌≡◌, ℕ, true, false, List, [], ◌∷◌, Option, Some, None, codes, refl}
use denote.Hole.Carrier
use Rattle.md5.specs.Md5.{md5, digest_bytes, hash_after, compress, rounds, block_words}
use Rattle.ir_rules.specs.AllRules.{all_broken, rules}
use Rattle.ir_rules.specs.Assigned.{is_before}
use Rattle.ir_rules.specs.Declarations.{is_increment, is_increment_step, is_lifetime, is_target_note, is_value_note, same_ty}
use Rattle.ir_rules.specs.Initialisers.{has_hash, is_record_name, is_unit_well}
use Rattle.ir_rules.specs.Intrinsics.{is_counter_total}
use Rattle.ir_rules.specs.Kinds.{declares_increments, declares_notes, is_unit_counters, is_unit_data, is_unit_name}
use Rattle.ir_rules.specs.Parts.{place, places}
use Rattle.ir_rules.specs.Reserved.{is_of_intrinsics, is_of_runtime, is_of_units, is_version}
use Rattle.ir_rules.specs.declared.place.Place.{Place}
use Rattle.ir_tree.specs.Blocks.{block_with}
use Rattle.ir_tree.specs.Functions.{is_profile_name, print_name}
use Rattle.ir_tree.specs.Reach.{reached}
use Rattle.ir_tree.specs.Spelling.{is_global_name, is_local_name, is_quotable}
use Rattle.ir_tree.specs.declared.types.BinOp.TheVariants as op
use Rattle.ir_tree.specs.declared.types.Block.{Block}
use Rattle.ir_tree.specs.declared.types.Flags.{Flags}
use Rattle.ir_tree.specs.declared.types.Function.{Function}
use Rattle.ir_tree.specs.declared.types.Global1.{Global1}
use Rattle.ir_tree.specs.declared.types.Init.{Init}
use Rattle.ir_tree.specs.declared.types.Init.TheBlock.{shape-the_row-Init-0, hidden-the_row-Init-0}
use Rattle.ir_tree.specs.declared.types.Init.TheVariants as init
use Rattle.ir_tree.specs.declared.types.Instr.{Instr}
use Rattle.ir_tree.specs.declared.types.Instr.TheVariants.{Binary, Phi, Gep, Call, Count, Freeze}
use Rattle.ir_tree.specs.declared.types.MemTy.{MemTy}
use Rattle.ir_tree.specs.declared.types.MemTy.TheVariants.{Scalar, Array}
use Rattle.ir_tree.specs.declared.types.MemTy.TheBlock.{shape-the_row-MemTy-0, hidden-the_row-MemTy-0}
use Rattle.ir_tree.specs.declared.types.Module.{Module}
use Rattle.ir_tree.specs.declared.types.Operand.{Operand}
use Rattle.ir_tree.specs.declared.types.Operand.TheVariants.{Int, Null, Local, Global}
use Rattle.ir_tree.specs.declared.types.Prof.{Prof}
use Rattle.ir_tree.specs.declared.types.Prof.TheVariants.{Weights}
use Rattle.ir_tree.specs.declared.types.Ret.TheVariants as ret
use Rattle.ir_tree.specs.declared.types.Term.{Term}
use Rattle.ir_tree.specs.declared.types.Term.TheVariants as term
use Rattle.ir_tree.specs.declared.types.Ty.{Ty}
use Rattle.ir_tree.specs.declared.types.Ty.TheVariants.{I1, I8, I32, I64, Ptr}

-- ---- parts

abbrev pub flags : Flags
flags = record { nuw = false; nsw = false; exact = false }

-- `%DEST = add i64 LEFT, RIGHT`
abbrev pub add : List ℕ → Operand → Operand → Instr
add dest left right = Binary dest op.Add flags I64 left right

abbrev pub block : List ℕ → List Instr → Term → Block
block label instrs t = block_with label instrs t

abbrev pub returns : Term
returns = term.Ret None

-- `declare void @NAME(TYPES)`
abbrev pub declared : List ℕ → List (Ty × List ℕ) → Function
declared name params = record { name = name; ret = ret.Void; params = params; blocks = []; prof = None }

-- `define void @NAME(i64 %a, i1 %c) { BLOCKS }`
abbrev pub defined : List ℕ → List Block → Function
defined name blocks = record { name = name; ret = ret.Void; params = (I64, codes "a") ∷ (I1, codes "c") ∷ []; blocks = blocks; prof = None }

abbrev pub entry : List Instr → Term → Block
entry instrs t = block (codes "entry") instrs t

-- a module of one function `f`
abbrev pub with_blocks : List Block → Module
with_blocks blocks = record { globals = []; functions = defined (codes "f") blocks ∷ [] }

-- of one block
abbrev pub with_instrs : List Instr → Term → Module
with_instrs instrs t = with_blocks (entry instrs t ∷ [])

abbrev pub of_functions : List Function → Module
of_functions functions = record { globals = []; functions = functions }

abbrev pub variable : List ℕ → MemTy → Init → Global1
variable name mem i = record { name = name; constant = false; mem = mem; init = i }

abbrev pub of_globals : List Global1 → Module
of_globals globals = record { globals = globals; functions = [] }

-- the module breaks this rule at this place, and no other
abbrev pub Breaks : Module → ℕ → Place → Type 0
Breaks m rule at = all_broken m ≡ (rule, at) ∷ []

abbrev pub IsFree : Module → Type 0
IsFree m = all_broken m ≡ []

-- ---- parts of profiles

-- the intrinsic for counters, and the runtime's function for call targets
abbrev pub increment : Function
increment = declared (codes "llvm.instrprof.increment") ((Ptr, []) ∷ (I64, []) ∷ (I32, []) ∷ (I32, []) ∷ [])

abbrev pub target_note : Function
target_note = declared (codes "__llvm_profile_instrument_target") ((I64, []) ∷ (Ptr, []) ∷ (I32, []) ∷ [])

-- `@NAME = constant [1 x i8] c"TEXT"`
abbrev pub unit_name : List ℕ → List ℕ → Global1
unit_name name text = record { name = name; constant = true; mem = Array 1 (Scalar I8); init = init.Bytes text }

-- `call void @llvm.instrprof.increment(ptr @__profn_f, i64 7, i32 COUNTERS, i32 0)`
abbrev pub increment_call : Operand → Instr
increment_call counters = Call None ret.Void (Global (codes "llvm.instrprof.increment")) ((Ptr, Global (codes "__profn_f")) ∷ (I64, Int 7) ∷ (I32, counters) ∷ (I32, Int 0) ∷ []) None

abbrev pub counting_calls : Instr → Module
counting_calls call = record { globals = unit_name (codes "__profn_f") (codes "f") ∷ []; functions = increment ∷ defined (codes "f") (entry (call ∷ []) returns ∷ []) ∷ [] }

-- ---- parts with several blocks

-- both ways of the branch of `entry` lead to `on`, whose phi has these entries
abbrev pub doubled : List (Operand × List ℕ) → Module
doubled entries = with_blocks (entry [] (term.CondBr (Local (codes "c")) (codes "on") (codes "on") None) ∷ block (codes "on") (Phi (codes "p") I64 entries ∷ []) returns ∷ [])

abbrev pub branching : Option Prof → Module
branching prof = with_blocks (entry [] (term.CondBr (Local (codes "c")) (codes "on") (codes "on") prof) ∷ block (codes "on") [] returns ∷ [])

-- `low` assigns `%b` and goes on to `done`, which uses it; the second way of the branch leads to this block
abbrev pub two_ways : List ℕ → Module
two_ways second =
    with_blocks (
    entry [] (term.CondBr (Local (codes "c")) (codes "low") second None)
    ∷ block (codes "low") (add (codes "b") (Local (codes "a")) (Int 1) ∷ []) (term.Br (codes "done"))
    ∷ block (codes "done") (add (codes "d") (Local (codes "b")) (Int 1) ∷ []) returns ∷ [])

-- `%i` counts round a loop, and the phi takes the sum at its end
abbrev pub looping : Module
looping =
    with_blocks (
    entry [] (term.Br (codes "head"))
    ∷ block (codes "head") (Phi (codes "i") I64 ((Int 0, codes "entry") ∷ (Local (codes "j"), codes "head") ∷ []) ∷ add (codes "j") (Local (codes "i")) (Int 1) ∷ []) (term.CondBr (Local (codes "c")) (codes "head") (codes "out") None)
    ∷ block (codes "out") [] returns ∷ [])

-- ---- the smallest modules

pub empty : IsFree (of_globals [])
unfolding all_broken rules places declares_increments declares_notes
empty = refl

pub returning : IsFree (with_instrs [] returns)
unfolding all_broken rules places declares_increments declares_notes is_global_name is_local_name is_quotable is_of_units is_of_runtime is_of_intrinsics is_profile_name print_name is_lifetime is_before reached
returning = refl

-- ---- rule 1: names

-- two functions `f`
pub names_break : Breaks (of_functions (defined (codes "f") (entry [] returns ∷ []) ∷ defined (codes "f") (entry [] returns ∷ []) ∷ [])) 1 (place 1 0 0)
unfolding all_broken rules places declares_increments declares_notes is_global_name is_local_name is_quotable is_of_units is_of_runtime is_of_intrinsics is_version is_profile_name print_name is_lifetime is_increment is_increment_step is_value_note is_target_note is_before reached same_ty is_unit_name is_unit_counters is_unit_data is_unit_well is_record_name is_counter_total shape-the_row-MemTy-0 hidden-the_row-MemTy-0 shape-the_row-Init-0 hidden-the_row-Init-0 Carrier.hidden
names_break = refl

-- digits alone are no name of a function, but of a block
pub names_hold : IsFree (of_functions (defined (codes "f") (block (codes "1") [] returns ∷ []) ∷ defined (codes "g") (entry [] returns ∷ []) ∷ []))
unfolding all_broken rules places declares_increments declares_notes is_global_name is_local_name is_quotable is_of_units is_of_runtime is_of_intrinsics is_version is_profile_name print_name is_lifetime is_increment is_increment_step is_value_note is_target_note is_before reached same_ty is_unit_name is_unit_counters is_unit_data is_unit_well is_record_name is_counter_total shape-the_row-MemTy-0 hidden-the_row-MemTy-0 shape-the_row-Init-0 hidden-the_row-Init-0 Carrier.hidden
names_hold = refl

-- a function is named as a global before it
pub names_break_at_a_global : Breaks (record { globals = variable (codes "f") (Scalar I8) init.Zero ∷ []; functions = defined (codes "f") (entry [] returns ∷ []) ∷ [] }) 1 (place 0 0 0)
unfolding all_broken rules places declares_increments declares_notes is_global_name is_local_name is_quotable is_of_units is_of_runtime is_of_intrinsics is_version is_profile_name print_name is_lifetime is_increment is_increment_step is_value_note is_target_note is_before reached same_ty is_unit_name is_unit_counters is_unit_data is_unit_well is_record_name is_counter_total shape-the_row-MemTy-0 hidden-the_row-MemTy-0 shape-the_row-Init-0 hidden-the_row-Init-0 Carrier.hidden
names_break_at_a_global = refl

-- ---- rule 2: one kind. A counted module with a function of the runtime has a reserved name too

pub kinds_break : all_broken (of_functions (increment ∷ target_note ∷ [])) ≡ (2, place 0 0 0) ∷ (3, place 1 0 0) ∷ []
unfolding all_broken rules places declares_increments declares_notes is_global_name is_local_name is_quotable is_of_units is_of_runtime is_of_intrinsics is_version is_profile_name print_name is_lifetime is_increment is_increment_step is_value_note is_target_note is_before reached same_ty is_unit_name is_unit_counters is_unit_data is_unit_well is_record_name is_counter_total shape-the_row-MemTy-0 hidden-the_row-MemTy-0 shape-the_row-Init-0 hidden-the_row-Init-0 Carrier.hidden
kinds_break = refl

pub kinds_hold : IsFree (of_functions (increment ∷ []))
unfolding all_broken rules places declares_increments declares_notes is_global_name is_local_name is_quotable is_of_units is_of_runtime is_of_intrinsics is_version is_profile_name print_name is_lifetime is_increment is_increment_step is_value_note is_target_note is_before reached same_ty is_unit_name is_unit_counters is_unit_data is_unit_well is_record_name is_counter_total shape-the_row-MemTy-0 hidden-the_row-MemTy-0 shape-the_row-Init-0 hidden-the_row-Init-0 Carrier.hidden
kinds_hold = refl

-- ---- rule 3: reserved names

-- in a plain module
pub reserved_breaks : Breaks (of_functions (defined (codes "f") (entry [] returns ∷ []) ∷ defined (codes "__profx") (entry [] returns ∷ []) ∷ [])) 3 (place 1 0 0)
unfolding all_broken rules places declares_increments declares_notes is_global_name is_local_name is_quotable is_of_units is_of_runtime is_of_intrinsics is_version is_profile_name print_name is_lifetime is_increment is_increment_step is_value_note is_target_note is_before reached same_ty is_unit_name is_unit_counters is_unit_data is_unit_well is_record_name is_counter_total shape-the_row-MemTy-0 hidden-the_row-MemTy-0 shape-the_row-Init-0 hidden-the_row-Init-0 Carrier.hidden
reserved_breaks = refl

pub reserved_holds : IsFree (of_functions (defined (codes "__pro") (entry [] returns ∷ []) ∷ []))
unfolding all_broken rules places declares_increments declares_notes is_global_name is_local_name is_quotable is_of_units is_of_runtime is_of_intrinsics is_version is_profile_name print_name is_lifetime is_increment is_increment_step is_value_note is_target_note is_before reached same_ty is_unit_name is_unit_counters is_unit_data is_unit_well is_record_name is_counter_total shape-the_row-MemTy-0 hidden-the_row-MemTy-0 shape-the_row-Init-0 hidden-the_row-Init-0 Carrier.hidden
reserved_holds = refl

-- a counted module may have the version of raw profiles
pub version_holds : IsFree (record { globals = variable (codes "__llvm_profile_raw_version") (Scalar I64) (init.Int 1) ∷ []; functions = increment ∷ [] })
unfolding all_broken rules places declares_increments declares_notes is_global_name is_local_name is_quotable is_of_units is_of_runtime is_of_intrinsics is_version is_profile_name print_name is_lifetime is_increment is_increment_step is_value_note is_target_note is_before reached same_ty is_unit_name is_unit_counters is_unit_data is_unit_well is_record_name is_counter_total shape-the_row-MemTy-0 hidden-the_row-MemTy-0 shape-the_row-Init-0 hidden-the_row-Init-0 Carrier.hidden
version_holds = refl

-- ---- rule 4: what the environment provides

pub declarations_break : Breaks (of_functions (declared (codes "print_i64") ((I32, []) ∷ []) ∷ [])) 4 (place 0 0 0)
unfolding all_broken rules places declares_increments declares_notes is_global_name is_local_name is_quotable is_of_units is_of_runtime is_of_intrinsics is_version is_profile_name print_name is_lifetime is_increment is_increment_step is_value_note is_target_note is_before reached same_ty is_unit_name is_unit_counters is_unit_data is_unit_well is_record_name is_counter_total shape-the_row-MemTy-0 hidden-the_row-MemTy-0 shape-the_row-Init-0 hidden-the_row-Init-0 Carrier.hidden
declarations_break = refl

pub declarations_hold : IsFree (of_functions (declared (codes "print_i64") ((I64, []) ∷ []) ∷ declared (codes "print_i6") ((I32, []) ∷ []) ∷ []))
unfolding all_broken rules places declares_increments declares_notes is_global_name is_local_name is_quotable is_of_units is_of_runtime is_of_intrinsics is_version is_profile_name print_name is_lifetime is_increment is_increment_step is_value_note is_target_note is_before reached same_ty is_unit_name is_unit_counters is_unit_data is_unit_well is_record_name is_counter_total shape-the_row-MemTy-0 hidden-the_row-MemTy-0 shape-the_row-Init-0 hidden-the_row-Init-0 Carrier.hidden
declarations_hold = refl

-- an intrinsic that is not known
pub intrinsics_are_four : Breaks (of_functions (increment ∷ declared (codes "llvm.instrprof.cover") ((Ptr, []) ∷ []) ∷ [])) 4 (place 1 0 0)
unfolding all_broken rules places declares_increments declares_notes is_global_name is_local_name is_quotable is_of_units is_of_runtime is_of_intrinsics is_version is_profile_name print_name is_lifetime is_increment is_increment_step is_value_note is_target_note is_before reached same_ty is_unit_name is_unit_counters is_unit_data is_unit_well is_record_name is_counter_total shape-the_row-MemTy-0 hidden-the_row-MemTy-0 shape-the_row-Init-0 hidden-the_row-Init-0 Carrier.hidden
intrinsics_are_four = refl

-- ---- rule 5: initialisers

-- a literal is too great for its type
pub initialisers_break : Breaks (of_globals (variable (codes "x") (Scalar I8) (init.Int 255) ∷ variable (codes "y") (Scalar I8) (init.Int 256) ∷ [])) 5 (place 0 0 1)
unfolding all_broken rules places declares_increments declares_notes is_global_name is_local_name is_quotable is_of_units is_of_runtime is_of_intrinsics is_version is_profile_name print_name is_lifetime is_increment is_increment_step is_value_note is_target_note is_before reached same_ty is_unit_name is_unit_counters is_unit_data is_unit_well is_record_name is_counter_total shape-the_row-MemTy-0 hidden-the_row-MemTy-0 shape-the_row-Init-0 hidden-the_row-Init-0 Carrier.hidden
initialisers_break = refl

pub initialisers_hold : IsFree (of_globals (variable (codes "x") (Scalar I8) (init.Int 255) ∷ variable (codes "y") (Scalar Ptr) (init.Symbol (codes "x")) ∷ []))
unfolding all_broken rules places declares_increments declares_notes is_global_name is_local_name is_quotable is_of_units is_of_runtime is_of_intrinsics is_version is_profile_name print_name is_lifetime is_increment is_increment_step is_value_note is_target_note is_before reached same_ty is_unit_name is_unit_counters is_unit_data is_unit_well is_record_name is_counter_total shape-the_row-MemTy-0 hidden-the_row-MemTy-0 shape-the_row-Init-0 hidden-the_row-Init-0 Carrier.hidden
initialisers_hold = refl

-- four bytes for an array of three
pub bytes_break : Breaks (of_globals (variable (codes "x") (Array 3 (Scalar I8)) (init.Bytes (1 ∷ 2 ∷ 3 ∷ 4 ∷ [])) ∷ [])) 5 (place 0 0 0)
unfolding all_broken rules places declares_increments declares_notes is_global_name is_local_name is_quotable is_of_units is_of_runtime is_of_intrinsics is_version is_profile_name print_name is_lifetime is_increment is_increment_step is_value_note is_target_note is_before reached same_ty is_unit_name is_unit_counters is_unit_data is_unit_well is_record_name is_counter_total shape-the_row-MemTy-0 hidden-the_row-MemTy-0 shape-the_row-Init-0 hidden-the_row-Init-0 Carrier.hidden
bytes_break = refl

pub bytes_hold : IsFree (of_globals (variable (codes "x") (Array 4 (Scalar I8)) (init.Bytes (1 ∷ 2 ∷ 3 ∷ 4 ∷ [])) ∷ []))
unfolding all_broken rules places declares_increments declares_notes is_global_name is_local_name is_quotable is_of_units is_of_runtime is_of_intrinsics is_version is_profile_name print_name is_lifetime is_increment is_increment_step is_value_note is_target_note is_before reached same_ty is_unit_name is_unit_counters is_unit_data is_unit_well is_record_name is_counter_total shape-the_row-MemTy-0 hidden-the_row-MemTy-0 shape-the_row-Init-0 hidden-the_row-Init-0 Carrier.hidden
bytes_hold = refl

-- two units of one name
pub units_break : Breaks (record { globals = unit_name (codes "__profn_f") (codes "f") ∷ unit_name (codes "__profn_g") (codes "f") ∷ []; functions = increment ∷ [] }) 5 (place 0 0 1)
unfolding all_broken rules places declares_increments declares_notes is_global_name is_local_name is_quotable is_of_units is_of_runtime is_of_intrinsics is_version is_profile_name print_name is_lifetime is_increment is_increment_step is_value_note is_target_note is_before reached same_ty is_unit_name is_unit_counters is_unit_data is_unit_well is_record_name is_counter_total shape-the_row-MemTy-0 hidden-the_row-MemTy-0 shape-the_row-Init-0 hidden-the_row-Init-0 Carrier.hidden
units_break = refl

pub units_hold : IsFree (record { globals = unit_name (codes "__profn_f") (codes "f") ∷ unit_name (codes "__profn_g") (codes "g") ∷ []; functions = increment ∷ [] })
unfolding all_broken rules places declares_increments declares_notes is_global_name is_local_name is_quotable is_of_units is_of_runtime is_of_intrinsics is_version is_profile_name print_name is_lifetime is_increment is_increment_step is_value_note is_target_note is_before reached same_ty is_unit_name is_unit_counters is_unit_data is_unit_well is_record_name is_counter_total shape-the_row-MemTy-0 hidden-the_row-MemTy-0 shape-the_row-Init-0 hidden-the_row-Init-0 Carrier.hidden
units_hold = refl

-- ---- rule 6: distinct names of a function

-- a result has a parameter's name
pub distinct_breaks : Breaks (with_instrs (add (codes "b") (Local (codes "a")) (Int 1) ∷ add (codes "a") (Local (codes "b")) (Int 1) ∷ []) returns) 6 (place 0 0 1)
unfolding all_broken rules places declares_increments declares_notes is_global_name is_local_name is_quotable is_of_units is_of_runtime is_of_intrinsics is_version is_profile_name print_name is_lifetime is_increment is_increment_step is_value_note is_target_note is_before reached same_ty is_unit_name is_unit_counters is_unit_data is_unit_well is_record_name is_counter_total shape-the_row-MemTy-0 hidden-the_row-MemTy-0 shape-the_row-Init-0 hidden-the_row-Init-0 Carrier.hidden
distinct_breaks = refl

pub distinct_holds : IsFree (with_instrs (add (codes "b") (Local (codes "a")) (Int 1) ∷ add (codes "d") (Local (codes "b")) (Int 1) ∷ []) returns)
unfolding all_broken rules places declares_increments declares_notes is_global_name is_local_name is_quotable is_of_units is_of_runtime is_of_intrinsics is_version is_profile_name print_name is_lifetime is_increment is_increment_step is_value_note is_target_note is_before reached same_ty is_unit_name is_unit_counters is_unit_data is_unit_well is_record_name is_counter_total shape-the_row-MemTy-0 hidden-the_row-MemTy-0 shape-the_row-Init-0 hidden-the_row-Init-0 Carrier.hidden
distinct_holds = refl

-- ---- rule 7: targets

-- to the first block
pub targets_break : Breaks (with_instrs [] (term.Br (codes "entry"))) 7 (place 0 0 0)
unfolding all_broken rules places declares_increments declares_notes is_global_name is_local_name is_quotable is_of_units is_of_runtime is_of_intrinsics is_version is_profile_name print_name is_lifetime is_increment is_increment_step is_value_note is_target_note is_before reached same_ty is_unit_name is_unit_counters is_unit_data is_unit_well is_record_name is_counter_total shape-the_row-MemTy-0 hidden-the_row-MemTy-0 shape-the_row-Init-0 hidden-the_row-Init-0 Carrier.hidden
targets_break = refl

pub targets_hold : IsFree (with_blocks (entry [] (term.Br (codes "on")) ∷ block (codes "on") [] (term.Br (codes "on")) ∷ []))
unfolding all_broken rules places declares_increments declares_notes is_global_name is_local_name is_quotable is_of_units is_of_runtime is_of_intrinsics is_version is_profile_name print_name is_lifetime is_increment is_increment_step is_value_note is_target_note is_before reached same_ty is_unit_name is_unit_counters is_unit_data is_unit_well is_record_name is_counter_total shape-the_row-MemTy-0 hidden-the_row-MemTy-0 shape-the_row-Init-0 hidden-the_row-Init-0 Carrier.hidden
targets_hold = refl

-- ---- rule 8: case values

pub cases_break : Breaks (with_blocks (entry [] (term.Switch I64 (Local (codes "a")) (codes "on") ((3, codes "on") ∷ (4, codes "on") ∷ (3, codes "on") ∷ []) None) ∷ block (codes "on") [] returns ∷ [])) 8 (place 0 0 0)
unfolding all_broken rules places declares_increments declares_notes is_global_name is_local_name is_quotable is_of_units is_of_runtime is_of_intrinsics is_version is_profile_name print_name is_lifetime is_increment is_increment_step is_value_note is_target_note is_before reached same_ty is_unit_name is_unit_counters is_unit_data is_unit_well is_record_name is_counter_total shape-the_row-MemTy-0 hidden-the_row-MemTy-0 shape-the_row-Init-0 hidden-the_row-Init-0 Carrier.hidden
cases_break = refl

pub cases_hold : IsFree (with_blocks (entry [] (term.Switch I64 (Local (codes "a")) (codes "on") ((3, codes "on") ∷ (4, codes "on") ∷ (5, codes "on") ∷ []) None) ∷ block (codes "on") [] returns ∷ []))
unfolding all_broken rules places declares_increments declares_notes is_global_name is_local_name is_quotable is_of_units is_of_runtime is_of_intrinsics is_version is_profile_name print_name is_lifetime is_increment is_increment_step is_value_note is_target_note is_before reached same_ty is_unit_name is_unit_counters is_unit_data is_unit_well is_record_name is_counter_total shape-the_row-MemTy-0 hidden-the_row-MemTy-0 shape-the_row-Init-0 hidden-the_row-Init-0 Carrier.hidden
cases_hold = refl

-- ---- rule 9: places of phis

-- behind another instruction
pub phis_break : Breaks (with_blocks (entry [] (term.Br (codes "on")) ∷ block (codes "on") (add (codes "b") (Int 1) (Int 1) ∷ Phi (codes "p") I64 ((Int 1, codes "entry") ∷ []) ∷ []) returns ∷ [])) 9 (place 0 1 1)
unfolding all_broken rules places declares_increments declares_notes is_global_name is_local_name is_quotable is_of_units is_of_runtime is_of_intrinsics is_version is_profile_name print_name is_lifetime is_increment is_increment_step is_value_note is_target_note is_before reached same_ty is_unit_name is_unit_counters is_unit_data is_unit_well is_record_name is_counter_total shape-the_row-MemTy-0 hidden-the_row-MemTy-0 shape-the_row-Init-0 hidden-the_row-Init-0 Carrier.hidden
phis_break = refl

pub phis_hold : IsFree (with_blocks (entry [] (term.Br (codes "on")) ∷ block (codes "on") (Phi (codes "p") I64 ((Int 1, codes "entry") ∷ []) ∷ add (codes "b") (Int 1) (Int 1) ∷ []) returns ∷ []))
unfolding all_broken rules places declares_increments declares_notes is_global_name is_local_name is_quotable is_of_units is_of_runtime is_of_intrinsics is_version is_profile_name print_name is_lifetime is_increment is_increment_step is_value_note is_target_note is_before reached same_ty is_unit_name is_unit_counters is_unit_data is_unit_well is_record_name is_counter_total shape-the_row-MemTy-0 hidden-the_row-MemTy-0 shape-the_row-Init-0 hidden-the_row-Init-0 Carrier.hidden
phis_hold = refl

-- ---- rule 10: entries of phis. Both ways of a branch lead to one block, which needs two entries of one value

pub entries_break : Breaks (doubled ((Int 1, codes "entry") ∷ [])) 10 (place 0 1 0)
unfolding all_broken rules places declares_increments declares_notes is_global_name is_local_name is_quotable is_of_units is_of_runtime is_of_intrinsics is_version is_profile_name print_name is_lifetime is_increment is_increment_step is_value_note is_target_note is_before reached same_ty is_unit_name is_unit_counters is_unit_data is_unit_well is_record_name is_counter_total shape-the_row-MemTy-0 hidden-the_row-MemTy-0 shape-the_row-Init-0 hidden-the_row-Init-0 Carrier.hidden
entries_break = refl

pub values_break : Breaks (doubled ((Int 1, codes "entry") ∷ (Int 2, codes "entry") ∷ [])) 10 (place 0 1 0)
unfolding all_broken rules places declares_increments declares_notes is_global_name is_local_name is_quotable is_of_units is_of_runtime is_of_intrinsics is_version is_profile_name print_name is_lifetime is_increment is_increment_step is_value_note is_target_note is_before reached same_ty is_unit_name is_unit_counters is_unit_data is_unit_well is_record_name is_counter_total shape-the_row-MemTy-0 hidden-the_row-MemTy-0 shape-the_row-Init-0 hidden-the_row-Init-0 Carrier.hidden
values_break = refl

pub entries_hold : IsFree (doubled ((Int 1, codes "entry") ∷ (Int 1, codes "entry") ∷ []))
unfolding all_broken rules places declares_increments declares_notes is_global_name is_local_name is_quotable is_of_units is_of_runtime is_of_intrinsics is_version is_profile_name print_name is_lifetime is_increment is_increment_step is_value_note is_target_note is_before reached same_ty is_unit_name is_unit_counters is_unit_data is_unit_well is_record_name is_counter_total shape-the_row-MemTy-0 hidden-the_row-MemTy-0 shape-the_row-Init-0 hidden-the_row-Init-0 Carrier.hidden
entries_hold = refl

-- ---- rule 11: operands exist

pub operands_break : Breaks (with_instrs (Freeze (codes "b") Ptr (Global (codes "g")) ∷ []) returns) 11 (place 0 0 0)
unfolding all_broken rules places declares_increments declares_notes is_global_name is_local_name is_quotable is_of_units is_of_runtime is_of_intrinsics is_version is_profile_name print_name is_lifetime is_increment is_increment_step is_value_note is_target_note is_before reached same_ty is_unit_name is_unit_counters is_unit_data is_unit_well is_record_name is_counter_total shape-the_row-MemTy-0 hidden-the_row-MemTy-0 shape-the_row-Init-0 hidden-the_row-Init-0 Carrier.hidden
operands_break = refl

pub operands_hold : IsFree (with_instrs (Freeze (codes "b") Ptr (Global (codes "f")) ∷ []) returns)
unfolding all_broken rules places declares_increments declares_notes is_global_name is_local_name is_quotable is_of_units is_of_runtime is_of_intrinsics is_version is_profile_name print_name is_lifetime is_increment is_increment_step is_value_note is_target_note is_before reached same_ty is_unit_name is_unit_counters is_unit_data is_unit_well is_record_name is_counter_total shape-the_row-MemTy-0 hidden-the_row-MemTy-0 shape-the_row-Init-0 hidden-the_row-Init-0 Carrier.hidden
operands_hold = refl

-- ---- rule 12: types

-- a literal of 33 bits at 32
pub types_break : Breaks (with_instrs (Freeze (codes "b") I32 (Int 4294967296) ∷ []) returns) 12 (place 0 0 0)
unfolding all_broken rules places declares_increments declares_notes is_global_name is_local_name is_quotable is_of_units is_of_runtime is_of_intrinsics is_version is_profile_name print_name is_lifetime is_increment is_increment_step is_value_note is_target_note is_before reached same_ty is_unit_name is_unit_counters is_unit_data is_unit_well is_record_name is_counter_total shape-the_row-MemTy-0 hidden-the_row-MemTy-0 shape-the_row-Init-0 hidden-the_row-Init-0 Carrier.hidden
types_break = refl

pub types_hold : IsFree (with_instrs (Freeze (codes "b") I32 (Int 4294967295) ∷ []) returns)
unfolding all_broken rules places declares_increments declares_notes is_global_name is_local_name is_quotable is_of_units is_of_runtime is_of_intrinsics is_version is_profile_name print_name is_lifetime is_increment is_increment_step is_value_note is_target_note is_before reached same_ty is_unit_name is_unit_counters is_unit_data is_unit_well is_record_name is_counter_total shape-the_row-MemTy-0 hidden-the_row-MemTy-0 shape-the_row-Init-0 hidden-the_row-Init-0 Carrier.hidden
types_hold = refl

-- an `i64` where an `i1` is wanted
pub operand_types_break : Breaks (with_instrs (add (codes "b") (Local (codes "c")) (Int 1) ∷ []) returns) 12 (place 0 0 0)
unfolding all_broken rules places declares_increments declares_notes is_global_name is_local_name is_quotable is_of_units is_of_runtime is_of_intrinsics is_version is_profile_name print_name is_lifetime is_increment is_increment_step is_value_note is_target_note is_before reached same_ty is_unit_name is_unit_counters is_unit_data is_unit_well is_record_name is_counter_total shape-the_row-MemTy-0 hidden-the_row-MemTy-0 shape-the_row-Init-0 hidden-the_row-Init-0 Carrier.hidden
operand_types_break = refl

-- a second index enters an array; there is no array in it
pub indices_break : Breaks (with_instrs (Gep (codes "b") false (Array 2 (Scalar I8)) Null ((I64, Int 0) ∷ (I32, Int 1) ∷ (I32, Int 1) ∷ []) ∷ []) returns) 12 (place 0 0 0)
unfolding all_broken rules places declares_increments declares_notes is_global_name is_local_name is_quotable is_of_units is_of_runtime is_of_intrinsics is_version is_profile_name print_name is_lifetime is_increment is_increment_step is_value_note is_target_note is_before reached same_ty is_unit_name is_unit_counters is_unit_data is_unit_well is_record_name is_counter_total shape-the_row-MemTy-0 hidden-the_row-MemTy-0 shape-the_row-Init-0 hidden-the_row-Init-0 Carrier.hidden
indices_break = refl

pub indices_hold : IsFree (with_instrs (Gep (codes "b") false (Array 2 (Scalar I8)) Null ((I64, Int 0) ∷ (I32, Int 1) ∷ []) ∷ []) returns)
unfolding all_broken rules places declares_increments declares_notes is_global_name is_local_name is_quotable is_of_units is_of_runtime is_of_intrinsics is_version is_profile_name print_name is_lifetime is_increment is_increment_step is_value_note is_target_note is_before reached same_ty is_unit_name is_unit_counters is_unit_data is_unit_well is_record_name is_counter_total shape-the_row-MemTy-0 hidden-the_row-MemTy-0 shape-the_row-Init-0 hidden-the_row-Init-0 Carrier.hidden
indices_hold = refl

-- ---- rule 13: calls

pub calls_break : Breaks (with_instrs (Call None ret.Void (Global (codes "f")) ((I64, Int 1) ∷ []) None ∷ []) returns) 13 (place 0 0 0)
unfolding all_broken rules places declares_increments declares_notes is_global_name is_local_name is_quotable is_of_units is_of_runtime is_of_intrinsics is_version is_profile_name print_name is_lifetime is_increment is_increment_step is_value_note is_target_note is_before reached same_ty is_unit_name is_unit_counters is_unit_data is_unit_well is_record_name is_counter_total shape-the_row-MemTy-0 hidden-the_row-MemTy-0 shape-the_row-Init-0 hidden-the_row-Init-0 Carrier.hidden
calls_break = refl

pub calls_hold : IsFree (with_instrs (Call None ret.Void (Global (codes "f")) ((I64, Int 1) ∷ (I1, Int 1) ∷ []) None ∷ []) returns)
unfolding all_broken rules places declares_increments declares_notes is_global_name is_local_name is_quotable is_of_units is_of_runtime is_of_intrinsics is_version is_profile_name print_name is_lifetime is_increment is_increment_step is_value_note is_target_note is_before reached same_ty is_unit_name is_unit_counters is_unit_data is_unit_well is_record_name is_counter_total shape-the_row-MemTy-0 hidden-the_row-MemTy-0 shape-the_row-Init-0 hidden-the_row-Init-0 Carrier.hidden
calls_hold = refl

-- a call that returns nothing has a result
pub void_results_break : Breaks (with_instrs (Call (Some (codes "b")) ret.Void (Global (codes "f")) ((I64, Int 1) ∷ (I1, Int 1) ∷ []) None ∷ []) returns) 13 (place 0 0 0)
unfolding all_broken rules places declares_increments declares_notes is_global_name is_local_name is_quotable is_of_units is_of_runtime is_of_intrinsics is_version is_profile_name print_name is_lifetime is_increment is_increment_step is_value_note is_target_note is_before reached same_ty is_unit_name is_unit_counters is_unit_data is_unit_well is_record_name is_counter_total shape-the_row-MemTy-0 hidden-the_row-MemTy-0 shape-the_row-Init-0 hidden-the_row-Init-0 Carrier.hidden
void_results_break = refl

-- ---- rule 14: returns

pub returns_break : Breaks (with_instrs [] (term.Ret (Some (I64, Local (codes "a"))))) 14 (place 0 0 0)
unfolding all_broken rules places declares_increments declares_notes is_global_name is_local_name is_quotable is_of_units is_of_runtime is_of_intrinsics is_version is_profile_name print_name is_lifetime is_increment is_increment_step is_value_note is_target_note is_before reached same_ty is_unit_name is_unit_counters is_unit_data is_unit_well is_record_name is_counter_total shape-the_row-MemTy-0 hidden-the_row-MemTy-0 shape-the_row-Init-0 hidden-the_row-Init-0 Carrier.hidden
returns_break = refl

pub returns_hold : IsFree (with_instrs [] (term.Ret None))
unfolding all_broken rules places declares_increments declares_notes is_global_name is_local_name is_quotable is_of_units is_of_runtime is_of_intrinsics is_version is_profile_name print_name is_lifetime is_increment is_increment_step is_value_note is_target_note is_before reached same_ty is_unit_name is_unit_counters is_unit_data is_unit_well is_record_name is_counter_total shape-the_row-MemTy-0 hidden-the_row-MemTy-0 shape-the_row-Init-0 hidden-the_row-Init-0 Carrier.hidden
returns_hold = refl

-- ---- rule 15: weights

pub weights_break : Breaks (branching (Some (Weights (1 ∷ 2 ∷ 3 ∷ [])))) 15 (place 0 0 0)
unfolding all_broken rules places declares_increments declares_notes is_global_name is_local_name is_quotable is_of_units is_of_runtime is_of_intrinsics is_version is_profile_name print_name is_lifetime is_increment is_increment_step is_value_note is_target_note is_before reached same_ty is_unit_name is_unit_counters is_unit_data is_unit_well is_record_name is_counter_total shape-the_row-MemTy-0 hidden-the_row-MemTy-0 shape-the_row-Init-0 hidden-the_row-Init-0 Carrier.hidden
weights_break = refl

pub weights_hold : IsFree (branching (Some (Weights (1 ∷ 2 ∷ []))))
unfolding all_broken rules places declares_increments declares_notes is_global_name is_local_name is_quotable is_of_units is_of_runtime is_of_intrinsics is_version is_profile_name print_name is_lifetime is_increment is_increment_step is_value_note is_target_note is_before reached same_ty is_unit_name is_unit_counters is_unit_data is_unit_well is_record_name is_counter_total shape-the_row-MemTy-0 hidden-the_row-MemTy-0 shape-the_row-Init-0 hidden-the_row-Init-0 Carrier.hidden
weights_hold = refl

-- ---- rule 16: assigned before use. `%b` is assigned on one of two ways to its use

pub walks_break : Breaks (two_ways (codes "done")) 16 (place 0 2 0)
unfolding all_broken rules places declares_increments declares_notes is_global_name is_local_name is_quotable is_of_units is_of_runtime is_of_intrinsics is_version is_profile_name print_name is_lifetime is_increment is_increment_step is_value_note is_target_note is_before reached same_ty is_unit_name is_unit_counters is_unit_data is_unit_well is_record_name is_counter_total shape-the_row-MemTy-0 hidden-the_row-MemTy-0 shape-the_row-Init-0 hidden-the_row-Init-0 Carrier.hidden
walks_break = refl

-- the use is behind the assignment alone
pub walks_hold : IsFree (two_ways (codes "low"))
unfolding all_broken rules places declares_increments declares_notes is_global_name is_local_name is_quotable is_of_units is_of_runtime is_of_intrinsics is_version is_profile_name print_name is_lifetime is_increment is_increment_step is_value_note is_target_note is_before reached same_ty is_unit_name is_unit_counters is_unit_data is_unit_well is_record_name is_counter_total shape-the_row-MemTy-0 hidden-the_row-MemTy-0 shape-the_row-Init-0 hidden-the_row-Init-0 Carrier.hidden
walks_hold = refl

-- a use before the assignment in the same block
pub order_breaks : Breaks (with_instrs (add (codes "b") (Local (codes "d")) (Int 1) ∷ add (codes "d") (Int 1) (Int 1) ∷ []) returns) 16 (place 0 0 0)
unfolding all_broken rules places declares_increments declares_notes is_global_name is_local_name is_quotable is_of_units is_of_runtime is_of_intrinsics is_version is_profile_name print_name is_lifetime is_increment is_increment_step is_value_note is_target_note is_before reached same_ty is_unit_name is_unit_counters is_unit_data is_unit_well is_record_name is_counter_total shape-the_row-MemTy-0 hidden-the_row-MemTy-0 shape-the_row-Init-0 hidden-the_row-Init-0 Carrier.hidden
order_breaks = refl

-- a block that nothing leads to may use its results in any order
pub unreachable_holds : IsFree (with_blocks (entry [] returns ∷ block (codes "dead") (add (codes "b") (Local (codes "d")) (Int 1) ∷ add (codes "d") (Local (codes "b")) (Int 1) ∷ []) (term.Br (codes "dead")) ∷ []))
unfolding all_broken rules places declares_increments declares_notes is_global_name is_local_name is_quotable is_of_units is_of_runtime is_of_intrinsics is_version is_profile_name print_name is_lifetime is_increment is_increment_step is_value_note is_target_note is_before reached same_ty is_unit_name is_unit_counters is_unit_data is_unit_well is_record_name is_counter_total shape-the_row-MemTy-0 hidden-the_row-MemTy-0 shape-the_row-Init-0 hidden-the_row-Init-0 Carrier.hidden
unreachable_holds = refl

-- a phi uses its value at the end of the block of its entry
pub phi_holds : IsFree looping
unfolding all_broken rules places declares_increments declares_notes is_global_name is_local_name is_quotable is_of_units is_of_runtime is_of_intrinsics is_version is_profile_name print_name is_lifetime is_increment is_increment_step is_value_note is_target_note is_before reached same_ty is_unit_name is_unit_counters is_unit_data is_unit_well is_record_name is_counter_total shape-the_row-MemTy-0 hidden-the_row-MemTy-0 shape-the_row-Init-0 hidden-the_row-Init-0 Carrier.hidden
phi_holds = refl

-- ---- rule 17: intrinsics

-- a unit has counters
pub intrinsics_break : Breaks (counting_calls (increment_call (Int 0))) 17 (place 1 0 0)
unfolding all_broken rules places declares_increments declares_notes is_global_name is_local_name is_quotable is_of_units is_of_runtime is_of_intrinsics is_version is_profile_name print_name is_lifetime is_increment is_increment_step is_value_note is_target_note is_before reached same_ty is_unit_name is_unit_counters is_unit_data is_unit_well is_record_name is_counter_total shape-the_row-MemTy-0 hidden-the_row-MemTy-0 shape-the_row-Init-0 hidden-the_row-Init-0 Carrier.hidden
intrinsics_break = refl

pub intrinsics_hold : IsFree (counting_calls (increment_call (Int 1)))
unfolding all_broken rules places declares_increments declares_notes is_global_name is_local_name is_quotable is_of_units is_of_runtime is_of_intrinsics is_version is_profile_name print_name is_lifetime is_increment is_increment_step is_value_note is_target_note is_before reached same_ty is_unit_name is_unit_counters is_unit_data is_unit_well is_record_name is_counter_total shape-the_row-MemTy-0 hidden-the_row-MemTy-0 shape-the_row-Init-0 hidden-the_row-Init-0 Carrier.hidden
intrinsics_hold = refl

-- ---- rule 18: counters and notes

-- `atomicrmw` in a plain module
pub counters_break : Breaks (with_instrs (Count (codes "c") 2 1 (Int 1) ∷ []) returns) 18 (place 0 0 0)
unfolding all_broken rules places declares_increments declares_notes is_global_name is_local_name is_quotable is_of_units is_of_runtime is_of_intrinsics is_version is_profile_name print_name is_lifetime is_increment is_increment_step is_value_note is_target_note is_before reached same_ty is_unit_name is_unit_counters is_unit_data is_unit_well is_record_name is_counter_total shape-the_row-MemTy-0 hidden-the_row-MemTy-0 shape-the_row-Init-0 hidden-the_row-Init-0 Carrier.hidden
counters_break = refl

-- a lowered module with one unit, of two counters and one site; the hash is the first 8 bytes of the MD5 of `f`
abbrev pub lowered : ℕ → Instr → Module
lowered told instr = record {
  globals =
      unit_name (codes "__profn_f") (codes "f")
      ∷ variable (codes "__profc_f") (Array 2 (Scalar I64)) init.Zero
      ∷ variable (codes "__profd_f") (Array 4 (Scalar I64)) (init.List (init.Int 14740650423002898831 ∷ init.Int 7 ∷ init.Int told ∷ init.Int 1 ∷ [])) ∷ [];
  functions = target_note ∷ defined (codes "f") (entry (instr ∷ []) returns ∷ []) ∷ [];
}

-- `call void @__llvm_profile_instrument_target(i64 %a, ptr @__profd_f, i32 SITE)`
abbrev pub note_of : ℕ → Instr
note_of site = Call None ret.Void (Global (codes "__llvm_profile_instrument_target")) ((I64, Local (codes "a")) ∷ (Ptr, Global (codes "__profd_f")) ∷ (I32, Int site) ∷ []) None

pub counters_hold : IsFree (lowered 2 (Count (codes "__profc_f") 2 1 (Int 1)))
unfolding all_broken rules places declares_increments declares_notes is_global_name is_local_name is_quotable is_of_units is_of_runtime is_of_intrinsics is_version is_profile_name print_name is_lifetime is_increment is_increment_step is_value_note is_target_note is_before reached same_ty is_unit_name is_unit_counters is_unit_data is_unit_well is_record_name is_counter_total shape-the_row-MemTy-0 hidden-the_row-MemTy-0 shape-the_row-Init-0 hidden-the_row-Init-0 Carrier.hidden has_hash md5 digest_bytes hash_after compress rounds block_words
counters_hold = refl

-- the index is that of no counter
pub indices_of_counters_break : Breaks (lowered 2 (Count (codes "__profc_f") 2 2 (Int 1))) 18 (place 1 0 0)
unfolding all_broken rules places declares_increments declares_notes is_global_name is_local_name is_quotable is_of_units is_of_runtime is_of_intrinsics is_version is_profile_name print_name is_lifetime is_increment is_increment_step is_value_note is_target_note is_before reached same_ty is_unit_name is_unit_counters is_unit_data is_unit_well is_record_name is_counter_total shape-the_row-MemTy-0 hidden-the_row-MemTy-0 shape-the_row-Init-0 hidden-the_row-Init-0 Carrier.hidden has_hash md5 digest_bytes hash_after compress rounds block_words
indices_of_counters_break = refl

pub notes_break : Breaks (lowered 2 (note_of 1)) 18 (place 1 0 0)
unfolding all_broken rules places declares_increments declares_notes is_global_name is_local_name is_quotable is_of_units is_of_runtime is_of_intrinsics is_version is_profile_name print_name is_lifetime is_increment is_increment_step is_value_note is_target_note is_before reached same_ty is_unit_name is_unit_counters is_unit_data is_unit_well is_record_name is_counter_total shape-the_row-MemTy-0 hidden-the_row-MemTy-0 shape-the_row-Init-0 hidden-the_row-Init-0 Carrier.hidden has_hash md5 digest_bytes hash_after compress rounds block_words
notes_break = refl

pub notes_hold : IsFree (lowered 2 (note_of 0))
unfolding all_broken rules places declares_increments declares_notes is_global_name is_local_name is_quotable is_of_units is_of_runtime is_of_intrinsics is_version is_profile_name print_name is_lifetime is_increment is_increment_step is_value_note is_target_note is_before reached same_ty is_unit_name is_unit_counters is_unit_data is_unit_well is_record_name is_counter_total shape-the_row-MemTy-0 hidden-the_row-MemTy-0 shape-the_row-Init-0 hidden-the_row-Init-0 Carrier.hidden has_hash md5 digest_bytes hash_after compress rounds block_words
notes_hold = refl

-- unequal numbers of counters break the rule at the counters
pub unequal_counters_break : Breaks (lowered 3 (note_of 0)) 5 (place 0 0 1)
unfolding all_broken rules places declares_increments declares_notes is_global_name is_local_name is_quotable is_of_units is_of_runtime is_of_intrinsics is_version is_profile_name print_name is_lifetime is_increment is_increment_step is_value_note is_target_note is_before reached same_ty is_unit_name is_unit_counters is_unit_data is_unit_well is_record_name is_counter_total shape-the_row-MemTy-0 hidden-the_row-MemTy-0 shape-the_row-Init-0 hidden-the_row-Init-0 Carrier.hidden has_hash md5 digest_bytes hash_after compress rounds block_words
unequal_counters_break = refl
