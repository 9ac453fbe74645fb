-- The well-formed module: what all rules together come to, with no place and no look-up in it. Names are counted, operands are
-- among what is known, registers are held along walks.
use Rattle.std.specs.Prelude.{◌≡◌, ℕ, ◌≤◌, Bool, true, false, not, ◌||◌, cond, List, [], ◌∷◌, drop, Option, None, Some}
use Rattle.std.specs.List.{list_all}
use Rattle.ir_rules.specs.Calling.{arg_types, may_name}
use Rattle.ir_rules.specs.Counting.{is_counted_well}
use Rattle.ir_rules.specs.Declarations.{is_declared_well}
use Rattle.ir_rules.specs.Existing.{calls_profile}
use Rattle.ir_rules.specs.Initialisers.{holds_counters_well, holds_data_well, initialises, is_external, is_record_name, names_in, unit_texts}
use Rattle.ir_rules.specs.Intrinsics.{counts_well}
use Rattle.ir_rules.specs.Kinds.{is_unit_counters, is_unit_data, is_unit_name, kind_of}
use Rattle.ir_rules.specs.Lists.{Among, are_apart, times}
use Rattle.ir_rules.specs.Naming.{are_param_names, has_result_name}
use Rattle.ir_rules.specs.OneKind.{is_of_one_kind}
use Rattle.ir_rules.specs.PhiEntries.{positions, tails}
use Rattle.ir_rules.specs.Reserved.{is_reserved_function, is_reserved_variable}
use Rattle.ir_rules.specs.Returning.{returns_well}
use Rattle.ir_rules.specs.Scopes.{is_of_profile, is_program_symbol, names, signatures, symbols, term_reads, values}
use Rattle.ir_rules.specs.Typing.{is_typed, is_typed_term}
use Rattle.ir_rules.specs.Units.{text_of}
use Rattle.ir_rules.specs.Walks.{AtHead, Joined, Ready}
use Rattle.ir_rules.specs.Weighing.{has_entries, is_weighed, is_weighed_term}
use Rattle.ir_tree.specs.Blocks.{labels}
use Rattle.ir_tree.specs.Functions.{is_declared}
use Rattle.ir_tree.specs.Operands.{Entries, Use, operands}
use Rattle.ir_tree.specs.Phis.{behind_phis, entries_of, is_phi}
use Rattle.ir_tree.specs.Spelling.{is_global_name, is_local_name}
use Rattle.ir_tree.specs.Successors.{case_values, successors}
use Rattle.ir_tree.specs.Types.{is_integer_of, is_pointer_type}
use Rattle.ir_tree.specs.declared.types.Block.{Block}
use Rattle.ir_tree.specs.declared.types.Function.{Function}
use Rattle.ir_tree.specs.declared.types.Global1.{Global1}
use Rattle.ir_tree.specs.declared.types.Instr.{Instr}
use Rattle.ir_tree.specs.declared.types.Instr.TheVariants.{Binary, Compare, Convert, Freeze, Select, Phi, Alloca, Load, Store, Gep, Call, Count}
use Rattle.ir_tree.specs.declared.types.Module.{Module}
use Rattle.ir_tree.specs.declared.types.Operand.{Operand}
use Rattle.ir_tree.specs.declared.types.Operand.TheVariants.{Int, Null, Local, Global}
use Rattle.ir_tree.specs.declared.types.Ret.{Ret}
use Rattle.ir_tree.specs.declared.types.Ret.TheVariants.{Value}
use Rattle.ir_tree.specs.declared.types.Term.{Term}
use Rattle.ir_tree.specs.declared.types.Ty.{Ty}

-- ---- operands (rules 11 and 12) and callees (rule 13)

-- An operand fits a place of the type: a literal is an integer of it; a local one is a parameter or result of the type; a global one
-- is a symbol at a pointer, of the profile only where `allowed` says so
abbrev pub Fits : Module → Function → Bool → Ty → Operand → Type 0
Fits m f allowed t (Int value) = is_integer_of t value ≡ true
Fits m f allowed t Null = is_pointer_type t ≡ true
Fits m f allowed t (Local name) = Among (name, Value t) (values f)
Fits m f allowed t (Global name) = (is_pointer_type t ≡ true) × Among name (symbols m) × ((allowed || not (is_of_profile m name)) ≡ true)

abbrev pub AllFit : Module → Function → Bool → List Use → Type 0
AllFit m f allowed uses = (u : Use) → Among u uses → Fits m f allowed u.0 u.1

-- a callee is a local, or a function with these types
abbrev pub IsCallee : Module → Ret → List Use → Operand → Type 0
IsCallee m ret args (Int value) = ⊥
IsCallee m ret args Null = ⊥
IsCallee m ret args (Local name) = Unit {0}
IsCallee m ret args (Global name) = Among (name, ret, arg_types args) (signatures m)

abbrev pub CallsWell : Module → Instr → Type 0
CallsWell m (Binary dest op flags ty left right) = Unit {0}
CallsWell m (Compare dest pred ty left right) = Unit {0}
CallsWell m (Convert dest op flags from value to) = Unit {0}
CallsWell m (Freeze dest ty value) = Unit {0}
CallsWell m (Select dest cond ty first second prof) = Unit {0}
CallsWell m (Phi dest ty entries) = Unit {0}
CallsWell m (Alloca dest mem) = Unit {0}
CallsWell m (Load dest ty address) = Unit {0}
CallsWell m (Store ty value address) = Unit {0}
CallsWell m (Gep dest inbounds mem address indices) = Unit {0}
CallsWell m (Call dest ret callee args prof) = (may_name ret dest ≡ true) × IsCallee m ret args callee
CallsWell m (Count symbol size index step) = Unit {0}

-- ---- phis (rules 9 and 10)

abbrev pub no_phis : List Instr → Bool
no_phis xs = list_all (λ x. not (is_phi x)) xs

abbrev pub no_phis_first : List Block → Bool
no_phis_first [] = true
no_phis_first (b ∷ bs) = no_phis b.instrs

-- as many entries for each name as positions of its blocks, and one value for each name
pub record Matched (blocks : List Block) (l : List ℕ) (es : Entries) : Type 0 where
  pub count : (n : List ℕ) → times n (tails es) ≡ positions n l blocks
  pub value : (n : List ℕ) (v w : Operand) → Among (v, n) es → Among (w, n) es → v ≡ w

-- ---- instructions, terminators, blocks

pub record InstrFormed (m : Module) (f : Function) (x : Instr) : Type 0 where
  pub named : has_result_name x ≡ true
  pub fit : AllFit m f (calls_profile x) (operands x)
  pub typed : is_typed x ≡ true
  pub calls : CallsWell m x
  pub weighed : is_weighed x ≡ true
  pub counts : counts_well m x ≡ true
  pub counted : is_counted_well m x ≡ true

pub record TermFormed (m : Module) (f : Function) (t : Term) : Type 0 where
  pub targets : (to : List ℕ) → Among to (successors t) → Among to (labels (drop 1 f.blocks))
  pub apart : are_apart (case_values t) ≡ true
  pub fit : AllFit m f false (term_reads t)
  pub typed : is_typed_term t ≡ true
  pub returns : returns_well f.ret t ≡ true
  pub weighed : is_weighed_term t ≡ true

pub record BlockFormed (m : Module) (f : Function) (b : Block) : Type 0 where
  pub named : is_local_name b.label ≡ true
  pub lead : no_phis (behind_phis b.instrs) ≡ true
  pub item : (x : Instr) → Among x b.instrs → InstrFormed m f x
  pub exit : TermFormed m f b.term
  pub matched : (x : Instr) (es : Entries) → Among x b.instrs → entries_of x ≡ Some es → Matched f.blocks b.label es
  pub ready : Ready (AtHead f b.label) b.instrs b.term
  pub joined : (x : Instr) (es : Entries) → Among x b.instrs → entries_of x ≡ Some es → Joined f es

-- ---- functions and globals

pub record FunctionFormed (m : Module) (f : Function) : Type 0 where
  pub named : is_global_name f.name ≡ true
  pub params : are_param_names f ≡ true
  pub free : is_reserved_function (kind_of m.functions) f.name ≡ false
  pub provided : is_declared_well f ≡ true
  pub noted : has_entries (is_declared f) f.prof ≡ true
  pub distinct : is_declared f ≡ false → (n : List ℕ) → times n (names f) ≤ 1
  pub first : no_phis_first f.blocks ≡ true
  pub block : (b : Block) → Among b f.blocks → BlockFormed m f b

-- a text that names a record
abbrev pub is_record_text : Option (List ℕ) → Bool
is_record_text None = false
is_record_text (Some bytes) = is_record_name bytes

-- a global of a unit is its name, its counters or its data
unfoldable pub is_unit_global : Module → Global1 → Bool
is_unit_global m g =
    cond (is_unit_name g.name) (is_record_text (text_of g)) (
    cond (is_unit_counters g.name) (holds_counters_well m g) (
    cond (is_unit_data g.name) (holds_data_well m g) true))

pub record GlobalFormed (m : Module) (g : Global1) : Type 0 where
  pub named : is_global_name g.name ≡ true
  pub free : is_reserved_variable (kind_of m.functions) g.name ≡ false
  pub typed : (is_external g.init || initialises g.mem g.init) ≡ true
  pub symbols : (n : List ℕ) → Among n (names_in g.init) → is_program_symbol m n ≡ true
  pub of_unit : is_unit_global m g ≡ true

-- ---- modules

pub record IsWellFormed (m : Module) : Type 0 where
  pub distinct : (n : List ℕ) → times n (symbols m) ≤ 1
  pub kind : is_of_one_kind m ≡ true
  pub units : (t : List ℕ) → times t (unit_texts m.globals) ≤ 1
  pub global : (g : Global1) → Among g m.globals → GlobalFormed m g
  pub function : (f : Function) → Among f m.functions → FunctionFormed m f
