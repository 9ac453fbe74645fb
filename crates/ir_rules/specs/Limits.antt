-- The quantities of a module, their limits, and those that a module passes.
use Rattle.std.specs.Prelude.{ℕ, ◌+◌, ◌*◌, nat_lt, max, min, cond, Bool, List, [], ◌∷◌, ◌++◌, length, sum_by, flat_map, is_some, unwrap_or}
use Rattle.ir_rules.specs.Kinds.{is_plain_kind, is_profile_variable, is_unit_counters, is_unit_data, kind_of}
use Rattle.ir_rules.specs.Sizes.{row_size, size_of}
use Rattle.ir_rules.specs.Units.{is_i64, length_of, sites_of}
use Rattle.ir_rules.specs.declared.place.Kind.{Kind}
use Rattle.ir_rules.specs.declared.place.Kind.TheVariants.{Plain, Counted, Lowered}
use Rattle.ir_rules.specs.declared.place.LimitKind.{LimitKind}
use Rattle.ir_rules.specs.declared.place.LimitKind.TheVariants.{Functions, Globals, Edges, Registers, Object, Cells, Sites, Counters}
use Rattle.ir_tree.specs.Edges.{edges_in}
use Rattle.ir_tree.specs.Graphs.{count_in, is_select, is_site}
use Rattle.ir_tree.specs.Operands.{result_of}
use Rattle.ir_tree.specs.declared.types.Block.{Block}
use Rattle.ir_tree.specs.declared.types.Function.{Function}
use Rattle.ir_tree.specs.declared.types.Global1.{Global1}
use Rattle.ir_tree.specs.declared.types.Instr.{Instr}
use Rattle.ir_tree.specs.declared.types.Instr.TheVariants.{Binary, Compare, Convert, Freeze, Select, Phi, Alloca, Load, Store, Gep, Call, Count}
use Rattle.ir_tree.specs.declared.types.MemTy.{MemTy, Array', Row_of-MemTy, end_of-MemTy, more_of-MemTy}
use Rattle.ir_tree.specs.declared.types.MemTy.TheVariants.{Scalar}
use Rattle.ir_tree.specs.declared.types.Module.{Module}

-- the most that a module may have: a plain one, and one with what instrumentation or lowering adds
abbrev pub plain_most : LimitKind → ℕ
plain_most Functions = 65536
plain_most Globals = 65536
plain_most Edges = 1048576
plain_most Registers = 2048
plain_most Object = 1048576
plain_most Cells = 1048576
plain_most Sites = 65536
plain_most Counters = 1048576

abbrev pub grown_most : LimitKind → ℕ
grown_most Functions = 65540
grown_most Globals = 262144
grown_most Edges = 2097152
grown_most Registers = 4096
grown_most Object = 1048576
grown_most Cells = 1048576
grown_most Sites = 65536
grown_most Counters = 1048576

abbrev pub most : Kind → LimitKind → ℕ
most kind which = cond (is_plain_kind kind) (plain_most which) (grown_most which)

-- ---- quantities of a function

abbrev pub has_result : Instr → Bool
has_result x = is_some (result_of x)

-- how many instructions of a function pass a test
unfoldable pub total_of : (Instr → Bool) → Function → ℕ
total_of test f = count_in test f.blocks

-- the parameters and results; in a plain module 8 more for each call through a local, which may become a chain of compared calls
unfoldable pub registers : Kind → Function → ℕ
registers kind f = length f.params + total_of has_result f + cond {A = ℕ} (is_plain_kind kind) (8 * total_of is_site f) 0

-- the counters that a plain function may need: one for each edge and for each select
unfoldable pub counters : Function → ℕ
counters f = edges_in f + total_of is_select f

-- ---- array types

-- the bytes of an array type and of those in it, the outer one first
abbrev mutual
  pub array_sizes : MemTy → List ℕ
  array_sizes (Scalar ty) = []
  array_sizes (Array' count shape element) = (count * row_size element) ∷ row_arrays element

  pub row_arrays : {m : _} → Row_of-MemTy m → List ℕ
  row_arrays end_of-MemTy = []
  row_arrays (more_of-MemTy mem rest) = array_sizes mem ++ row_arrays rest

abbrev pub instr_arrays : Instr → List ℕ
instr_arrays (Binary dest op flags ty left right) = []
instr_arrays (Compare dest pred ty left right) = []
instr_arrays (Convert dest op flags from value to) = []
instr_arrays (Freeze dest ty value) = []
instr_arrays (Select dest c ty first second prof) = []
instr_arrays (Phi dest ty entries) = []
instr_arrays (Alloca dest mem) = array_sizes mem
instr_arrays (Load dest ty address) = []
instr_arrays (Store ty value address) = []
instr_arrays (Gep dest inbounds mem address indices) = array_sizes mem
instr_arrays (Call dest ret callee args prof) = []
instr_arrays (Count symbol size index step) = []

abbrev pub function_arrays : Function → List ℕ
function_arrays f = flat_map (λ (b : Block). flat_map instr_arrays b.instrs) f.blocks

-- the globals of a profile don't count
abbrev pub global_arrays : Kind → Global1 → List ℕ
global_arrays kind g = cond (is_profile_variable kind g.name) [] (array_sizes g.mem)

-- the bytes of all array types in text order
unfoldable pub all_arrays : Module → List ℕ
all_arrays m = flat_map (global_arrays (kind_of m.functions)) m.globals ++ flat_map function_arrays m.functions

-- ---- quantities of a module

-- the bytes of a global, at least one; the globals of a profile don't count
abbrev pub cells_of : Kind → Global1 → ℕ
cells_of kind g = cond {A = ℕ} (is_profile_variable kind g.name) 0 (max 1 (size_of g.mem))

unfoldable pub cells : Module → ℕ
cells m = sum_by (cells_of (kind_of m.functions)) m.globals

abbrev pub told_sites : Global1 → ℕ
told_sites g = cond {A = ℕ} (is_unit_data g.name) (sites_of g) 0

abbrev pub told_counters : Global1 → ℕ
told_counters g = cond {A = ℕ} (is_unit_counters g.name) (unwrap_or (length_of is_i64 g.mem) 0) 0

abbrev pub calls_through : Module → ℕ
calls_through m = sum_by (total_of is_site) m.functions

-- the calls through a local; in a lowered module no less than its units tell
abbrev pub sites_in : Kind → Module → ℕ
sites_in Plain m = calls_through m
sites_in Counted m = calls_through m
sites_in Lowered m = max (calls_through m) (sum_by told_sites m.globals)

-- what the counters of a plain module may come to; else those that its units have
abbrev pub counters_in : Kind → Module → ℕ
counters_in Plain m = sum_by counters m.functions
counters_in Counted m = sum_by told_counters m.globals
counters_in Lowered m = sum_by told_counters m.globals

-- ---- what passes its limit

-- what a quantity is reported as
abbrev pub reported : ℕ → ℕ
reported found = min found 18446744073709551615

abbrev pub above : LimitKind → ℕ → ℕ → List (LimitKind × ℕ)
above which bound found = cond (nat_lt bound found) ((which, reported found) ∷ []) []

-- a quantity of each of these
abbrev pub each_above : {X : Type 0} → LimitKind → ℕ → (X → ℕ) → List X → List (LimitKind × ℕ)
each_above which bound quantity xs = flat_map (λ x. above which bound (quantity x)) xs

abbrev pub passed_by : Kind → Module → List (LimitKind × ℕ)
passed_by kind m =
    above Functions (most kind Functions) (length m.functions)
    ++ (above Globals (most kind Globals) (length m.globals)
    ++ (each_above Edges (most kind Edges) edges_in m.functions
    ++ (each_above Registers (most kind Registers) (registers kind) m.functions
    ++ (each_above Object (most kind Object) (λ size. size) (all_arrays m)
    ++ (above Cells (most kind Cells) (cells m)
    ++ (above Sites (most kind Sites) (sites_in kind m)
    ++ above Counters (most kind Counters) (counters_in kind m)))))))

-- the limits that a module passes, in the order in which they are tried, each with what was found
unfoldable pub passed : Module → List (LimitKind × ℕ)
passed m = passed_by (kind_of m.functions) m
