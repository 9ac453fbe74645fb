-- What a module within the limits has few of.
use Rattle.std.proofs.Common.{◌≡◌, ℕ, zero, suc, ◌+◌, ◌*◌, ◌<◌, ◌≤◌, ◌⊎◌, inl, inr, Bool, cond, List, [], ◌∷◌, ◌++◌, length, sum_by, Some, None, slice_get, refl, sym, ap, subst, ◌∙◌, arith}
use Rattle.std.specs.List.{count_by}
use Rattle.std.proofs.lemmas.Bool.{cases_lt, lt-ltb}
use Rattle.std.proofs.lemmas.List.Sums.{sum_by-cons, sum_by-le-sum_by}
use Rattle.std.proofs.lemmas.Option.{none-some, same_Some}
use Rattle.ir_rules.proofs.PartsKept.{nil_left, nil_right}
use Rattle.ir_rules.specs.Accepted.{IsSmall, IsSmallPlain}
use Rattle.ir_rules.specs.Kinds.{kind_of}
use Rattle.ir_rules.specs.Limits.{above, all_arrays, calls_through, cells, counters, counters_in, each_above, has_result, most, passed, passed_by, registers, reported, sites_in, total_of}
use Rattle.ir_rules.specs.declared.place.Kind.{Kind}
use Rattle.ir_rules.specs.declared.place.Kind.TheVariants.{Plain, Counted, Lowered}
use Rattle.ir_rules.specs.declared.place.LimitKind.{LimitKind}
use Rattle.ir_rules.specs.declared.place.LimitKind.TheVariants.{Functions, Globals, Edges, Registers, Object, Cells, Sites, Counters}
use Rattle.ir_tree.specs.Edges.{edges_in}
use Rattle.ir_tree.specs.Graphs.{is_select, is_site}
use Rattle.ir_tree.specs.declared.types.Block.{Block}
use Rattle.ir_tree.specs.declared.types.Function.{Function}
use Rattle.ir_tree.specs.declared.types.Instr.{Instr}
use Rattle.ir_tree.specs.declared.types.Instr.TheVariants.{Binary, Compare, Convert, Freeze, Select, Phi, Alloca, Load, Store, Gep, Call, Count}
use Rattle.ir_tree.specs.declared.types.Module.{Module}

above_none : (which : LimitKind) (bound found : ℕ) → above which bound found ≡ [] → found ≤ bound
above_none which bound found e = by (cases_lt bound found)
  where
    by : (bound < found) ⊎ (found ≤ bound) → found ≤ bound
    by (inl h) = absurd (cc (ap (λ (b : Bool). cond {A = List (LimitKind × ℕ)} b ((which, reported found) ∷ []) []) (sym (lt-ltb bound found h)) ∙ e))
    by (inr h) = h

each_none : {X : Type 0} (which : LimitKind) (bound : ℕ) (quantity : X → ℕ) (xs : List X) → each_above which bound quantity xs ≡ [] → (i : ℕ) (x : X) → slice_get xs i ≡ Some x → quantity x ≤ bound
each_none which bound quantity [] e i x at = absurd (none-some x at)
each_none which bound quantity (y ∷ ys) e zero x at =
    let here : quantity y ≤ bound = above_none which bound (quantity y) (nil_left (above which bound (quantity y)) (each_above which bound quantity ys) e) in
    subst (λ (z : _). quantity z ≤ bound) (same_Some y x at) here
each_none which bound quantity (y ∷ ys) e (suc i) x at = each_none which bound quantity ys (nil_right (above which bound (quantity y)) (each_above which bound quantity ys) e) i x at

part_of_sum : {X : Type 0} (g : X → ℕ) (xs : List X) (i : ℕ) (x : X) → slice_get xs i ≡ Some x → g x ≤ sum_by g xs
part_of_sum g [] i x at = absurd (none-some x at)
part_of_sum g (y ∷ ys) zero x at = omega (arith, sum_by-cons g y ys, ap g (same_Some y x at))
part_of_sum g (y ∷ ys) (suc i) x at = omega (arith, sum_by-cons g y ys, part_of_sum g ys i x at)

sum_below : {X : Type 0} (g : X → ℕ) (n : ℕ) (xs : List X) → ((i : ℕ) (x : X) → slice_get xs i ≡ Some x → g x ≤ n) → sum_by g xs ≤ length xs * n
sum_below g n [] h = omega arith
sum_below g n (x ∷ xs) h =
    let first : g x ≤ n = h 0 x refl in
    let rest : sum_by g xs ≤ length xs * n = sum_below g n xs (λ i y at. h (suc i) y at) in
    let product : suc (length xs) * n ≡ length xs * n + n = omega arith in
    omega (arith, first, rest, product, sum_by-cons g x xs)

-- the lists of limits from one on
module _ (kind : Kind) (m : Module) where
  abbrev from_counters : List (LimitKind × ℕ)
  from_counters = above Counters (most kind Counters) (counters_in kind m)

  abbrev from_sites : List (LimitKind × ℕ)
  from_sites = above Sites (most kind Sites) (sites_in kind m) ++ from_counters

  abbrev from_cells : List (LimitKind × ℕ)
  from_cells = above Cells (most kind Cells) (cells m) ++ from_sites

  abbrev from_objects : List (LimitKind × ℕ)
  from_objects = each_above Object (most kind Object) (λ size. size) (all_arrays m) ++ from_cells

  abbrev from_registers : List (LimitKind × ℕ)
  from_registers = each_above Registers (most kind Registers) (registers kind) m.functions ++ from_objects

  abbrev from_edges : List (LimitKind × ℕ)
  from_edges = each_above Edges (most kind Edges) edges_in m.functions ++ from_registers

  abbrev from_globals : List (LimitKind × ℕ)
  from_globals = above Globals (most kind Globals) (length m.globals) ++ from_edges

  module _ (e : passed_by kind m ≡ []) where
    past_globals : from_edges ≡ []
    past_globals = nil_right (above Globals (most kind Globals) (length m.globals)) from_edges (nil_right (above Functions (most kind Functions) (length m.functions)) from_globals e)

    past_edges : from_registers ≡ []
    past_edges = nil_right (each_above Edges (most kind Edges) edges_in m.functions) from_registers past_globals

    past_registers : from_objects ≡ []
    past_registers = nil_right (each_above Registers (most kind Registers) (registers kind) m.functions) from_objects past_edges

    past_cells : from_sites ≡ []
    past_cells = nil_right (above Cells (most kind Cells) (cells m)) from_sites (nil_right (each_above Object (most kind Object) (λ size. size) (all_arrays m)) from_cells past_registers)

    few_functions : length m.functions ≤ most kind Functions
    few_functions = above_none Functions (most kind Functions) (length m.functions) (nil_left (above Functions (most kind Functions) (length m.functions)) from_globals e)

    few_edges : (k : ℕ) (f : Function) → slice_get m.functions k ≡ Some f → edges_in f ≤ most kind Edges
    few_edges = each_none Edges (most kind Edges) edges_in m.functions (nil_left (each_above Edges (most kind Edges) edges_in m.functions) from_registers past_globals)

    few_registers : (k : ℕ) (f : Function) → slice_get m.functions k ≡ Some f → registers kind f ≤ most kind Registers
    few_registers = each_none Registers (most kind Registers) (registers kind) m.functions (nil_left (each_above Registers (most kind Registers) (registers kind) m.functions) from_objects past_edges)

    few_sites : sites_in kind m ≤ most kind Sites
    few_sites = above_none Sites (most kind Sites) (sites_in kind m) (nil_left (above Sites (most kind Sites) (sites_in kind m)) from_counters past_cells)

    few_counters : counters_in kind m ≤ most kind Counters
    few_counters = above_none Counters (most kind Counters) (counters_in kind m) (nil_right (above Sites (most kind Sites) (sites_in kind m)) from_counters past_cells)

-- the greatest limits of both kinds of module
most_functions : (kind : Kind) → most kind Functions ≤ 65540
most_functions Plain = omega arith
most_functions Counted = omega arith
most_functions Lowered = omega arith

most_edges : (kind : Kind) → most kind Edges ≤ 2097152
most_edges Plain = omega arith
most_edges Counted = omega arith
most_edges Lowered = omega arith

most_registers : (kind : Kind) → most kind Registers ≤ 4096
most_registers Plain = omega arith
most_registers Counted = omega arith
most_registers Lowered = omega arith

most_sites : (kind : Kind) → most kind Sites ≤ 65536
most_sites Plain = omega arith
most_sites Counted = omega arith
most_sites Lowered = omega arith

through_sites : (kind : Kind) (m : Module) → calls_through m ≤ sites_in kind m
through_sites Plain m = omega arith
through_sites Counted m = omega arith
through_sites Lowered m = omega arith

product_le : (n : ℕ) → n ≤ 65540 → n * 2097152 ≤ 137447342080
product_le n h = omega (arith, h)

module _ (m : Module) (none : passed m ≡ []) where
  abbrev kind : Kind
  kind = kind_of m.functions

  by_kind : passed_by (kind_of m.functions) m ≡ []
  unfolding passed
  by_kind = none

  pub edges_of_one : (k : ℕ) (f : Function) → slice_get m.functions k ≡ Some f → edges_in f ≤ 2097152
  edges_of_one k f at = let one : edges_in f ≤ most kind Edges = few_edges kind m by_kind k f at in omega (arith, one, most_edges kind)

  pub calls_below : calls_through m ≤ 65536
  calls_below = let all : sites_in kind m ≤ most kind Sites = few_sites kind m by_kind in omega (arith, all, most_sites kind, through_sites kind m)

  pub sites_of_one : (k : ℕ) (f : Function) → slice_get m.functions k ≡ Some f → total_of is_site f ≤ 65536
  sites_of_one k f at = omega (arith, part_of_sum (total_of is_site) m.functions k f at, calls_below)

  results_le : (f : Function) → total_of has_result f ≤ registers kind f
  unfolding registers
  results_le f = omega arith

  pub results_of_one : (k : ℕ) (f : Function) → slice_get m.functions k ≡ Some f → total_of has_result f ≤ 4096
  results_of_one k f at = let one : registers kind f ≤ most kind Registers = few_registers kind m by_kind k f at in omega (arith, one, most_registers kind, results_le f)

  pub is_small : IsSmall m
  is_small = record {
    functions = let few : length m.functions ≤ most kind Functions = few_functions kind m by_kind in omega (arith, few, most_functions kind);
    sites = calls_below;
    edges = let few : length m.functions ≤ most kind Functions = few_functions kind m by_kind in let all : sum_by edges_in m.functions ≤ length m.functions * 2097152 = sum_below edges_in 2097152 m.functions edges_of_one in let top : length m.functions * 2097152 ≤ 137447342080 = product_le (length m.functions) (omega (arith, few, most_functions kind)) in omega (arith, all, top);
  }

edges_le : (f : Function) → edges_in f ≤ counters f
unfolding counters
edges_le f = omega arith

pub is_small_plain : (m : Module) → passed m ≡ [] → kind_of m.functions ≡ Plain → IsSmallPlain m
unfolding passed
is_small_plain m none plain =
    let by : passed_by Plain m ≡ [] = subst (λ (k : Kind). passed_by k m ≡ []) plain none in
    record {
      functions = few_functions Plain m by;
      edges = let all : sum_by counters m.functions ≤ 1048576 = few_counters Plain m by in omega (arith, all, sum_by-le-sum_by edges_in counters m.functions edges_le);
    }

-- ---- a select has a result

select_result : (x : Instr) → cond {A = ℕ} (is_select x) 1 0 ≤ cond {A = ℕ} (has_result x) 1 0
select_result (Binary dest op flags ty left right) = omega arith
select_result (Compare dest pred ty left right) = omega arith
select_result (Convert dest op flags from value to) = omega arith
select_result (Freeze dest ty value) = omega arith
select_result (Select dest c ty first second prof) = omega arith
select_result (Phi dest ty entries) = omega arith
select_result (Alloca dest mem) = omega arith
select_result (Load dest ty address) = omega arith
select_result (Store ty value address) = omega arith
select_result (Gep dest inbounds mem address indices) = omega arith
select_result (Call None ret callee args prof) = omega arith
select_result (Call (Some dest) ret callee args prof) = omega arith
select_result (Count symbol size index step) = omega arith

selects_le : (f : Function) → total_of is_select f ≤ total_of has_result f
unfolding total_of
selects_le f = sum_by-le-sum_by (λ (b : Block). count_by is_select b.instrs) (λ (b : Block). count_by has_result b.instrs) f.blocks (λ b. sum_by-le-sum_by (λ x. cond {A = ℕ} (is_select x) 1 0) (λ x. cond {A = ℕ} (has_result x) 1 0) b.instrs select_result)

pub selects_of_one : (m : Module) → passed m ≡ [] → (k : ℕ) (f : Function) → slice_get m.functions k ≡ Some f → total_of is_select f ≤ 4096
selects_of_one m none k f at = omega (arith, selects_le f, results_of_one m none k f at)
