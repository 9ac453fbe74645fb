-- A module within its limits has few functions, globals, blocks and names.
use Rattle.std.proofs.Common.{◌≡◌, ℕ, zero, suc, ◌+◌, ◌<◌, ◌≤◌, ◌==◌, ◌⊎◌, inl, inr, Bool, false, cond, List, [], ◌∷◌, ◌++◌, length, get_or, flat_map, sum_by, Option, Some, None, is_some, slice_get, refl, sym, ap, subst, ◌∙◌, arith, length-append}
use Rattle.std.specs.List.{cons_option, count_by}
use Rattle.std.specs.Option.{option_map}
use Rattle.std.proofs.lemmas.Bool.{cases_lt, lt-ltb}
use Rattle.std.proofs.lemmas.Bool.Decides.{nat_tests}
use Rattle.std.proofs.lemmas.List.{length-map}
use Rattle.std.proofs.lemmas.List.Sums.{sum_by-cons}
use Rattle.std.proofs.lemmas.Option.{none-some, same_Some, slice_get-get_or}
use Rattle.check_names.specs.Few.{HasFew, IsFew}
use Rattle.ir_rules.specs.Kinds.{kind_of}
use Rattle.ir_rules.specs.Limits.{above, all_arrays, cells, counters_in, each_above, has_result, most, passed, passed_by, registers, reported, sites_in, total_of}
use Rattle.ir_rules.specs.Scopes.{block_names, names, param_names}
use Rattle.ir_rules.specs.declared.place.Kind.{Kind}
use Rattle.ir_rules.specs.declared.place.Kind.TheVariants.{Plain, Counted, Lowered}
use Rattle.ir_rules.specs.declared.place.LimitKind.{LimitKind}
use Rattle.ir_rules.specs.declared.place.LimitKind.TheVariants.{Functions, Globals, Edges, Registers, Object, Cells, Sites, Counters}
use Rattle.ir_tree.specs.Edges.{edges_in}
use Rattle.ir_tree.specs.Operands.{result_names, result_of}
use Rattle.ir_tree.specs.Successors.{ways_out}
use Rattle.ir_tree.specs.declared.types.Block.{Block}
use Rattle.ir_tree.specs.declared.types.Function.{Function}
use Rattle.ir_tree.specs.declared.types.Instr.{Instr}
use Rattle.ir_tree.specs.declared.types.Module.{Module}
use Rattle.ir_tree.specs.declared.types.Ret.{Ret}

left_empty : {Y : Type 0} (ys zs : List Y) → ys ++ zs ≡ [] → ys ≡ []
left_empty [] zs h = refl
left_empty (y ∷ ys) zs h = cc

right_empty : {Y : Type 0} (ys zs : List Y) → ys ++ zs ≡ [] → zs ≡ []
right_empty [] zs h = h
right_empty (y ∷ ys) zs h = cc

within_bound : (which : LimitKind) (bound found : ℕ) → above which bound found ≡ [] → found ≤ bound
within_bound which bound found e = by (cases_lt bound found)
  where
    by : (bound < found) ⊎ (found ≤ bound) → found ≤ bound
    by (inl h) = absurd (cc (ap (λ (b : Bool). cond {A = List (LimitKind × ℕ)} b ((which, reported found) ∷ []) []) (sym (lt-ltb bound found h)) ∙ e))
    by (inr h) = h

each_within : {X : Type 0} (which : LimitKind) (bound : ℕ) (quantity : X → ℕ) (xs : List X) → each_above which bound quantity xs ≡ [] → (i : ℕ) (x : X) → slice_get xs i ≡ Some x → quantity x ≤ bound
each_within which bound quantity [] e i x at = absurd (none-some x at)
each_within which bound quantity (y ∷ ys) e zero x at =
    let here : quantity y ≤ bound = within_bound which bound (quantity y) (left_empty (above which bound (quantity y)) (each_above which bound quantity ys) e) in
    subst (λ (z : _). quantity z ≤ bound) (same_Some y x at) here
each_within which bound quantity (y ∷ ys) e (suc i) x at = each_within which bound quantity ys (right_empty (above which bound (quantity y)) (each_above which bound quantity ys) e) i x at

-- ---- one function

one_counted : (o : Option (List ℕ × Ret)) (ns : List (List ℕ)) (n : ℕ) → length ns ≡ n → length (cons_option (option_map (λ (r : List ℕ × Ret). r.0) o) ns) ≡ cond {A = ℕ} (is_some o) 1 0 + n
one_counted None ns n e = omega (arith, e)
one_counted (Some r) ns n e = omega (arith, e)

results_counted : (xs : List Instr) → length (result_names xs) ≡ count_by has_result xs
results_counted [] = refl
results_counted (x ∷ xs) = one_counted (result_of x) (result_names xs) (count_by has_result xs) (results_counted xs) ∙ sym (sum_by-cons (λ y. cond {A = ℕ} (has_result y) 1 0) x xs)

names_counted : (bs : List Block) → length (flat_map block_names bs) ≡ length bs + sum_by (λ (b : Block). count_by has_result b.instrs) bs
names_counted [] = refl
names_counted (b ∷ bs) =
    let rest : length (flat_map block_names bs) ≡ length bs + sum_by (λ (c : Block). count_by has_result c.instrs) bs = names_counted bs in
    let here : length (result_names b.instrs) ≡ count_by has_result b.instrs = results_counted b.instrs in
    omega (arith, rest, here, length-append (block_names b) (flat_map block_names bs), sum_by-cons (λ (c : Block). count_by has_result c.instrs) b bs)

ways_counted : (bs : List Block) → length bs ≤ sum_by ways_out bs
ways_counted [] = omega arith
ways_counted (b ∷ bs) =
    let rest : length bs ≤ sum_by ways_out bs = ways_counted bs in
    let one : 1 ≤ ways_out b = omega arith in
    omega (arith, rest, one, sum_by-cons ways_out b bs)

not_none : (n : ℕ) → (suc n == 0) ≡ false
not_none n = grind (arith, nat_tests)

blocks_in : (bs : List Block) → cond {A = ℕ} (length bs == 0) 0 (1 + sum_by ways_out bs) ≤ 2097152 → length bs ≤ 2097152
blocks_in [] h = omega arith
blocks_in (b ∷ bs) h =
    let some : (length (b ∷ bs) == 0) ≡ false = not_none (length bs) in
    let more : 1 + sum_by ways_out (b ∷ bs) ≤ 2097152 = subst (λ (t : Bool). cond {A = ℕ} t 0 (1 + sum_by ways_out (b ∷ bs)) ≤ 2097152) some h in
    omega (arith, more, ways_counted (b ∷ bs))

blocks_below : (f : Function) → edges_in f ≤ 2097152 → length f.blocks ≤ 2097152
blocks_below f h = blocks_in f.blocks h

names_below : (kind : Kind) (f : Function) → registers kind f ≤ 4096 → length f.blocks ≤ 2097152 → length (names f) ≤ 2101248
unfolding registers total_of
names_below kind f few blocks = omega (arith, few, blocks, length-append (param_names f) (flat_map block_names f.blocks), length-map f.params (λ p. p.1), names_counted f.blocks)

-- ---- a module

most_functions : (kind : Kind) → most kind Functions ≤ 65540
most_functions Plain = omega arith
most_functions Counted = omega arith
most_functions Lowered = omega arith

most_globals : (kind : Kind) → most kind Globals ≤ 262144
most_globals Plain = omega arith
most_globals Counted = omega arith
most_globals Lowered = omega arith

most_edges : (kind : Kind) → most kind Edges ≤ 2097152
most_edges Plain = omega arith
most_edges Counted = omega arith
most_edges Lowered = omega arith

most_registers : (kind : Kind) → most kind Registers ≤ 4096
most_registers Plain = omega arith
most_registers Counted = omega arith
most_registers Lowered = omega arith

module _ (kind : Kind) (m : Module) (none : passed_by kind m ≡ []) where
  abbrev from_objects : List (LimitKind × ℕ)
  from_objects = each_above Object (most kind Object) (λ size. size) (all_arrays m) ++ (above Cells (most kind Cells) (cells m) ++ (above Sites (most kind Sites) (sites_in kind m) ++ above Counters (most kind Counters) (counters_in kind m)))

  abbrev from_registers : List (LimitKind × ℕ)
  from_registers = each_above Registers (most kind Registers) (registers kind) m.functions ++ from_objects

  abbrev from_edges : List (LimitKind × ℕ)
  from_edges = each_above Edges (most kind Edges) edges_in m.functions ++ from_registers

  abbrev from_globals : List (LimitKind × ℕ)
  from_globals = above Globals (most kind Globals) (length m.globals) ++ from_edges

  past_functions : from_globals ≡ []
  past_functions = right_empty (above Functions (most kind Functions) (length m.functions)) from_globals none

  past_globals : from_edges ≡ []
  past_globals = right_empty (above Globals (most kind Globals) (length m.globals)) from_edges past_functions

  past_edges : from_registers ≡ []
  past_edges = right_empty (each_above Edges (most kind Edges) edges_in m.functions) from_registers past_globals

  few_functions : length m.functions ≤ most kind Functions
  few_functions = within_bound Functions (most kind Functions) (length m.functions) (left_empty (above Functions (most kind Functions) (length m.functions)) from_globals none)

  few_globals : length m.globals ≤ most kind Globals
  few_globals = within_bound Globals (most kind Globals) (length m.globals) (left_empty (above Globals (most kind Globals) (length m.globals)) from_edges past_functions)

  few_edges : (k : ℕ) (f : Function) → slice_get m.functions k ≡ Some f → edges_in f ≤ most kind Edges
  few_edges = each_within Edges (most kind Edges) edges_in m.functions (left_empty (each_above Edges (most kind Edges) edges_in m.functions) from_registers past_globals)

  few_registers : (k : ℕ) (f : Function) → slice_get m.functions k ≡ Some f → registers kind f ≤ most kind Registers
  few_registers = each_within Registers (most kind Registers) (registers kind) m.functions (left_empty (each_above Registers (most kind Registers) (registers kind) m.functions) from_objects past_edges)

  few_in : (k : ℕ) (f : Function) → slice_get m.functions k ≡ Some f → IsFew f
  few_in k f at =
      let edges : edges_in f ≤ 2097152 = let e : edges_in f ≤ most kind Edges = few_edges k f at in omega (arith, e, most_edges kind) in
      let given : registers kind f ≤ 4096 = let e : registers kind f ≤ most kind Registers = few_registers k f at in omega (arith, e, most_registers kind) in
      let blocks : length f.blocks ≤ 2097152 = blocks_below f edges in
      record { blocks = blocks; names = names_below kind f given blocks }

  few_by : HasFew m
  few_by = record {
    functions = let few : length m.functions ≤ most kind Functions = few_functions in omega (arith, few, most_functions kind);
    globals = let few : length m.globals ≤ most kind Globals = few_globals in omega (arith, few, most_globals kind);
    each = few_in;
  }

pub has_few : (m : Module) → passed m ≡ [] → HasFew m
unfolding passed
has_few m none = few_by (kind_of m.functions) m none

-- the function at a place has few
pub few_at : (m : Module) → HasFew m → (k : ℕ) (f : Function) → k < length m.functions → f ≡ get_or m.functions k f → IsFew f
few_at m few k f within is = few.each k f (slice_get-get_or m.functions k f within ∙ ap (λ (g : Function). Some g) (sym is))
