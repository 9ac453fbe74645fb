-- So few names a function has.
use Rattle.std.proofs.Common.{◌≡◌, ℕ, zero, suc, ◌+◌, ◌<◌, ◌≤◌, ◌^◌, ◌==◌, ◌⊎◌, inl, inr, Bool, true, false, cond, List, [], ◌∷◌, ◌++◌, length, count_by, sum_by, Option, Some, None, is_some, slice_get, refl, sym, ap, subst, ◌∙◌, arith, length-append}
use Rattle.std.proofs.lemmas.Bool.{cases_lt, eqb-true, lt-ltb}
use Rattle.std.proofs.lemmas.List.Sums.{sum_by-cons}
use Rattle.std.proofs.lemmas.Option.{none-some, same_Some}
use Rattle.accepted_counts.proofs.Formed.{no_blocks}
use Rattle.ir_rules.specs.Kinds.{kind_of}
use Rattle.ir_rules.specs.Limits.{above, all_arrays, cells, counters_in, each_above, has_result, most, passed, passed_by, registers, reported, sites_in, total_of}
use Rattle.ir_rules.specs.declared.place.Kind.TheVariants.{Plain}
use Rattle.ir_rules.specs.declared.place.LimitKind.{LimitKind}
use Rattle.ir_rules.specs.declared.place.LimitKind.TheVariants.{Functions, Globals, Edges, Registers, Object, Cells, Sites, Counters}
use Rattle.ir_tree.specs.Edges.{edges_in}
use Rattle.ir_tree.specs.Functions.{is_declared}
use Rattle.ir_tree.specs.Graphs.{HasGraph, count_in}
use Rattle.ir_tree.specs.Locals.{as_result, block_locals, locals, param, result_at}
use Rattle.ir_tree.specs.Operands.{result_of}
use Rattle.ir_tree.specs.Successors.{ways_out}
use Rattle.ir_tree.specs.declared.types.Block.{Block}
use Rattle.ir_tree.specs.declared.types.Function.{Function}
use Rattle.ir_tree.specs.declared.types.Instr.{Instr}
use Rattle.ir_tree.specs.declared.types.Module.{Module}
use Rattle.ir_tree.specs.declared.types.Ret.{Ret}
use Rattle.ir_tree.specs.declared.types.Ty.{Ty}
use Rattle.spec_items.proofs.Items.{count_cons}
use Rattle.spec_lists.specs.Each.{each}

-- ---- how many locals there are

length_params : (n : ℕ) (ps : List (Ty × List ℕ)) → length (each param n ps) ≡ length ps
length_params n [] = refl
length_params n (p ∷ ps) = ap (λ k. suc k) (length_params (n + 1) ps)

length_result : (b i : ℕ) (o : Option (List ℕ × Ret)) → length (as_result b i o) ≡ cond {A = ℕ} (is_some o) 1 0
length_result b i None = refl
length_result b i (Some r) = refl

length_results : (b i : ℕ) (xs : List Instr) → length (each (result_at b) i xs) ≡ count_by has_result xs
length_results b i [] = refl
length_results b i (x ∷ xs) =
    let a = length-append (as_result b i (result_of x)) (each (result_at b) (i + 1) xs) in
    let one = length_result b i (result_of x) in
    let c = count_cons has_result x xs in
    let later = length_results b (i + 1) xs in
    omega (arith, a, one, c, later)

length_blocks : (n : ℕ) (bs : List Block) → length (each block_locals n bs) ≡ length bs + count_in has_result bs
unfolding block_locals
length_blocks n [] = refl
length_blocks n (b ∷ bs) =
    let a = length-append (block_locals n b) (each block_locals (n + 1) bs) in
    let here = length_results n 0 b.instrs in
    let c = sum_by-cons (λ (z : Block). count_by has_result z.instrs) b bs in
    let later = length_blocks (n + 1) bs in
    omega (arith, a, here, c, later)

cond_few : {X : Type 0} (b : Bool) (zs : List X) → length (cond b [] zs) ≤ length zs
cond_few true zs = omega arith
cond_few false zs = omega arith

length_locals : (f : Function) → length (locals f) ≤ length f.params + (length f.blocks + count_in has_result f.blocks)
unfolding locals
length_locals f =
    let few = cond_few (is_declared f) (each param 0 f.params ++ each block_locals 0 f.blocks) in
    let a = length-append (each param 0 f.params) (each block_locals 0 f.blocks) in
    let p = length_params 0 f.params in
    let b = length_blocks 0 f.blocks in
    omega (arith, few, a, p, b)

ways_many : (bs : List Block) → length bs ≤ sum_by ways_out bs
ways_many [] = omega arith
ways_many (b ∷ bs) =
    let c = sum_by-cons ways_out b bs in
    let later = ways_many bs in
    omega (arith, c, later)

-- ---- within the limit of registers

nil_left : {Y : Type 0} (ys zs : List Y) → ys ++ zs ≡ [] → ys ≡ []
nil_left [] zs h = refl
nil_left (y ∷ ys) zs h = cc

nil_right : {Y : Type 0} (ys zs : List Y) → ys ++ zs ≡ [] → zs ≡ []
nil_right [] zs h = h
nil_right (y ∷ ys) zs h = cc

above_none : (which : LimitKind) (bound found : ℕ) → above which bound found ≡ [] → found ≤ bound
above_none which bound found e = by (cases_lt bound found)
  where
    by : (bound < found) ⊎ (found ≤ bound) → found ≤ bound
    by (inl h) = absurd (cc (ap (λ (b : Bool). cond {A = List (LimitKind × ℕ)} b ((which, reported found) ∷ []) []) (sym (lt-ltb bound found h)) ∙ e))
    by (inr h) = h

each_none : {X : Type 0} (which : LimitKind) (bound : ℕ) (quantity : X → ℕ) (xs : List X) → each_above which bound quantity xs ≡ [] → (i : ℕ) (x : X) → slice_get xs i ≡ Some x → quantity x ≤ bound
each_none which bound quantity [] e i x at = absurd (none-some x at)
each_none which bound quantity (y ∷ ys) e zero x at =
    let here : quantity y ≤ bound = above_none which bound (quantity y) (nil_left (above which bound (quantity y)) (each_above which bound quantity ys) e) in
    subst (λ (z : _). quantity z ≤ bound) (same_Some y x at) here
each_none which bound quantity (y ∷ ys) e (suc i) x at = each_none which bound quantity ys (nil_right (above which bound (quantity y)) (each_above which bound quantity ys) e) i x at

module _ (m : Module) (e : passed_by Plain m ≡ []) where
  abbrev from_objects : List (LimitKind × ℕ)
  from_objects =
      each_above Object 1048576 (λ size. size) (all_arrays m) ++ (above Cells 1048576 (cells m) ++ (above Sites 65536 (sites_in Plain m) ++ above Counters 1048576 (counters_in Plain m)))

  abbrev from_registers : List (LimitKind × ℕ)
  from_registers = each_above Registers 2048 (registers Plain) m.functions ++ from_objects

  abbrev from_edges : List (LimitKind × ℕ)
  from_edges = each_above Edges 1048576 edges_in m.functions ++ from_registers

  abbrev from_globals : List (LimitKind × ℕ)
  from_globals = above Globals 65536 (length m.globals) ++ from_edges

  few_registers : (k : ℕ) (f : Function) → slice_get m.functions k ≡ Some f → registers Plain f ≤ 2048
  few_registers =
      each_none Registers 2048 (registers Plain) m.functions (nil_left (each_above Registers 2048 (registers Plain) m.functions) from_objects (nil_right (each_above Edges 1048576 edges_in m.functions) from_registers (nil_right (above Globals 65536 (length m.globals)) from_edges (nil_right (above Functions 65536 (length m.functions)) from_globals e))))

values_few : (f : Function) → registers Plain f ≤ 2048 → length f.params + count_in has_result f.blocks ≤ 2048
unfolding registers total_of
values_few f h = omega (arith, h)

blocks_few : (f : Function) → (is_declared f ≡ false → HasGraph f) → length f.blocks < 4294967296
blocks_few f graph = by (is_declared f) refl
  where
    by : (d : Bool) → is_declared f ≡ d → length f.blocks < 4294967296
    by true e = let none = ap length (no_blocks f e) in omega (arith, none)
    by false e = let few = (graph e).few in let many = ways_many f.blocks in omega (arith, few, many)

pub names_few : (m : Module) → passed m ≡ [] → kind_of m.functions ≡ Plain → (k : ℕ) (f : Function) → slice_get m.functions k ≡ Some f → (is_declared f ≡ false → HasGraph f) → suc (length (locals f)) < 2 ^ 64
unfolding passed
names_few m within plain k f at graph =
    let e : passed_by Plain m ≡ [] = subst (λ (kind : _). passed_by kind m ≡ []) plain within in
    let values = values_few f (few_registers m e k f at) in
    let blocks = blocks_few f graph in
    let all = length_locals f in
    omega (arith, values, blocks, all)

pub has_some : {X : Type 0} (xs : List X) → (length xs == 0) ≡ false → 0 < length xs
has_some [] e = absurd (cc)
has_some (x ∷ xs) e = omega arith
