-- The module that counts an accepted plain module is within the limits of its kind.
use Rattle.std.proofs.Common.{◌≡◌, ℕ, suc, ◌+◌, ◌*◌, ◌≤◌, ◌⊎◌, inl, inr, Bool, true, false, cond, not, ◌||◌, List, [], ◌∷◌, ◌++◌, length, map, filter, count_by, sum_by, refl, sym, ap, subst, ◌∙◌, arith}
use Rattle.std.specs.Prelude.{max, unwrap_or}
use Rattle.std.specs.List.{flat_map, list_any}
use Rattle.std.proofs.lemmas.List.{length-append, length-map}
use Rattle.std.proofs.lemmas.List.Sums.{sum_by-append, sum_by-cons}
use Rattle.count_plan.specs.Calls.{increment_name, step_name, value_name}
use Rattle.count_plan.specs.Counted.{counted_function}
use Rattle.counted_accepted.proofs.Modules.{among_either, among_left, among_right, functions_are, global_symbol, kind_is, map_among}
use Rattle.counted_accepted.proofs.Symbols.{Name, no_unit_part, record_unit}
use Rattle.counted_rules.specs.Grown.{FunctionsGrowLittle}
use Rattle.counted_rules.specs.PlainNames.{IsPlainName}
use Rattle.counted_rules.specs.Within.{IsWithin, LimitsAreKept}
use Rattle.gen_plan.specs.Gen.{counted, declaration, declarations, gen_function, has_select, record_global, record_name}
use Rattle.ir_rules.specs.Accepted.{IsAccepted}
use Rattle.ir_rules.specs.Kinds.{is_profile_variable, is_unit_counters, is_unit_data, kind_of}
use Rattle.ir_rules.specs.Limits.{all_arrays, array_sizes, calls_through, cells, cells_of, function_arrays, global_arrays, has_result, passed, registers, told_counters, total_of}
use Rattle.ir_rules.specs.Lists.{Among}
use Rattle.ir_rules.specs.Scopes.{symbols}
use Rattle.ir_rules.specs.Sizes.{size_of}
use Rattle.ir_rules.specs.Units.{is_i64, length_of}
use Rattle.ir_rules.specs.declared.place.Kind.{Kind}
use Rattle.ir_rules.specs.declared.place.Kind.TheVariants.{Plain, Counted}
use Rattle.ir_tree.specs.Edges.{edges_in}
use Rattle.ir_tree.specs.Functions.{is_declared}
use Rattle.ir_tree.specs.Graphs.{count_in, is_select, is_site}
use Rattle.ir_tree.specs.Successors.{ways_out}
use Rattle.ir_tree.specs.declared.types.Block.{Block}
use Rattle.ir_tree.specs.declared.types.Function.{Function}
use Rattle.ir_tree.specs.declared.types.Global1.{Global1}
use Rattle.ir_tree.specs.declared.types.Instr.{Instr}
use Rattle.ir_tree.specs.declared.types.Instr.TheVariants.{Binary, Compare, Convert, Freeze, Select, Phi, Alloca, Load, Store, Gep, Call, Count}
use Rattle.ir_tree.specs.declared.types.Module.{Module}
use Rattle.ir_tree.specs.declared.types.Ty.{Ty}
use Rattle.ir_tree.specs.declared.types.Ty.TheVariants.{I32, I64, Ptr}
use Rattle.spec_items.proofs.Items.{count_cons}

-- ---- lists

filter_length : {X : Type 0} (test : X → Bool) (xs : List X) → length (filter test xs) ≤ length xs
filter_length test [] = omega arith
filter_length test (x ∷ xs) = by (test x) (filter_length test xs)
  where
    by : (b : Bool) → length (filter test xs) ≤ length xs → length (cond b (x ∷ filter test xs) (filter test xs)) ≤ suc (length xs)
    by true rest = omega (arith, rest)
    by false rest = omega (arith, rest)

flat_among : {X Y : Type 0} (g : X → List Y) (xs : List X) (y : Y) → Among y (flat_map g xs) → (x : X) × Among x xs × Among y (g x)
flat_among g [] y at = absurd at
flat_among {X} {Y} g (x ∷ xs) y at = by (among_either (g x) (flat_map g xs) y at) (λ h. flat_among g xs y h)
  where
    by : Among y (g x) ⊎ Among y (flat_map g xs) → (Among y (flat_map g xs) → (z : X) × Among z xs × Among y (g z)) → (z : X) × Among z (x ∷ xs) × Among y (g z)
    by (inl h) rest = (x, inl refl, h)
    by (inr h) rest = (let r = rest h in (r.0, inr r.1, r.2))

among_flat : {X Y : Type 0} (g : X → List Y) (xs : List X) (x : X) (y : Y) → Among x xs → Among y (g x) → Among y (flat_map g xs)
among_flat g [] x y at h = absurd at
among_flat {X} {Y} g (z ∷ zs) x y (inl e) h = among_left (g z) (flat_map g zs) y (subst (λ (w : X). Among y (g w)) e h)
among_flat g (z ∷ zs) x y (inr at) h = among_right (g z) (flat_map g zs) y (among_flat g zs x y at h)

sum_same : {X : Type 0} (v w : X → ℕ) (xs : List X) → ((x : X) → Among x xs → v x ≡ w x) → sum_by v xs ≡ sum_by w xs
sum_same v w [] h = refl
sum_same v w (x ∷ xs) h = (let here = h x (inl refl) in let rest = sum_same v w xs (λ y at. h y (inr at)) in omega (arith, here, rest, sum_by-cons v x xs, sum_by-cons w x xs))

sum_zero : {X : Type 0} (v : X → ℕ) (xs : List X) → ((x : X) → Among x xs → v x ≡ 0) → sum_by v xs ≡ 0
sum_zero v [] h = refl
sum_zero v (x ∷ xs) h = (let here = h x (inl refl) in let rest = sum_zero v xs (λ y at. h y (inr at)) in omega (arith, here, rest, sum_by-cons v x xs))

sum_mapped : {X : Type 0} (v : X → ℕ) (g : X → X) (xs : List X) → ((x : X) → v (g x) ≤ v x) → sum_by v (map g xs) ≤ sum_by v xs
sum_mapped v g [] h = omega arith
sum_mapped v g (x ∷ xs) h = (let here = h x in let rest = sum_mapped v g xs h in omega (arith, here, rest, sum_by-cons v (g x) (map g xs), sum_by-cons v x xs))

-- ---- a function

-- a select has a result
select_result : (x : Instr) → cond {A = ℕ} (is_select x) 1 0 ≤ cond {A = ℕ} (has_result x) 1 0
select_result (Select into c ty first second prof) = omega arith
select_result (Binary into op flags ty left right) = omega arith
select_result (Compare into pred ty left right) = omega arith
select_result (Convert into op flags from value to) = omega arith
select_result (Freeze into ty value) = omega arith
select_result (Phi into ty entries) = omega arith
select_result (Alloca into mem) = omega arith
select_result (Load into ty address) = omega arith
select_result (Store ty value address) = omega arith
select_result (Gep into inbounds mem address indices) = omega arith
select_result (Call into ret callee values prof) = omega arith
select_result (Count symbol size index step) = omega arith

selects_in : (xs : List Instr) → count_by is_select xs ≤ count_by has_result xs
selects_in [] = omega arith
selects_in (x ∷ xs) = (let here = select_result x in let rest = selects_in xs in omega (arith, here, rest, count_cons is_select x xs, count_cons has_result x xs))

selects_few : (bs : List Block) → count_in is_select bs ≤ count_in has_result bs
selects_few [] = omega arith
selects_few (b ∷ bs) = (let here = selects_in b.instrs in let rest = selects_few bs in omega (arith, here, rest, sum_by-cons (λ (d : Block). count_by is_select d.instrs) b bs, sum_by-cons (λ (d : Block). count_by has_result d.instrs) b bs))

selects_total : (f : Function) → total_of is_select f ≤ total_of has_result f
unfolding total_of
selects_total f = selects_few f.blocks

registers_plain : (f : Function) → registers Plain f ≡ length f.params + total_of has_result f + 8 * total_of is_site f
unfolding registers
registers_plain f = refl

registers_counted : (f : Function) → registers Counted f ≡ length f.params + total_of has_result f
unfolding registers
registers_counted f = omega arith

no_blocks_total : (test : Instr → Bool) (n : Name) (ts : List Ty) → total_of test (declaration n ts) ≡ 0
unfolding total_of
no_blocks_total test n ts = refl

cells_are : (m : Module) → cells m ≡ sum_by (cells_of (kind_of m.functions)) m.globals
unfolding cells
cells_are m = refl

edges_twice : (f g : Function) → (is_declared f ≡ true → is_declared g ≡ true) → sum_by ways_out g.blocks ≤ 2 * sum_by ways_out f.blocks → edges_in g ≤ 2 * edges_in f
edges_twice f g still h = by (is_declared f) refl (is_declared g) refl
  where
    by : (a : Bool) → is_declared f ≡ a → (b : Bool) → is_declared g ≡ b → cond {A = ℕ} (is_declared g) 0 (1 + sum_by ways_out g.blocks) ≤ 2 * cond {A = ℕ} (is_declared f) 0 (1 + sum_by ways_out f.blocks)
    by a e true d = (let z : cond {A = ℕ} (is_declared g) 0 (1 + sum_by ways_out g.blocks) ≡ 0 = ap (λ (b : Bool). cond {A = ℕ} b 0 (1 + sum_by ways_out g.blocks)) d in omega (arith, z))
    by true e false d = absurd (cc (sym (still e) ∙ d))
    by false e false d =
        let x : cond {A = ℕ} (is_declared g) 0 (1 + sum_by ways_out g.blocks) ≡ 1 + sum_by ways_out g.blocks = ap (λ (b : Bool). cond {A = ℕ} b 0 (1 + sum_by ways_out g.blocks)) d in
        let y : cond {A = ℕ} (is_declared f) 0 (1 + sum_by ways_out f.blocks) ≡ 1 + sum_by ways_out f.blocks = ap (λ (b : Bool). cond {A = ℕ} b 0 (1 + sum_by ways_out f.blocks)) e in
        omega (arith, x, y, h)

module _ (entry_first : Bool) (m : Module) (accepted : IsAccepted m) (plain : kind_of m.functions ≡ Plain) (plain_name : (n : Name) → Among n (symbols m) → IsPlainName n) (limits : LimitsAreKept) (grow : FunctionsGrowLittle) where
  abbrev m2 : Module
  m2 = counted entry_first m

  abbrev counting : Function → Function
  counting f = counted_function (gen_function entry_first f) f

  abbrev records : List Global1
  records = map (λ (f : Function). record_global f.name) (filter (λ f. not (is_declared f)) m.functions)

  within : IsWithin Plain m
  within = subst (λ (kind : Kind). IsWithin kind m) plain ((limits m).0 accepted.within)

  are : m2.functions ≡ map counting m.functions ++ declarations m.functions
  are = functions_are entry_first m accepted plain plain_name

  few_declarations : length (declarations m.functions) ≤ 3
  few_declarations = by (list_any has_select m.functions)
    where
      by : (s : Bool) → length (declaration increment_name (Ptr ∷ I64 ∷ I32 ∷ I32 ∷ []) ∷ declaration value_name (Ptr ∷ I64 ∷ I64 ∷ I32 ∷ I32 ∷ []) ∷ cond s (declaration step_name (Ptr ∷ I64 ∷ I32 ∷ I32 ∷ I64 ∷ []) ∷ []) []) ≤ 3
      by true = omega arith
      by false = omega arith

  functions_few : length m2.functions ≤ 65540
  functions_few =
      let a : length m2.functions ≡ length (map counting m.functions ++ declarations m.functions) = ap (λ (fs : List Function). length fs) are in
      let b = length-append (map counting m.functions) (declarations m.functions) in
      let c = length-map m.functions counting in
      let d = within.functions in
      omega (arith, a, b, c, d, few_declarations)

  globals_few : length m2.globals ≤ 262144
  globals_few =
      let a = length-append m.globals records in
      let b = length-map (filter (λ f. not (is_declared f)) m.functions) (λ (f : Function). record_global f.name) in
      let c = filter_length (λ (f : Function). not (is_declared f)) m.functions in
      let d = within.functions in
      let e = within.globals in
      omega (arith, a, b, c, d, e)

  -- ---- each function

  each_function : (P : Function → Type 0) → ((f : Function) → Among f m.functions → P (counting f)) → ((n : Name) (ts : List Ty) → length ts ≤ 5 → P (declaration n ts)) → (f : Function) → Among f m2.functions → P f
  each_function P old new f at = by (among_either (map counting m.functions) (declarations m.functions) f (subst (λ (fs : List Function). Among f fs) are at))
    where
      last : (s : Bool) → Among f (cond s (declaration step_name (Ptr ∷ I64 ∷ I32 ∷ I32 ∷ I64 ∷ []) ∷ []) []) → P f
      last true (inl e) = subst P (sym e) (new step_name (Ptr ∷ I64 ∷ I32 ∷ I32 ∷ I64 ∷ []) (omega arith))
      last true (inr h) = absurd h
      last false h = absurd h

      by : Among f (map counting m.functions) ⊎ Among f (declarations m.functions) → P f
      by (inl h) = (let g = map_among counting m.functions f h in subst P (sym g.2) (old g.0 g.1))
      by (inr (inl e)) = subst P (sym e) (new increment_name (Ptr ∷ I64 ∷ I32 ∷ I32 ∷ []) (omega arith))
      by (inr (inr (inl e))) = subst P (sym e) (new value_name (Ptr ∷ I64 ∷ I64 ∷ I32 ∷ I32 ∷ []) (omega arith))
      by (inr (inr (inr h))) = last (list_any has_select m.functions) h

  still_declared : (f : Function) → is_declared f ≡ true → is_declared (counting f) ≡ true
  still_declared f e = (grow (gen_function entry_first f) f).declared ∙ e

  edges_few : (f : Function) → Among f m2.functions → edges_in f ≤ 2097152
  edges_few = each_function (λ f. edges_in f ≤ 2097152)
      (λ f at. (let a = edges_twice f (counting f) (still_declared f) (grow (gen_function entry_first f) f).edges in let b = within.edges f at in omega (arith, a, b)))
      (λ n ts few. omega arith)

  registers_few : (f : Function) → Among f m2.functions → registers Counted f ≤ 4096
  registers_few = each_function (λ f. registers Counted f ≤ 4096)
      (λ f at. (let a = (grow (gen_function entry_first f) f).results in let b = within.results f at in let c = selects_total f in omega (arith, a, b, c, registers_plain f, registers_counted (counting f))))
      (λ n ts few. (let a = registers_counted (declaration n ts) in let b = no_blocks_total has_result n ts in let c : length (declaration n ts).params ≡ length ts = length-map {B = Ty × Name} ts (λ t. (t, [])) in omega (arith, a, b, c, few)))

  -- ---- globals

  old_part : (g : Global1) → Among g m.globals → (is_profile_variable Counted g.name ≡ false)
  old_part g at = no_unit_part g.name (plain_name g.name (global_symbol entry_first m accepted plain plain_name g at))

  new_part : (n : Name) → is_profile_variable Counted (record_name n) ≡ true
  new_part n = ap (λ (b : Bool). b || (is_unit_counters (record_name n) || is_unit_data (record_name n))) (record_unit n)

  old_cells : (g : Global1) → Among g m.globals → cells_of Counted g ≡ cells_of Plain g
  old_cells g at = ap (λ (b : Bool). cond {A = ℕ} b 0 (max 1 (size_of g.mem))) (old_part g at)

  new_cells : (g : Global1) → Among g records → cells_of Counted g ≡ 0
  new_cells g at =
      let f = map_among (λ (f : Function). record_global f.name) (filter (λ f. not (is_declared f)) m.functions) g at in
      ap (cells_of Counted) f.2 ∙ ap (λ (b : Bool). cond {A = ℕ} b 0 (max 1 (size_of (record_global f.0.name).mem))) (new_part f.0.name)

  cells_few : cells m2 ≤ 1048576
  cells_few =
      let a : cells m2 ≡ sum_by (cells_of Counted) m2.globals = cells_are m2 ∙ ap (λ (kind : Kind). sum_by (cells_of kind) m2.globals) (kind_is entry_first m accepted plain plain_name) in
      let b = sum_by-append (cells_of Counted) m.globals records in
      let c = sum_same (cells_of Counted) (cells_of Plain) m.globals old_cells in
      let d = sum_zero (cells_of Counted) records new_cells in
      let e : cells m ≡ sum_by (cells_of Plain) m.globals = cells_are m ∙ ap (λ (kind : Kind). sum_by (cells_of kind) m.globals) plain in
      let h = within.memory in
      omega (arith, a, b, c, d, e, h)

  old_told : (g : Global1) → Among g m.globals → told_counters g ≡ 0
  old_told g at = ap (λ (b : Bool). cond {A = ℕ} b (unwrap_or (length_of is_i64 g.mem) 0) 0) ((plain_name g.name (global_symbol entry_first m accepted plain plain_name g at)).unit_counters)

  record_no_counters : (n : Name) → is_unit_counters (record_name n) ≡ false
  unfolding is_unit_counters
  record_no_counters n = refl

  new_told : (g : Global1) → Among g records → told_counters g ≡ 0
  new_told g at =
      let f = map_among (λ (f : Function). record_global f.name) (filter (λ f. not (is_declared f)) m.functions) g at in
      ap told_counters f.2 ∙ ap (λ (b : Bool). cond {A = ℕ} b (unwrap_or (length_of is_i64 (record_global f.0.name).mem) 0) 0) (record_no_counters f.0.name)

  told_few : sum_by told_counters m2.globals ≤ 1048576
  told_few =
      let a = sum_by-append told_counters m.globals records in
      let b = sum_zero told_counters m.globals old_told in
      let c = sum_zero told_counters records new_told in
      omega (arith, a, b, c)

  -- ---- sites

  none_declared : (test : Instr → Bool) → sum_by (total_of test) (declarations m.functions) ≡ 0
  none_declared test = sum_zero (total_of test) (declarations m.functions) one
    where
      last : (s : Bool) (f : Function) → Among f (cond s (declaration step_name (Ptr ∷ I64 ∷ I32 ∷ I32 ∷ I64 ∷ []) ∷ []) []) → total_of test f ≡ 0
      last true f (inl e) = ap (total_of test) e ∙ no_blocks_total test step_name (Ptr ∷ I64 ∷ I32 ∷ I32 ∷ I64 ∷ [])
      last true f (inr h) = absurd h
      last false f h = absurd h

      one : (f : Function) → Among f (declarations m.functions) → total_of test f ≡ 0
      one f (inl e) = ap (total_of test) e ∙ no_blocks_total test increment_name (Ptr ∷ I64 ∷ I32 ∷ I32 ∷ [])
      one f (inr (inl e)) = ap (total_of test) e ∙ no_blocks_total test value_name (Ptr ∷ I64 ∷ I64 ∷ I32 ∷ I32 ∷ [])
      one f (inr (inr h)) = last (list_any has_select m.functions) f h

  sites_few : calls_through m2 ≤ 65536
  sites_few =
      let a : calls_through m2 ≡ sum_by (total_of is_site) (map counting m.functions ++ declarations m.functions) = ap (λ (fs : List Function). sum_by (total_of is_site) fs) are in
      let b = sum_by-append (total_of is_site) (map counting m.functions) (declarations m.functions) in
      let c = sum_mapped (total_of is_site) counting m.functions (λ f. (grow (gen_function entry_first f) f).sites) in
      let d = none_declared is_site in
      let e = within.sites in
      omega (arith, a, b, c, d, e)

  -- ---- array types

  arrays_are : (n : Module) → all_arrays n ≡ flat_map (global_arrays (kind_of n.functions)) n.globals ++ flat_map function_arrays n.functions
  unfolding all_arrays
  arrays_are n = refl

  no_new_array : (g : Global1) (size : ℕ) → Among g records → Among size (global_arrays Counted g) → ⊥
  no_new_array g size at h =
      let f = map_among (λ (f : Function). record_global f.name) (filter (λ f. not (is_declared f)) m.functions) g at in
      let none : global_arrays Counted g ≡ [] = ap (global_arrays Counted) f.2 ∙ ap (λ (b : Bool). cond {A = List ℕ} b [] (array_sizes (record_global f.0.name).mem)) (new_part f.0.name) in
      subst (λ (ns : List ℕ). Among size ns) none h

  global_stays : (size : ℕ) → Among size (flat_map (global_arrays Counted) m2.globals) → Among size (flat_map (global_arrays Plain) m.globals)
  global_stays size h = by (flat_among (global_arrays Counted) m2.globals size h)
    where
      on : (g : Global1) → Among size (global_arrays Counted g) → Among g m.globals ⊎ Among g records → Among size (flat_map (global_arrays Plain) m.globals)
      on g k (inl at) = among_flat (global_arrays Plain) m.globals g size at (subst (λ (ns : List ℕ). Among size ns) (ap (λ (b : Bool). cond {A = List ℕ} b [] (array_sizes g.mem)) (old_part g at)) k)
      on g k (inr at) = absurd (no_new_array g size at k)

      by : (g : Global1) × Among g m2.globals × Among size (global_arrays Counted g) → Among size (flat_map (global_arrays Plain) m.globals)
      by (g, at, k) = on g k (among_either m.globals records g at)

  function_stays : (size : ℕ) → Among size (flat_map function_arrays m2.functions) → Among size (flat_map function_arrays m.functions)
  function_stays size h =
      let f = flat_among function_arrays m2.functions size h in
      each_function (λ g. Among size (function_arrays g) → Among size (flat_map function_arrays m.functions)) (λ g at k. among_flat function_arrays m.functions g size at ((grow (gen_function entry_first g) g).arrays size k)) (λ n ts few k. absurd k) f.0 f.1 f.2

  array_stays : (size : ℕ) → Among size (all_arrays m2) → Among size (all_arrays m)
  array_stays size h = subst (λ (ns : List ℕ). Among size ns) (sym whole) (by (among_either (flat_map (global_arrays Counted) m2.globals) (flat_map function_arrays m2.functions) size (subst (λ (ns : List ℕ). Among size ns) made h)))
    where
      whole : all_arrays m ≡ flat_map (global_arrays Plain) m.globals ++ flat_map function_arrays m.functions
      whole = arrays_are m ∙ ap (λ (kind : Kind). flat_map (global_arrays kind) m.globals ++ flat_map function_arrays m.functions) plain

      made : all_arrays m2 ≡ flat_map (global_arrays Counted) m2.globals ++ flat_map function_arrays m2.functions
      made = arrays_are m2 ∙ ap (λ (kind : Kind). flat_map (global_arrays kind) m2.globals ++ flat_map function_arrays m2.functions) (kind_is entry_first m accepted plain plain_name)

      by : Among size (flat_map (global_arrays Counted) m2.globals) ⊎ Among size (flat_map function_arrays m2.functions) → Among size (flat_map (global_arrays Plain) m.globals ++ flat_map function_arrays m.functions)
      by (inl k) = among_left (flat_map (global_arrays Plain) m.globals) (flat_map function_arrays m.functions) size (global_stays size k)
      by (inr k) = among_right (flat_map (global_arrays Plain) m.globals) (flat_map function_arrays m.functions) size (function_stays size k)

  counted_within : IsWithin Counted m2
  counted_within = record {
    functions = functions_few;
    globals = globals_few;
    edges = edges_few;
    results = registers_few;
    objects = λ size at. within.objects size (array_stays size at);
    memory = cells_few;
    sites = sites_few;
    counted = told_few;
  }

  pub limits_kept : passed m2 ≡ []
  limits_kept = (limits m2).1 (subst (λ (kind : Kind). IsWithin kind m2) (sym (kind_is entry_first m accepted plain plain_name)) counted_within)

  pub is_counted : kind_of m2.functions ≡ Counted
  is_counted = kind_is entry_first m accepted plain plain_name
