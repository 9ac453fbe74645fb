-- The lowered form of the module that counts an accepted plain module is within the limits of its kind.
use Rattle.std.proofs.Common.{◌≡◌, ℕ, ◌+◌, ◌*◌, ◌≤◌, ◌⊎◌, inl, inr, Bool, true, false, ◌&&◌, ◌||◌, not, cond, if◌then◌else◌, List, [], ◌∷◌, ◌++◌, filter, length, map, sum_by, refl, sym, ap, subst, ◌∙◌, arith, codes}
use denote.Hole.Carrier
use Rattle.std.specs.Prelude.{max, unwrap_or}
use Rattle.std.specs.List.{flat_map, list_any}
use Rattle.std.proofs.lemmas.Bool.{and_parts, or_parts}
use Rattle.std.proofs.lemmas.List.{length-append, length-map}
use Rattle.std.proofs.lemmas.List.Elements.{filter-append}
use Rattle.std.proofs.lemmas.List.Sums.{sum_by-append, sum_by-cons}
use Rattle.counted_accepted.specs.Few.{IsFew}
use Rattle.counted_rules.specs.PlainNames.{NamesArePlain}
use Rattle.counted_rules.specs.Within.{IsWithin, LimitsAreKept}
use Rattle.gen_asks.specs.Asks.{IsAskedOf}
use Rattle.gen_lowered.proofs.Listed.{Name, among_either, among_flat, among_left, among_map, among_right, filter_among, filter_length, filter_less, flat_among, map_among, same_is, some_of, sum_filtered, sum_mapped, sum_same, sum_zero}
use Rattle.gen_lowered.proofs.Owned.{counters_few, sites_few}
use Rattle.gen_plan.specs.Gen.{counted, record_global}
use Rattle.ir_rules.specs.Accepted.{IsAccepted}
use Rattle.ir_rules.specs.Kinds.{declares, declares_increments, declares_notes, is_profile_variable, is_unit_counters, is_unit_data, is_unit_name, kind_of}
use Rattle.ir_rules.specs.Limits.{all_arrays, array_sizes, calls_through, cells, cells_of, counters, function_arrays, global_arrays, has_result, passed, registers, told_counters, told_sites, total_of}
use Rattle.ir_rules.specs.Lists.{Among}
use Rattle.ir_rules.specs.Reserved.{is_of_intrinsics, is_of_runtime, is_reserved_variable, is_version}
use Rattle.ir_rules.specs.Scopes.{function_names, variables}
use Rattle.ir_rules.specs.Sizes.{size_of}
use Rattle.ir_rules.specs.Units.{is_i64, length_of, sites_of}
use Rattle.ir_rules.specs.declared.place.Kind.{Kind}
use Rattle.ir_rules.specs.declared.place.Kind.TheVariants.{Plain, Counted, Lowered}
use Rattle.ir_tree.specs.Edges.{edges_in}
use Rattle.ir_tree.specs.Functions.{is_declared}
use Rattle.ir_tree.specs.Graphs.{is_site}
use Rattle.ir_tree.specs.Names.{same}
use Rattle.ir_tree.specs.declared.types.Function.{Function}
use Rattle.ir_tree.specs.declared.types.Global1.{Global1}
use Rattle.ir_tree.specs.declared.types.Init.TheBlock.{shape-the_row-Init-0, hidden-the_row-Init-0}
use Rattle.ir_tree.specs.declared.types.Instr.{Instr}
use Rattle.ir_tree.specs.declared.types.Module.{Module}
use Rattle.lowered_rules.specs.Small.{FunctionsStaySmall}
use Rattle.lowering.specs.Asked.{Asked, all_asked}
use Rattle.lowering.specs.Lowered.{lowered, lowered_function, runtime_declaration}
use Rattle.lowering.specs.Units.{counters_global, counters_symbol, counters_told, data_global, data_symbol, hash_told, is_asked_of, name_held, names_used, new_globals, sites_told, unit_globals}
use Rattle.pgo_base.specs.Hash.{hash8}

-- ---- names

first_part : (s : Name) → (is_profile_variable Lowered (counters_symbol s) ≡ true) × (is_unit_data (counters_symbol s) ≡ false) × (is_unit_counters (counters_symbol s) ≡ true)
unfolding is_unit_name is_unit_counters is_unit_data
first_part s = (refl, refl, refl)

second_part : (s : Name) → (is_profile_variable Lowered (data_symbol s) ≡ true) × (is_unit_data (data_symbol s) ≡ true) × (is_unit_counters (data_symbol s) ≡ false)
unfolding is_unit_name is_unit_counters is_unit_data
second_part s = (refl, refl, refl)

increment_intrinsic : (n : Name) → same n (codes "llvm.instrprof.increment") ≡ true → is_of_intrinsics n ≡ true
unfolding is_of_intrinsics
increment_intrinsic n h = ap is_of_intrinsics (same_is n (codes "llvm.instrprof.increment") h)

sites_are : (n : Name) (a b c d : ℕ) → sites_of (data_global n a b c d) ≡ d
unfolding shape-the_row-Init-0 hidden-the_row-Init-0 Carrier.hidden
sites_are n a b c d = refl

-- ---- definitions

cells_are : (m : Module) → cells m ≡ sum_by (cells_of (kind_of m.functions)) m.globals
unfolding cells
cells_are m = refl

arrays_are : (m : Module) → all_arrays m ≡ flat_map (global_arrays (kind_of m.functions)) m.globals ++ flat_map function_arrays m.functions
unfolding all_arrays
arrays_are m = refl

registers_counted : (f : Function) → registers Counted f ≡ length f.params + total_of has_result f
unfolding registers
registers_counted f = omega arith

registers_lowered : (f : Function) → registers Lowered f ≡ length f.params + total_of has_result f
unfolding registers
registers_lowered f = omega arith

runtime_total : (test : Instr → Bool) → total_of test runtime_declaration ≡ 0
unfolding total_of
runtime_total test = refl

declares_some : (fs : List Function) → kind_of fs ≡ Counted → declares_increments fs ≡ true
declares_some fs is = by (declares_increments fs) (declares_notes fs) is
  where
    counts : Kind → Bool
    counts Plain = false
    counts Counted = true
    counts Lowered = false

    by : (a b : Bool) → (if a then Counted else (if b then Lowered else Plain)) ≡ Counted → a ≡ true
    by true b h = refl
    by false true h = absurd (cc (ap counts h))
    by false false h = absurd (cc (ap counts h))

-- two globals for each unit
module _ (asks : List Asked) where
  abbrev first : Global1 → Global1
  first g = counters_global g.name (unwrap_or (counters_told g.name asks) 0)

  abbrev second : Global1 → Global1
  second g = data_global g.name (hash8 (name_held g)) (unwrap_or (hash_told g.name asks) 0) (unwrap_or (counters_told g.name asks) 0) (sites_told g.name asks)

  twice : (gs : List Global1) → length (flat_map (unit_globals asks) gs) ≡ 2 * length gs
  twice [] = refl
  twice (g ∷ gs) = (let rest = twice gs in omega (arith, rest))

  sum_twice : (v : Global1 → ℕ) (gs : List Global1) → sum_by v (flat_map (unit_globals asks) gs) ≡ sum_by (λ g. v (first g) + v (second g)) gs
  sum_twice v [] = refl
  sum_twice v (g ∷ gs) =
      let rest = sum_twice v gs in
      omega (arith, rest, sum_by-cons v (first g) (second g ∷ flat_map (unit_globals asks) gs), sum_by-cons v (second g) (flat_map (unit_globals asks) gs), sum_by-cons (λ g. v (first g) + v (second g)) g gs)

none_left : {X : Type 0} (test : X → Bool) (xs : List X) → ((x : X) → Among x xs → test x ≡ false) → filter test xs ≡ []
none_left test [] h = refl
none_left test (x ∷ xs) h = ap (λ (b : Bool). cond b (x ∷ filter test xs) (filter test xs)) (h x (inl refl)) ∙ none_left test xs (λ y at. h y (inr at))

module _ (entry_first : Bool) (m : Module) (accepted : IsAccepted m) (plain : kind_of m.functions ≡ Plain) (again : IsAccepted (counted entry_first m)) (kind : kind_of (counted entry_first m).functions ≡ Counted) (last_kind : kind_of (lowered (counted entry_first m)).functions ≡ Lowered) (stand : (a : Asked) → Among a (all_asked (counted entry_first m)) → IsAskedOf entry_first m a) (few : (f : Function) → Among f m.functions → is_declared f ≡ false → IsFew entry_first f) (small : FunctionsStaySmall) (limits : LimitsAreKept) (names : NamesArePlain) where
  abbrev c2 : Module
  c2 = counted entry_first m

  abbrev l2 : Module
  l2 = lowered c2

  abbrev asks : List Asked
  asks = all_asked c2

  abbrev is_kept : Function → Bool
  is_kept f = not (is_of_intrinsics f.name)

  abbrev kept : List Function
  kept = filter is_kept c2.functions

  abbrev defined : Function → Bool
  defined f = not (is_declared f)

  abbrev records : List Global1
  records = map (λ (f : Function). record_global f.name) (filter defined m.functions)

  abbrev units : List Global1
  units = filter (names_used asks) c2.globals

  within_plain : IsWithin Plain m
  within_plain = subst (λ (kind : Kind). IsWithin kind m) plain ((limits m).0 accepted.within)

  within_counted : IsWithin Counted c2
  within_counted = subst (λ (kind : Kind). IsWithin kind c2) kind ((limits c2).0 again.within)

  -- ---- functions

  functions_few : length l2.functions ≤ 65540
  unfolding declares_increments
  functions_few =
      let f = some_of (declares (codes "llvm.instrprof.increment")) c2.functions (declares_some c2.functions kind) in
      let named = increment_intrinsic f.0.name (and_parts (is_declared f.0) (same f.0.name (codes "llvm.instrprof.increment")) f.2).1 in
      let less = filter_less is_kept c2.functions f.0 f.1 (ap not named) in
      let a = length-append (map lowered_function kept) (runtime_declaration ∷ []) in
      let b = length-map kept lowered_function in
      let most = within_counted.functions in
      omega (arith, less, a, b, most)

  each_function : (P : Function → Type 0) → ((f : Function) → Among f c2.functions → P (lowered_function f)) → P runtime_declaration → (f : Function) → Among f l2.functions → P f
  each_function P old new f at = by (among_either (map lowered_function kept) (runtime_declaration ∷ []) f at)
    where
      by : Among f (map lowered_function kept) ⊎ Among f (runtime_declaration ∷ []) → P f
      by (inl h) = (let g = map_among lowered_function kept f h in subst P (sym g.2) (old g.0 (filter_among is_kept c2.functions g.0 g.1).0))
      by (inr (inl e)) = subst P (sym e) new
      by (inr (inr none)) = absurd none

  edges_few : (f : Function) → Among f l2.functions → edges_in f ≤ 2097152
  edges_few = each_function (λ f. edges_in f ≤ 2097152) (λ f at. (let e = (small f).edges in let most = within_counted.edges f at in omega (arith, e, most))) (omega arith)

  registers_few : (f : Function) → Among f l2.functions → registers Lowered f ≤ 4096
  registers_few = each_function (λ f. registers Lowered f ≤ 4096)
      (λ f at. (let e = (small f).results in let most = within_counted.results f at in omega (arith, e, most, registers_counted f, registers_lowered (lowered_function f))))
      (let none = runtime_total has_result in omega (arith, none, registers_lowered runtime_declaration))

  -- ---- globals

  not_used : (g : Global1) → Among g m.globals → names_used asks g ≡ false
  not_used g at =
      let symbol = among_left (variables m) (function_names m) g.name (among_map (λ (h : Global1). h.name) m.globals g at) in
      ap (λ (b : Bool). b && list_any (is_asked_of g.name) asks) (names m accepted.formed plain g.name symbol).unit_name

  units_are : units ≡ filter (names_used asks) records
  units_are = filter-append (names_used asks) m.globals records ∙ ap (λ (gs : List Global1). gs ++ filter (names_used asks) records) (none_left (names_used asks) m.globals not_used)

  defined_few : length (filter defined m.functions) ≤ 65536
  defined_few = (let a = filter_length defined m.functions in let b = within_plain.functions in omega (arith, a, b))

  records_few : length records ≤ 65536
  records_few = (let a = length-map (filter defined m.functions) (λ (f : Function). record_global f.name) in let b = defined_few in omega (arith, a, b))

  units_few : length units ≤ 65536
  units_few =
      let a : length units ≡ length (filter (names_used asks) records) = ap (λ (gs : List Global1). length gs) units_are in
      let b = filter_length (names_used asks) records in
      let c = records_few in
      omega (arith, a, b, c)

  globals_few : length l2.globals ≤ 262144
  globals_few =
      let a = length-append c2.globals (new_globals asks c2.globals) in
      let b = length-append m.globals records in
      let t = twice asks units in
      let u = units_few in
      let r = records_few in
      let g = within_plain.globals in
      omega (arith, a, b, t, u, r, g)

  sum_all : (v : Global1 → ℕ) → sum_by v l2.globals ≡ sum_by v c2.globals + sum_by (λ g. v (first asks g) + v (second asks g)) units
  sum_all v = sum_by-append v c2.globals (new_globals asks c2.globals) ∙ ap (λ (k : ℕ). sum_by v c2.globals + k) (sum_twice asks v units)

  -- what a sum over the units comes to, where it is bounded by functions
  units_sum : (v : Global1 → ℕ) (w : Function → ℕ) → ((f : Function) → Among f m.functions → is_declared f ≡ false → v (record_global f.name) ≤ w f) → sum_by v units ≤ sum_by w m.functions
  units_sum v w h =
      let a : sum_by v units ≡ sum_by v (filter (names_used asks) records) = ap (λ (gs : List Global1). sum_by v gs) units_are in
      let b = sum_filtered (names_used asks) v records in
      let c = sum_mapped v w (λ (f : Function). record_global f.name) (filter defined m.functions) (λ f at. (let d = filter_among defined m.functions f at in h f d.0 (off (is_declared f) d.1))) in
      let d = sum_filtered defined w m.functions in
      omega (arith, a, b, c, d)
    where
      off : (b : Bool) → not b ≡ true → b ≡ false
      off true e = absurd (cc)
      off false e = refl

  -- ---- cells

  new_cells : (g : Global1) → cells_of Lowered (first asks g) + cells_of Lowered (second asks g) ≡ 0
  new_cells g =
      let a : cells_of Lowered (first asks g) ≡ 0 = ap (λ (b : Bool). cond {A = ℕ} b 0 (max 1 (size_of (first asks g).mem))) (first_part g.name).0 in
      let b : cells_of Lowered (second asks g) ≡ 0 = ap (λ (b : Bool). cond {A = ℕ} b 0 (max 1 (size_of (second asks g).mem))) (second_part g.name).0 in
      omega (arith, a, b)

  cells_few : cells l2 ≤ 1048576
  cells_few =
      let a : cells l2 ≡ sum_by (cells_of Lowered) l2.globals = cells_are l2 ∙ ap (λ (kind : Kind). sum_by (cells_of kind) l2.globals) last_kind in
      let b : cells c2 ≡ sum_by (cells_of Counted) c2.globals = cells_are c2 ∙ ap (λ (kind : Kind). sum_by (cells_of kind) c2.globals) kind in
      let c = sum_all (cells_of Lowered) in
      let d = sum_zero (λ g. cells_of Lowered (first asks g) + cells_of Lowered (second asks g)) units (λ g at. new_cells g) in
      let e : sum_by (cells_of Lowered) c2.globals ≡ sum_by (cells_of Counted) c2.globals = refl in
      let most = within_counted.memory in
      omega (arith, a, b, c, d, e, most)

  -- ---- what the units tell

  free_parts : (g : Global1) → Among g c2.globals → (is_unit_counters g.name ≡ false) × (is_unit_data g.name ≡ false)
  free_parts g at =
      let free : is_reserved_variable Counted g.name ≡ false = ap (λ (kind : Kind). is_reserved_variable kind g.name) (sym kind) ∙ (again.formed.global g at).free in
      let a = or_parts (is_unit_counters g.name) (is_unit_data g.name || ((is_of_runtime g.name && not (is_version g.name)) || is_of_intrinsics g.name)) free in
      let b = or_parts (is_unit_data g.name) ((is_of_runtime g.name && not (is_version g.name)) || is_of_intrinsics g.name) a.1 in
      (a.0, b.0)

  new_sites : (g : Global1) → told_sites (first asks g) + told_sites (second asks g) ≡ sites_told g.name asks
  new_sites g =
      let a : told_sites (first asks g) ≡ 0 = ap (λ (b : Bool). cond {A = ℕ} b (sites_of (first asks g)) 0) (first_part g.name).1 in
      let b : told_sites (second asks g) ≡ sites_of (second asks g) = ap (λ (b : Bool). cond {A = ℕ} b (sites_of (second asks g)) 0) (second_part g.name).1 in
      let c = sites_are g.name (hash8 (name_held g)) (unwrap_or (hash_told g.name asks) 0) (unwrap_or (counters_told g.name asks) 0) (sites_told g.name asks) in
      omega (arith, a, b, c)

  told_few : sum_by told_sites l2.globals ≤ 65536
  told_few =
      let a = sum_all told_sites in
      let b = sum_zero told_sites c2.globals (λ g at. ap (λ (b : Bool). cond {A = ℕ} b (sites_of g) 0) (free_parts g at).1) in
      let c = sum_same (λ g. told_sites (first asks g) + told_sites (second asks g)) (λ g. sites_told g.name asks) units (λ g at. new_sites g) in
      let d = units_sum (λ g. sites_told g.name asks) (total_of is_site) (λ f at some. (let s = sites_few entry_first m accepted stand f at in let t = (few f at some).sites in omega (arith, s, t))) in
      let most = within_plain.sites in
      omega (arith, a, b, c, d, most)

  calls_few : calls_through l2 ≤ 65536
  calls_few =
      let a = sum_by-append (total_of is_site) (map lowered_function kept) (runtime_declaration ∷ []) in
      let b = sum_by-cons (total_of is_site) runtime_declaration [] in
      let none : sum_by (total_of is_site) [] ≡ 0 = refl in
      let c = runtime_total is_site in
      let d = sum_mapped (total_of is_site) (total_of is_site) lowered_function kept (λ f at. (small f).sites) in
      let e = sum_filtered is_kept (total_of is_site) c2.functions in
      let most = within_counted.sites in
      omega (arith, a, b, none, c, d, e, most)

  new_counters : (g : Global1) → told_counters (first asks g) + told_counters (second asks g) ≡ unwrap_or (counters_told g.name asks) 0
  new_counters g =
      let a : told_counters (first asks g) ≡ unwrap_or (counters_told g.name asks) 0 = ap (λ (b : Bool). cond {A = ℕ} b (unwrap_or (length_of is_i64 (first asks g).mem) 0) 0) (first_part g.name).2 in
      let b : told_counters (second asks g) ≡ 0 = ap (λ (b : Bool). cond {A = ℕ} b (unwrap_or (length_of is_i64 (second asks g).mem) 0) 0) (second_part g.name).2 in
      omega (arith, a, b)

  counters_fit : sum_by told_counters l2.globals ≤ 1048576
  counters_fit =
      let a = sum_all told_counters in
      let b = sum_zero told_counters c2.globals (λ g at. ap (λ (b : Bool). cond {A = ℕ} b (unwrap_or (length_of is_i64 g.mem) 0) 0) (free_parts g at).0) in
      let c = sum_same (λ g. told_counters (first asks g) + told_counters (second asks g)) (λ g. unwrap_or (counters_told g.name asks) 0) units (λ g at. new_counters g) in
      let d = units_sum (λ g. unwrap_or (counters_told g.name asks) 0) counters (λ f at some. (let s = counters_few entry_first m accepted stand f at in let t = (few f at some).counters in omega (arith, s, t))) in
      let most = within_plain.counted in
      omega (arith, a, b, c, d, most)

  -- ---- array types

  no_new_array : (g : Global1) (size : ℕ) → Among g (new_globals asks c2.globals) → Among size (global_arrays Lowered g) → ⊥
  no_new_array g size at h = by (flat_among (unit_globals asks) units g at)
    where
      on : (u : Global1) → Among g (unit_globals asks u) → ⊥
      on u (inl e) = subst (λ (ns : List ℕ). Among size ns) (ap (global_arrays Lowered) e ∙ ap (λ (b : Bool). cond {A = List ℕ} b [] (array_sizes (first asks u).mem)) (first_part u.name).0) h
      on u (inr (inl e)) = subst (λ (ns : List ℕ). Among size ns) (ap (global_arrays Lowered) e ∙ ap (λ (b : Bool). cond {A = List ℕ} b [] (array_sizes (second asks u).mem)) (second_part u.name).0) h
      on u (inr (inr none)) = none

      by : (u : Global1) × Among u units × Among g (unit_globals asks u) → ⊥
      by (u, there, k) = on u k

  array_stays : (size : ℕ) → Among size (all_arrays l2) → Among size (all_arrays c2)
  array_stays size h = subst (λ (ns : List ℕ). Among size ns) (sym was) (by (among_either (flat_map (global_arrays Lowered) l2.globals) (flat_map function_arrays l2.functions) size (subst (λ (ns : List ℕ). Among size ns) made h)))
    where
      was : all_arrays c2 ≡ flat_map (global_arrays Counted) c2.globals ++ flat_map function_arrays c2.functions
      was = arrays_are c2 ∙ ap (λ (kind : Kind). flat_map (global_arrays kind) c2.globals ++ flat_map function_arrays c2.functions) kind

      made : all_arrays l2 ≡ flat_map (global_arrays Lowered) l2.globals ++ flat_map function_arrays l2.functions
      made = arrays_are l2 ∙ ap (λ (kind : Kind). flat_map (global_arrays kind) l2.globals ++ flat_map function_arrays l2.functions) last_kind

      of_global : (g : Global1) → Among size (global_arrays Lowered g) → Among g c2.globals ⊎ Among g (new_globals asks c2.globals) → Among size (flat_map (global_arrays Counted) c2.globals)
      of_global g k (inl at) = among_flat (global_arrays Counted) c2.globals g size at k
      of_global g k (inr at) = absurd (no_new_array g size at k)

      by : Among size (flat_map (global_arrays Lowered) l2.globals) ⊎ Among size (flat_map function_arrays l2.functions) → Among size (flat_map (global_arrays Counted) c2.globals ++ flat_map function_arrays c2.functions)
      by (inl k) =
          let g = flat_among (global_arrays Lowered) l2.globals size k in
          among_left (flat_map (global_arrays Counted) c2.globals) (flat_map function_arrays c2.functions) size (of_global g.0 g.2 (among_either c2.globals (new_globals asks c2.globals) g.0 g.1))
      by (inr k) =
          let f = flat_among function_arrays l2.functions size k in
          among_right (flat_map (global_arrays Counted) c2.globals) (flat_map function_arrays c2.functions) size (each_function (λ g. Among size (function_arrays g) → Among size (flat_map function_arrays c2.functions)) (λ g at q. among_flat function_arrays c2.functions g size at ((small g).arrays size q)) (λ q. absurd q) f.0 f.1 f.2)

  lowered_within : IsWithin Lowered l2
  lowered_within = record {
    functions = functions_few;
    globals = globals_few;
    edges = edges_few;
    results = registers_few;
    objects = λ size at. within_counted.objects size (array_stays size at);
    memory = cells_few;
    sites = (let a = calls_few in let b = told_few in omega (arith, a, b));
    counted = counters_fit;
  }

  pub limits_kept : passed l2 ≡ []
  limits_kept = (limits l2).1 (subst (λ (kind : Kind). IsWithin kind l2) (sym last_kind) lowered_within)
