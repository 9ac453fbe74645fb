-- The symbols of the lowered module: those of the module without the intrinsics, the globals of the units, and the runtime's function.
use Rattle.std.proofs.Common.{◌≡◌, ℕ, ◌+◌, ◌≤◌, ◌⊎◌, inl, inr, Bool, true, false, ◌&&◌, ◌||◌, not, cond, if◌then◌else◌, List, [], ◌∷◌, ◌++◌, drop, filter, map, take, refl, sym, ap, subst, ◌∙◌, arith, codes}
use Rattle.std.specs.List.{flat_map, list_any}
use Rattle.std.proofs.lemmas.Bool.{and_from, and_parts, or_from, or_parts, or_right}
use Rattle.std.proofs.lemmas.List.{map-append, take-append-drop}
use Rattle.std.proofs.lemmas.List.Elements.{filter_map-append}
use Rattle.ir_rules.specs.Initialisers.{unit_text, unit_texts}
use Rattle.ir_rules.specs.Kinds.{declares, declares_increments, declares_notes, is_profile_variable, is_unit_counters, is_unit_data, is_unit_name, is_unit_part, kind_of}
use Rattle.ir_rules.specs.Lists.{Among, is_among, times}
use Rattle.ir_rules.specs.Reserved.{is_of_intrinsics, is_of_runtime, is_reserved_function, is_reserved_variable, is_version}
use Rattle.ir_rules.specs.Scopes.{Signature, function_names, is_of_profile, signature, signatures, symbols, variables}
use Rattle.ir_rules.specs.declared.place.Kind.{Kind}
use Rattle.ir_rules.specs.declared.place.Kind.TheVariants.{Plain, Counted, Lowered}
use Rattle.ir_tree.specs.Functions.{begins_with, is_declared, is_profile_name}
use Rattle.ir_tree.specs.Names.{same}
use Rattle.ir_tree.specs.declared.types.Function.{Function}
use Rattle.ir_tree.specs.declared.types.Global1.{Global1}
use Rattle.ir_tree.specs.declared.types.Module.{Module}
use Rattle.lowered_rules.proofs.Listed.{Name, among_either, among_filter, among_left, among_map, among_right, filter_among, is_member, map_among, no_member, none_stands, not_both, not_true, one, one_self, same_is, stands, times_append, times_cons}
use Rattle.lowered_rules.specs.Kept.{IsLowerable}
use Rattle.lowering.specs.Asked.{Asked, all_asked}
use Rattle.lowering.specs.Lowered.{lowered, lowered_function, runtime_declaration, runtime_name}
use Rattle.lowering.specs.Units.{counters_symbol, data_symbol, names_used, new_globals, unit_globals}

-- ---- names of the units' globals

pub unit_front : (n : Name) → is_unit_name n ≡ true → codes "__profn_" ++ drop 8 n ≡ n
unfolding is_unit_name
unit_front n h = ap (λ (front : Name). front ++ drop 8 n) (same_is (codes "__profn_") (take 8 n) h) ∙ take-append-drop 8 n

pub counters_named : (s : Name) → is_unit_counters (counters_symbol s) ≡ true
unfolding is_unit_counters
counters_named s = refl

pub data_named : (s : Name) → is_unit_data (data_symbol s) ≡ true
unfolding is_unit_data
data_named s = refl

pub data_no_counters : (s : Name) → is_unit_counters (data_symbol s) ≡ false
unfolding is_unit_counters
data_no_counters s = refl

counters_no_data : (s : Name) → is_unit_data (counters_symbol s) ≡ false
unfolding is_unit_data
counters_no_data s = refl

pub counters_no_unit : (s : Name) → is_unit_name (counters_symbol s) ≡ false
unfolding is_unit_name
counters_no_unit s = refl

pub data_no_unit : (s : Name) → is_unit_name (data_symbol s) ≡ false
unfolding is_unit_name
data_no_unit s = refl

runtime_no_counters : is_unit_counters runtime_name ≡ false
unfolding is_unit_counters runtime_name
runtime_no_counters = refl

runtime_no_data : is_unit_data runtime_name ≡ false
unfolding is_unit_data runtime_name
runtime_no_data = refl

runtime_runtime : is_of_runtime runtime_name ≡ true
unfolding is_of_runtime runtime_name
runtime_runtime = refl

runtime_no_version : is_version runtime_name ≡ false
unfolding is_version runtime_name
runtime_no_version = refl

pub runtime_profile : is_profile_name runtime_name ≡ true
unfolding is_profile_name runtime_name
runtime_profile = refl

pub intrinsic_profile : (n : Name) → is_of_intrinsics n ≡ true → is_profile_name n ≡ true
unfolding is_of_intrinsics is_profile_name
intrinsic_profile n h = ap (λ (b : Bool). b || begins_with (codes "__llvm_profile_") n) h

-- ---- how often a name stands among those of new globals

abbrev name_of : Global1 → Name
name_of g = g.name

module _ (asks : List Asked) (n : Name) where
  abbrev new_names : List Global1 → List Name
  new_names gs = map name_of (flat_map (unit_globals asks) gs)

  each_unit : (g : Global1) (gs : List Global1) → times n (new_names (g ∷ gs)) ≡ one n (counters_symbol g.name) + (one n (data_symbol g.name) + times n (new_names gs))
  each_unit g gs = times_cons n (counters_symbol g.name) (data_symbol g.name ∷ new_names gs) ∙ ap (λ (k : ℕ). one n (counters_symbol g.name) + k) (times_cons n (data_symbol g.name) (new_names gs))

  one_off : (x : Name) → (n ≡ x → ⊥) → one n x ≡ 0
  one_off x apart = ap (λ (b : Bool). cond {A = ℕ} b 1 0) (not_true (same n x) (λ e. apart (same_is n x e)))

  -- as often as the unit's name, where the name is that of its counters or its data
  module _ (made other : Name → Name) (front : (s : Name) → drop 8 (made s) ≡ drop 8 s) (apart : (s : Name) → n ≡ other s → ⊥) where
    few_made : (g : Global1) → is_unit_name g.name ≡ true → one n (made g.name) ≤ one (codes "__profn_" ++ drop 8 n) g.name
    few_made g unit = by (same n (made g.name)) refl
      where
        by : (b : Bool) → same n (made g.name) ≡ b → cond {A = ℕ} (same n (made g.name)) 1 0 ≤ one (codes "__profn_" ++ drop 8 n) g.name
        by false e = (let z : cond {A = ℕ} (same n (made g.name)) 1 0 ≡ 0 = ap (λ (b : Bool). cond {A = ℕ} b 1 0) e in omega (arith, z))
        by true e =
            let rest : drop 8 n ≡ drop 8 g.name = ap (λ (x : Name). drop 8 x) (same_is n (made g.name) e) ∙ front g.name in
            let is : codes "__profn_" ++ drop 8 n ≡ g.name = ap (λ (x : Name). codes "__profn_" ++ x) rest ∙ unit_front g.name unit in
            let o : one (codes "__profn_" ++ drop 8 n) g.name ≡ 1 = ap (λ (x : Name). one x g.name) is ∙ one_self g.name in
            let z : cond {A = ℕ} (same n (made g.name)) 1 0 ≡ 1 = ap (λ (b : Bool). cond {A = ℕ} b 1 0) e in
            omega (arith, o, z)

    few_new : (gs : List Global1) → ((g : Global1) → Among g gs → is_unit_name g.name ≡ true) → ((g : Global1) → one n (counters_symbol g.name) + one n (data_symbol g.name) ≡ one n (made g.name) + one n (other g.name)) → times n (new_names gs) ≤ times (codes "__profn_" ++ drop 8 n) (map name_of gs)
    few_new [] units both = omega arith
    few_new (g ∷ gs) units both =
        let rest = few_new gs (λ h at. units h (inr at)) both in
        let here = few_made g (units g (inl refl)) in
        let none = one_off (other g.name) (apart g.name) in
        let split = each_unit g gs in
        let sums = both g in
        omega (arith, rest, here, none, split, sums, times_cons (codes "__profn_" ++ drop 8 n) g.name (map name_of gs))

  none_new : (gs : List Global1) → is_unit_counters n ≡ false → is_unit_data n ≡ false → times n (new_names gs) ≡ 0
  none_new [] c d = refl
  none_new (g ∷ gs) c d =
      let rest = none_new gs c d in
      let a = one_off (counters_symbol g.name) (λ e. not_both (is_unit_counters n) (ap is_unit_counters e ∙ counters_named g.name) c) in
      let b = one_off (data_symbol g.name) (λ e. not_both (is_unit_data n) (ap is_unit_data e ∙ data_named g.name) d) in
      omega (arith, rest, a, b, each_unit g gs)

-- the names of some are no more than those of all
filter_times : {X : Type 0} (test : X → Bool) (name : X → Name) (n : Name) (xs : List X) → times n (map name (filter test xs)) ≤ times n (map name xs)
filter_times test name n [] = omega arith
filter_times test name n (x ∷ xs) = by (test x) (filter_times test name n xs)
  where
    by : (b : Bool) → times n (map name (filter test xs)) ≤ times n (map name xs) → times n (map name (cond b (x ∷ filter test xs) (filter test xs))) ≤ times n (map name (x ∷ xs))
    by true rest = omega (arith, rest, times_cons n (name x) (map name xs), times_cons n (name x) (map name (filter test xs)))
    by false rest = omega (arith, rest, times_cons n (name x) (map name xs))

map_map : {X Y Z : Type 0} (g : Y → Z) (h : X → Y) (xs : List X) → map g (map h xs) ≡ map (λ x. g (h x)) xs
map_map g h [] = refl
map_map g h (x ∷ xs) = ap (λ (zs : List _). g (h x) ∷ zs) (map_map g h xs)

-- ---- the kind

none_passes : {X : Type 0} (test : X → Bool) (xs : List X) → ((x : X) → Among x xs → test x ≡ false) → list_any test xs ≡ false
none_passes test [] h = refl
none_passes test (y ∷ ys) h = or_from (test y) (list_any test ys) (h y (inl refl)) (none_passes test ys (λ x at. h x (inr at)))

some_passes : {X : Type 0} (test : X → Bool) (xs ys : List X) (y : X) → test y ≡ true → list_any test (xs ++ y ∷ ys) ≡ true
some_passes test [] ys y h = ap (λ (b : Bool). b || list_any test ys) h
some_passes test (x ∷ xs) ys y h = or_right (test x) (list_any test (xs ++ y ∷ ys)) (some_passes test xs ys y h)

module _ (m : Module) where
  abbrev pub n2 : Module
  n2 = lowered m

  abbrev is_kept : Function → Bool
  is_kept f = not (is_of_intrinsics f.name)

  abbrev kept : List Function
  kept = filter is_kept m.functions

  no_declaration : (f : Function) → is_of_intrinsics f.name ≡ false → declares (codes "llvm.instrprof.increment") f ≡ false
  unfolding is_of_intrinsics
  no_declaration f off = not_true (declares (codes "llvm.instrprof.increment") f) (λ e. (let s = (and_parts (is_declared f) (same f.name (codes "llvm.instrprof.increment")) e).1 in not_both (begins_with (codes "llvm.instrprof.") f.name) (ap (begins_with (codes "llvm.instrprof.")) (same_is f.name (codes "llvm.instrprof.increment") s)) off))

  off_of : (b : Bool) → not b ≡ true → b ≡ false
  off_of true e = absurd (cc)
  off_of false e = refl

  pub increments_absent : declares_increments n2.functions ≡ false
  unfolding declares_increments runtime_name
  increments_absent = none_passes (declares (codes "llvm.instrprof.increment")) n2.functions (λ f at. by f (among_either (map lowered_function kept) (runtime_declaration ∷ []) f at))
    where
      by : (f : Function) → Among f (map lowered_function kept) ⊎ Among f (runtime_declaration ∷ []) → declares (codes "llvm.instrprof.increment") f ≡ false
      by f (inl h) = (let g = map_among lowered_function kept f h in ap (declares (codes "llvm.instrprof.increment")) g.2 ∙ no_declaration (lowered_function g.0) (off_of (is_of_intrinsics g.0.name) (filter_among is_kept m.functions g.0 g.1).1))
      by f (inr (inl e)) = ap (declares (codes "llvm.instrprof.increment")) e
      by f (inr (inr h)) = absurd h

  pub notes_here : declares_notes n2.functions ≡ true
  unfolding declares_notes runtime_name
  notes_here = some_passes (declares (codes "__llvm_profile_instrument_target")) (map lowered_function kept) [] runtime_declaration refl

  pub kind_is : kind_of n2.functions ≡ Lowered
  kind_is = λ i. if increments_absent i then Counted else (if notes_here i then Lowered else Plain)

  -- ---- symbols

  names_of_functions : function_names n2 ≡ map (λ (f : Function). f.name) kept ++ runtime_name ∷ []
  names_of_functions = map-append (λ (f : Function). f.name) (map lowered_function kept) (runtime_declaration ∷ []) ∙ ap (λ (ns : List Name). ns ++ runtime_name ∷ []) (map_map (λ (f : Function). f.name) lowered_function kept)

  names_of_variables : variables n2 ≡ variables m ++ map name_of (new_globals (all_asked m) m.globals)
  names_of_variables = map-append name_of m.globals (new_globals (all_asked m) m.globals)

  module _ (low : IsLowerable m) where
    -- what stands in a module that counts
    pub record IsFree (n : Name) : Type 0 where
      pub counters : is_unit_counters n ≡ false
      pub data_ : is_unit_data n ≡ false

    pub function_free : (f : Function) → Among f m.functions → IsFree f.name × (is_of_runtime f.name ≡ false)
    function_free f at =
        let free : is_reserved_function Counted f.name ≡ false = ap (λ (kind : Kind). is_reserved_function kind f.name) (sym low.counted) ∙ (low.formed.function f at).free in
        let first = or_parts (is_unit_counters f.name) (is_unit_data f.name || is_of_runtime f.name) free in
        let second = or_parts (is_unit_data f.name) (is_of_runtime f.name) first.1 in
        (record { counters = first.0; data_ = second.0 }, second.1)

    pub variable_free : (g : Global1) → Among g m.globals → IsFree g.name × (is_of_intrinsics g.name ≡ false) × ((is_of_runtime g.name && not (is_version g.name)) ≡ false)
    variable_free g at =
        let free : is_reserved_variable Counted g.name ≡ false = ap (λ (kind : Kind). is_reserved_variable kind g.name) (sym low.counted) ∙ (low.formed.global g at).free in
        let first = or_parts (is_unit_counters g.name) (is_unit_data g.name || ((is_of_runtime g.name && not (is_version g.name)) || is_of_intrinsics g.name)) free in
        let second = or_parts (is_unit_data g.name) ((is_of_runtime g.name && not (is_version g.name)) || is_of_intrinsics g.name) first.1 in
        let third = or_parts (is_of_runtime g.name && not (is_version g.name)) (is_of_intrinsics g.name) second.1 in
        (record { counters = first.0; data_ = second.0 }, third.1, third.0)

    symbol_free : (n : Name) → Among n (symbols m) → IsFree n
    symbol_free n at = by (among_either (variables m) (function_names m) n at)
      where
        by : Among n (variables m) ⊎ Among n (function_names m) → IsFree n
        by (inl h) = (let g = map_among name_of m.globals n h in subst IsFree (sym g.2) (variable_free g.0 g.1).0)
        by (inr h) = (let f = map_among (λ (f : Function). f.name) m.functions n h in subst IsFree (sym f.2) (function_free f.0 f.1).0)

    no_runtime_symbol : Among runtime_name (symbols m) → ⊥
    no_runtime_symbol at = by (among_either (variables m) (function_names m) runtime_name at)
      where
        by : Among runtime_name (variables m) ⊎ Among runtime_name (function_names m) → ⊥
        by (inl h) =
            let g = map_among name_of m.globals runtime_name h in
            not_both (is_of_runtime g.0.name && not (is_version g.0.name)) (ap (λ (x : Name). is_of_runtime x && not (is_version x)) (sym g.2) ∙ and_from (is_of_runtime runtime_name) (not (is_version runtime_name)) runtime_runtime (ap not runtime_no_version)) (variable_free g.0 g.1).2
        by (inr h) = (let f = map_among (λ (f : Function). f.name) m.functions runtime_name h in not_both (is_of_runtime f.0.name) (ap is_of_runtime (sym f.2) ∙ runtime_runtime) (function_free f.0 f.1).1)

    -- the units that are used
    abbrev units : List Global1
    units = filter (names_used (all_asked m)) m.globals

    unit_names : (g : Global1) → Among g units → is_unit_name g.name ≡ true
    unit_names g at = (and_parts (is_unit_name g.name) (list_any _ (all_asked m)) (filter_among (names_used (all_asked m)) m.globals g at).1).0

    once_before : (n : Name) → times n (variables m) + times n (function_names m) ≤ 1
    once_before n = (let a = low.formed.distinct n in omega (arith, a, times_append n (variables m) (function_names m)))

    few_units : (n : Name) → times n (map name_of units) ≤ 1
    few_units n = (let a = filter_times (names_used (all_asked m)) name_of n m.globals in let b = once_before n in omega (arith, a, b))

    -- the symbols one by one
    all_times : (n : Name) → times n (symbols n2) ≤ times n (symbols m) + times n (new_names (all_asked m) n units) + one n runtime_name
    all_times n =
        let a : times n (variables n2) ≡ times n (variables m) + times n (new_names (all_asked m) n units) = ap (λ (ns : List Name). times n ns) names_of_variables ∙ times_append n (variables m) (map name_of (new_globals (all_asked m) m.globals)) in
        let b : times n (function_names n2) ≡ times n (map (λ (f : Function). f.name) kept) + times n (runtime_name ∷ []) = ap (λ (ns : List Name). times n ns) names_of_functions ∙ times_append n (map (λ (f : Function). f.name) kept) (runtime_name ∷ []) in
        let c = filter_times is_kept (λ (f : Function). f.name) n m.functions in
        let none : times n [] ≡ 0 = refl in
        omega (arith, a, b, c, none, times_cons n runtime_name [], times_append n (variables n2) (function_names n2), times_append n (variables m) (function_names m))

    pub distinct : (n : Name) → times n (symbols n2) ≤ 1
    distinct n = by (is_unit_counters n) refl (is_unit_data n) refl (same n runtime_name) refl
      where
        old : is_unit_counters n ≡ true ⊎ (is_unit_data n ≡ true) → times n (symbols m) ≡ 0
        old h = none_stands n (symbols m) (λ at. off h (symbol_free n at))
          where
            off : is_unit_counters n ≡ true ⊎ (is_unit_data n ≡ true) → IsFree n → ⊥
            off (inl e) free = not_both (is_unit_counters n) e free.counters
            off (inr e) free = not_both (is_unit_data n) e free.data_

        by : (a : Bool) → is_unit_counters n ≡ a → (b : Bool) → is_unit_data n ≡ b → (c : Bool) → same n runtime_name ≡ c → times n (symbols n2) ≤ 1
        by true e b d c q =
            let none = old (inl e) in
            let few = few_new (all_asked m) n counters_symbol data_symbol (λ s. refl) (λ s is. not_both (is_unit_counters n) e (ap is_unit_counters is ∙ data_no_counters s)) units unit_names (λ g. refl) in
            let least = few_units (codes "__profn_" ++ drop 8 n) in
            let run = one_off (all_asked m) n runtime_name (λ is. not_both (is_unit_counters n) e (ap is_unit_counters is ∙ runtime_no_counters)) in
            omega (arith, none, few, least, run, all_times n)
        by false e true d c q =
            let none = old (inr d) in
            let few = few_new (all_asked m) n data_symbol counters_symbol (λ s. refl) (λ s is. not_both (is_unit_data n) d (ap is_unit_data is ∙ counters_no_data s)) units unit_names (λ g. omega arith) in
            let least = few_units (codes "__profn_" ++ drop 8 n) in
            let run = one_off (all_asked m) n runtime_name (λ is. not_both (is_unit_data n) d (ap is_unit_data is ∙ runtime_no_data)) in
            omega (arith, none, few, least, run, all_times n)
        by false e false d true q =
            let none = none_stands n (symbols m) (λ at. no_runtime_symbol (subst (λ (x : Name). Among x (symbols m)) (same_is n runtime_name q) at)) in
            let new = none_new (all_asked m) n units e d in
            let run : one n runtime_name ≡ 1 = ap (λ (b : Bool). cond {A = ℕ} b 1 0) q in
            omega (arith, none, new, run, all_times n)
        by false e false d false q =
            let new = none_new (all_asked m) n units e d in
            let run : one n runtime_name ≡ 0 = ap (λ (b : Bool). cond {A = ℕ} b 1 0) q in
            let was = low.formed.distinct n in
            omega (arith, new, run, was, all_times n)

    -- ---- what stays

    pub is_variable : (n : Name) → Among n (variables m) → Among n (variables n2)
    is_variable n at = subst (λ (ns : List Name). Among n ns) (sym names_of_variables) (among_left (variables m) (map name_of (new_globals (all_asked m) m.globals)) n at)

    pub new_variable : (g : Global1) → Among g (new_globals (all_asked m) m.globals) → Among g.name (symbols n2)
    new_variable g at = among_left (variables n2) (function_names n2) g.name (subst (λ (ns : List Name). Among g.name ns) (sym names_of_variables) (among_right (variables m) (map name_of (new_globals (all_asked m) m.globals)) g.name (among_map name_of (new_globals (all_asked m) m.globals) g at)))

    pub runtime_symbol : Among runtime_name (symbols n2)
    runtime_symbol = among_right (variables n2) (function_names n2) runtime_name (subst (λ (ns : List Name). Among runtime_name ns) (sym names_of_functions) (among_right (map (λ (f : Function). f.name) kept) (runtime_name ∷ []) runtime_name (inl refl)))

    keeps : (f : Function) → Among f m.functions → is_profile_name f.name ≡ false → Among f kept
    keeps f at off = among_filter is_kept m.functions f at (ap not (not_true (is_of_intrinsics f.name) (λ e. not_both (is_profile_name f.name) (intrinsic_profile f.name e) off)))

    is_function : (n : Name) → Among n (function_names m) → is_profile_name n ≡ false → Among n (function_names n2)
    is_function n at off =
        let f = map_among (λ (f : Function). f.name) m.functions n at in
        let there = among_map (λ (f : Function). f.name) kept f.0 (keeps f.0 f.1 (ap is_profile_name (sym f.2) ∙ off)) in
        subst (λ (ns : List Name). Among n ns) (sym names_of_functions) (among_left (map (λ (f : Function). f.name) kept) (runtime_name ∷ []) n (subst (λ (x : Name). Among x (map (λ (f : Function). f.name) kept)) (sym f.2) there))

    pub signature_kept : (s : Signature) → Among s (signatures m) → is_profile_name s.0 ≡ false → Among s (signatures n2)
    signature_kept s at off =
        let f = map_among signature m.functions s at in
        let name : s.0 ≡ f.0.name = ap (λ (t : Signature). t.0) f.2 in
        let there = among_map lowered_function kept f.0 (keeps f.0 f.1 (ap is_profile_name (sym name) ∙ off)) in
        subst (λ (t : Signature). Among t (signatures n2)) (sym f.2) (among_map signature n2.functions (lowered_function f.0) (among_left (map lowered_function kept) (runtime_declaration ∷ []) (lowered_function f.0) there))

    pub runtime_signature : Among (signature runtime_declaration) (signatures n2)
    runtime_signature = among_map signature n2.functions runtime_declaration (among_right (map lowered_function kept) (runtime_declaration ∷ []) runtime_declaration (inl refl))

    -- not both a variable and a function
    apart : (n : Name) → Among n (variables n2) → Among n (function_names n2) → ⊥
    apart n a b = (let once = distinct n in let s = stands n (variables n2) a in let t = stands n (function_names n2) b in absurd (omega (arith, once, s, t, times_append n (variables n2) (function_names n2))))

    -- a symbol of the program is one in the lowered module
    pub program_kept : (n : Name) → Among n (symbols m) → is_of_profile m n ≡ false → Among n (symbols n2) × (is_of_profile n2 n ≡ false)
    program_kept n at off = by (among_either (variables m) (function_names m) n at)
      where
        parts : ((is_profile_variable (kind_of m.functions) n && is_among n (variables m)) ≡ false) × ((is_profile_name n && is_among n (function_names m)) ≡ false)
        parts = or_parts (is_profile_variable (kind_of m.functions) n && is_among n (variables m)) (is_profile_name n && is_among n (function_names m)) off

        one_off_of : (a b : Bool) → (a && b) ≡ false → b ≡ true → a ≡ false
        one_off_of true true e f = e
        one_off_of true false e f = absurd (cc f)
        one_off_of false b e f = refl

        both : is_profile_variable (kind_of n2.functions) n && is_among n (variables n2) ≡ false → is_profile_name n && is_among n (function_names n2) ≡ false → is_of_profile n2 n ≡ false
        both a b = or_from (is_profile_variable (kind_of n2.functions) n && is_among n (variables n2)) (is_profile_name n && is_among n (function_names n2)) a b

        second_off : (a b : Bool) → b ≡ false → (a && b) ≡ false
        second_off true b e = e
        second_off false b e = refl

        by : Among n (variables m) ⊎ Among n (function_names m) → Among n (symbols n2) × (is_of_profile n2 n ≡ false)
        by (inl h) =
            let here = is_variable n h in
            let part : is_unit_part n ≡ false = ap (λ (kind : Kind). is_profile_variable kind n) (sym low.counted) ∙ one_off_of (is_profile_variable (kind_of m.functions) n) (is_among n (variables m)) parts.0 (is_member n (variables m) h) in
            let first : is_profile_variable (kind_of n2.functions) n ≡ false = ap (λ (kind : Kind). is_profile_variable kind n) kind_is ∙ part in
            (among_left (variables n2) (function_names n2) n here, both (ap (λ (b : Bool). b && is_among n (variables n2)) first) (second_off (is_profile_name n) (is_among n (function_names n2)) (no_member n (function_names n2) (λ b. apart n here b))))
        by (inr h) =
            let name = one_off_of (is_profile_name n) (is_among n (function_names m)) parts.1 (is_member n (function_names m) h) in
            let here = is_function n h name in
            (among_right (variables n2) (function_names n2) n here, both (second_off (is_profile_variable (kind_of n2.functions) n) (is_among n (variables n2)) (no_member n (variables n2) (λ a. apart n a here))) (ap (λ (b : Bool). b && is_among n (function_names n2)) name))

    -- ---- the texts that units hold

    new_texts : (gs : List Global1) → unit_texts (flat_map (unit_globals (all_asked m)) gs) ≡ []
    new_texts [] = refl
    new_texts (g ∷ gs) = none_texts (counters_no_unit g.name) (data_no_unit g.name) (new_texts gs)
      where
        none_texts : is_unit_name (counters_symbol g.name) ≡ false → is_unit_name (data_symbol g.name) ≡ false → unit_texts (flat_map (unit_globals (all_asked m)) gs) ≡ [] → unit_texts (flat_map (unit_globals (all_asked m)) (g ∷ gs)) ≡ []
        none_texts a b rest = rw a (rw b rest)

    pub texts_once : (t : Name) → times t (unit_texts n2.globals) ≤ 1
    texts_once t =
        let a : unit_texts n2.globals ≡ unit_texts m.globals ++ unit_texts (new_globals (all_asked m) m.globals) = filter_map-append unit_text m.globals (new_globals (all_asked m) m.globals) in
        let e : times t (unit_texts n2.globals) ≡ times t (unit_texts m.globals) + times t (unit_texts (new_globals (all_asked m) m.globals)) = ap (λ (ns : List Name). times t ns) a ∙ times_append t (unit_texts m.globals) (unit_texts (new_globals (all_asked m) m.globals)) in
        let none : times t (unit_texts (new_globals (all_asked m) m.globals)) ≡ 0 = ap (λ (ns : List Name). times t ns) (new_texts units) in
        let was = low.formed.units t in
        omega (arith, e, none, was)
