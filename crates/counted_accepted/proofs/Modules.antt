-- The module that counts a plain module is well formed, where the plans of its functions fit.
use Rattle.std.proofs.Common.{◌≡◌, ℕ, zero, suc, ◌+◌, ◌==◌, ◌≤◌, ◌⊎◌, inl, inr, Bool, true, false, ◌&&◌, not, cond, if◌then◌else◌, List, [], ◌∷◌, ◌++◌, length, map, filter, Option, Some, None, slice_get, refl, sym, ap, subst, ◌∙◌, arith, codes, zero-add}
use Rattle.std.specs.Cmp.Lexicographic.{bytes_decides}
use Rattle.std.specs.List.{cons_option, list_all, list_any}
use Rattle.std.proofs.lemmas.Bool.{and_from, and_parts, eq-eqb, ne_eqb, or_cases, or_from, or_left, or_right}
use Rattle.std.proofs.lemmas.List.{map-append}
use Rattle.std.proofs.lemmas.List.Elements.{filter_map-append}
use Rattle.std.proofs.lemmas.Option.{none-some, same_Some}
use Rattle.counted_accepted.proofs.Symbols.{Name, free_function, free_variable, intrinsic_names, no_unit_part, not_both, not_true, record_free, record_named, record_text, record_unit, symbols_once}
use Rattle.count_plan.specs.Calls.{increment_name, step_name, value_name}
use Rattle.count_plan.specs.Counted.{counted_function, function_plan, no_function_plan}
use Rattle.count_plan.specs.declared.plan.FunctionPlan.{FunctionPlan}
use Rattle.counted_rules.specs.Kept.{DeclaredStayFormed, FunctionsStayFormed, TakesOver}
use Rattle.counted_rules.specs.PlainNames.{IsPlainName}
use Rattle.counted_rules.specs.PlanFits.{PlanFits, increment_signature, step_signature, value_signature}
use Rattle.gen_plan.specs.Gen.{counted, declaration, declarations, gen_function, has_select, record_global, record_name}
use Rattle.ir_rules.specs.Accepted.{IsAccepted}
use Rattle.ir_rules.specs.Declarations.{is_declared_well, is_increment, is_increment_step, is_value_note, same_ty}
use Rattle.ir_rules.specs.Initialisers.{unit_text, unit_texts}
use Rattle.ir_rules.specs.Intrinsics.{names_unit}
use Rattle.ir_rules.specs.Kinds.{declares, declares_increments, declares_notes, is_lowered_kind, is_profile_variable, is_unit_counters, is_unit_data, is_unit_name, kind_of}
use Rattle.ir_rules.specs.Lists.{Among, is_among, times}
use Rattle.ir_rules.specs.Naming.{is_param_name}
use Rattle.ir_rules.specs.OneKind.{is_of_one_kind}
use Rattle.ir_rules.specs.Reserved.{is_of_runtime, is_reserved_function, is_reserved_variable}
use Rattle.ir_rules.specs.Scopes.{Signature, function_names, is_of_profile, is_program_symbol, signature, signatures, symbols, variables}
use Rattle.ir_rules.specs.Units.{text_of}
use Rattle.ir_rules.specs.WellFormed.{FunctionFormed, GlobalFormed, IsWellFormed, is_unit_global}
use Rattle.ir_rules.specs.declared.place.Kind.{Kind}
use Rattle.ir_rules.specs.declared.place.Kind.TheVariants.{Plain, Counted, Lowered}
use Rattle.ir_tree.specs.Functions.{is_declared, is_profile_name}
use Rattle.ir_tree.specs.Graphs.{graph_of}
use Rattle.ir_tree.specs.Names.{same}
use Rattle.ir_tree.specs.Spelling.{is_global_name, is_local_name, is_quotable}
use Rattle.ir_tree.specs.declared.types.Function.{Function}
use Rattle.ir_tree.specs.declared.types.Global1.{Global1}
use Rattle.ir_tree.specs.declared.types.Module.{Module}
use Rattle.ir_tree.specs.declared.types.Operand.TheVariants.{Global}
use Rattle.ir_tree.specs.declared.types.Ty.{Ty}
use Rattle.ir_tree.specs.declared.types.Ty.TheVariants.{I32, I64, Ptr}
use Rattle.spec_items.proofs.Items.{count_cons, count-append}
use Rattle.spec_items.proofs.Made.{map_at}
use Rattle.spec_lists.specs.Each.{each}

-- ---- lists

at_among : {X : Type 0} (xs : List X) (i : ℕ) (x : X) → slice_get xs i ≡ Some x → Among x xs
at_among [] i x at = absurd (none-some x at)
at_among (y ∷ ys) zero x at = inl (sym (same_Some y x at))
at_among (y ∷ ys) (suc i) x at = inr (at_among ys i x at)

pub among_left : {X : Type 0} (xs ys : List X) (x : X) → Among x xs → Among x (xs ++ ys)
among_left [] ys x at = absurd at
among_left (z ∷ zs) ys x (inl e) = inl e
among_left (z ∷ zs) ys x (inr at) = inr (among_left zs ys x at)

pub among_right : {X : Type 0} (xs ys : List X) (x : X) → Among x ys → Among x (xs ++ ys)
among_right [] ys x at = at
among_right (z ∷ zs) ys x at = inr (among_right zs ys x at)

pub among_either : {X : Type 0} (xs ys : List X) (x : X) → Among x (xs ++ ys) → Among x xs ⊎ Among x ys
among_either [] ys x at = inr at
among_either (z ∷ zs) ys x (inl e) = inl (inl e)
among_either (z ∷ zs) ys x (inr at) = further (among_either zs ys x at)
  where
    further : Among x zs ⊎ Among x ys → Among x (z ∷ zs) ⊎ Among x ys
    further (inl h) = inl (inr h)
    further (inr h) = inr h

pub among_map : {X Y : Type 0} (g : X → Y) (xs : List X) (x : X) → Among x xs → Among (g x) (map g xs)
among_map g [] x at = absurd at
among_map g (y ∷ ys) x (inl e) = inl (ap g e)
among_map g (y ∷ ys) x (inr at) = inr (among_map g ys x at)

pub map_among : {X Y : Type 0} (g : X → Y) (xs : List X) (y : Y) → Among y (map g xs) → (x : X) × Among x xs × (y ≡ g x)
map_among g [] y at = absurd at
map_among g (x ∷ xs) y (inl e) = (x, inl refl, e)
map_among g (x ∷ xs) y (inr at) = let found = map_among g xs y at in (found.0, inr found.1, found.2)

some_passes : {X : Type 0} (test : X → Bool) (xs : List X) (x : X) → Among x xs → test x ≡ true → list_any test xs ≡ true
some_passes test [] x at h = absurd at
some_passes {X} test (y ∷ ys) x (inl e) h = or_left (test y) (list_any test ys) (ap (λ (z : X). test z) (sym e) ∙ h)
some_passes test (y ∷ ys) x (inr at) h = or_right (test y) (list_any test ys) (some_passes test ys x at h)

none_passes : {X : Type 0} (test : X → Bool) (xs : List X) → ((x : X) → Among x xs → test x ≡ false) → list_any test xs ≡ false
none_passes test [] h = refl
none_passes test (y ∷ ys) h = or_from (test y) (list_any test ys) (h y (inl refl)) (none_passes test ys (λ x at. h x (inr at)))

is_member : (n : Name) (xs : List Name) → Among n xs → is_among n xs ≡ true
is_member n xs at = some_passes (same n) xs n at (self n)
  where
    self : (n : Name) → same n n ≡ true
    self n = (bytes_decides n n).1 refl

among_is : (n : Name) (xs : List Name) → is_among n xs ≡ true → Among n xs
among_is n [] h = absurd (cc)
among_is n (x ∷ xs) h = by (or_cases (same n x) (is_among n xs) h) (λ k. among_is n xs k)
  where
    by : (same n x ≡ true) ⊎ (is_among n xs ≡ true) → (is_among n xs ≡ true → Among n xs) → Among n (x ∷ xs)
    by (inl k) rest = inl ((bytes_decides n x).0 k)
    by (inr k) rest = inr (rest k)

filter_among : {X : Type 0} (test : X → Bool) (xs : List X) (x : X) → Among x (filter test xs) → Among x xs
filter_among test [] x at = absurd at
filter_among test (y ∷ ys) x at = by (test y) at (λ h. filter_among test ys x h)
  where
    by : (b : Bool) → Among x (cond b (y ∷ filter test ys) (filter test ys)) → (Among x (filter test ys) → Among x ys) → Among x (y ∷ ys)
    by true (inl e) rest = inl e
    by true (inr h) rest = inr (rest h)
    by false h rest = inr (rest h)

among_filter : {X : Type 0} (test : X → Bool) (xs : List X) (x : X) → Among x xs → test x ≡ true → Among x (filter test xs)
among_filter test [] x at h = absurd at
among_filter {X} test (y ∷ ys) x (inl e) h = subst (λ (b : Bool). Among x (cond b (y ∷ filter test ys) (filter test ys))) (sym (ap test (sym e) ∙ h)) (inl e)
among_filter test (y ∷ ys) x (inr at) h = by (test y) (among_filter test ys x at h)
  where
    by : (b : Bool) → Among x (filter test ys) → Among x (cond b (y ∷ filter test ys) (filter test ys))
    by true k = inr k
    by false k = k

-- the names of some are no more than those of all
filter_times : {X : Type 0} (test : X → Bool) (name : X → Name) (n : Name) (xs : List X) → times n (map name (filter test xs)) ≤ times n (map name xs)
filter_times test name n [] = omega arith
filter_times test name n (x ∷ xs) = by (test x) (filter_times test name n xs)
  where
    by : (b : Bool) → times n (map name (filter test xs)) ≤ times n (map name xs) → times n (map name (cond b (x ∷ filter test xs) (filter test xs))) ≤ times n (map name (x ∷ xs))
    by true rest = (let c = count_cons (same n) (name x) (map name xs) in let d = count_cons (same n) (name x) (map name (filter test xs)) in omega (arith, rest, c, d))
    by false rest = (let c = count_cons (same n) (name x) (map name xs) in omega (arith, rest, c))

names_are : {X : Type 0} (g h : X → Name) → ((x : X) → g x ≡ h x) → (xs : List X) → map g xs ≡ map h xs
names_are g h same_name [] = refl
names_are g h same_name (x ∷ xs) = λ i. same_name x i ∷ names_are g h same_name xs i

map_map : {X Y Z : Type 0} (g : Y → Z) (h : X → Y) (xs : List X) → map g (map h xs) ≡ map (λ x. g (h x)) xs
map_map g h [] = refl
map_map g h (x ∷ xs) = ap (λ (zs : List _). g (h x) ∷ zs) (map_map g h xs)

-- ---- the functions that count

each_planned : (plans : List FunctionPlan) (make : Function → FunctionPlan) (n : ℕ) (fs : List Function) → ((i : ℕ) (f : Function) → slice_get fs i ≡ Some f → function_plan plans (n + i) ≡ make f) → each (λ j f. counted_function (function_plan plans j) f ∷ []) n fs ≡ map (λ f. counted_function (make f) f) fs
each_planned plans make n [] h = refl
each_planned plans make n (f ∷ fs) h =
    let first : function_plan plans n ≡ make f = subst (λ (k : ℕ). function_plan plans k ≡ make f) (let e : n + 0 ≡ n = omega arith in e) (h 0 f refl) in
    let rest = each_planned plans make (n + 1) fs (λ i g at. subst (λ (k : ℕ). function_plan plans k ≡ make g) (let e : n + suc i ≡ n + 1 + i = omega arith in e) (h (suc i) g at)) in
    λ i. counted_function (first i) f ∷ rest i

module _ (entry_first : Bool) (m : Module) (accepted : IsAccepted m) (plain : kind_of m.functions ≡ Plain) (plain_name : (n : Name) → Among n (symbols m) → IsPlainName n) where
  abbrev m2 : Module
  m2 = counted entry_first m

  abbrev defined : Function → Bool
  defined f = not (is_declared f)

  abbrev counts : Function → Function
  counts f = counted_function (gen_function entry_first f) f

  abbrev steps : Bool
  steps = list_any has_select m.functions

  pub functions_are : m2.functions ≡ map counts m.functions ++ declarations m.functions
  functions_are = ap (λ (fs : List Function). fs ++ declarations m.functions) (each_planned (map (gen_function entry_first) m.functions) (gen_function entry_first) 0 m.functions (λ i f at. ap (λ (k : ℕ). function_plan (map (gen_function entry_first) m.functions) k) (zero-add i) ∙ map_at (gen_function entry_first) m.functions i f no_function_plan at))

  declared_names : (s : Bool) → map (λ (f : Function). f.name) (declaration increment_name (Ptr ∷ I64 ∷ I32 ∷ I32 ∷ []) ∷ declaration value_name (Ptr ∷ I64 ∷ I64 ∷ I32 ∷ I32 ∷ []) ∷ cond s (declaration step_name (Ptr ∷ I64 ∷ I32 ∷ I32 ∷ I64 ∷ []) ∷ []) []) ≡ intrinsic_names s
  declared_names true = refl
  declared_names false = refl

  names_of_functions : function_names m2 ≡ function_names m ++ intrinsic_names steps
  names_of_functions =
      ap (λ (fs : List Function). map (λ (f : Function). f.name) fs) functions_are ∙ map-append (λ (f : Function). f.name) (map counts m.functions) (declarations m.functions)
      ∙ (λ i. map_map (λ (f : Function). f.name) counts m.functions i ++ declared_names steps i)

  names_of_records : map (λ (g : Global1). g.name) (map (λ (f : Function). record_global f.name) (filter defined m.functions)) ≡ map record_name (map (λ (f : Function). f.name) (filter defined m.functions))
  names_of_records = map_map (λ (g : Global1). g.name) (λ (f : Function). record_global f.name) (filter defined m.functions) ∙ sym (map_map record_name (λ (f : Function). f.name) (filter defined m.functions))

  names_of_variables : variables m2 ≡ variables m ++ map record_name (map (λ (f : Function). f.name) (filter defined m.functions))
  names_of_variables = map-append (λ (g : Global1). g.name) m.globals (map (λ (f : Function). record_global f.name) (filter defined m.functions)) ∙ ap (λ (ns : List Name). variables m ++ ns) names_of_records

  -- ---- names of the plain module

  function_symbol : (f : Function) → Among f m.functions → Among f.name (symbols m)
  function_symbol f at = among_right (variables m) (function_names m) f.name (among_map (λ (g : Function). g.name) m.functions f at)

  pub global_symbol : (g : Global1) → Among g m.globals → Among g.name (symbols m)
  global_symbol g at = among_left (variables m) (function_names m) g.name (among_map (λ (h : Global1). h.name) m.globals g at)

  -- ---- the kind

  declares_intrinsic : Among (declaration increment_name (Ptr ∷ I64 ∷ I32 ∷ I32 ∷ [])) m2.functions
  declares_intrinsic = subst (λ (fs : List Function). Among (declaration increment_name (Ptr ∷ I64 ∷ I32 ∷ I32 ∷ [])) fs) (sym functions_are) (among_right (map counts m.functions) (declarations m.functions) (declaration increment_name (Ptr ∷ I64 ∷ I32 ∷ I32 ∷ [])) (inl refl))

  increments_here : declares_increments m2.functions ≡ true
  unfolding declares_increments increment_name
  increments_here = some_passes (declares (codes "llvm.instrprof.increment")) m2.functions (declaration increment_name (Ptr ∷ I64 ∷ I32 ∷ I32 ∷ [])) declares_intrinsic refl

  pub kind_is : kind_of m2.functions ≡ Counted
  kind_is = ap (λ (b : Bool). if b then Counted else (if declares_notes m2.functions then Lowered else Plain)) increments_here

  note_is_profile : is_profile_name (codes "__llvm_profile_instrument_target") ≡ true
  unfolding is_profile_name
  note_is_profile = refl

  intrinsic_no_note : (f : Function) → Among f (declarations m.functions) → declares (codes "__llvm_profile_instrument_target") f ≡ false
  unfolding increment_name value_name step_name
  intrinsic_no_note f (inl e) = ap (declares (codes "__llvm_profile_instrument_target")) e
  intrinsic_no_note f (inr (inl e)) = ap (declares (codes "__llvm_profile_instrument_target")) e
  intrinsic_no_note f (inr (inr h)) = by steps h
    where
      by : (s : Bool) → Among f (cond s (declaration step_name (Ptr ∷ I64 ∷ I32 ∷ I32 ∷ I64 ∷ []) ∷ []) []) → declares (codes "__llvm_profile_instrument_target") f ≡ false
      by true (inl e) = ap (declares (codes "__llvm_profile_instrument_target")) e
      by true (inr k) = absurd k
      by false k = absurd k

  no_note : (f : Function) → Among f m2.functions → declares (codes "__llvm_profile_instrument_target") f ≡ false
  no_note f at = by (among_either (map counts m.functions) (declarations m.functions) f (subst (λ (fs : List Function). Among f fs) functions_are at))
    where
      other : (g : Function) → Among g m.functions → declares (codes "__llvm_profile_instrument_target") (counts g) ≡ false
      other g h = not_true (declares (codes "__llvm_profile_instrument_target") (counts g)) (λ e. not_both (is_profile_name g.name)
          (ap is_profile_name ((bytes_decides g.name (codes "__llvm_profile_instrument_target")).0 (and_parts (is_declared (counts g)) (same g.name (codes "__llvm_profile_instrument_target")) e).1) ∙ note_is_profile)
          (plain_name g.name (function_symbol g h)).profile)

      by : Among f (map counts m.functions) ⊎ Among f (declarations m.functions) → declares (codes "__llvm_profile_instrument_target") f ≡ false
      by (inl h) = (let g = map_among counts m.functions f h in ap (declares (codes "__llvm_profile_instrument_target")) g.2 ∙ other g.0 g.1)
      by (inr h) = intrinsic_no_note f h

  notes_absent : declares_notes m2.functions ≡ false
  unfolding declares_notes
  notes_absent = none_passes (declares (codes "__llvm_profile_instrument_target")) m2.functions no_note

  one_kind : is_of_one_kind m2 ≡ true
  one_kind = (λ i. not (increments_here i && notes_absent i))

  -- ---- what is taken over

  symbol_kept : (n : Name) → Among n (symbols m) → Among n (symbols m2)
  symbol_kept n at = by (among_either (variables m) (function_names m) n at)
    where
      by : Among n (variables m) ⊎ Among n (function_names m) → Among n (symbols m2)
      by (inl h) = among_left (variables m2) (function_names m2) n (subst (λ (ns : List Name). Among n ns) (sym names_of_variables) (among_left (variables m) (map record_name (map (λ (f : Function). f.name) (filter defined m.functions))) n h))
      by (inr h) = among_right (variables m2) (function_names m2) n (subst (λ (ns : List Name). Among n ns) (sym names_of_functions) (among_left (function_names m) (intrinsic_names steps) n h))

  signature_at : (f : Function) → Among f m2.functions → Among (signature f) (signatures m2)
  signature_at f at = among_map signature m2.functions f at

  counts_among : (f : Function) → Among f m.functions → Among (counts f) m2.functions
  counts_among f at = subst (λ (fs : List Function). Among (counts f) fs) (sym functions_are) (among_left (map counts m.functions) (declarations m.functions) (counts f) (among_map counts m.functions f at))

  signature_kept : (s : Signature) → Among s (signatures m) → Among s (signatures m2)
  signature_kept s at = (let f = map_among signature m.functions s at in subst (λ (t : Signature). Among t (signatures m2)) (sym f.2) (signature_at (counts f.0) (counts_among f.0 f.1)))

  not_of_profile : (n : Name) → Among n (symbols m) → is_of_profile m2 n ≡ false
  not_of_profile n at =
      let p = plain_name n at in
      or_from (is_profile_variable (kind_of m2.functions) n && is_among n (variables m2)) (is_profile_name n && is_among n (function_names m2)) (ap (λ (b : Bool). b && is_among n (variables m2)) (part_off n p)) (ap (λ (b : Bool). b && is_among n (function_names m2)) p.profile)
    where
      part_off : (k : Name) → IsPlainName k → is_profile_variable (kind_of m2.functions) k ≡ false
      part_off k p = ap (λ (kind : Kind). is_profile_variable kind k) kind_is ∙ no_unit_part k p

  pub takes : TakesOver m m2
  takes = record {
    has_symbols = symbol_kept;
    has_signatures = signature_kept;
    of_program = not_of_profile;
    no_profile = λ n at. (plain_name n at).profile;
    not_lowered = ap is_lowered_kind plain;
    free = λ n at. ap (λ (kind : Kind). is_reserved_function kind n) kind_is ∙ free_function n (plain_name n (among_right (variables m) (function_names m) n at));
  }

  -- ---- what a function finds

  pub unit_known : (f : Function) → Among f m.functions → is_declared f ≡ false → names_unit m2 (Global (record_name f.name)) ≡ true
  unit_known f at some =
      let there : Among f.name (map (λ (g : Function). g.name) (filter defined m.functions)) = among_map (λ (g : Function). g.name) (filter defined m.functions) f (among_filter defined m.functions f at (ap not some)) in
      and_from (is_unit_name (record_name f.name)) (is_among (record_name f.name) (variables m2)) (record_unit f.name) (is_member (record_name f.name) (variables m2) (subst (λ (ns : List Name). Among (record_name f.name) ns) (sym names_of_variables) (among_right (variables m) (map record_name (map (λ (g : Function). g.name) (filter defined m.functions))) (record_name f.name) (among_map record_name (map (λ (g : Function). g.name) (filter defined m.functions)) f.name there))))

  declared_at : (d : Function) → Among d (declarations m.functions) → Among (signature d) (signatures m2)
  declared_at d at = signature_at d (subst (λ (fs : List Function). Among d fs) (sym functions_are) (among_right (map counts m.functions) (declarations m.functions) d at))

  pub increments_known : Among increment_signature (signatures m2)
  increments_known = declared_at (declaration increment_name (Ptr ∷ I64 ∷ I32 ∷ I32 ∷ [])) (inl refl)

  pub values_known : Among value_signature (signatures m2)
  values_known = declared_at (declaration value_name (Ptr ∷ I64 ∷ I64 ∷ I32 ∷ I32 ∷ [])) (inr (inl refl))

  pub steps_known : (f : Function) → Among f m.functions → is_declared f ≡ false → 1 ≤ length (graph_of f).selects → Among step_signature (signatures m2)
  steps_known f at some h =
      let has : has_select f ≡ true = and_from (not (is_declared f)) (not (length (graph_of f).selects == 0)) (ap not some) (ap not (off (length (graph_of f).selects) h)) in
      let on : steps ≡ true = some_passes has_select m.functions f at has in
      declared_at (declaration step_name (Ptr ∷ I64 ∷ I32 ∷ I32 ∷ I64 ∷ [])) (inr (inr (subst (λ (s : Bool). Among (declaration step_name (Ptr ∷ I64 ∷ I32 ∷ I32 ∷ I64 ∷ [])) (cond s (declaration step_name (Ptr ∷ I64 ∷ I32 ∷ I32 ∷ I64 ∷ []) ∷ []) [])) (sym on) (inl refl))))
    where
      off : (k : ℕ) → 1 ≤ k → (k == 0) ≡ false
      off k h = ne_eqb k 0 (λ e. absurd (omega (arith, e, h)))

  -- ---- globals

  none_of_unit : (g : Global1) → IsPlainName g.name → is_unit_global m2 g ≡ true
  unfolding is_unit_global
  none_of_unit g p = (let a = p.unit_name in let b = p.unit_counters in let c = p.unit_data in rw a (rw b (rw c refl)))

  old_global : (g : Global1) → Among g m.globals → GlobalFormed m2 g
  old_global g at =
      let was = accepted.formed.global g at in
      let p = plain_name g.name (global_symbol g at) in
      record {
        named = was.named;
        free = ap (λ (kind : Kind). is_reserved_variable kind g.name) kind_is ∙ free_variable g.name p;
        typed = was.typed;
        symbols = λ n there. still n (was.symbols n there);
        of_unit = none_of_unit g p;
      }
    where
      still : (n : Name) → is_program_symbol m n ≡ true → is_program_symbol m2 n ≡ true
      still n h =
          let here = among_is n (symbols m) (and_parts (is_among n (symbols m)) (not (is_of_profile m n)) h).0 in
          and_from (is_among n (symbols m2)) (not (is_of_profile m2 n)) (is_member n (symbols m2) (symbol_kept n here)) (ap not (not_of_profile n here))

  text_is : (n : Name) → text_of (record_global n) ≡ Some n
  text_is n = ap (λ (b : Bool). cond {A = Option Name} b (Some n) None) (eq-eqb (length n) (length n) refl)

  record_of_unit : (n : Name) → is_global_name n ≡ true → is_unit_global m2 (record_global n) ≡ true
  unfolding is_unit_global
  record_of_unit n h = (let a = record_unit n in let t = text_is n in rw a (rw t (record_text n h)))

  new_global : (f : Function) → Among f m.functions → GlobalFormed m2 (record_global f.name)
  new_global f at =
      let was = (accepted.formed.function f at).named in
      record {
        named = record_named f.name was;
        free = ap (λ (kind : Kind). is_reserved_variable kind (record_name f.name)) kind_is ∙ record_free f.name;
        typed = eq-eqb (length f.name) (length f.name) refl;
        symbols = λ n there. absurd there;
        of_unit = record_of_unit f.name was;
      }

  global_formed : (g : Global1) → Among g m2.globals → GlobalFormed m2 g
  global_formed g at = by (among_either m.globals (map (λ (f : Function). record_global f.name) (filter defined m.functions)) g at)
    where
      by : Among g m.globals ⊎ Among g (map (λ (f : Function). record_global f.name) (filter defined m.functions)) → GlobalFormed m2 g
      by (inl h) = old_global g h
      by (inr h) = (let f = map_among (λ (f : Function). record_global f.name) (filter defined m.functions) g h in subst (λ (x : Global1). GlobalFormed m2 x) (sym f.2) (new_global f.0 (filter_among defined m.functions f.0 f.1)))

  -- ---- distinct names

  once_there : (n : Name) → times n (variables m) + times n (function_names m) ≤ 1
  once_there n = (let a = accepted.formed.distinct n in let b = count-append (same n) (variables m) (function_names m) in omega (arith, a, b))

  few_records : (n : Name) → times n (map (λ (f : Function). f.name) (filter defined m.functions)) ≤ 1
  few_records n = (let a = filter_times defined (λ (f : Function). f.name) n m.functions in let b = once_there n in omega (arith, a, b))

  distinct : (n : Name) → times n (symbols m2) ≤ 1
  distinct n =
      let records : List Name = map record_name (map (λ (f : Function). f.name) (filter defined m.functions)) in
      let a = count-append (same n) (variables m2) (function_names m2) in
      let b : times n (variables m2) ≡ times n (variables m ++ map record_name (map (λ (f : Function). f.name) (filter defined m.functions))) = ap (λ (ns : List Name). times n ns) names_of_variables in
      let c : times n (function_names m2) ≡ times n (function_names m ++ intrinsic_names steps) = ap (λ (ns : List Name). times n ns) names_of_functions in
      let d = count-append (same n) (variables m) (map record_name (map (λ (f : Function). f.name) (filter defined m.functions))) in
      let e = count-append (same n) (function_names m) (intrinsic_names steps) in
      let s = symbols_once (symbols m) (map (λ (f : Function). f.name) (filter defined m.functions)) steps plain_name accepted.formed.distinct few_records n in
      let o = count-append (same n) (variables m) (function_names m) in
      omega (arith, a, b, c, d, e, s, o)

  -- ---- the texts of records

  no_text : (gs : List Global1) → ((g : Global1) → Among g gs → is_unit_name g.name ≡ false) → unit_texts gs ≡ []
  no_text [] h = refl
  no_text (g ∷ gs) h = λ i. cons_option (cond (h g (inl refl) i) (text_of g) None) (no_text gs (λ x at. h x (inr at)) i)

  new_text : (n : Name) → unit_text (record_global n) ≡ Some n
  new_text n = ap (λ (b : Bool). cond {A = Option Name} b (text_of (record_global n)) None) (record_unit n) ∙ text_is n

  new_texts : (fs : List Function) → unit_texts (map (λ (f : Function). record_global f.name) fs) ≡ map (λ (f : Function). f.name) fs
  new_texts [] = refl
  new_texts (f ∷ fs) = λ i. cons_option (new_text f.name i) (new_texts fs i)

  texts_once : (t : Name) → times t (unit_texts m2.globals) ≤ 1
  texts_once t =
      let a : unit_texts m2.globals ≡ unit_texts m.globals ++ unit_texts (map (λ (f : Function). record_global f.name) (filter defined m.functions)) = filter_map-append unit_text m.globals (map (λ (f : Function). record_global f.name) (filter defined m.functions)) in
      let b : unit_texts m.globals ≡ [] = no_text m.globals (λ g at. (plain_name g.name (global_symbol g at)).unit_name) in
      let is : unit_texts m2.globals ≡ map (λ (f : Function). f.name) (filter defined m.functions) = a ∙ (λ i. b i ++ new_texts (filter defined m.functions) i) in
      let e : times t (unit_texts m2.globals) ≡ times t (map (λ (f : Function). f.name) (filter defined m.functions)) = ap (λ (ns : List Name). times t ns) is in
      let few = few_records t in
      omega (arith, e, few)

  -- ---- functions

  empty_params : (ts : List Ty) → list_all (is_param_name true) (map (λ (p : Ty × Name). p.1) (map (λ (t : Ty). (t, [])) ts)) ≡ true
  empty_params [] = refl
  empty_params (t ∷ ts) = empty_params ts

  module _ (n : Name) (ts : List Ty) (named : is_global_name n ≡ true) (free : is_reserved_function Counted n ≡ false) (provided : is_declared_well (declaration n ts) ≡ true) where
    intrinsic_formed : FunctionFormed m2 (declaration n ts)
    intrinsic_formed = record {
      named = named;
      params = empty_params ts;
      free = ap (λ (kind : Kind). is_reserved_function kind n) kind_is ∙ free;
      provided = provided;
      noted = refl;
      distinct = λ d k. absurd (cc d);
      first = refl;
      block = λ q h. absurd h;
    }

  increment_formed : FunctionFormed m2 (declaration increment_name (Ptr ∷ I64 ∷ I32 ∷ I32 ∷ []))
  unfolding increment_name is_global_name is_local_name is_quotable is_unit_counters is_unit_data is_of_runtime is_profile_name is_increment same_ty
  increment_formed = intrinsic_formed increment_name (Ptr ∷ I64 ∷ I32 ∷ I32 ∷ []) refl refl refl

  value_formed : FunctionFormed m2 (declaration value_name (Ptr ∷ I64 ∷ I64 ∷ I32 ∷ I32 ∷ []))
  unfolding value_name is_global_name is_local_name is_quotable is_unit_counters is_unit_data is_of_runtime is_profile_name is_increment is_increment_step is_value_note same_ty
  value_formed = intrinsic_formed value_name (Ptr ∷ I64 ∷ I64 ∷ I32 ∷ I32 ∷ []) refl refl refl

  step_formed : FunctionFormed m2 (declaration step_name (Ptr ∷ I64 ∷ I32 ∷ I32 ∷ I64 ∷ []))
  unfolding step_name is_global_name is_local_name is_quotable is_unit_counters is_unit_data is_of_runtime is_profile_name is_increment is_increment_step same_ty
  step_formed = intrinsic_formed step_name (Ptr ∷ I64 ∷ I32 ∷ I32 ∷ I64 ∷ []) refl refl refl

  declaration_formed : (d : Function) → Among d (declarations m.functions) → FunctionFormed m2 d
  declaration_formed d (inl e) = subst (λ (x : Function). FunctionFormed m2 x) (sym e) increment_formed
  declaration_formed d (inr (inl e)) = subst (λ (x : Function). FunctionFormed m2 x) (sym e) value_formed
  declaration_formed d (inr (inr h)) = by steps h
    where
      by : (s : Bool) → Among d (cond s (declaration step_name (Ptr ∷ I64 ∷ I32 ∷ I32 ∷ I64 ∷ []) ∷ []) []) → FunctionFormed m2 d
      by true (inl e) = subst (λ (x : Function). FunctionFormed m2 x) (sym e) step_formed
      by true (inr k) = absurd k
      by false k = absurd k

  module _ (fitting : FunctionsStayFormed) (declared : DeclaredStayFormed) (fit : (f : Function) → Among f m.functions → is_declared f ≡ false → PlanFits m2 (gen_function entry_first f) f) where
    counts_formed : (f : Function) → Among f m.functions → FunctionFormed m2 (counts f)
    counts_formed f at = by (is_declared f) refl
      where
        by : (b : Bool) → is_declared f ≡ b → FunctionFormed m2 (counts f)
        by true e = declared m m2 (gen_function entry_first f) f takes at (accepted.formed.function f at) e
        by false e = fitting m m2 (gen_function entry_first f) f takes at (accepted.formed.function f at) (fit f at e)

    function_formed : (f : Function) → Among f m2.functions → FunctionFormed m2 f
    function_formed f at = by (among_either (map counts m.functions) (declarations m.functions) f (subst (λ (fs : List Function). Among f fs) functions_are at))
      where
        by : Among f (map counts m.functions) ⊎ Among f (declarations m.functions) → FunctionFormed m2 f
        by (inl h) = (let g = map_among counts m.functions f h in subst (λ (x : Function). FunctionFormed m2 x) (sym g.2) (counts_formed g.0 g.1))
        by (inr h) = declaration_formed f h

    pub well_formed : IsWellFormed m2
    well_formed = record {
      distinct = distinct;
      kind = one_kind;
      units = texts_once;
      global = global_formed;
      function = function_formed;
    }
