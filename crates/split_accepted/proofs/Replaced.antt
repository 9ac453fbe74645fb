-- A plain module in which one function has other blocks: it keeps the rules where the function does, and the limits where they leave
-- room.
use Rattle.std.proofs.Common.{◌≡◌, ℕ, ◌+◌, ◌*◌, ◌≤◌, ◌==◌, ◌⊎◌, inl, inr, Bool, false, ◌&&◌, ◌||◌, not, if◌then◌else◌, List, [], ◌∷◌, ◌++◌, length, sum_by, Some, slice_get, refl, sym, ap, subst, ◌∙◌, arith, codes}
use Rattle.std.specs.List.{flat_map}
use Rattle.std.proofs.lemmas.Bool.{or_from}
use Rattle.std.proofs.lemmas.List.{length-set}
use Rattle.std.proofs.lemmas.List.Sorted.{IsPermutation-refl}
use Rattle.counted_rules.specs.Kept.{IsReordered, ReorderedStayFormed, TakesOver}
use Rattle.counted_rules.specs.PlainNames.{IsPlainName}
use Rattle.counted_rules.specs.Within.{IsWithin}
use Rattle.edge_split.specs.Split.{with_function}
use Rattle.ir_rules.specs.Kinds.{declares, declares_increments, declares_notes, is_lowered_kind, is_profile_variable, kind_of}
use Rattle.ir_rules.specs.Limits.{all_arrays, calls_through, cells, cells_of, counters, counters_in, function_arrays, global_arrays, has_result, registers, total_of}
use Rattle.ir_rules.specs.Lists.{Among, is_among, times}
use Rattle.ir_rules.specs.OneKind.{is_of_one_kind}
use Rattle.ir_rules.specs.Reserved.{is_reserved_function, is_reserved_variable}
use Rattle.ir_rules.specs.Scopes.{Signature, function_names, is_of_profile, is_program_symbol, signature, signatures, symbols, variables}
use Rattle.ir_rules.specs.WellFormed.{FunctionFormed, GlobalFormed, IsWellFormed, is_unit_global}
use Rattle.ir_rules.specs.declared.place.Kind.{Kind}
use Rattle.ir_rules.specs.declared.place.Kind.TheVariants.{Plain, Counted, Lowered}
use Rattle.ir_tree.specs.Edges.{edges_in}
use Rattle.ir_tree.specs.Functions.{is_profile_name}
use Rattle.ir_tree.specs.Graphs.{is_select, is_site}
use Rattle.ir_tree.specs.Names.{same}
use Rattle.ir_tree.specs.declared.types.Block.{Block}
use Rattle.ir_tree.specs.declared.types.Function.{Function}
use Rattle.ir_tree.specs.declared.types.Global1.{Global1}
use Rattle.ir_tree.specs.declared.types.Module.{Module}
use Rattle.split_accepted.proofs.Lists.{among_either, among_flat, among_left, among_right, flat_among, get_among, map_among, set_among, set_any, set_map, set_sum}
use Rattle.split_accepted.specs.Accepted.{IsPlainFormed}

in_order : (bs : List Block) → IsReordered bs bs
in_order [] = refl
in_order (b ∷ bs) = (bs, refl, IsPermutation-refl bs)

-- no larger than the function but for so many edges
pub record GrowsBy (more : ℕ) (f f2 : Function) : Type 0 where
  pub edges : edges_in f2 ≤ edges_in f + more
  pub results : total_of has_result f2 ≤ total_of has_result f
  pub selects : total_of is_select f2 ≤ total_of is_select f
  pub sites : total_of is_site f2 ≤ total_of is_site f
  pub arrays : (size : ℕ) → Among size (function_arrays f2) → Among size (function_arrays f)

module _ (m : Module) (formed : IsWellFormed m) (plain : kind_of m.functions ≡ Plain) (plain_name : (n : List ℕ) → Among n (symbols m) → IsPlainName n) (j : ℕ) (f : Function) (at : slice_get m.functions j ≡ Some f) (ys : List Block) (still : (length ys == 0) ≡ (length f.blocks == 0)) where
  abbrev f2 : Function
  f2 = record f { blocks = ys }

  abbrev m2 : Module
  m2 = with_function m j f2

  -- ---- what the module has still

  same_names : function_names m2 ≡ function_names m
  same_names = set_map (λ (g : Function). g.name) m.functions j f f2 at refl

  same_signatures : signatures m2 ≡ signatures m
  same_signatures = set_map signature m.functions j f f2 at refl

  same_symbols : symbols m2 ≡ symbols m
  same_symbols = ap (λ (ns : List (List ℕ)). variables m ++ ns) same_names

  still_declares : (n : List ℕ) → declares n f2 ≡ declares n f
  still_declares n = ap (λ (b : Bool). b && same f.name n) still

  same_increments : declares_increments m2.functions ≡ declares_increments m.functions
  unfolding declares_increments
  same_increments = set_any (declares (codes "llvm.instrprof.increment")) m.functions j f f2 at (still_declares (codes "llvm.instrprof.increment"))

  same_notes : declares_notes m2.functions ≡ declares_notes m.functions
  unfolding declares_notes
  same_notes = set_any (declares (codes "__llvm_profile_instrument_target")) m.functions j f f2 at (still_declares (codes "__llvm_profile_instrument_target"))

  same_kind : kind_of m2.functions ≡ kind_of m.functions
  same_kind = λ i. if same_increments i then Counted else (if same_notes i then Lowered else Plain)

  pub still_plain : kind_of m2.functions ≡ Plain
  still_plain = same_kind ∙ plain

  same_profile : (n : List ℕ) → is_of_profile m2 n ≡ is_of_profile m n
  same_profile n = λ i. (is_profile_variable (same_kind i) n && is_among n (variables m)) || (is_profile_name n && is_among n (same_names i))

  not_of_profile : (n : List ℕ) → Among n (symbols m) → is_of_profile m2 n ≡ false
  not_of_profile n here =
      same_profile n
      ∙ or_from (is_profile_variable (kind_of m.functions) n && is_among n (variables m)) (is_profile_name n && is_among n (function_names m))
      (ap (λ (kind : Kind). is_profile_variable kind n && is_among n (variables m)) plain)
      (ap (λ (b : Bool). b && is_among n (function_names m)) (plain_name n here).profile)

  still_free : (n : List ℕ) → Among n (function_names m) → is_reserved_function (kind_of m2.functions) n ≡ false
  still_free n here =
      let g = map_among (λ (g : Function). g.name) m.functions n here in
      ap (λ (kind : Kind). is_reserved_function kind n) same_kind ∙ ap (is_reserved_function (kind_of m.functions)) g.2 ∙ (formed.function g.0 g.1).free

  pub takes : TakesOver m m2
  takes = record {
    has_symbols = λ n here. subst (λ (ns : List (List ℕ)). Among n ns) (sym same_symbols) here;
    has_signatures = λ s here. subst (λ (ss : List Signature). Among s ss) (sym same_signatures) here;
    of_program = not_of_profile;
    no_profile = λ n here. (plain_name n here).profile;
    not_lowered = ap is_lowered_kind plain;
    free = still_free;
  }

  -- ---- the rules

  module _ (others : ReorderedStayFormed) (new_formed : FunctionFormed m2 f2) where
    function_formed : (g : Function) → Among g m2.functions → FunctionFormed m2 g
    function_formed g here = by (set_among m.functions j f2 g here)
      where
        by : (g ≡ f2) ⊎ Among g m.functions → FunctionFormed m2 g
        by (inl e) = subst (λ (h : Function). FunctionFormed m2 h) (sym e) new_formed
        by (inr old) = others m m2 g g.blocks takes old (formed.function g old) (in_order g.blocks)

    same_program : (n : List ℕ) → is_program_symbol m2 n ≡ is_program_symbol m n
    same_program n = λ i. is_among n (same_symbols i) && not (same_profile n i)

    same_unit : (g : Global1) → is_unit_global m2 g ≡ is_unit_global m g
    unfolding is_unit_global
    same_unit g = refl

    global_formed : (g : Global1) → Among g m.globals → GlobalFormed m2 g
    global_formed g here =
        let was = formed.global g here in
        record {
          named = was.named;
          free = ap (λ (kind : Kind). is_reserved_variable kind g.name) same_kind ∙ was.free;
          typed = was.typed;
          symbols = λ n there. same_program n ∙ was.symbols n there;
          of_unit = same_unit g ∙ was.of_unit;
        }

    one_kind : is_of_one_kind m2 ≡ is_of_one_kind m
    one_kind = λ i. not (same_increments i && same_notes i)

    well_formed : IsWellFormed m2
    well_formed = record {
      distinct = λ n. subst (λ (ns : List (List ℕ)). times n ns ≤ 1) (sym same_symbols) (formed.distinct n);
      kind = one_kind ∙ formed.kind;
      units = formed.units;
      global = global_formed;
      function = function_formed;
    }

    pub plain_formed : IsPlainFormed m2
    plain_formed = record { formed = well_formed; plain = still_plain }

  -- ---- the limits

  module _ (within : IsWithin Plain m) (more : ℕ) (grows : GrowsBy more f f2) (edges : edges_in f + more ≤ 1048576) (few : counters_in Plain m + more ≤ 1048576) where
    here : Among f m.functions
    here = get_among m.functions j f at

    registers_are : (g : Function) → registers Plain g ≡ length g.params + total_of has_result g + 8 * total_of is_site g
    unfolding registers
    registers_are g = refl

    counters_are : (g : Function) → counters g ≡ edges_in g + total_of is_select g
    unfolding counters
    counters_are g = refl

    of_each : (P : Function → Type 0) → P f2 → ((g : Function) → Among g m.functions → P g) → (g : Function) → Among g m2.functions → P g
    of_each P new old g there = by (set_among m.functions j f2 g there)
      where
        by : (g ≡ f2) ⊎ Among g m.functions → P g
        by (inl e) = subst P (sym e) new
        by (inr was) = old g was

    registers_few : registers Plain f2 ≤ 2048
    registers_few = omega (arith, registers_are f, registers_are f2, grows.results, grows.sites, within.results f here)

    arrays_are : (n : Module) → all_arrays n ≡ flat_map (global_arrays (kind_of n.functions)) n.globals ++ flat_map function_arrays n.functions
    unfolding all_arrays
    arrays_are n = refl

    array_stays : (size : ℕ) → Among size (all_arrays m2) → Among size (all_arrays m)
    array_stays size there =
        subst (λ (ns : List ℕ). Among size ns) (sym (arrays_are m)) (by (among_either (of_globals (kind_of m2.functions)) (flat_map function_arrays m2.functions) size (subst (λ (ns : List ℕ). Among size ns) (arrays_are m2) there)))
      where
        of_globals : Kind → List ℕ
        of_globals kind = flat_map (global_arrays kind) m.globals

        by : Among size (flat_map (global_arrays (kind_of m2.functions)) m.globals) ⊎ Among size (flat_map function_arrays m2.functions) → Among size (flat_map (global_arrays (kind_of m.functions)) m.globals ++ flat_map function_arrays m.functions)
        by (inl h) = among_left (flat_map (global_arrays (kind_of m.functions)) m.globals) (flat_map function_arrays m.functions) size (subst (λ (kind : Kind). Among size (flat_map (global_arrays kind) m.globals)) same_kind h)
        by (inr h) =
            let g = flat_among function_arrays m2.functions size h in
            among_right (flat_map (global_arrays (kind_of m.functions)) m.globals) (flat_map function_arrays m.functions) size
            (of_each (λ g. Among size (function_arrays g) → Among size (flat_map function_arrays m.functions))
            (λ k. among_flat function_arrays m.functions f size here (grows.arrays size k))
            (λ g was k. among_flat function_arrays m.functions g size was k) g.0 g.1 g.2)

    same_cells : cells m2 ≡ cells m
    unfolding cells
    same_cells = ap (λ (kind : Kind). sum_by (cells_of kind) m.globals) same_kind

    sites_few : calls_through m2 ≤ 65536
    sites_few = omega (arith, set_sum (total_of is_site) m.functions j f f2 at, grows.sites, within.sites)

    counters_few : sum_by counters m2.functions ≤ 1048576
    counters_few = omega (arith, set_sum counters m.functions j f f2 at, counters_are f, counters_are f2, grows.edges, grows.selects, few)

    pub still_within : IsWithin Plain m2
    still_within = record {
      functions = subst (λ (k : ℕ). k ≤ 65536) (sym (length-set m.functions j f2)) within.functions;
      globals = within.globals;
      edges = of_each (λ g. edges_in g ≤ 1048576) (omega (arith, grows.edges, edges)) within.edges;
      results = of_each (λ g. registers Plain g ≤ 2048) registers_few within.results;
      objects = λ size there. within.objects size (array_stays size there);
      memory = subst (λ (k : ℕ). k ≤ 1048576) (sym same_cells) within.memory;
      sites = sites_few;
      counted = counters_few;
    }
