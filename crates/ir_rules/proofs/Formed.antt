-- A module that keeps all rules is well formed, and the other way round.
use Rattle.std.proofs.Common.{◌≡◌, ℕ, ◌+◌, ◌<◌, ◌≤◌, Bool, true, false, ◌&&◌, ◌||◌, List, [], ◌∷◌, drop, take, length, Option, None, Some, slice_get, refl, sym, ap, subst, ◌∙◌, arith, inl, inr, ◌⊎◌}
use Rattle.std.specs.List.{list_all}
use Rattle.std.proofs.lemmas.Bool.{and_from, and_parts, both_ways, ne_eqb, not-true, not_from_false, or_cases}
use Rattle.std.proofs.lemmas.Option.{none-some, same_Some, slice_get_within}
use Rattle.ir_rules.proofs.Counts.{Name}
use Rattle.ir_rules.proofs.HeldTied.{AllReady, from_ready, head_links, joined, joined_from, ready}
use Rattle.ir_rules.proofs.Labelled.{labels_once}
use Rattle.ir_rules.proofs.Members.{all_of, among_at, at_among, each_of}
use Rattle.ir_rules.proofs.NamesTied.{functions_new, labels_new, names_once, params_new, results_new, symbols_once, text_fresh, texts_once, unit_apart, unit_joined, variables_new}
use Rattle.ir_rules.proofs.PartsKept.{AllKeep}
use Rattle.ir_rules.proofs.Phis.{AllPlaced, all_placed, is_matched, matched, none_behind, none_in_first}
use Rattle.ir_rules.proofs.Uses.{all_among, all_fit, among_all, calls, calls_is, fit_all_exist, fit_all_fit}
use Rattle.ir_rules.proofs.WalksTied.{MarksStand, NamesBlocks}
use Rattle.ir_rules.specs.AllRules.{rules}
use Rattle.ir_rules.specs.Assigned.{are_held, are_held_behind, assigned}
use Rattle.ir_rules.specs.Calling.{calling}
use Rattle.ir_rules.specs.Cases.{cases}
use Rattle.ir_rules.specs.Counting.{counting}
use Rattle.ir_rules.specs.Declarations.{declarations}
use Rattle.ir_rules.specs.Distinct.{distinct}
use Rattle.ir_rules.specs.Existing.{calls_profile, existing}
use Rattle.ir_rules.specs.Initialisers.{initialisers, initialises, is_external, is_initialised, is_unit_well, names_in}
use Rattle.ir_rules.specs.Intrinsics.{intrinsics}
use Rattle.ir_rules.specs.Kinds.{kind_of}
use Rattle.ir_rules.specs.Lists.{Among, are_new, times}
use Rattle.ir_rules.specs.Naming.{are_param_names, is_new_symbol, naming}
use Rattle.ir_rules.specs.OneKind.{one_kind}
use Rattle.ir_rules.specs.Parts.{Rule, Keeps}
use Rattle.ir_rules.specs.PhiEntries.{are_matched_if_any, phi_entries}
use Rattle.ir_rules.specs.PhiPlaces.{phi_places}
use Rattle.ir_rules.specs.Reserved.{is_reserved_function, is_reserved_variable, reserved}
use Rattle.ir_rules.specs.Returning.{returning}
use Rattle.ir_rules.specs.Scopes.{is_program_symbol, names, param_names, term_reads, values}
use Rattle.ir_rules.specs.Targets.{targets}
use Rattle.ir_rules.specs.Typing.{fits, is_typed, is_typed_term, typing}
use Rattle.ir_rules.specs.Walks.{AtHead}
use Rattle.ir_rules.specs.Weighing.{weighing}
use Rattle.ir_rules.specs.WellFormed.{BlockFormed, FunctionFormed, GlobalFormed, InstrFormed, IsWellFormed, Matched, TermFormed, no_phis, no_phis_first}
use Rattle.ir_tree.specs.Blocks.{labels}
use Rattle.ir_tree.specs.Functions.{is_declared}
use Rattle.ir_tree.specs.Operands.{Entries, operands, result_names}
use Rattle.ir_tree.specs.Phis.{entries_of, reads}
use Rattle.ir_tree.specs.Spelling.{is_global_name}
use Rattle.ir_tree.specs.Successors.{successors}
use Rattle.ir_tree.specs.declared.types.Block.{Block}
use Rattle.ir_tree.specs.declared.types.Function.{Function}
use Rattle.ir_tree.specs.declared.types.Global1.{Global1}
use Rattle.ir_tree.specs.declared.types.Instr.{Instr}
use Rattle.ir_tree.specs.declared.types.Module.{Module}

-- ---- all rules by name

pub record AllKept (m : Module) : Type 0 where
  pub naming : Keeps (naming m) m
  pub one_kind : Keeps (one_kind m) m
  pub reserved : Keeps (reserved m) m
  pub declarations : Keeps declarations m
  pub initialisers : Keeps (initialisers m) m
  pub distinct : Keeps distinct m
  pub targets : Keeps targets m
  pub cases : Keeps cases m
  pub phi_places : Keeps phi_places m
  pub phi_entries : Keeps phi_entries m
  pub existing : Keeps (existing m) m
  pub typing : Keeps typing m
  pub calling : Keeps (calling m) m
  pub returning : Keeps returning m
  pub weighing : Keeps weighing m
  pub assigned : Keeps assigned m
  pub intrinsics : Keeps (intrinsics m) m
  pub counting : Keeps (counting m) m

pub by_name : (m : Module) → AllKeep (rules m) m → AllKept m
unfolding rules
by_name m h = record {
  naming = h.0;
  one_kind = h.1.0;
  reserved = h.1.1.0;
  declarations = h.1.1.1.0;
  initialisers = h.1.1.1.1.0;
  distinct = h.1.1.1.1.1.0;
  targets = h.1.1.1.1.1.1.0;
  cases = h.1.1.1.1.1.1.1.0;
  phi_places = h.1.1.1.1.1.1.1.1.0;
  phi_entries = h.1.1.1.1.1.1.1.1.1.0;
  existing = h.1.1.1.1.1.1.1.1.1.1.0;
  typing = h.1.1.1.1.1.1.1.1.1.1.1.0;
  calling = h.1.1.1.1.1.1.1.1.1.1.1.1.0;
  returning = h.1.1.1.1.1.1.1.1.1.1.1.1.1.0;
  weighing = h.1.1.1.1.1.1.1.1.1.1.1.1.1.1.0;
  assigned = h.1.1.1.1.1.1.1.1.1.1.1.1.1.1.1.0;
  intrinsics = h.1.1.1.1.1.1.1.1.1.1.1.1.1.1.1.1.0;
  counting = h.1.1.1.1.1.1.1.1.1.1.1.1.1.1.1.1.1.0;
}

pub from_names : (m : Module) → AllKept m → AllKeep (rules m) m
unfolding rules
from_names m h = (h.naming, (h.one_kind, (h.reserved, (h.declarations, (h.initialisers, (h.distinct, (h.targets, (h.cases, (h.phi_places, (h.phi_entries, (h.existing, (h.typing, (h.calling, (h.returning, (h.weighing, (h.assigned, (h.intrinsics, (h.counting, tt))))))))))))))))))

-- ---- small facts

pub in_labels : (blocks : List Block) (to : Name) → Among to (labels (drop 1 blocks)) → Among to (labels blocks)
in_labels [] to at = absurd at
in_labels (b ∷ bs) to at = inr at

first_free : (blocks : List Block) → ((b : ℕ) (block : Block) → slice_get blocks b ≡ Some block → AllPlaced b block.instrs) → no_phis_first blocks ≡ true
first_free [] h = refl
first_free (b ∷ bs) h = none_in_first b.instrs (h 0 b refl)

free_first : (blocks : List Block) (b : ℕ) (block : Block) → slice_get blocks b ≡ Some block → no_phis_first blocks ≡ true → b ≡ 0 → no_phis block.instrs ≡ true
free_first [] b block at h e = absurd (none-some block at)
free_first (x ∷ xs) b block at h e =
    let is : x ≡ block = same_Some x block (ap (λ (k : ℕ). slice_get (x ∷ xs) k) (sym e) ∙ at) in
    subst (λ (y : Block). no_phis y.instrs ≡ true) is h

pub matched_entries : (blocks : List Block) (l : Name) (o : Option Entries) (es : Entries) → o ≡ Some es → are_matched_if_any blocks l o ≡ true → Matched blocks l es
matched_entries blocks l None es e h = absurd (none-some es e)
matched_entries blocks l (Some ds) es e h = subst (λ (ls : Entries). Matched blocks l ls) (same_Some ds es e) (matched blocks l ds h)

entries_matched : (blocks : List Block) (l : Name) (o : Option Entries) → ((es : Entries) → o ≡ Some es → Matched blocks l es) → are_matched_if_any blocks l o ≡ true
entries_matched blocks l None h = refl
entries_matched blocks l (Some es) h = is_matched blocks l es (h es refl)

is_defined : (f : Function) (b : ℕ) (block : Block) → slice_get f.blocks b ≡ Some block → is_declared f ≡ false
is_defined f b block at = ne_eqb (length f.blocks) 0 (λ e. let within : b < length f.blocks = slice_get_within f.blocks b block at in absurd (omega (arith, within, e)))

-- ---- what keeps all rules is well formed

module _ (stand : MarksStand) (m : Module) (h : AllKept m) where
  global_formed : (n : ℕ) (g : Global1) → slice_get m.globals n ≡ Some g → GlobalFormed m g
  global_formed n g at =
      let named = and_parts (is_global_name g.name) (is_new_symbol m n g.name) (h.naming.global n g at) in
      let held = and_parts (is_initialised m g) (is_unit_well m n g) (h.initialisers.global n g at) in
      let typed = and_parts (is_external g.init || initialises g.mem g.init) (list_all (is_program_symbol m) (names_in g.init)) held.0 in
      record {
        named = named.0;
        free = not-true (is_reserved_variable (kind_of m.functions) g.name) (h.reserved.global n g at);
        typed = typed.0;
        symbols = λ q among. each_of (is_program_symbol m) (names_in g.init) typed.1 q among;
        of_unit = (unit_apart m n g held.1).0;
      }

  module _ (k : ℕ) (f : Function) (at : slice_get m.functions k ≡ Some f) where
    once : is_declared f ≡ false → (n : Name) → times n (names f) ≤ 1
    once defined = names_once f (params (or_cases (is_declared f) (are_new [] (param_names f)) (h.distinct.function k f at).head)) (λ b block here. ((h.distinct.function k f at).block b block here).label) (λ b block here i x there. ((h.distinct.function k f at).block b block here).item i x there)
      where
        params : (is_declared f ≡ true) ⊎ (are_new [] (param_names f) ≡ true) → are_new [] (param_names f) ≡ true
        params (inl e) = absurd (both_ways (is_declared f) defined e)
        params (inr e) = e

    blocks_named : NamesBlocks f.blocks
    blocks_named x among to there =
        let spot = among_at f.blocks x among in
        in_labels f.blocks to (all_among (successors x.term) (labels (drop 1 f.blocks)) ((h.targets.function k f at).block spot.0 x spot.1).exit to there)

    module _ (b : ℕ) (block : Block) (here : slice_get f.blocks b ≡ Some block) where
      labels_apart : (n : Name) → times n (labels f.blocks) ≤ 1
      labels_apart = labels_once f (once (is_defined f b block here))

      some_blocks : 0 < length f.blocks
      some_blocks = let within : b < length f.blocks = slice_get_within f.blocks b block here in omega (arith, within)

      instr_formed : (i : ℕ) (x : Instr) → slice_get block.instrs i ≡ Some x → InstrFormed m f x
      instr_formed i x there =
          let typed = and_parts (list_all (fits (values f)) (operands x)) (is_typed x) (((h.typing.function k f at).block b block here).item i x there) in
          record {
            named = ((h.naming.function k f at).block b block here).item i x there;
            fit = all_fit m f (calls_profile x) (operands x) (((h.existing.function k f at).block b block here).item i x there) typed.0;
            typed = typed.1;
            calls = calls m x (((h.calling.function k f at).block b block here).item i x there);
            weighed = ((h.weighing.function k f at).block b block here).item i x there;
            counts = ((h.intrinsics.function k f at).block b block here).item i x there;
            counted = ((h.counting.function k f at).block b block here).item i x there;
          }

      term_formed : TermFormed m f block.term
      term_formed =
          let typed = and_parts (list_all (fits (values f)) (term_reads block.term)) (is_typed_term block.term) ((h.typing.function k f at).block b block here).exit in
          record {
            targets = all_among (successors block.term) (labels (drop 1 f.blocks)) ((h.targets.function k f at).block b block here).exit;
            apart = ((h.cases.function k f at).block b block here).exit;
            fit = all_fit m f false (term_reads block.term) ((h.existing.function k f at).block b block here).exit typed.0;
            typed = typed.1;
            returns = ((h.returning.function k f at).block b block here).exit;
            weighed = ((h.weighing.function k f at).block b block here).exit;
          }

      ready_parts : (i : ℕ) (x : Instr) → slice_get block.instrs i ≡ Some x → (are_held f b (result_names (take i block.instrs)) (reads x) ≡ true) × (are_held_behind f (entries_of x) ≡ true)
      ready_parts i x there = and_parts (are_held f b (result_names (take i block.instrs)) (reads x)) (are_held_behind f (entries_of x)) (((h.assigned.function k f at).block b block here).item i x there)

      all_ready : AllReady f b [] block.instrs block.term
      all_ready = record {
        item = λ i x there. (ready_parts i x there).0;
        exit = ((h.assigned.function k f at).block b block here).exit;
      }

      block_formed : BlockFormed m f block
      block_formed = record {
        named = ((h.naming.function k f at).block b block here).label;
        lead = none_behind b block.instrs (λ i x there. ((h.phi_places.function k f at).block b block here).item i x there);
        item = λ x among. let spot = among_at block.instrs x among in instr_formed spot.0 x spot.1;
        exit = term_formed;
        matched = λ x es among is. let spot = among_at block.instrs x among in matched_entries f.blocks block.label (entries_of x) es is (((h.phi_entries.function k f at).block b block here).item spot.0 x spot.1);
        ready = ready f b [] (AtHead f block.label) (head_links stand f labels_apart blocks_named b block here) block.instrs block.term all_ready;
        joined = λ x es among is. let spot = among_at block.instrs x among in joined stand f labels_apart blocks_named (entries_of x) some_blocks (ready_parts spot.0 x spot.1).1 es is;
      }

    function_formed : FunctionFormed m f
    function_formed =
        let head = and_parts (is_global_name f.name) (is_new_symbol m (length m.globals + k) f.name && are_param_names f) (h.naming.function k f at).head in
        record {
          named = head.0;
          params = (and_parts (is_new_symbol m (length m.globals + k) f.name) (are_param_names f) head.1).1;
          free = not-true (is_reserved_function (kind_of m.functions) f.name) (h.reserved.function k f at).head;
          provided = (h.declarations.function k f at).head;
          noted = (h.weighing.function k f at).head;
          distinct = once;
          first = first_free f.blocks (λ b block here i x there. ((h.phi_places.function k f at).block b block here).item i x there);
          block = λ block among. let spot = among_at f.blocks block among in block_formed spot.0 block spot.1;
        }

  new_function : (k : ℕ) (f : Function) → slice_get m.functions k ≡ Some f → is_new_symbol m (length m.globals + k) f.name ≡ true
  new_function k f at = (and_parts (is_new_symbol m (length m.globals + k) f.name) (are_param_names f) (and_parts (is_global_name f.name) (is_new_symbol m (length m.globals + k) f.name && are_param_names f) (h.naming.function k f at).head).1).0

  pub well_formed : IsWellFormed m
  well_formed = record {
    distinct = symbols_once m (λ n g at. (and_parts (is_global_name g.name) (is_new_symbol m n g.name) (h.naming.global n g at)).1) new_function;
    kind = h.one_kind.whole;
    units = texts_once m (λ n g at. (and_parts (is_initialised m g) (is_unit_well m n g) (h.initialisers.global n g at)).1);
    global = λ g among. let spot = among_at m.globals g among in global_formed spot.0 g spot.1;
    function = λ f among. let spot = among_at m.functions f among in function_formed spot.0 f spot.1;
  }

-- ---- what is well formed keeps all rules

module _ (r : Rule) (m : Module) where
  abbrev pub Globals : Type 0
  Globals = (n : ℕ) (g : Global1) → slice_get m.globals n ≡ Some g → r.global n g ≡ true

  abbrev pub Heads : Type 0
  Heads = (k : ℕ) (f : Function) → slice_get m.functions k ≡ Some f → r.head k f ≡ true

  abbrev pub Labels : Type 0
  Labels = (k : ℕ) (f : Function) → slice_get m.functions k ≡ Some f → (b : ℕ) (block : Block) → slice_get f.blocks b ≡ Some block → r.label f b block ≡ true

  abbrev pub Items : Type 0
  Items = (k : ℕ) (f : Function) → slice_get m.functions k ≡ Some f → (b : ℕ) (block : Block) → slice_get f.blocks b ≡ Some block → (i : ℕ) (x : Instr) → slice_get block.instrs i ≡ Some x → r.item f b block i x ≡ true

  abbrev pub Exits : Type 0
  Exits = (k : ℕ) (f : Function) → slice_get m.functions k ≡ Some f → (b : ℕ) (block : Block) → slice_get f.blocks b ≡ Some block → r.exit f b block ≡ true

  from_parts : r.whole ≡ true → Globals → Heads → Labels → Items → Exits → Keeps r m
  from_parts whole globals heads labels items exits = record {
    whole = whole;
    global = globals;
    function = λ k f at. record {
      head = heads k f at;
      block = λ b block here. record {
        label = labels k f at b block here;
        item = λ i x there. items k f at b block here i x there;
        exit = exits k f at b block here;
      };
    };
  }

module _ (stand : MarksStand) (m : Module) (h : IsWellFormed m) where
  function_of : (k : ℕ) (f : Function) → slice_get m.functions k ≡ Some f → FunctionFormed m f
  function_of k f at = h.function f (at_among m.functions k f at)

  global_of : (n : ℕ) (g : Global1) → slice_get m.globals n ≡ Some g → GlobalFormed m g
  global_of n g at = h.global g (at_among m.globals n g at)

  block_of : (k : ℕ) (f : Function) → slice_get m.functions k ≡ Some f → (b : ℕ) (block : Block) → slice_get f.blocks b ≡ Some block → BlockFormed m f block
  block_of k f at b block here = (function_of k f at).block block (at_among f.blocks b block here)

  instr_of : (k : ℕ) (f : Function) → slice_get m.functions k ≡ Some f → (b : ℕ) (block : Block) → slice_get f.blocks b ≡ Some block → (i : ℕ) (x : Instr) → slice_get block.instrs i ≡ Some x → InstrFormed m f x
  instr_of k f at b block here i x there = (block_of k f at b block here).item x (at_among block.instrs i x there)

  named_blocks : (k : ℕ) (f : Function) → slice_get m.functions k ≡ Some f → NamesBlocks f.blocks
  named_blocks k f at x among to there = in_labels f.blocks to (((function_of k f at).block x among).exit.targets to there)

  names_apart : (k : ℕ) (f : Function) → slice_get m.functions k ≡ Some f → (b : ℕ) (block : Block) → slice_get f.blocks b ≡ Some block → (n : Name) → times n (names f) ≤ 1
  names_apart k f at b block here = (function_of k f at).distinct (is_defined f b block here)

  params_apart : (k : ℕ) (f : Function) → slice_get m.functions k ≡ Some f → (t : Bool) → is_declared f ≡ t → (t || are_new [] (param_names f)) ≡ true
  params_apart k f at true e = refl
  params_apart k f at false e = params_new f ((function_of k f at).distinct e)

  held_items : (k : ℕ) (f : Function) → slice_get m.functions k ≡ Some f → (b : ℕ) (block : Block) → slice_get f.blocks b ≡ Some block → AllReady f b [] block.instrs block.term
  held_items k f at b block here = from_ready f b [] (AtHead f block.label) (head_links stand f (labels_once f (names_apart k f at b block here)) (named_blocks k f at) b block here) block.instrs block.term (block_of k f at b block here).ready

  keeps_naming : Keeps (naming m) m
  keeps_naming = from_parts (naming m) m refl
      (λ n g at. and_from (is_global_name g.name) (is_new_symbol m n g.name) (global_of n g at).named (variables_new m h.distinct n g at))
      (λ k f at. and_from (is_global_name f.name) (is_new_symbol m (length m.globals + k) f.name && are_param_names f) (function_of k f at).named (and_from (is_new_symbol m (length m.globals + k) f.name) (are_param_names f) (functions_new m h.distinct k f at) (function_of k f at).params))
      (λ k f at b block here. (block_of k f at b block here).named)
      (λ k f at b block here i x there. (instr_of k f at b block here i x there).named)
      (λ k f at b block here. refl)

  keeps_one_kind : Keeps (one_kind m) m
  keeps_one_kind = from_parts (one_kind m) m h.kind (λ n g at. refl) (λ k f at. refl) (λ k f at b block here. refl) (λ k f at b block here i x there. refl) (λ k f at b block here. refl)

  keeps_reserved : Keeps (reserved m) m
  keeps_reserved = from_parts (reserved m) m refl
      (λ n g at. not_from_false (is_reserved_variable (kind_of m.functions) g.name) (global_of n g at).free)
      (λ k f at. not_from_false (is_reserved_function (kind_of m.functions) f.name) (function_of k f at).free)
      (λ k f at b block here. refl) (λ k f at b block here i x there. refl) (λ k f at b block here. refl)

  keeps_declarations : Keeps declarations m
  keeps_declarations = from_parts declarations m refl (λ n g at. refl) (λ k f at. (function_of k f at).provided) (λ k f at b block here. refl) (λ k f at b block here i x there. refl) (λ k f at b block here. refl)

  keeps_initialisers : Keeps (initialisers m) m
  keeps_initialisers = from_parts (initialisers m) m refl
      (λ n g at. and_from (is_initialised m g) (is_unit_well m n g) (and_from (is_external g.init || initialises g.mem g.init) (list_all (is_program_symbol m) (names_in g.init)) (global_of n g at).typed (all_of (is_program_symbol m) (names_in g.init) (global_of n g at).symbols)) (unit_joined m n g (global_of n g at).of_unit (text_fresh m h.units n g at)))
      (λ k f at. refl) (λ k f at b block here. refl) (λ k f at b block here i x there. refl) (λ k f at b block here. refl)

  keeps_distinct : Keeps distinct m
  keeps_distinct = from_parts distinct m refl (λ n g at. refl)
      (λ k f at. params_apart k f at (is_declared f) refl)
      (λ k f at b block here. labels_new f (names_apart k f at b block here) b block here)
      (λ k f at b block here i x there. results_new f (names_apart k f at b block here) b block here i x there)
      (λ k f at b block here. refl)

  keeps_targets : Keeps targets m
  keeps_targets = from_parts targets m refl (λ n g at. refl) (λ k f at. refl) (λ k f at b block here. refl) (λ k f at b block here i x there. refl)
      (λ k f at b block here. among_all (successors block.term) (labels (drop 1 f.blocks)) (block_of k f at b block here).exit.targets)

  keeps_cases : Keeps cases m
  keeps_cases = from_parts cases m refl (λ n g at. refl) (λ k f at. refl) (λ k f at b block here. refl) (λ k f at b block here i x there. refl) (λ k f at b block here. (block_of k f at b block here).exit.apart)

  keeps_phi_places : Keeps phi_places m
  keeps_phi_places = from_parts phi_places m refl (λ n g at. refl) (λ k f at. refl) (λ k f at b block here. refl)
      (λ k f at b block here i x there. all_placed b block.instrs (block_of k f at b block here).lead (free_first f.blocks b block here (function_of k f at).first) i x there)
      (λ k f at b block here. refl)

  keeps_phi_entries : Keeps phi_entries m
  keeps_phi_entries = from_parts phi_entries m refl (λ n g at. refl) (λ k f at. refl) (λ k f at b block here. refl)
      (λ k f at b block here i x there. entries_matched f.blocks block.label (entries_of x) (λ es is. (block_of k f at b block here).matched x es (at_among block.instrs i x there) is))
      (λ k f at b block here. refl)

  keeps_existing : Keeps (existing m) m
  keeps_existing = from_parts (existing m) m refl (λ n g at. refl) (λ k f at. refl) (λ k f at b block here. refl)
      (λ k f at b block here i x there. fit_all_exist m f (calls_profile x) (operands x) (instr_of k f at b block here i x there).fit)
      (λ k f at b block here. fit_all_exist m f false (term_reads block.term) (block_of k f at b block here).exit.fit)

  keeps_typing : Keeps typing m
  keeps_typing = from_parts typing m refl (λ n g at. refl) (λ k f at. refl) (λ k f at b block here. refl)
      (λ k f at b block here i x there. and_from (list_all (fits (values f)) (operands x)) (is_typed x) (fit_all_fit m f (calls_profile x) (operands x) (instr_of k f at b block here i x there).fit) (instr_of k f at b block here i x there).typed)
      (λ k f at b block here. and_from (list_all (fits (values f)) (term_reads block.term)) (is_typed_term block.term) (fit_all_fit m f false (term_reads block.term) (block_of k f at b block here).exit.fit) (block_of k f at b block here).exit.typed)

  keeps_calling : Keeps (calling m) m
  keeps_calling = from_parts (calling m) m refl (λ n g at. refl) (λ k f at. refl) (λ k f at b block here. refl)
      (λ k f at b block here i x there. calls_is m x (instr_of k f at b block here i x there).calls)
      (λ k f at b block here. refl)

  keeps_returning : Keeps returning m
  keeps_returning = from_parts returning m refl (λ n g at. refl) (λ k f at. refl) (λ k f at b block here. refl) (λ k f at b block here i x there. refl) (λ k f at b block here. (block_of k f at b block here).exit.returns)

  keeps_weighing : Keeps weighing m
  keeps_weighing = from_parts weighing m refl (λ n g at. refl) (λ k f at. (function_of k f at).noted) (λ k f at b block here. refl)
      (λ k f at b block here i x there. (instr_of k f at b block here i x there).weighed)
      (λ k f at b block here. (block_of k f at b block here).exit.weighed)

  keeps_assigned : Keeps assigned m
  keeps_assigned = from_parts assigned m refl (λ n g at. refl) (λ k f at. refl) (λ k f at b block here. refl)
      (λ k f at b block here i x there. and_from (are_held f b (result_names (take i block.instrs)) (reads x)) (are_held_behind f (entries_of x)) ((held_items k f at b block here).item i x there) (joined_from stand f (labels_once f (names_apart k f at b block here)) (named_blocks k f at) (entries_of x) (λ es is. (block_of k f at b block here).joined x es (at_among block.instrs i x there) is)))
      (λ k f at b block here. (held_items k f at b block here).exit)

  keeps_intrinsics : Keeps (intrinsics m) m
  keeps_intrinsics = from_parts (intrinsics m) m refl (λ n g at. refl) (λ k f at. refl) (λ k f at b block here. refl) (λ k f at b block here i x there. (instr_of k f at b block here i x there).counts) (λ k f at b block here. refl)

  keeps_counting : Keeps (counting m) m
  keeps_counting = from_parts (counting m) m refl (λ n g at. refl) (λ k f at. refl) (λ k f at b block here. refl) (λ k f at b block here i x there. (instr_of k f at b block here i x there).counted) (λ k f at b block here. refl)

  pub all_kept_by : AllKept m
  all_kept_by = record {
    naming = keeps_naming;
    one_kind = keeps_one_kind;
    reserved = keeps_reserved;
    declarations = keeps_declarations;
    initialisers = keeps_initialisers;
    distinct = keeps_distinct;
    targets = keeps_targets;
    cases = keeps_cases;
    phi_places = keeps_phi_places;
    phi_entries = keeps_phi_entries;
    existing = keeps_existing;
    typing = keeps_typing;
    calling = keeps_calling;
    returning = keeps_returning;
    weighing = keeps_weighing;
    assigned = keeps_assigned;
    intrinsics = keeps_intrinsics;
    counting = keeps_counting;
  }
