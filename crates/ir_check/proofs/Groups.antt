-- All faults of a module are those of its groups of rules, one group behind the other.
use Rattle.std.proofs.Common.{◌≡◌, ℕ, suc, ◌+◌, ◌<◌, ◌==◌, ◌⊎◌, inl, inr, Bool, true, false, not, List, [], ◌∷◌, ◌++◌, map, length, Option, None, Some, refl, sym, ap, ◌∙◌, append_assoc, arith, add-zero}
use Rattle.std.proofs.lemmas.Bool.{eqb-true}
use Rattle.std.proofs.lemmas.List.{append-nil}
use Rattle.std.proofs.lemmas.Option.{none-some, same_Some}
use Rattle.std.specs.Option.{is_some, option_map}
use Rattle.ir_check.proofs.Kept.{function_kept, kept, map_nil, nil_left, nil_right}
use Rattle.ir_check.specs.Faults.{faults, function_rules, numbered}
use Rattle.ir_rules.specs.AllRules.{all_broken, with_number}
use Rattle.ir_rules.specs.Assigned.{assigned, is_ready, is_ready_term}
use Rattle.ir_rules.specs.Cases.{cases}
use Rattle.ir_rules.specs.Declarations.{declarations}
use Rattle.ir_rules.specs.Distinct.{distinct}
use Rattle.ir_rules.specs.Existing.{existing}
use Rattle.ir_rules.specs.Initialisers.{initialisers}
use Rattle.ir_rules.specs.Naming.{naming}
use Rattle.ir_rules.specs.OneKind.{one_kind}
use Rattle.ir_rules.specs.PhiPlaces.{phi_places}
use Rattle.ir_rules.specs.Reserved.{reserved}
use Rattle.ir_rules.specs.Targets.{targets}
use Rattle.ir_assigned.specs.Unready.{unready, unready_in}
use Rattle.ir_rules.specs.Parts.{Rule, FunctionKeeps, Keeps, block_places, function_places, place, places, unless}
use Rattle.ir_rules.specs.PhiEntries.{phi_entries}
use Rattle.ir_rules.specs.Weighing.{has_entries}
use Rattle.ir_rules.specs.declared.place.Place.{Place}
use Rattle.ir_tree.specs.Functions.{is_declared}
use Rattle.ir_tree.specs.declared.types.Block.{Block}
use Rattle.ir_tree.specs.declared.types.Prof.{Prof}
use Rattle.ir_tree.specs.declared.types.Prof.TheVariants.{Entry, Weights, Targets}
use Rattle.ir_tree.specs.declared.types.Function.{Function}
use Rattle.ir_tree.specs.declared.types.Global1.{Global1}
use Rattle.ir_tree.specs.declared.types.Instr.{Instr}
use Rattle.ir_tree.specs.declared.types.Module.{Module}
use Rattle.rule_groups.specs.Groups.{are_all, broken_from, broken_in, counting_rules, flow_rules, function_breaks, name_rules, operand_rules}
use Rattle.spec_lists.specs.Each.{each, first_of, only_if}

-- ---- the first of two lists

pub nothing : {Y : Type 0} (ys : List Y) → None ≡ first_of ys → ys ≡ []
nothing [] e = refl
nothing (y ∷ ys) e = absurd (cc)

pub no_first : {Y : Type 0} (ys : List Y) (found : Option Y) → is_some found ≡ false → found ≡ first_of ys → ys ≡ []
no_first ys None none e = nothing ys e
no_first ys (Some y) none e = absurd (cc)

first_stays : {Y : Type 0} (ys zs : List Y) (found : Option Y) → is_some found ≡ true → found ≡ first_of ys → found ≡ first_of (ys ++ zs)
first_stays [] zs found some e = absurd (cc)
first_stays (y ∷ ys) zs found some e = e

each_append : {X Y : Type 0} (make : ℕ → X → List Y) (n : ℕ) (xs ys : List X) → each make n (xs ++ ys) ≡ each make n xs ++ each make (n + length xs) ys
each_append {X} make n [] ys = ap (λ (k : ℕ). each make k ys) (sym (add-zero n))
each_append {X} {Y} make n (x ∷ xs) ys =
    let step : n + 1 + length xs ≡ n + length (x ∷ xs) = omega arith in
    ap (λ (zs : List Y). make n x ++ zs) (each_append make (n + 1) xs ys ∙ ap (λ (k : ℕ). each make (n + 1) xs ++ each make k ys) step)
    ∙ sym (append_assoc (make n x) (each make (n + 1) xs) (each make (n + length (x ∷ xs)) ys))

-- ---- a function

module _ (m : Module) (k : ℕ) (f : Function) where
  abbrev flow : List (ℕ × Place)
  flow = broken_in k f 7 flow_rules

  abbrev operands : List (ℕ × Place)
  operands = broken_in k f 11 (operand_rules m)

  abbrev walks : List (ℕ × Place)
  walks = broken_in k f 16 (assigned ∷ [])

  abbrev counts : List (ℕ × Place)
  counts = broken_in k f 17 (counting_rules m)

  in_groups : broken_in k f 7 (function_rules m) ≡ flow ++ (operands ++ (walks ++ counts))
  unfolding broken_in
  in_groups =
      each_append (function_breaks k f) 7 flow_rules (operand_rules m ++ (assigned ∷ counting_rules m))
      ∙ (λ i. each (function_breaks k f) 7 flow_rules ++ behind i)
    where
      behind : each (function_breaks k f) 11 (operand_rules m ++ (assigned ∷ counting_rules m)) ≡ each (function_breaks k f) 11 (operand_rules m) ++ (each (function_breaks k f) 16 (assigned ∷ []) ++ each (function_breaks k f) 17 (counting_rules m))
      behind =
          each_append (function_breaks k f) 11 (operand_rules m) (assigned ∷ counting_rules m)
          ∙ (λ i. each (function_breaks k f) 11 (operand_rules m) ++ each_append (function_breaks k f) 16 (assigned ∷ []) (counting_rules m) i)

  -- what is found of a group is the first of all, where nothing is found of those before it
  pub in_flow : (found : Option (ℕ × Place)) → is_some found ≡ true → found ≡ first_of flow → found ≡ first_of (broken_in k f 7 (function_rules m))
  in_flow found some first = first_stays flow (operands ++ (walks ++ counts)) found some first ∙ ap first_of (sym in_groups)

  module _ (no_flow : flow ≡ []) where
    behind_flow : first_of (operands ++ (walks ++ counts)) ≡ first_of (broken_in k f 7 (function_rules m))
    behind_flow = (λ i. first_of (sym no_flow i ++ (operands ++ (walks ++ counts)))) ∙ ap first_of (sym in_groups)

    pub in_operands : (found : Option (ℕ × Place)) → is_some found ≡ true → found ≡ first_of operands → found ≡ first_of (broken_in k f 7 (function_rules m))
    in_operands found some first = first_stays operands (walks ++ counts) found some first ∙ behind_flow

    module _ (no_operands : operands ≡ []) where
      behind_operands : first_of (walks ++ counts) ≡ first_of (broken_in k f 7 (function_rules m))
      behind_operands = (λ i. first_of (sym no_operands i ++ (walks ++ counts))) ∙ behind_flow

      pub in_walks : (found : Option (ℕ × Place)) → is_some found ≡ true → found ≡ first_of walks → found ≡ first_of (broken_in k f 7 (function_rules m))
      in_walks found some first = first_stays walks counts found some first ∙ behind_operands

      pub in_counts : walks ≡ [] → (found : Option (ℕ × Place)) → found ≡ first_of counts → found ≡ first_of (broken_in k f 7 (function_rules m))
      in_counts no_walks found first = first ∙ (λ i. first_of (sym no_walks i ++ counts)) ∙ behind_operands

  -- rules 10 and 11 hold of a function for which nothing is found
  pub phis_kept : flow ≡ [] → FunctionKeeps phi_entries k f
  unfolding broken_in
  phis_kept none =
      let three = nil_right (function_breaks k f 9 phi_places) _ (nil_right (function_breaks k f 8 cases) _ (nil_right (function_breaks k f 7 targets) _ none)) in
      function_kept phi_entries k f (map_nil (λ (at : Place). (10, at)) (function_places phi_entries k f) (nil_left (function_breaks k f 10 phi_entries) [] three))

  pub operands_kept : operands ≡ [] → FunctionKeeps (existing m) k f
  unfolding broken_in
  operands_kept none =
      function_kept (existing m) k f (map_nil (λ (at : Place). (11, at)) (function_places (existing m) k f) (nil_left (function_breaks k f 11 (existing m)) _ none))

-- ---- a module

-- a rule that says nothing of the module as a whole and of globals
record IsOnFunctions (r : Rule) : Type 0 where
  whole : r.whole ≡ true
  global : (n : ℕ) (g : Global1) → r.global n g ≡ true

none_each : {X Y : Type 0} (make : ℕ → X → List Y) (n : ℕ) (xs : List X) → ((i : ℕ) (x : X) → make i x ≡ []) → each make n xs ≡ []
none_each make n [] none = refl
none_each {X} {Y} make n (x ∷ xs) none = (λ i. none n x i ++ each make (n + 1) xs) ∙ none_each make (n + 1) xs none

module _ (m : Module) where
  on_functions : (r : Rule) → IsOnFunctions r → places r m ≡ each (function_places r) 0 m.functions
  unfolding places
  on_functions r quiet =
      (λ i. unless (quiet.whole i) (place 0 0 0) ++ (each (λ (n : ℕ) (g : Global1). unless (r.global n g) (place 0 0 n)) 0 m.globals ++ each (function_places r) 0 m.functions))
      ∙ (λ i. none_each (λ (n : ℕ) (g : Global1). unless (r.global n g) (place 0 0 n)) 0 m.globals (λ n g. ap (λ (b : Bool). unless b (place 0 0 n)) (quiet.global n g)) i ++ each (function_places r) 0 m.functions)

  abbrev AllOnFunctions : List Rule → Type 0
  AllOnFunctions [] = Unit {0}
  AllOnFunctions (r ∷ rs) = IsOnFunctions r × AllOnFunctions rs

  from_functions : (n : ℕ) (rs : List Rule) → AllOnFunctions rs → each (with_number m) n rs ≡ numbered (λ r. each (function_places r) 0 m.functions) n rs
  from_functions n [] quiet = refl
  from_functions n (r ∷ rs) quiet = λ i. map (λ at. (n, at)) (on_functions r quiet.0 i) ++ from_functions (n + 1) rs quiet.1 i

  all_quiet : AllOnFunctions (function_rules m)
  all_quiet = (
    record { whole = refl; global = λ n g. refl },
    (
      record { whole = refl; global = λ n g. refl },
      (
        record { whole = refl; global = λ n g. refl },
        (
          record { whole = refl; global = λ n g. refl },
          (
            record { whole = refl; global = λ n g. refl },
            (
              record { whole = refl; global = λ n g. refl },
              (
                record { whole = refl; global = λ n g. refl },
                (
                  record { whole = refl; global = λ n g. refl },
                  (
                    record { whole = refl; global = λ n g. refl },
                    (
                      record { whole = refl; global = λ n g. refl },
                      (
                        record { whole = refl; global = λ n g. refl },
                        (record { whole = refl; global = λ n g. refl }, tt),
                      ),
                    ),
                  ),
                ),
              ),
            ),
          ),
        ),
      ),
    ),
  )

  pub in_parts : all_broken m ≡ broken_from m 1 (name_rules m) ++ faults m m.functions
  unfolding all_broken broken_from faults
  in_parts =
      (λ i. each (with_number m) 1 (sym (are_all m) i))
      ∙ (each_append (with_number m) 1 (name_rules m) (function_rules m)
      ∙ (λ i. each (with_number m) 1 (name_rules m) ++ from_functions 7 (function_rules m) all_quiet i))

  pub in_names : (a : ℕ × Place) → Some a ≡ first_of (broken_from m 1 (name_rules m)) → first_of (all_broken m) ≡ Some a
  in_names a first = sym (first_stays (broken_from m 1 (name_rules m)) (faults m m.functions) (Some a) refl first ∙ ap first_of (sym in_parts))

  -- rules 1 and 6 hold where nothing is found
  module _ (none : broken_from m 1 (name_rules m) ≡ []) where
    pub in_faults : (found : Option (ℕ × Place)) → found ≡ first_of (faults m m.functions) → first_of (all_broken m) ≡ found
    in_faults found first = ap first_of in_parts ∙ (λ i. first_of (none i ++ faults m m.functions)) ∙ sym first

    pub no_faults : None ≡ first_of (faults m m.functions) → all_broken m ≡ []
    no_faults first = nothing (all_broken m) (sym (in_faults None first))

    pub naming_kept : Keeps (naming m) m
    unfolding broken_from
    naming_kept = kept (naming m) m (map_nil (λ (at : Place). (1, at)) (places (naming m) m) (nil_left (with_number m 1 (naming m)) _ none))

    pub distinct_kept : Keeps distinct m
    unfolding broken_from
    distinct_kept =
        let five = nil_right (with_number m 5 (initialisers m)) _ (nil_right (with_number m 4 declarations) _ (nil_right (with_number m 3 (reserved m)) _ (nil_right (with_number m 2 (one_kind m)) _ (nil_right (with_number m 1 (naming m)) _ none)))) in
        kept distinct m (map_nil (λ (at : Place). (6, at)) (places distinct m) (nil_left (with_number m 6 distinct) [] five))

-- ---- a declaration

no_blocks : (blocks : List Block) → (length blocks == 0) ≡ true → blocks ≡ []
no_blocks [] e = refl
no_blocks (b ∷ bs) e = absurd (omega (arith, eqb-true (length (b ∷ bs)) 0 e))

-- no note of a declaration is in place
no_entries : (declared : Bool) (o : Option Prof) → declared ≡ true → is_some o ≡ true → has_entries declared o ≡ false
no_entries d None e some = absurd (cc)
no_entries d (Some (Entry count)) e some = ap not e
no_entries d (Some (Weights weights)) e some = refl
no_entries d (Some (Targets total list)) e some = refl

is_bare : (declared : Bool) (o : Option Prof) → is_some o ≡ false → has_entries declared o ≡ true
is_bare d None none = refl
is_bare d (Some p) none = absurd (cc)

module _ (m : Module) (k : ℕ) (f : Function) (declared : is_declared f ≡ true) where
  head_alone : (r : Rule) → function_places r k f ≡ unless (r.head k f) (place k 0 0)
  head_alone r = ap (λ (blocks : List Block). unless (r.head k f) (place k 0 0) ++ each (block_places r k f) 0 blocks) (no_blocks f.blocks declared) ∙ append-nil (unless (r.head k f) (place k 0 0))

  heads_alone : (n : ℕ) (rs : List Rule) → each (function_breaks k f) n rs ≡ numbered (λ r. unless (r.head k f) (place k 0 0)) n rs
  heads_alone n [] = refl
  heads_alone n (r ∷ rs) = λ i. map (λ at. (n, at)) (head_alone r i) ++ heads_alone (n + 1) rs i

  -- of the rules on functions only that on weights speaks of heads
  one_head : broken_in k f 7 (function_rules m) ≡ map (λ at. (15, at)) (unless (has_entries (is_declared f) f.prof) (place k 0 0)) ++ []
  unfolding broken_in
  one_head = heads_alone 7 (function_rules m)

  pub noted : is_some f.prof ≡ true → Some (15, place k 0 0) ≡ first_of (broken_in k f 7 (function_rules m))
  noted some = sym (ap first_of one_head ∙ ap (λ (b : Bool). first_of (map (λ at. (15, at)) (unless b (place k 0 0)) ++ [])) (no_entries (is_declared f) f.prof declared some))

  pub bare : is_some f.prof ≡ false → None ≡ first_of (broken_in k f 7 (function_rules m))
  bare none = sym (ap first_of one_head ∙ ap (λ (b : Bool). first_of (map (λ at. (15, at)) (unless b (place k 0 0)) ++ [])) (is_bare (is_declared f) f.prof none))

-- ---- rule 16

module _ (k : ℕ) (f : Function) where
  abbrev at_place : ℕ × ℕ → Place
  at_place at = place k at.0 at.1

  abbrev of_walks : Place → ℕ × Place
  of_walks at = (16, at)

  abbrev reported : ℕ × ℕ → ℕ × Place
  reported at = (16, place k at.0 at.1)

  mapped : (ats : List (ℕ × ℕ)) (found : Option (ℕ × ℕ)) → found ≡ first_of ats → option_map reported found ≡ first_of (map of_walks (map at_place ats) ++ [])
  mapped [] found e = ap (option_map reported) e
  mapped (at ∷ ats) found e = ap (option_map reported) e

  pub on_walks : function_places assigned k f ≡ map at_place (unready f) → (found : Option (ℕ × ℕ)) → found ≡ first_of (unready f) → option_map reported found ≡ first_of (broken_in k f 16 (assigned ∷ []))
  unfolding broken_in
  on_walks alike found first = mapped (unready f) found first ∙ ap (λ (ats : List Place). first_of (map of_walks ats ++ [])) (sym alike)

-- an item that is not ready stands in a block of the function
only_first : {Y : Type 0} (b : Bool) (x y : Y) → first_of (only_if b x) ≡ Some y → x ≡ y
only_first true x y e = same_Some x y e
only_first false x y e = absurd (none-some y e)

first_in : {Y : Type 0} (ys zs : List Y) (y : Y) → first_of (ys ++ zs) ≡ Some y → (first_of ys ≡ Some y) ⊎ (first_of zs ≡ Some y)
first_in [] zs y e = inr e
first_in (x ∷ xs) zs y e = inl e

module _ (f : Function) where
  items : ℕ → Block → ℕ → Instr → List (ℕ × ℕ)
  items b block i x = only_if (not (is_ready f b block i x)) (b, i)

  in_items : (b : ℕ) (block : Block) (n : ℕ) (xs : List Instr) (at : ℕ × ℕ) → first_of (each (items b block) n xs) ≡ Some at → b ≡ at.0
  unfolding items
  in_items b block n [] at e = absurd (none-some at e)
  in_items b block n (x ∷ xs) at e = by (first_in (items b block n x) (each (items b block) (n + 1) xs) at e) (λ h. in_items b block (n + 1) xs at h)
    where
      by : (first_of (items b block n x) ≡ Some at) ⊎ (first_of (each (items b block) (n + 1) xs) ≡ Some at) → (first_of (each (items b block) (n + 1) xs) ≡ Some at → b ≡ at.0) → b ≡ at.0
      by (inl h) rest = ap (λ (q : ℕ × ℕ). q.0) (only_first (not (is_ready f b block n x)) (b, n) at h)
      by (inr h) rest = rest h

  in_block : (b : ℕ) (block : Block) (at : ℕ × ℕ) → first_of (unready_in f b block) ≡ Some at → b ≡ at.0
  unfolding items
  in_block b block at e = by (first_in (each (items b block) 0 block.instrs) (only_if (not (is_ready_term f b block)) (b, length block.instrs)) at e)
    where
      by : (first_of (each (items b block) 0 block.instrs) ≡ Some at) ⊎ (first_of (only_if (not (is_ready_term f b block)) (b, length block.instrs)) ≡ Some at) → b ≡ at.0
      by (inl h) = in_items b block 0 block.instrs at h
      by (inr h) = ap (λ (q : ℕ × ℕ). q.0) (only_first (not (is_ready_term f b block)) (b, length block.instrs) at h)

  in_blocks : (n : ℕ) (blocks : List Block) (at : ℕ × ℕ) → first_of (each (unready_in f) n blocks) ≡ Some at → at.0 < n + length blocks
  in_blocks n [] at e = absurd (none-some at e)
  in_blocks n (block ∷ blocks) at e = by (first_in (unready_in f n block) (each (unready_in f) (n + 1) blocks) at e) (λ h. in_blocks (n + 1) blocks at h)
    where
      by : (first_of (unready_in f n block) ≡ Some at) ⊎ (first_of (each (unready_in f) (n + 1) blocks) ≡ Some at) → (first_of (each (unready_in f) (n + 1) blocks) ≡ Some at → at.0 < n + 1 + length blocks) → at.0 < n + suc (length blocks)
      by (inl h) rest = let is : n ≡ at.0 = in_block n block at h in omega (arith, is)
      by (inr h) rest = omega (arith, rest h)

  pub unready_within : (at : ℕ × ℕ) → Some at ≡ first_of (unready f) → at.0 < length f.blocks
  unready_within at e = let within : at.0 < 0 + length f.blocks = in_blocks 0 f.blocks at (sym e) in omega (arith, within)
