-- Names that are new where they stand are names that stand once: of a module's symbols, of its units, of a function.
use Rattle.std.proofs.Common.{◌≡◌, ℕ, zero, suc, ◌+◌, ◌<◌, ◌≤◌, Bool, true, false, cond, List, [], ◌∷◌, ◌++◌, take, length, map, Option, None, Some, slice_get, refl, sym, ap, subst, ◌∙◌, arith}
use Rattle.std.specs.List.{filter_map, flat_map}
use Rattle.std.proofs.lemmas.Bool.{and_from, and_parts}
use Rattle.std.proofs.lemmas.List.{length-map, take-append-le, take-map}
use Rattle.std.proofs.lemmas.Option.{none-some, same_Some, slice_get_within}
use Rattle.ir_rules.proofs.Counts.{FreshMade, Name, few_made, few_news, grows, is_new_from, made_fresh, new_is, news_few, one, one_self, times_append, times_cons}
use Rattle.ir_rules.specs.Distinct.{is_new_if_any, names_before, names_before_item}
use Rattle.ir_rules.specs.Initialisers.{holds_counters_well, holds_data_well, is_new_text, is_record_name, is_unit_well, names_unit_well, unit_text, unit_texts}
use Rattle.ir_rules.specs.Kinds.{is_unit_counters, is_unit_data, is_unit_name}
use Rattle.ir_rules.specs.Lists.{are_new, is_new, times}
use Rattle.ir_rules.specs.Naming.{is_new_symbol}
use Rattle.ir_rules.specs.Scopes.{block_names, function_names, names, param_names, symbols, variables}
use Rattle.ir_rules.specs.Units.{text_of}
use Rattle.ir_rules.specs.WellFormed.{is_record_text, is_unit_global}
use Rattle.ir_tree.specs.Operands.{result_name, result_names}
use Rattle.ir_tree.specs.declared.types.Block.{Block}
use Rattle.ir_tree.specs.declared.types.Function.{Function}
use Rattle.ir_tree.specs.declared.types.Global1.{Global1}
use Rattle.ir_tree.specs.declared.types.Instr.{Instr}
use Rattle.ir_tree.specs.declared.types.Module.{Module}

-- ---- the symbols of a module

take_behind : {X : Type 0} (xs ys : List X) (k : ℕ) → take (length xs + k) (xs ++ ys) ≡ xs ++ take k ys
take_behind {X} [] ys k = ap (λ (j : ℕ). take j ys) (let e : 0 + k ≡ k = omega arith in e)
take_behind {X} (x ∷ xs) ys k = ap (λ (j : ℕ). take j (x ∷ (xs ++ ys))) (let e : suc (length xs) + k ≡ suc (length xs + k) = omega arith in e) ∙ ap (λ (zs : List X). x ∷ zs) (take_behind xs ys k)

made_map : {X : Type 0} (g : X → Name) (xs : List X) → filter_map (λ x. Some (g x)) xs ≡ map g xs
made_map g [] = refl
made_map g (x ∷ xs) = ap (λ (ns : List Name). g x ∷ ns) (made_map g xs)

variable_name : Global1 → Option Name
variable_name g = Some g.name

function_name : Function → Option Name
function_name f = Some f.name

module _ (m : Module) where
  before_variable : (n : ℕ) (g : Global1) (r : Name) → slice_get m.globals n ≡ Some g → times r (take n (symbols m)) ≡ times r (filter_map variable_name (take n m.globals))
  unfolding variable_name
  before_variable n g r at =
      let within : n < length m.globals = slice_get_within m.globals n g at in
      let long : length (variables m) ≡ length m.globals = length-map m.globals (λ (d : Global1). d.name) in
      let front : take n (symbols m) ≡ take n (variables m) = take-append-le n (variables m) (function_names m) (omega (arith, within, long)) in
      ap (λ (ns : List Name). times r ns) (front ∙ (take-map (λ (d : Global1). d.name) n m.globals ∙ sym (made_map (λ (d : Global1). d.name) (take n m.globals))))

  before_function : (k : ℕ) (r : Name) → times r (take (length m.globals + k) (symbols m)) ≡ times r (variables m) + times r (filter_map function_name (take k m.functions))
  unfolding function_name
  before_function k r =
      let long : length m.globals ≡ length (variables m) = sym (length-map m.globals (λ (d : Global1). d.name)) in
      let cut : take (length m.globals + k) (symbols m) ≡ variables m ++ take k (function_names m) = ap (λ (j : ℕ). take (j + k) (symbols m)) long ∙ take_behind (variables m) (function_names m) k in
      let named : take k (function_names m) ≡ filter_map (λ (f : Function). Some f.name) (take k m.functions) = take-map (λ (f : Function). f.name) k m.functions ∙ sym (made_map (λ (f : Function). f.name) (take k m.functions)) in
      ap (λ (ns : List Name). times r ns) cut ∙ (times_append r (variables m) (take k (function_names m)) ∙ ap (λ (ns : List Name). times r (variables m) + times r ns) named)

  all_variables : (n : Name) → times n (filter_map variable_name m.globals) ≡ times n (variables m)
  unfolding variable_name
  all_variables n = ap (λ (ns : List Name). times n ns) (made_map (λ (d : Global1). d.name) m.globals)

  all_functions : (n : Name) → times n (filter_map function_name m.functions) ≡ times n (function_names m)
  unfolding function_name
  all_functions n = ap (λ (ns : List Name). times n ns) (made_map (λ (f : Function). f.name) m.functions)

  abbrev pub NewVariables : Type 0
  NewVariables = (n : ℕ) (g : Global1) → slice_get m.globals n ≡ Some g → is_new_symbol m n g.name ≡ true

  abbrev pub NewFunctions : Type 0
  NewFunctions = (k : ℕ) (f : Function) → slice_get m.functions k ≡ Some f → is_new_symbol m (length m.globals + k) f.name ≡ true

  pub symbols_once : NewVariables → NewFunctions → (n : Name) → times n (symbols m) ≤ 1
  unfolding variable_name function_name
  symbols_once new_variables new_functions n =
      let none : (q : Name) → 0 ≤ 1 = λ q. omega arith in
      let fresh : FreshMade variable_name (λ q. 0) m.globals = λ i g r at e. let new : times g.name (take i (symbols m)) ≡ 0 = new_is g.name (take i (symbols m)) (new_variables i g at) in let is : g.name ≡ r = same_Some g.name r e in let there : times r (take i (symbols m)) ≡ 0 = ap (λ (q : Name). times q (take i (symbols m))) (sym is) ∙ new in omega (arith, there, before_variable i g r at) in
      let few : (q : Name) → times q (variables m) ≤ 1 = λ q. let most : 0 + times q (filter_map variable_name m.globals) ≤ 1 = few_made variable_name (λ p. 0) m.globals none fresh q in omega (arith, most, all_variables q) in
      let later : FreshMade function_name (λ q. times q (variables m)) m.functions = λ k f r at e. let new : times f.name (take (length m.globals + k) (symbols m)) ≡ 0 = new_is f.name (take (length m.globals + k) (symbols m)) (new_functions k f at) in let is : f.name ≡ r = same_Some f.name r e in let there : times r (take (length m.globals + k) (symbols m)) ≡ 0 = ap (λ (q : Name). times q (take (length m.globals + k) (symbols m))) (sym is) ∙ new in omega (arith, there, before_function k r) in
      let most : times n (variables m) + times n (filter_map function_name m.functions) ≤ 1 = few_made function_name (λ q. times q (variables m)) m.functions few later n in
      omega (arith, most, all_functions n, times_append n (variables m) (function_names m))

  module _ (once : (n : Name) → times n (symbols m) ≤ 1) where
    pub variables_new : NewVariables
    unfolding variable_name
    variables_new n g at =
        let few : (q : Name) → 0 + times q (filter_map variable_name m.globals) ≤ 1 = λ q. let most : times q (symbols m) ≤ 1 = once q in omega (arith, most, all_variables q, times_append q (variables m) (function_names m)) in
        let fresh : 0 + times g.name (filter_map variable_name (take n m.globals)) ≡ 0 = made_fresh variable_name (λ q. 0) m.globals few n g g.name at refl in
        is_new_from g.name (take n (symbols m)) (omega (arith, fresh, before_variable n g g.name at))

    pub functions_new : NewFunctions
    unfolding function_name
    functions_new k f at =
        let few : (q : Name) → times q (variables m) + times q (filter_map function_name m.functions) ≤ 1 = λ q. let most : times q (symbols m) ≤ 1 = once q in omega (arith, most, all_functions q, times_append q (variables m) (function_names m)) in
        let fresh : times f.name (variables m) + times f.name (filter_map function_name (take k m.functions)) ≡ 0 = made_fresh function_name (λ q. times q (variables m)) m.functions few k f f.name at refl in
        is_new_from f.name (take (length m.globals + k) (symbols m)) (omega (arith, fresh, before_function k f.name))

  -- ---- the units of a profile

  new_text : (n : ℕ) (g : Global1) (o : Option Name) → is_new_text (unit_texts (take n m.globals)) o ≡ true → (is_record_text o ≡ true) × ((t : Name) → o ≡ Some t → times t (unit_texts (take n m.globals)) ≡ 0)
  new_text n g None h = absurd (cc)
  new_text n g (Some bytes) h =
      let parts = and_parts (is_record_name bytes) (is_new bytes (unit_texts (take n m.globals))) h in
      (parts.0, λ t e. let is : bytes ≡ t = same_Some bytes t e in ap (λ (q : Name). times q (unit_texts (take n m.globals))) (sym is) ∙ new_is bytes (unit_texts (take n m.globals)) parts.1)

  text_new : (n : ℕ) (g : Global1) (o : Option Name) → is_record_text o ≡ true → ((t : Name) → o ≡ Some t → times t (unit_texts (take n m.globals)) ≡ 0) → is_new_text (unit_texts (take n m.globals)) o ≡ true
  text_new n g None h fresh = absurd (cc)
  text_new n g (Some bytes) h fresh = and_from (is_record_name bytes) (is_new bytes (unit_texts (take n m.globals))) h (is_new_from bytes (unit_texts (take n m.globals)) (fresh bytes refl))

  -- what a rule says of a unit's global, apart from what stands before it
  pub unit_apart : (n : ℕ) (g : Global1) → is_unit_well m n g ≡ true → (is_unit_global m g ≡ true) × ((t : Name) → unit_text g ≡ Some t → times t (unit_texts (take n m.globals)) ≡ 0)
  unfolding is_unit_well is_unit_global
  unit_apart n g h = by (cond (is_unit_counters g.name) (holds_counters_well m g) (cond (is_unit_data g.name) (holds_data_well m g) true)) (is_unit_name g.name) h
    where
      by : (rest b : Bool) → cond b (names_unit_well m n g) rest ≡ true → (cond b (is_record_text (text_of g)) rest ≡ true) × ((t : Name) → cond {A = Option Name} b (text_of g) None ≡ Some t → times t (unit_texts (take n m.globals)) ≡ 0)
      by rest true k = new_text n g (text_of g) k
      by rest false k = (k, λ t e. absurd (none-some t e))

  pub unit_joined : (n : ℕ) (g : Global1) → is_unit_global m g ≡ true → ((t : Name) → unit_text g ≡ Some t → times t (unit_texts (take n m.globals)) ≡ 0) → is_unit_well m n g ≡ true
  unfolding is_unit_well is_unit_global
  unit_joined n g h fresh = by (cond (is_unit_counters g.name) (holds_counters_well m g) (cond (is_unit_data g.name) (holds_data_well m g) true)) (is_unit_name g.name) h fresh
    where
      by : (rest b : Bool) → cond b (is_record_text (text_of g)) rest ≡ true → ((t : Name) → cond {A = Option Name} b (text_of g) None ≡ Some t → times t (unit_texts (take n m.globals)) ≡ 0) → cond b (names_unit_well m n g) rest ≡ true
      by rest true k new = text_new n g (text_of g) k new
      by rest false k new = k

  pub texts_once : ((n : ℕ) (g : Global1) → slice_get m.globals n ≡ Some g → is_unit_well m n g ≡ true) → (t : Name) → times t (unit_texts m.globals) ≤ 1
  texts_once h t =
      let none : (q : Name) → 0 ≤ 1 = λ q. omega arith in
      let fresh : FreshMade unit_text (λ q. 0) m.globals = λ i g r at e. let new : times r (unit_texts (take i m.globals)) ≡ 0 = (unit_apart i g (h i g at)).1 r e in omega (arith, new) in
      let most : 0 + times t (filter_map unit_text m.globals) ≤ 1 = few_made unit_text (λ q. 0) m.globals none fresh t in
      omega (arith, most)

  pub text_fresh : ((t : Name) → times t (unit_texts m.globals) ≤ 1) → (n : ℕ) (g : Global1) → slice_get m.globals n ≡ Some g → (t : Name) → unit_text g ≡ Some t → times t (unit_texts (take n m.globals)) ≡ 0
  text_fresh few n g at t e =
      let sum : (q : Name) → 0 + times q (filter_map unit_text m.globals) ≤ 1 = λ q. let most : times q (unit_texts m.globals) ≤ 1 = few q in omega (arith, most) in
      let new : 0 + times t (filter_map unit_text (take n m.globals)) ≡ 0 = made_fresh unit_text (λ q. 0) m.globals sum n g t at e in
      omega (arith, new)

-- ---- the names of a function

-- the names of a block are new to the count, and to those before them in it
abbrev NewIn : (Name → ℕ) → Block → Type 0
NewIn c block = (c block.label ≡ 0) × FreshMade result_name (λ n. c n + one n block.label) block.instrs

new_in_like : (c d : Name → ℕ) (block : Block) → ((n : Name) → c n ≡ d n) → NewIn c block → NewIn d block
new_in_like c d block like new = (sym (like block.label) ∙ new.0, λ i x r at e. let k : c r + one r block.label + times r (filter_map result_name (take i block.instrs)) ≡ 0 = new.1 i x r at e in omega (arith, k, like r))

few_block : (c : Name → ℕ) (block : Block) → ((n : Name) → c n ≤ 1) → NewIn c block → (n : Name) → c n + times n (block_names block) ≤ 1
few_block c block few new n =
    let most : c n + one n block.label + times n (filter_map result_name block.instrs) ≤ 1 = few_made result_name (λ q. c q + one q block.label) block.instrs (grows c few block.label new.0) new.1 n in
    omega (arith, most, times_cons n block.label (result_names block.instrs))

block_new : (c : Name → ℕ) (block : Block) → ((n : Name) → c n + times n (block_names block) ≤ 1) → NewIn c block
block_new c block few =
    let label : c block.label + times block.label (block_names block) ≤ 1 = few block.label in
    let zero_label : c block.label ≡ 0 = omega (arith, label, times_cons block.label block.label (result_names block.instrs), one_self block.label) in
    (zero_label, made_fresh result_name (λ q. c q + one q block.label) block.instrs (λ n. let most : c n + times n (block_names block) ≤ 1 = few n in omega (arith, most, times_cons n block.label (result_names block.instrs))))

-- the names of the blocks before block b are counted too
abbrev with_before : (Name → ℕ) → ℕ → List Block → Name → ℕ
with_before c b blocks n = c n + times n (flat_map block_names (take b blocks))

few_blocks : (c : Name → ℕ) (blocks : List Block) → ((n : Name) → c n ≤ 1) → ((b : ℕ) (block : Block) → slice_get blocks b ≡ Some block → NewIn (with_before c b blocks) block) → (n : Name) → c n + times n (flat_map block_names blocks) ≤ 1
few_blocks c [] few new n = let most : c n ≤ 1 = few n in omega (arith, most)
few_blocks c (block ∷ blocks) few new n =
    let first : NewIn c block = new_in_like (with_before c 0 (block ∷ blocks)) c block (λ q. omega arith) (new 0 block refl) in
    let rest : c n + times n (block_names block) + times n (flat_map block_names blocks) ≤ 1 = few_blocks (λ q. c q + times q (block_names block)) blocks (few_block c block few first) (λ b x at. new_in_like (with_before c (suc b) (block ∷ blocks)) (with_before (λ q. c q + times q (block_names block)) b blocks) x (λ q. omega (arith, times_append q (block_names block) (flat_map block_names (take b blocks)))) (new (suc b) x at)) n in
    omega (arith, rest, times_append n (block_names block) (flat_map block_names blocks))

blocks_new : (c : Name → ℕ) (blocks : List Block) → ((n : Name) → c n + times n (flat_map block_names blocks) ≤ 1) → (b : ℕ) (block : Block) → slice_get blocks b ≡ Some block → NewIn (with_before c b blocks) block
blocks_new c [] few b x at = absurd (none-some x at)
blocks_new c (block ∷ blocks) few zero x at =
    let is : block ≡ x = same_Some block x at in
    let here : NewIn c block = block_new c block (λ n. let most : c n + times n (block_names block ++ flat_map block_names blocks) ≤ 1 = few n in omega (arith, most, times_append n (block_names block) (flat_map block_names blocks))) in
    subst (λ (y : Block). NewIn (with_before c 0 (block ∷ blocks)) y) is (new_in_like c (with_before c 0 (block ∷ blocks)) block (λ q. omega arith) here)
blocks_new c (block ∷ blocks) few (suc b) x at =
    let later : NewIn (with_before (λ q. c q + times q (block_names block)) b blocks) x = blocks_new (λ q. c q + times q (block_names block)) blocks (λ n. let most : c n + times n (block_names block ++ flat_map block_names blocks) ≤ 1 = few n in omega (arith, most, times_append n (block_names block) (flat_map block_names blocks))) b x at in
    new_in_like (with_before (λ q. c q + times q (block_names block)) b blocks) (with_before c (suc b) (block ∷ blocks)) x (λ q. omega (arith, times_append q (block_names block) (flat_map block_names (take b blocks)))) later

module _ (f : Function) where
  abbrev pub NewLabels : Type 0
  NewLabels = (b : ℕ) (block : Block) → slice_get f.blocks b ≡ Some block → is_new block.label (names_before f b) ≡ true

  abbrev pub NewResults : Type 0
  NewResults = (b : ℕ) (block : Block) → slice_get f.blocks b ≡ Some block → (i : ℕ) (x : Instr) → slice_get block.instrs i ≡ Some x → is_new_if_any (result_name x) (names_before_item f b block i) ≡ true

  abbrev of_params : Name → ℕ
  of_params n = times n (param_names f)

  counted_before : (b : ℕ) (n : Name) → times n (names_before f b) ≡ with_before of_params b f.blocks n
  counted_before b n = times_append n (param_names f) (flat_map block_names (take b f.blocks))

  counted_item : (b : ℕ) (block : Block) (i : ℕ) (n : Name) → times n (names_before_item f b block i) ≡ with_before of_params b f.blocks n + one n block.label + times n (filter_map result_name (take i block.instrs))
  counted_item b block i n = omega (arith, times_append n (names_before f b) (block.label ∷ result_names (take i block.instrs)), counted_before b n, times_cons n block.label (result_names (take i block.instrs)))

  new_result : (o : Option Name) (r : Name) (names : List Name) → o ≡ Some r → is_new_if_any o names ≡ true → times r names ≡ 0
  new_result None r names e h = absurd (none-some r e)
  new_result (Some q) r names e h = let is : q ≡ r = same_Some q r e in ap (λ (p : Name). times p names) (sym is) ∙ new_is q names h

  result_new : (o : Option Name) (names : List Name) → ((r : Name) → o ≡ Some r → times r names ≡ 0) → is_new_if_any o names ≡ true
  result_new None names h = refl
  result_new (Some q) names h = is_new_from q names (h q refl)

  pub names_once : are_new [] (param_names f) ≡ true → NewLabels → NewResults → (n : Name) → times n (names f) ≤ 1
  names_once params labels results n =
      let few : (q : Name) → of_params q ≤ 1 = λ q. let most : times q [] + times q (param_names f) ≤ 1 = few_news [] (param_names f) (λ p. omega arith) params q in omega (arith, most) in
      let all : of_params n + times n (flat_map block_names f.blocks) ≤ 1 = few_blocks of_params f.blocks few (λ b block at. (let new : times block.label (names_before f b) ≡ 0 = new_is block.label (names_before f b) (labels b block at) in omega (arith, new, counted_before b block.label), λ i x r here e. let new : times r (names_before_item f b block i) ≡ 0 = new_result (result_name x) r (names_before_item f b block i) e (results b block at i x here) in omega (arith, new, counted_item b block i r))) n in
      omega (arith, all, times_append n (param_names f) (flat_map block_names f.blocks))

  module _ (once : (n : Name) → times n (names f) ≤ 1) where
    sums : (n : Name) → of_params n + times n (flat_map block_names f.blocks) ≤ 1
    sums n = let most : times n (names f) ≤ 1 = once n in omega (arith, most, times_append n (param_names f) (flat_map block_names f.blocks))

    pub params_new : are_new [] (param_names f) ≡ true
    params_new = news_few [] (param_names f) (λ n. let most : of_params n + times n (flat_map block_names f.blocks) ≤ 1 = sums n in omega (arith, most))

    pub labels_new : NewLabels
    labels_new b block at =
        let new : with_before of_params b f.blocks block.label ≡ 0 = (blocks_new of_params f.blocks sums b block at).0 in
        is_new_from block.label (names_before f b) (omega (arith, new, counted_before b block.label))

    pub results_new : NewResults
    results_new b block at i x here = result_new (result_name x) (names_before_item f b block i) (λ r e. let new : with_before of_params b f.blocks r + one r block.label + times r (filter_map result_name (take i block.instrs)) ≡ 0 = (blocks_new of_params f.blocks sums b block at).1 i x r here e in omega (arith, new, counted_item b block i r))
