-- Names that are new where they stand stand once: those of a module's symbols, and those of a function.
use Rattle.std.proofs.Common.{◌≡◌, ℕ, suc, ◌+◌, ◌<◌, ◌≤◌, Bool, true, false, ◌||◌, cond, List, [], ◌∷◌, ◌++◌, take, length, map, Option, None, Some, slice_get, refl, sym, ap, ◌∙◌, arith}
use Rattle.std.specs.List.{cons_option, filter_map, flat_map}
use Rattle.std.specs.Cmp.Lexicographic.{bytes_decides}
use Rattle.std.proofs.lemmas.Bool.{and_parts, eqb-true}
use Rattle.std.proofs.lemmas.List.{length-map, take-append-le, take-map}
use Rattle.std.proofs.lemmas.List.Sums.{sum_by-append, sum_by-cons}
use Rattle.std.proofs.lemmas.Option.{none-some, same_Some, slice_get_within}
use Rattle.ir_rules.specs.Distinct.{distinct, is_new_if_any, names_before, names_before_item}
use Rattle.ir_rules.specs.Finding.{IsNamed}
use Rattle.ir_rules.specs.Lists.{are_new, is_new, times}
use Rattle.ir_rules.specs.Naming.{are_param_names, is_new_symbol, naming}
use Rattle.ir_rules.specs.Parts.{FunctionKeeps, Keeps}
use Rattle.ir_rules.specs.Scopes.{block_names, function_names, names, param_names, symbols, variables}
use Rattle.ir_tree.specs.Functions.{is_declared}
use Rattle.ir_tree.specs.Names.{same}
use Rattle.ir_tree.specs.Operands.{result_name, result_names}
use Rattle.ir_tree.specs.Spelling.{is_global_name}
use Rattle.ir_tree.specs.declared.types.Block.{Block}
use Rattle.ir_tree.specs.declared.types.Function.{Function}
use Rattle.ir_tree.specs.declared.types.Global1.{Global1}
use Rattle.ir_tree.specs.declared.types.Module.{Module}

abbrev Name : Type 0
Name = List ℕ

same_is : (n x : Name) → same n x ≡ true → n ≡ x
same_is n x h = (bytes_decides n x).0 h

abbrev one : Name → Name → ℕ
one n x = cond {A = ℕ} (same n x) 1 0

times_cons : (n x : Name) (xs : List Name) → times n (x ∷ xs) ≡ one n x + times n xs
times_cons n x xs = sum_by-cons (one n) x xs

pub times_append : (n : Name) (xs ys : List Name) → times n (xs ++ ys) ≡ times n xs + times n ys
times_append n xs ys = sum_by-append (one n) xs ys

new_is : (n : Name) (xs : List Name) → is_new n xs ≡ true → times n xs ≡ 0
new_is n xs h = eqb-true (times n xs) 0 h

-- a count of at most 1 that grows by a name that is new to it
grows : (c : Name → ℕ) → ((n : Name) → c n ≤ 1) → (x : Name) → c x ≡ 0 → (n : Name) → c n + one n x ≤ 1
grows c few x fresh n = by (same n x) refl
  where
    by : (b : Bool) → same n x ≡ b → c n + cond {A = ℕ} b 1 0 ≤ 1
    by true e = let zero_here : c n ≡ 0 = ap c (same_is n x e) ∙ fresh in omega (arith, zero_here)
    by false e = let most : c n ≤ 1 = few n in omega (arith, most)

few_news : (names xs : List Name) → ((n : Name) → times n names ≤ 1) → are_new names xs ≡ true → (n : Name) → times n names + times n xs ≤ 1
few_news names [] few h n = let most : times n names ≤ 1 = few n in omega (arith, most)
few_news names (x ∷ xs) few h n =
    let parts = and_parts (is_new x names) (are_new (x ∷ names) xs) h in
    let step : (q : Name) → times q (x ∷ names) ≤ 1 = λ q. let more : times q names + one q x ≤ 1 = grows (λ p. times p names) few x (new_is x names parts.0) q in let made : times q (x ∷ names) ≡ one q x + times q names = times_cons q x names in omega (arith, more, made) in
    let rest : times n (x ∷ names) + times n xs ≤ 1 = few_news (x ∷ names) xs step parts.1 n in
    omega (arith, rest, times_cons n x names, times_cons n x xs)

-- ---- what is made of the items of a list, one name at most of each

-- how often a name stands in one that may be there
abbrev one_in : Name → Option Name → ℕ
one_in n None = 0
one_in n (Some r) = one n r

times_option : (n : Name) (o : Option Name) (ns : List Name) → times n (cons_option o ns) ≡ one_in n o + times n ns
times_option n None ns = omega arith
times_option n (Some r) ns = times_cons n r ns

module _ {X : Type 0} (h : X → Option Name) where
  -- what each item makes is new to the count and to what those before it made
  abbrev FreshMade : (Name → ℕ) → List X → Type 0
  FreshMade c xs = (i : ℕ) (x : X) (r : Name) → slice_get xs i ≡ Some x → h x ≡ Some r → c r + times r (filter_map h (take i xs)) ≡ 0

  abbrev after : (Name → ℕ) → X → Name → ℕ
  after c x n = c n + one_in n (h x)

  few_after : (c : Name → ℕ) (x : X) → ((n : Name) → c n ≤ 1) → ((r : Name) → h x ≡ Some r → c r ≡ 0) → (n : Name) → after c x n ≤ 1
  few_after c x few fresh n = by (h x) refl
    where
      by : (o : Option Name) → h x ≡ o → c n + one_in n o ≤ 1
      by None e = let most : c n ≤ 1 = few n in omega (arith, most)
      by (Some r) e = grows c few r (fresh r e) n

  times_made : (n : Name) (x : X) (xs : List X) → times n (filter_map h (x ∷ xs)) ≡ one_in n (h x) + times n (filter_map h xs)
  times_made n x xs = times_option n (h x) (filter_map h xs)

  few_made : (c : Name → ℕ) (xs : List X) → ((n : Name) → c n ≤ 1) → FreshMade c xs → (n : Name) → c n + times n (filter_map h xs) ≤ 1
  few_made c [] few fresh n = let most : c n ≤ 1 = few n in omega (arith, most)
  few_made c (x ∷ xs) few fresh n =
      let first : (r : Name) → h x ≡ Some r → c r ≡ 0 = λ r e. let nothing : c r + 0 ≡ 0 = fresh 0 x r refl e in omega (arith, nothing) in
      let later : FreshMade (after c x) xs = λ i y r at e. let zero_there : c r + times r (filter_map h (take (suc i) (x ∷ xs))) ≡ 0 = fresh (suc i) y r at e in omega (arith, zero_there, times_made r x (take i xs)) in
      let rest : after c x n + times n (filter_map h xs) ≤ 1 = few_made (after c x) xs (few_after c x few first) later n in
      omega (arith, rest, times_made n x xs)

-- ---- the symbols of a module

take_behind : {X : Type 0} (xs ys : List X) (k : ℕ) → take (length xs + k) (xs ++ ys) ≡ xs ++ take k ys
take_behind {X} [] ys k = ap (λ (j : ℕ). take j ys) (let e : 0 + k ≡ k = omega arith in e)
take_behind {X} (x ∷ xs) ys k = ap (λ (j : ℕ). take j (x ∷ (xs ++ ys))) (let e : suc (length xs) + k ≡ suc (length xs + k) = omega arith in e) ∙ ap (λ (zs : List X). x ∷ zs) (take_behind xs ys k)

made_map : {X : Type 0} (g : X → Name) (xs : List X) → filter_map (λ x. Some (g x)) xs ≡ map g xs
made_map g [] = refl
made_map g (x ∷ xs) = ap (λ (ns : List Name). g x ∷ ns) (made_map g xs)

variable_name : Global1 → Option Name
variable_name g = Some g.name

function_name : Function → Option Name
function_name f = Some f.name

module _ (m : Module) where
  before_variable : (n : ℕ) (g : Global1) (r : Name) → slice_get m.globals n ≡ Some g → times r (take n (symbols m)) ≡ times r (filter_map variable_name (take n m.globals))
  unfolding variable_name
  before_variable n g r at =
      let within : n < length m.globals = slice_get_within m.globals n g at in
      let long : length (variables m) ≡ length m.globals = length-map m.globals (λ (d : Global1). d.name) in
      let front : take n (symbols m) ≡ take n (variables m) = take-append-le n (variables m) (function_names m) (omega (arith, within, long)) in
      ap (λ (ns : List Name). times r ns) (front ∙ (take-map (λ (d : Global1). d.name) n m.globals ∙ sym (made_map (λ (d : Global1). d.name) (take n m.globals))))

  before_function : (k : ℕ) (r : Name) → times r (take (length m.globals + k) (symbols m)) ≡ times r (variables m) + times r (filter_map function_name (take k m.functions))
  unfolding function_name
  before_function k r =
      let long : length m.globals ≡ length (variables m) = sym (length-map m.globals (λ (d : Global1). d.name)) in
      let cut : take (length m.globals + k) (symbols m) ≡ variables m ++ take k (function_names m) = ap (λ (j : ℕ). take (j + k) (symbols m)) long ∙ take_behind (variables m) (function_names m) k in
      let named : take k (function_names m) ≡ filter_map (λ (f : Function). Some f.name) (take k m.functions) = take-map (λ (f : Function). f.name) k m.functions ∙ sym (made_map (λ (f : Function). f.name) (take k m.functions)) in
      ap (λ (ns : List Name). times r ns) cut ∙ (times_append r (variables m) (take k (function_names m)) ∙ ap (λ (ns : List Name). times r (variables m) + times r ns) named)

  all_variables : (n : Name) → times n (filter_map variable_name m.globals) ≡ times n (variables m)
  unfolding variable_name
  all_variables n = ap (λ (ns : List Name). times n ns) (made_map (λ (d : Global1). d.name) m.globals)

  all_functions : (n : Name) → times n (filter_map function_name m.functions) ≡ times n (function_names m)
  unfolding function_name
  all_functions n = ap (λ (ns : List Name). times n ns) (made_map (λ (f : Function). f.name) m.functions)

  new_variable : Keeps (naming m) m → (n : ℕ) (g : Global1) → slice_get m.globals n ≡ Some g → is_new_symbol m n g.name ≡ true
  new_variable keeps n g at = (and_parts (is_global_name g.name) (is_new_symbol m n g.name) (keeps.global n g at)).1

  new_function : Keeps (naming m) m → (k : ℕ) (f : Function) → slice_get m.functions k ≡ Some f → is_new_symbol m (length m.globals + k) f.name ≡ true
  new_function keeps k f at =
      let behind = (and_parts (is_global_name f.name) _ (keeps.function k f at).head).1 in
      (and_parts (is_new_symbol m (length m.globals + k) f.name) (are_param_names f) behind).0

  -- rule 1
  pub symbols_once : Keeps (naming m) m → (n : Name) → times n (symbols m) ≤ 1
  unfolding variable_name function_name
  symbols_once keeps n =
      let none : (q : Name) → 0 ≤ 1 = λ q. omega arith in
      let fresh : FreshMade variable_name (λ q. 0) m.globals = λ i g r at e. let new : times g.name (take i (symbols m)) ≡ 0 = new_is g.name (take i (symbols m)) (new_variable keeps i g at) in let is : g.name ≡ r = same_Some g.name r e in let there : times r (take i (symbols m)) ≡ 0 = ap (λ (q : Name). times q (take i (symbols m))) (sym is) ∙ new in omega (arith, there, before_variable i g r at) in
      let few : (q : Name) → times q (variables m) ≤ 1 = λ q. let most : 0 + times q (filter_map variable_name m.globals) ≤ 1 = few_made variable_name (λ p. 0) m.globals none fresh q in omega (arith, most, all_variables q) in
      let later : FreshMade function_name (λ q. times q (variables m)) m.functions = λ k f r at e. let new : times f.name (take (length m.globals + k) (symbols m)) ≡ 0 = new_is f.name (take (length m.globals + k) (symbols m)) (new_function keeps k f at) in let is : f.name ≡ r = same_Some f.name r e in let there : times r (take (length m.globals + k) (symbols m)) ≡ 0 = ap (λ (q : Name). times q (take (length m.globals + k) (symbols m))) (sym is) ∙ new in omega (arith, there, before_function k r) in
      let most : times n (variables m) + times n (filter_map function_name m.functions) ≤ 1 = few_made function_name (λ q. times q (variables m)) m.functions few later n in
      omega (arith, most, all_functions n, times_append n (variables m) (function_names m))

-- ---- the names of a function

-- the names of a block are new to the count, and to those before them in it
abbrev NewIn : (Name → ℕ) → Block → Type 0
NewIn c block = (c block.label ≡ 0) × FreshMade result_name (λ n. c n + one n block.label) block.instrs

new_in_like : (c d : Name → ℕ) (block : Block) → ((n : Name) → c n ≡ d n) → NewIn c block → NewIn d block
new_in_like c d block like new = (sym (like block.label) ∙ new.0, λ i x r at e. let k : c r + one r block.label + times r (filter_map result_name (take i block.instrs)) ≡ 0 = new.1 i x r at e in omega (arith, k, like r))

few_block : (c : Name → ℕ) (block : Block) → ((n : Name) → c n ≤ 1) → NewIn c block → (n : Name) → c n + times n (block_names block) ≤ 1
few_block c block few new n =
    let most : c n + one n block.label + times n (filter_map result_name block.instrs) ≤ 1 = few_made result_name (λ q. c q + one q block.label) block.instrs (grows c few block.label new.0) new.1 n in
    omega (arith, most, times_cons n block.label (result_names block.instrs))

-- the names of the blocks before block b are counted too
abbrev with_before : (Name → ℕ) → ℕ → List Block → Name → ℕ
with_before c b blocks n = c n + times n (flat_map block_names (take b blocks))

few_blocks : (c : Name → ℕ) (blocks : List Block) → ((n : Name) → c n ≤ 1) → ((b : ℕ) (block : Block) → slice_get blocks b ≡ Some block → NewIn (with_before c b blocks) block) → (n : Name) → c n + times n (flat_map block_names blocks) ≤ 1
few_blocks c [] few new n = let most : c n ≤ 1 = few n in omega (arith, most)
few_blocks c (block ∷ blocks) few new n =
    let first : NewIn c block = new_in_like (with_before c 0 (block ∷ blocks)) c block (λ q. omega arith) (new 0 block refl) in
    let rest : c n + times n (block_names block) + times n (flat_map block_names blocks) ≤ 1 = few_blocks (λ q. c q + times q (block_names block)) blocks (few_block c block few first) (λ b x at. new_in_like (with_before c (suc b) (block ∷ blocks)) (with_before (λ q. c q + times q (block_names block)) b blocks) x (λ q. omega (arith, times_append q (block_names block) (flat_map block_names (take b blocks)))) (new (suc b) x at)) n in
    omega (arith, rest, times_append n (block_names block) (flat_map block_names blocks))

module _ (f : Function) where
  abbrev of_params : Name → ℕ
  of_params n = times n (param_names f)

  counted_before : (b : ℕ) (n : Name) → times n (names_before f b) ≡ with_before of_params b f.blocks n
  counted_before b n = times_append n (param_names f) (flat_map block_names (take b f.blocks))

  counted_item : (b : ℕ) (block : Block) (i : ℕ) (n : Name) → times n (names_before_item f b block i) ≡ with_before of_params b f.blocks n + one n block.label + times n (filter_map result_name (take i block.instrs))
  counted_item b block i n = omega (arith, times_append n (names_before f b) (block.label ∷ result_names (take i block.instrs)), counted_before b n, times_cons n block.label (result_names (take i block.instrs)))

  new_result : (o : Option Name) (r : Name) (names : List Name) → o ≡ Some r → is_new_if_any o names ≡ true → times r names ≡ 0
  new_result None r names e h = absurd (none-some r e)
  new_result (Some q) r names e h = let is : q ≡ r = same_Some q r e in ap (λ (p : Name). times p names) (sym is) ∙ new_is q names h

  new_params : (declared : Bool) → declared ≡ false → (declared || are_new [] (param_names f)) ≡ true → are_new [] (param_names f) ≡ true
  new_params true e h = absurd (cc)
  new_params false e h = h

  -- rule 6
  pub names_once : (k : ℕ) → FunctionKeeps distinct k f → is_declared f ≡ false → IsNamed f
  names_once k keeps defined = record {
    defined = defined;
    once = λ n.
        let params : are_new [] (param_names f) ≡ true = new_params (is_declared f) defined keeps.head in
        let few : (q : Name) → of_params q ≤ 1 = λ q. let most : times q [] + times q (param_names f) ≤ 1 = few_news [] (param_names f) (λ p. omega arith) params q in omega (arith, most) in
        let all : of_params n + times n (flat_map block_names f.blocks) ≤ 1 = few_blocks of_params f.blocks few (λ b block at. (let new : times block.label (names_before f b) ≡ 0 = new_is block.label (names_before f b) (keeps.block b block at).label in omega (arith, new, counted_before b block.label), λ i x r here e. let new : times r (names_before_item f b block i) ≡ 0 = new_result (result_name x) r (names_before_item f b block i) e ((keeps.block b block at).item i x here) in omega (arith, new, counted_item b block i r))) n in
        omega (arith, all, times_append n (param_names f) (flat_map block_names f.blocks));
  }
