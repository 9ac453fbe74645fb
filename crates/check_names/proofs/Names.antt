-- Names that are new.
use Rattle.std.proofs.Common.{◌≡◌, ℕ, suc, ◌+◌, ◌<◌, ◌≤◌, ◌==◌, Bool, true, false, not, ◌&&◌, cond, nat_lt, List, [], ◌∷◌, ◌++◌, length, take, drop, get_or, map, Option, None, Some, is_some, position, refl, sym, ap, ◌∙◌, arith, add-one, drop-cons}
use Rattle.std.specs.List.{cons_option, count_by, filter_map, list_all, position_or_len}
use Rattle.std.proofs.lemmas.Bool.Decides.{nat_tests}
use Rattle.std.proofs.lemmas.List.{map_push, take_more, length-take-le, take-append-le, take-map, length-map}
use Rattle.std.proofs.lemmas.List.Elements.{filter_map-append}
use Rattle.std.proofs.lemmas.List.Sums.{sum_by-cons, sum_by_push}
use Rattle.std.proofs.Math.Seq.{take-append-add}
use Rattle.ir_rules.specs.Lists.{are_new, is_new, times}
use Rattle.ir_rules.specs.Scopes.{function_names, symbols, variables}
use Rattle.ir_tree.specs.Names.{Indexes, first_place, same}
use Rattle.ir_tree.specs.Operands.{listed}
use Rattle.ir_tree.specs.declared.index.Index.{Index}
use Rattle.ir_tree.specs.declared.types.Function.{Function}
use Rattle.ir_tree.specs.declared.types.Global1.{Global1}
use Rattle.ir_tree.specs.declared.types.Module.{Module}
use Rattle.ir_tree.specs.declared.types.Ty.{Ty}

abbrev pub variable_name : Global1 → List ℕ
variable_name g = g.name

abbrev pub function_name : Function → List ℕ
function_name f = f.name

abbrev pub param_name : Ty × List ℕ → List ℕ
param_name p = p.1

-- ---- what the index answers

some_first : {X : Type 0} (p : X → Bool) (xs : List X) → is_some (position p xs) ≡ nat_lt (position_or_len p xs) (length xs)
some_first p xs = by (nat_lt (position_or_len p xs) (length xs))
  where
    by : (b : Bool) → is_some (cond b (Some (position_or_len p xs)) None) ≡ b
    by true = refl
    by false = refl

here_counts : (n c : ℕ) → not (nat_lt 0 (suc n)) ≡ (1 + c == 0)
here_counts n c = grind (arith, nat_tests)

later_counts : (i n c : ℕ) → not (nat_lt i n) ≡ (c == 0) → not (nat_lt (1 + i) (suc n)) ≡ (0 + c == 0)
later_counts i n c e = grind (arith, nat_tests)

pub first_counts : {X : Type 0} (p : X → Bool) (xs : List X) → not (nat_lt (position_or_len p xs) (length xs)) ≡ (count_by p xs == 0)
first_counts p [] = refl
first_counts p (x ∷ xs) = by (p x) (first_counts p xs) ∙ ap (λ (n : ℕ). n == 0) (sym (sum_by-cons (λ y. cond {A = ℕ} (p y) 1 0) x xs))
  where
    by : (b : Bool) → not (nat_lt (position_or_len p xs) (length xs)) ≡ (count_by p xs == 0) → not (nat_lt (cond {A = ℕ} (not b) (1 + position_or_len p xs) 0) (suc (length xs))) ≡ (cond {A = ℕ} b 1 0 + count_by p xs == 0)
    by true e = here_counts (length xs) (count_by p xs)
    by false e = later_counts (position_or_len p xs) (length xs) (count_by p xs) e

pub fresh_new : (index : Index) (names : List (List ℕ)) (name : List ℕ) (fresh : Bool) → Indexes index names → fresh ≡ not (is_some (first_place index name)) → fresh ≡ is_new name names
fresh_new index names name fresh indexed told =
    told ∙ ap (λ (o : Option ℕ). not (is_some o)) (indexed name) ∙ ap not (some_first (same name) names) ∙ first_counts (same name) names

-- ---- one name more

pub named_more : {X : Type 0} (f : X → List ℕ) (xs : List X) (i : ℕ) (x : X) → i < length xs → x ≡ get_or xs i x → map f (take (i + 1) xs) ≡ map f (take i xs) ++ f x ∷ []
named_more f xs i x within is =
    ap (λ ys. map f ys) (take_more xs i x within) ∙ map_push f (take i xs) (get_or xs i x) ∙ ap (λ y. map f (take i xs) ++ f y ∷ []) (sym is)

one_listed : (o : Option (List ℕ)) → cons_option o [] ≡ listed o
one_listed None = refl
one_listed (Some name) = refl

pub filter_more : {X : Type 0} (h : X → Option (List ℕ)) (xs : List X) (i : ℕ) (x : X) → i < length xs → x ≡ get_or xs i x → filter_map h (take (i + 1) xs) ≡ filter_map h (take i xs) ++ listed (h x)
filter_more h xs i x within is =
    ap (λ ys. filter_map h ys) (take_more xs i x within) ∙ filter_map-append h (take i xs) (get_or xs i x ∷ [])
    ∙ ap (λ y. filter_map h (take i xs) ++ cons_option (h y) []) (sym is) ∙ ap (λ (ns : List (List ℕ)). filter_map h (take i xs) ++ ns) (one_listed (h x))

pub taken_length : {X : Type 0} (f : X → List ℕ) (xs : List X) (i : ℕ) → i ≤ length xs → i ≡ length (map f (take i xs))
taken_length f xs i within = sym (length-map (take i xs) f ∙ length-take-le i xs within)

pub variables_taken : (m : Module) (n : ℕ) → n ≤ length m.globals → take n (symbols m) ≡ map variable_name (take n m.globals)
variables_taken m n within =
    let long : n ≤ length (variables m) = omega (arith, within, length-map m.globals variable_name) in
    take-append-le n (variables m) (function_names m) long ∙ take-map variable_name n m.globals

pub functions_taken : (m : Module) (k : ℕ) → take (length m.globals + k) (symbols m) ≡ variables m ++ map function_name (take k m.functions)
functions_taken m k =
    ap (λ (n : ℕ). take (n + k) (symbols m)) (sym (length-map m.globals variable_name))
    ∙ take-append-add (variables m) (function_names m) k
    ∙ ap (λ (ns : List (List ℕ)). variables m ++ ns) (take-map function_name k m.functions)

-- ---- names that are new one after the other

alike : (before after xs : List (List ℕ)) → ((n : List ℕ) → times n before ≡ times n after) → are_new before xs ≡ are_new after xs
alike before after [] same_times = refl
alike before after (x ∷ xs) same_times = (λ j. (same_times x j == 0) && alike (x ∷ before) (x ∷ after) xs more j)
  where
    more : (n : List ℕ) → times n (x ∷ before) ≡ times n (x ∷ after)
    more n = sum_by-cons (λ y. cond {A = ℕ} (same n y) 1 0) x before ∙ ap (λ (t : ℕ). cond {A = ℕ} (same n x) 1 0 + t) (same_times n) ∙ sym (sum_by-cons (λ y. cond {A = ℕ} (same n y) 1 0) x after)

in_front : (x : List ℕ) (xs : List (List ℕ)) (n : List ℕ) → times n (x ∷ xs) ≡ times n (xs ++ x ∷ [])
in_front x xs n = omega (arith, sum_by-cons (λ y. cond {A = ℕ} (same n y) 1 0) x xs, sum_by_push (λ y. cond {A = ℕ} (same n y) 1 0) xs x)

pub params_step : (ps : List (Ty × List ℕ)) (i : ℕ) (p : Ty × List ℕ) → i < length ps → p ≡ get_or ps i p → are_new (map param_name (take i ps)) (map param_name (drop i ps)) ≡ (is_new p.1 (map param_name (take i ps)) && are_new (map param_name (take (i + 1) ps)) (map param_name (drop (i + 1) ps)))
params_step ps i p within is =
    let before : List (List ℕ) = map param_name (take i ps) in
    let rest : List (List ℕ) = map param_name (drop (suc i) ps) in
    let first : drop i ps ≡ p ∷ drop (suc i) ps = drop-cons ps i p within ∙ ap (λ (q : Ty × List ℕ). q ∷ drop (suc i) ps) (sym is) in
    let behind : are_new (p.1 ∷ before) rest ≡ are_new (map param_name (take (i + 1) ps)) (map param_name (drop (i + 1) ps)) =
    alike (p.1 ∷ before) (before ++ p.1 ∷ []) rest (in_front p.1 before)
    ∙ (λ j. are_new (sym (named_more param_name ps i p within is) j) (map param_name (drop (sym (add-one i) j) ps))) in
    ap (λ (qs : List (Ty × List ℕ)). are_new before (map param_name qs)) first ∙ ap (λ (b : Bool). is_new p.1 before && b) behind

pub repeated_param : (ps : List (Ty × List ℕ)) (i : ℕ) (p : Ty × List ℕ) → i < length ps → p ≡ get_or ps i p → is_new p.1 (map param_name (take i ps)) ≡ false → are_new (map param_name (take i ps)) (map param_name (drop i ps)) ≡ false
repeated_param ps i p within is old = params_step ps i p within is ∙ ap (λ (b : Bool). b && are_new (map param_name (take (i + 1) ps)) (map param_name (drop (i + 1) ps))) old

pub new_param : (ps : List (Ty × List ℕ)) (i : ℕ) (p : Ty × List ℕ) → i < length ps → p ≡ get_or ps i p → is_new p.1 (map param_name (take i ps)) ≡ true → are_new (map param_name (take i ps)) (map param_name (drop i ps)) ≡ are_new (map param_name (take (i + 1) ps)) (map param_name (drop (i + 1) ps))
new_param ps i p within is fresh = params_step ps i p within is ∙ ap (λ (b : Bool). b && are_new (map param_name (take (i + 1) ps)) (map param_name (drop (i + 1) ps))) fresh

pub all_params : (test : List ℕ → Bool) (ps : List (Ty × List ℕ)) → list_all (λ (p : Ty × List ℕ). test p.1) ps ≡ list_all test (map param_name ps)
all_params test [] = refl
all_params test (p ∷ ps) = ap (λ (b : Bool). test p.1 && b) (all_params test ps)
