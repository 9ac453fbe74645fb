-- The global variable of a name, by its place among the symbols of a module.
use Rattle.std.proofs.Common.{◌≡◌, ℕ, suc, ◌+◌, ◌≤◌, Bool, true, false, cond, not, ◌&&◌, ◌||◌, nat_lt, List, [], ◌∷◌, ◌++◌, length, map, Option, None, Some, is_some, slice_get, refl, sym, ap, ◌∙◌, arith}
use Rattle.std.specs.List.{find, list_any, position, prefix_len}
use Rattle.std.specs.Option.{option_and_then}
use Rattle.std.proofs.lemmas.Bool.Decides.{nat_tests}
use Rattle.std.proofs.lemmas.List.{length-append, length-map}
use Rattle.std.proofs.lemmas.List.Sums.{sum_by-append, sum_by-cons}
use Rattle.std.proofs.lemmas.Option.{slice_get_past}
use Rattle.check_counting.specs.Checking.{IsScope, if_any, variable_of}
use Rattle.ir_rules.specs.Lists.{is_among, times}
use Rattle.ir_rules.specs.Scopes.{function_names, symbols, variables}
use Rattle.ir_tree.specs.Names.{same}
use Rattle.ir_tree.specs.declared.index.Index.{Index}
use Rattle.ir_tree.specs.declared.types.Global1.{Global1}
use Rattle.ir_tree.specs.declared.types.Module.{Module}

abbrev names : List Global1 → List (List ℕ)
names gs = map (λ (g : Global1). g.name) gs

abbrev named : List ℕ → List Global1 → Option Global1
named name gs = find (λ (g : Global1). same name g.name) gs

-- the item at the place of the first name that passes is the first whose name passes
first_named : (name : List ℕ) (gs : List Global1) (more : List (List ℕ)) → slice_get gs (prefix_len (λ m. not (same name m)) (names gs ++ more)) ≡ named name gs
first_named name [] more = refl
first_named name (g ∷ gs) more = by (same name g.name) (first_named name gs more)
  where
    by : (t : Bool) → slice_get gs (prefix_len (λ m. not (same name m)) (names gs ++ more)) ≡ named name gs → slice_get (g ∷ gs) (cond (not t) (1 + prefix_len (λ m. not (same name m)) (names gs ++ more)) 0) ≡ cond t (Some g) (named name gs)
    by true rest = refl
    by false rest = ap (λ (k : ℕ). slice_get (g ∷ gs) k) (let e : 1 + prefix_len (λ m. not (same name m)) (names gs ++ more) ≡ suc (prefix_len (λ m. not (same name m)) (names gs ++ more)) = omega arith in e) ∙ rest

found_at : (gs : List Global1) (k n : ℕ) → length gs ≤ n → option_and_then (slice_get gs) (cond (nat_lt k n) (Some k) None) ≡ slice_get gs k
found_at gs k n e = by (nat_lt k n) refl
  where
    by : (b : Bool) → nat_lt k n ≡ b → option_and_then (slice_get gs) (cond b (Some k) None) ≡ slice_get gs k
    by true h = refl
    by false h =
        let far : length gs ≤ k = grind (arith, nat_tests) in
        sym (slice_get_past gs k far)

placed : (name : List ℕ) (gs : List Global1) (more : List (List ℕ)) → option_and_then (slice_get gs) (position (same name) (names gs ++ more)) ≡ named name gs
placed name gs more =
    let k = prefix_len (λ m. not (same name m)) (names gs ++ more) in
    found_at gs k (length (names gs ++ more)) (omega (arith, length-append (names gs) more, length-map gs (λ (g : Global1). g.name))) ∙ first_named name gs more

found_variable : (index : Index) (m : Module) → IsScope index m → (name : List ℕ) → variable_of index m.globals name ≡ named name m.globals
found_variable index m scope name = ap (λ (o : Option ℕ). option_and_then (slice_get m.globals) o) (scope.indexed name) ∙ placed name m.globals (function_names m)

-- ---- whether there is one

any_named : (name : List ℕ) (gs : List Global1) → is_among name (names gs) ≡ is_some (named name gs)
any_named name [] = refl
any_named name (g ∷ gs) = by (same name g.name) (any_named name gs)
  where
    by : (t : Bool) → is_among name (names gs) ≡ is_some (named name gs) → (t || is_among name (names gs)) ≡ is_some (cond {A = Option Global1} t (Some g) (named name gs))
    by true rest = refl
    by false rest = rest

pub among_variables : (index : Index) (m : Module) (name : List ℕ) → IsScope index m → is_some (variable_of index m.globals name) ≡ is_among name (variables m)
among_variables index m name scope = ap (λ (o : Option Global1). is_some o) (found_variable index m scope name) ∙ sym (any_named name m.globals)

-- ---- a test of the one

times_cons : (n m : List ℕ) (ns : List (List ℕ)) → times n (m ∷ ns) ≡ cond (same n m) 1 0 + times n ns
times_cons n m ns = sum_by-cons (λ k. cond (same n k) 1 0) m ns

module _ (name : List ℕ) (test : Global1 → Bool) where
  none_passes : (gs : List Global1) → times name (names gs) ≡ 0 → list_any (λ (g : Global1). same name g.name && test g) gs ≡ false
  none_passes [] h = refl
  none_passes (g ∷ gs) h = by (same name g.name) refl (none_passes gs)
    where
      by : (t : Bool) → same name g.name ≡ t → (times name (names gs) ≡ 0 → list_any (λ (x : Global1). same name x.name && test x) gs ≡ false) → ((t && test g) || list_any (λ (x : Global1). same name x.name && test x) gs) ≡ false
      by true e rest = let here : ◌≡◌ {A = ℕ} (cond {A = ℕ} (same name g.name) 1 0) 1 = ap (λ (t : Bool). cond {A = ℕ} t 1 0) e in absurd (omega (arith, h, here, times_cons name g.name (names gs)))
      by false e rest = rest (omega (arith, h, times_cons name g.name (names gs)))

  one_passes : (gs : List Global1) → times name (names gs) ≤ 1 → list_any (λ (g : Global1). same name g.name && test g) gs ≡ if_any test (named name gs)
  one_passes [] h = refl
  one_passes (g ∷ gs) h = by (same name g.name) refl (one_passes gs)
    where
      none : (t : Bool) → (t || false) ≡ t
      none true = refl
      none false = refl

      by : (t : Bool) → same name g.name ≡ t → (times name (names gs) ≤ 1 → list_any (λ (x : Global1). same name x.name && test x) gs ≡ if_any test (named name gs)) → ((t && test g) || list_any (λ (x : Global1). same name x.name && test x) gs) ≡ if_any test (cond {A = Option Global1} t (Some g) (named name gs))
      by true e rest =
          let here : ◌≡◌ {A = ℕ} (cond {A = ℕ} (same name g.name) 1 0) 1 = ap (λ (t : Bool). cond {A = ℕ} t 1 0) e in
          let few : times name (names gs) ≡ 0 = omega (arith, h, here, times_cons name g.name (names gs)) in
          ap (λ (t : Bool). test g || t) (none_passes gs few) ∙ none (test g)
      by false e rest = rest (omega (arith, h, times_cons name g.name (names gs)))

pub any_variable : (index : Index) (m : Module) (name : List ℕ) (test : Global1 → Bool) → IsScope index m → if_any test (variable_of index m.globals name) ≡ list_any (λ (g : Global1). same name g.name && test g) m.globals
any_variable index m name test scope =
    let all : times name (symbols m) ≡ times name (names m.globals) + times name (function_names m) = sum_by-append (λ k. cond (same name k) 1 0) (names m.globals) (function_names m) in
    ap (λ (o : Option Global1). if_any test o) (found_variable index m scope name) ∙ sym (one_passes name test m.globals (omega (arith, scope.once name, all)))
