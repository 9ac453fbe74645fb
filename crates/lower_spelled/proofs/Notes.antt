-- The lowered module has no more different notes than the module: those of calls that are replaced, and of functions that are left out,
-- may be missing.
use Rattle.std.proofs.Common.{◌≡◌, ℕ, suc, ◌+◌, ◌≤◌, Bool, true, false, ◌||◌, not, cond, nat_lt, List, [], ◌∷◌, ◌++◌, length, map, filter, Option, Some, None, is_some, refl, sym, ap, subst, ◌∙◌, arith}
use Rattle.std.specs.List.{fold, list_any, position, position_or_len}
use Rattle.std.proofs.lemmas.Bool.{lt-ltb}
use Rattle.std.proofs.lemmas.Bool.Decides.{nat_tests}
use Rattle.std.proofs.lemmas.List.{length-map, map-append}
use Rattle.std.proofs.lemmas.List.Sums.{sum_by-cons}
use Rattle.canonical_text.specs.Notes.{instr_note, nodes_of, note_text, place_of, term_note, with_block, with_body, with_function, with_instr, with_note, with_noted}
use Rattle.ir_rules.specs.Lists.{times}
use Rattle.ir_rules.specs.Reserved.{is_of_intrinsics}
use Rattle.ir_tree.specs.Names.{same}
use Rattle.ir_tree.specs.declared.types.Block.{Block}
use Rattle.ir_tree.specs.declared.types.Function.{Function}
use Rattle.ir_tree.specs.declared.types.Instr.{Instr}
use Rattle.ir_tree.specs.declared.types.Module.{Module}
use Rattle.ir_tree.specs.declared.types.Prof.{Prof}
use Rattle.lower_spelled.proofs.Lists.{Name, no_longer, one, one_own, times_last}
use Rattle.lowering.specs.Asked.{Asked, Rise, Note, asked}
use Rattle.lowering.specs.Lowered.{doing, lowered, lowered_block, lowered_function, lowered_instr, runtime_declaration}

abbrev Notes : Type 0
Notes = List Prof

-- ---- places and counts

none_below : (n : ℕ) → nat_lt 0 (suc n) ≡ true
none_below n = lt-ltb 0 (suc n) (omega arith)

one_more : (a b : ℕ) → nat_lt (1 + a) (suc b) ≡ nat_lt a b
one_more a b = grind (arith, nat_tests)

any_place : (t : Name) (xs : List Name) → nat_lt (position_or_len (same t) xs) (length xs) ≡ list_any (same t) xs
any_place t [] = refl
any_place t (x ∷ xs) = by (same t x) (any_place t xs)
  where
    by : (b : Bool) → nat_lt (position_or_len (same t) xs) (length xs) ≡ list_any (same t) xs → nat_lt (cond (not b) (1 + position_or_len (same t) xs) 0) (suc (length xs)) ≡ (b || list_any (same t) xs)
    by true later = none_below (length xs)
    by false later = one_more (position_or_len (same t) xs) (length xs) ∙ later

place_any : (t : Name) (xs : List Name) → is_some (position (same t) xs) ≡ list_any (same t) xs
place_any t xs = by (nat_lt (position_or_len (same t) xs) (length xs)) ∙ any_place t xs
  where
    by : (b : Bool) → is_some (cond b (Some (position_or_len (same t) xs)) None) ≡ b
    by true = refl
    by false = refl

-- how often a name stands in a list, by whether some item is it
abbrev Counted : Bool → ℕ → Type 0
Counted true n = 1 ≤ n
Counted false n = n ≡ 0

any_counted : (t : Name) (xs : List Name) → Counted (list_any (same t) xs) (times t xs)
any_counted t [] = refl
any_counted t (x ∷ xs) = by (same t x) refl (list_any (same t) xs) (any_counted t xs)
  where
    all : times t (x ∷ xs) ≡ one t x + times t xs
    all = sum_by-cons (one t) x xs

    by : (b : Bool) → same t x ≡ b → (c : Bool) → Counted c (times t xs) → Counted (b || c) (times t (x ∷ xs))
    by true e c later = (let here : one t x ≡ 1 = ap (λ (d : Bool). cond {A = ℕ} d 1 0) e in omega (arith, here, all))
    by false e true later = omega (arith, later, all)
    by false e false later = (let here : one t x ≡ 0 = ap (λ (d : Bool). cond {A = ℕ} d 1 0) e in omega (arith, here, later, all))

place_counted : (ns : Notes) (p : Prof) → Counted (is_some (place_of ns p)) (times (note_text p) (map note_text ns))
place_counted ns p = subst (λ (b : Bool). Counted b (times (note_text p) (map note_text ns))) (sym (place_any (note_text p) (map note_text ns))) (any_counted (note_text p) (map note_text ns))

-- ---- no text more often

-- no text stands more often among the first notes than among the second
abbrev Fewer : Notes → Notes → Type 0
Fewer ns ms = (t : Name) → times t (map note_text ns) ≤ times t (map note_text ms)

last_counted : (ns : Notes) (p : Prof) (t : Name) → times t (map note_text (ns ++ p ∷ [])) ≡ times t (map note_text ns) + one t (note_text p)
last_counted ns p t = ap (λ (xs : List Name). times t xs) (map-append note_text ns (p ∷ [])) ∙ times_last t (note_text p) (map note_text ns)

one_less : (t x : Name) (a b : ℕ) → a ≤ b → (t ≡ x → a ≡ 0) → (t ≡ x → 1 ≤ b) → a + one t x ≤ b
one_less t x a b le none some = by (same t x) refl
  where
    by : (c : Bool) → same t x ≡ c → a + one t x ≤ b
    by true e =
        let is = one_own t x e in
        let here : one t x ≡ 1 = ap (λ (d : Bool). cond {A = ℕ} d 1 0) e in
        let zero_of = none is in
        let more = some is in
        omega (arith, here, zero_of, more)
    by false e = (let here : one t x ≡ 0 = ap (λ (d : Bool). cond {A = ℕ} d 1 0) e in omega (arith, here, le))

both_note : (ns ms : Notes) (p : Prof) → Fewer ns ms → Fewer (with_note ns p) (with_note ms p)
unfolding with_note
both_note ns ms p h t = by (is_some (place_of ns p)) (place_counted ns p) (is_some (place_of ms p)) (place_counted ms p)
  where
    x : Name
    x = note_text p

    by : (b : Bool) → Counted b (times x (map note_text ns)) → (c : Bool) → Counted c (times x (map note_text ms)) → times t (map note_text (cond b ns (ns ++ p ∷ []))) ≤ times t (map note_text (cond c ms (ms ++ p ∷ [])))
    by true k true l = h t
    by true k false l = absurd (let all = h x in omega (arith, k, l, all))
    by false k true l =
        let a = last_counted ns p t in
        let least = one_less t x (times t (map note_text ns)) (times t (map note_text ms)) (h t)
        (λ e. ap (λ (y : Name). times y (map note_text ns)) e ∙ k)
        (λ e. subst (λ (y : Name). 1 ≤ times y (map note_text ms)) (sym e) l) in
        omega (arith, a, least)
    by false k false l =
        let a = last_counted ns p t in
        let b = last_counted ms p t in
        let all = h t in
        omega (arith, a, b, all)

more_note : (ns ms : Notes) (p : Prof) → Fewer ns ms → Fewer ns (with_note ms p)
unfolding with_note
more_note ns ms p h t = by (is_some (place_of ms p))
  where
    by : (c : Bool) → times t (map note_text ns) ≤ times t (map note_text (cond c ms (ms ++ p ∷ [])))
    by true = h t
    by false = (let a = last_counted ms p t in let all = h t in omega (arith, a, all))

both_noted : (ns ms : Notes) (o : Option Prof) → Fewer ns ms → Fewer (with_noted ns o) (with_noted ms o)
unfolding with_noted
both_noted ns ms None h = h
both_noted ns ms (Some p) h = both_note ns ms p h

more_noted : (ns ms : Notes) (o : Option Prof) → Fewer ns ms → Fewer ns (with_noted ms o)
unfolding with_noted
more_noted ns ms None h = h
more_noted ns ms (Some p) h = more_note ns ms p h

-- ---- steps

module _ {X : Type 0} (step : Notes → X → Notes) where
  both_folded : (g : X → X) → ((ns ms : Notes) (x : X) → Fewer ns ms → Fewer (step ns (g x)) (step ms x)) → (ns ms : Notes) (xs : List X) → Fewer ns ms → Fewer (fold step ns (map g xs)) (fold step ms xs)
  both_folded g keeps ns ms [] h = h
  both_folded g keeps ns ms (x ∷ xs) h = both_folded g keeps (step ns (g x)) (step ms x) xs (keeps ns ms x h)

  more_folded : ((ns ms : Notes) (x : X) → Fewer ns ms → Fewer ns (step ms x)) → (ns ms : Notes) (xs : List X) → Fewer ns ms → Fewer ns (fold step ms xs)
  more_folded grows ns ms [] h = h
  more_folded grows ns ms (x ∷ xs) h = more_folded grows ns (step ms x) xs (grows ns ms x h)

  fold_last : (ns : Notes) (xs : List X) (x : X) → fold step ns (xs ++ x ∷ []) ≡ step (fold step ns xs) x
  fold_last ns [] x = refl
  fold_last ns (y ∷ ys) x = fold_last (step ns y) ys x

-- ---- instructions, blocks, functions

done_fewer : (ns ms : Notes) (x : Instr) (o : Option Asked) → Fewer ns ms → Fewer (with_instr ns (doing x o)) (with_instr ms x)
unfolding with_noted
done_fewer ns ms x None h = both_noted ns ms (instr_note x) h
done_fewer ns ms x (Some (Rise symbol hash counters counter amount)) h = more_noted ns ms (instr_note x) h
done_fewer ns ms x (Some (Note symbol hash target site)) h = more_noted ns ms (instr_note x) h

instr_fewer : (ns ms : Notes) (x : Instr) → Fewer ns ms → Fewer (with_instr ns (lowered_instr x)) (with_instr ms x)
instr_fewer ns ms x h = done_fewer ns ms x (asked x) h

instr_more : (ns ms : Notes) (x : Instr) → Fewer ns ms → Fewer ns (with_instr ms x)
instr_more ns ms x h = more_noted ns ms (instr_note x) h

block_fewer : (ns ms : Notes) (b : Block) → Fewer ns ms → Fewer (with_block ns (lowered_block b)) (with_block ms b)
unfolding with_block
block_fewer ns ms b h = both_noted (fold with_instr ns (map lowered_instr b.instrs)) (fold with_instr ms b.instrs) (term_note b.term) (both_folded with_instr lowered_instr instr_fewer ns ms b.instrs h)

block_more : (ns ms : Notes) (b : Block) → Fewer ns ms → Fewer ns (with_block ms b)
unfolding with_block
block_more ns ms b h = more_noted ns (fold with_instr ms b.instrs) (term_note b.term) (more_folded with_instr instr_more ns ms b.instrs h)

body_fewer : (prof : Option Prof) (bs : List Block) (ns ms : Notes) → Fewer ns ms → Fewer (with_body ns prof (map lowered_block bs)) (with_body ms prof bs)
body_fewer prof [] ns ms h = h
body_fewer prof (b ∷ bs) ns ms h = both_folded with_block lowered_block block_fewer (with_noted ns prof) (with_noted ms prof) (b ∷ bs) (both_noted ns ms prof h)

body_more : (prof : Option Prof) (bs : List Block) (ns ms : Notes) → Fewer ns ms → Fewer ns (with_body ms prof bs)
body_more prof [] ns ms h = h
body_more prof (b ∷ bs) ns ms h = more_folded with_block block_more ns (with_noted ms prof) (b ∷ bs) (more_noted ns ms prof h)

function_fewer : (ns ms : Notes) (f : Function) → Fewer ns ms → Fewer (with_function ns (lowered_function f)) (with_function ms f)
unfolding with_function
function_fewer ns ms f h = body_fewer f.prof f.blocks ns ms h

function_more : (ns ms : Notes) (f : Function) → Fewer ns ms → Fewer ns (with_function ms f)
unfolding with_function
function_more ns ms f h = body_more f.prof f.blocks ns ms h

module _ (test : Function → Bool) where
  functions_fewer : (fs : List Function) (ns ms : Notes) → Fewer ns ms → Fewer (fold with_function ns (map lowered_function (filter test fs))) (fold with_function ms fs)
  functions_fewer [] ns ms h = h
  functions_fewer (f ∷ fs) ns ms h = by (test f) (functions_fewer fs)
    where
      by : (b : Bool) → ((ns ms : Notes) → Fewer ns ms → Fewer (fold with_function ns (map lowered_function (filter test fs))) (fold with_function ms fs)) → Fewer (fold with_function ns (map lowered_function (cond b (f ∷ filter test fs) (filter test fs)))) (fold with_function (with_function ms f) fs)
      by true rest = rest (with_function ns (lowered_function f)) (with_function ms f) (function_fewer ns ms f h)
      by false rest = rest ns (with_function ms f) (function_more ns ms f h)

runtime_none : (ns : Notes) → with_function ns runtime_declaration ≡ ns
unfolding with_function
runtime_none ns = refl

nodes_fewer : (m : Module) → Fewer (nodes_of (lowered m)) (nodes_of m)
unfolding nodes_of
nodes_fewer m =
    let kept : List Function = map lowered_function (filter (λ f. not (is_of_intrinsics f.name)) m.functions) in
    subst (λ (ns : Notes). Fewer ns (fold with_function [] m.functions)) (sym (fold_last with_function [] kept runtime_declaration ∙ runtime_none (fold with_function [] kept)))
    (functions_fewer (λ f. not (is_of_intrinsics f.name)) m.functions [] [] (λ t. (let e : times t [] ≡ 0 = refl in omega (arith, e))))

pub nodes_no_more : (m : Module) → length (nodes_of (lowered m)) ≤ length (nodes_of m)
nodes_no_more m =
    let all = no_longer (map note_text (nodes_of (lowered m))) (map note_text (nodes_of m)) (nodes_fewer m) in
    let a = length-map (nodes_of (lowered m)) note_text in
    let b = length-map (nodes_of m) note_text in
    omega (arith, all, a, b)
