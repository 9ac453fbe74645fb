-- The first free name that an index finds is the fresh one.
use Rattle.std.proofs.Common.{◌≡◌, ℕ, zero, suc, ◌+◌, ◌≤◌, ◌<◌, ◌^◌, Bool, true, false, cond, List, [], ◌∷◌, ◌++◌, length, decimal, Some, is_some, refl, sym, ◌∙◌, ap, arith, inl, inr, ◌⊎◌, zero-add}
use Rattle.std.specs.Cmp.Lexicographic.{bytes_decides, nat_list_eq_equiv}
use Rattle.std.specs.Map.{lookup}
use Rattle.std.proofs.lemmas.Bool.{cases_lt}
use Rattle.std.proofs.lemmas.Fmt.{decimal_injective}
use Rattle.std.proofs.lemmas.List.{append_cancel_left, length-append}
use Rattle.gen_plan.specs.Fresh.{free_from, fresh, is_taken}
use Rattle.ir_tree.specs.FunctionNames.{IsFresh, IsIndexOf, candidate}
use Rattle.ir_tree.specs.Locals.{Entry, locals}
use Rattle.ir_tree.specs.Names.{same}
use Rattle.ir_tree.specs.declared.function_index.FunctionIndex.{FunctionIndex}
use Rattle.ir_tree.specs.declared.types.Function.{Function}

-- ---- the search comes to the first free name

module _ (taken : List ℕ → Bool) (hint : List ℕ) where
  pub stops_at : (t k n : ℕ) → t ≤ n → ((j : ℕ) → j < t → taken (candidate hint (k + j)) ≡ true) → taken (candidate hint (k + t)) ≡ false → free_from taken hint k n ≡ candidate hint (k + t)
  stops_at zero k zero h all free = ap (candidate hint) (let e : k ≡ k + 0 = omega arith in e)
  stops_at zero k (suc n) h all free =
      let here : taken (candidate hint k) ≡ false = ap (λ j. taken (candidate hint j)) (let e : k ≡ k + 0 = omega arith in e) ∙ free in
      ap (λ b. cond b (free_from taken hint (k + 1) n) (candidate hint k)) here ∙ ap (candidate hint) (let e : k ≡ k + 0 = omega arith in e)
  stops_at (suc t) k zero h all free = absurd (omega (arith, h))
  stops_at (suc t) k (suc n) h all free =
      let here : taken (candidate hint k) ≡ true = ap (λ j. taken (candidate hint j)) (let e : k ≡ k + 0 = omega arith in e) ∙ all 0 (omega arith) in
      ap (λ b. cond b (free_from taken hint (k + 1) n) (candidate hint k)) here
      ∙ stops_at t (k + 1) n (omega (arith, h)) (λ j l. ap (λ i. taken (candidate hint i)) (further j) ∙ all (suc j) (omega (arith, l))) (ap (λ i. taken (candidate hint i)) (further t) ∙ free)
      ∙ ap (candidate hint) (further t)
    where
      further : (j : ℕ) → k + 1 + j ≡ k + suc j
      further j = omega arith

-- ---- candidates differ

longer : (hint rest : List ℕ) (b : ℕ) → hint ≡ hint ++ b ∷ rest → ⊥
longer hint rest b e =
    let l : length hint ≡ length (hint ++ b ∷ rest) = ap length e in
    let m = length-append hint (b ∷ rest) in
    let n : length (b ∷ rest) ≡ suc (length rest) = refl in
    absurd (omega (arith, l, m, n))

same_rest : (a b : ℕ) (x y : List ℕ) → ◌≡◌ {A = List ℕ} (a ∷ x) (b ∷ y) → x ≡ y
same_rest a b x y e = cc

candidates_differ : (hint : List ℕ) (i j : ℕ) → i < 2 ^ 64 → j < 2 ^ 64 → candidate hint i ≡ candidate hint j → i ≡ j
candidates_differ hint zero zero small few e = refl
candidates_differ hint zero (suc j) small few e = absurd (longer hint (decimal (suc j)) 46 e)
candidates_differ hint (suc i) zero small few e = absurd (longer hint (decimal (suc i)) 46 (sym e))
candidates_differ hint (suc i) (suc j) small few e =
    decimal_injective (suc i) (suc j) small few (same_rest 46 46 (decimal (suc i)) (decimal (suc j)) (append_cancel_left hint (46 ∷ decimal (suc i)) (46 ∷ decimal (suc j)) e))

-- ---- so many different names are not all taken

-- without the first entry of a name
abbrev without : List ℕ → List Entry → List Entry
without name [] = []
without name (e ∷ es) = cond (same name e.0) es (e ∷ without name es)

abbrev has : List ℕ → List Entry → Bool
has name es = is_some (lookup (same name) es)

fewer : (name : List ℕ) (es : List Entry) → has name es ≡ true → suc (length (without name es)) ≡ length es
fewer name [] h = absurd (cc)
fewer name (e ∷ es) h = by (same name e.0) refl (fewer name es) h
  where
    by : (b : Bool) → same name e.0 ≡ b → (has name es ≡ true → suc (length (without name es)) ≡ length es) → is_some (cond b (Some e.1) (lookup (same name) es)) ≡ true → suc (length (cond b es (e ∷ without name es))) ≡ suc (length es)
    by true t later g = refl
    by false t later g = ap (λ n. suc n) (later g)

-- other names stay
still : (name q : List ℕ) → same name q ≡ false → (es : List Entry) → lookup (same q) (without name es) ≡ lookup (same q) es
still name q differ [] = refl
still name q differ (e ∷ es) = by (same name e.0) refl (still name q differ es)
  where
    by : (b : Bool) → same name e.0 ≡ b → lookup (same q) (without name es) ≡ lookup (same q) es → lookup (same q) (cond b es (e ∷ without name es)) ≡ cond (same q e.0) (Some e.1) (lookup (same q) es)
    by true t later =
        let other : same q e.0 ≡ false = ap (same q) (sym ((bytes_decides name e.0).0 t)) ∙ nat_list_eq_equiv.symm q name ∙ differ in
        sym (ap (λ (b : Bool). cond b (Some e.1) (lookup (same q) es)) other)
    by false t later = ap (λ o. cond (same q e.0) (Some e.1) o) later

not_same : (hint : List ℕ) (i j : ℕ) → i < 2 ^ 64 → j < i → (b : Bool) → same (candidate hint i) (candidate hint j) ≡ b → b ≡ false
not_same hint i j small less false e = refl
not_same hint i j small less true e =
    let one : i ≡ j = candidates_differ hint i j small (omega (arith, small, less)) ((bytes_decides (candidate hint i) (candidate hint j)).0 e) in
    absurd (omega (arith, one, less))

as_many : (hint : List ℕ) (n : ℕ) → n < 2 ^ 64 → (es : List Entry) → ((j : ℕ) → j < n → has (candidate hint j) es ≡ true) → n ≤ length es
as_many hint zero small es all = omega arith
as_many hint (suc n) small es all =
    let less = fewer (candidate hint n) es (all n (omega arith)) in
    let others = as_many hint n (omega (arith, small)) (without (candidate hint n) es)
    (λ j l. ap is_some (still (candidate hint n) (candidate hint j) (not_same hint n j (omega (arith, small)) l (same (candidate hint n) (candidate hint j)) refl) es) ∙ all j (omega (arith, l))) in
    omega (arith, less, others)

-- ---- the name that an index finds

module _ (f : Function) (index : FunctionIndex) (is_index : IsIndexOf index f) (few : suc (length (locals f)) < 2 ^ 64) where
  pub fresh_is : (hint name : List ℕ) → IsFresh index hint name → name ≡ fresh f hint
  fresh_is hint name found = by (cases_lt (length (locals f)) found.tries)
    where
      before : (j : ℕ) → j < found.tries → is_taken f (candidate hint j) ≡ true
      before j l = ap is_some (sym (is_index (candidate hint j))) ∙ found.first j l

      free : is_taken f (candidate hint found.tries) ≡ false
      free = ap (is_taken f) (sym found.named) ∙ ap is_some (sym (is_index name)) ∙ found.free

      by : (length (locals f) < found.tries) ⊎ (found.tries ≤ length (locals f)) → name ≡ fresh f hint
      by (inl more) = absurd (let fit = as_many hint (suc (length (locals f))) few (locals f) (λ j l. before j (omega (arith, l, more))) in omega (arith, fit))
      by (inr within) =
          found.named ∙ ap (candidate hint) (sym (zero-add found.tries))
          ∙ sym (stops_at (is_taken f) hint found.tries 0 (length (locals f)) within (λ j l. ap (λ i. is_taken f (candidate hint i)) (zero-add j) ∙ before j l) (ap (λ i. is_taken f (candidate hint i)) (zero-add found.tries) ∙ free))
