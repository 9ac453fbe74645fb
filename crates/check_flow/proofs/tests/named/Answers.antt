use Rattle.std.proofs.Common.{◌≡◌, ◌≢◌, ℕ, ◌+◌, ◌≤◌, Bool, true, false, cond, ◌==◌, List, [], ◌∷◌, ◌++◌, get_or, length, map, flat_map, refl, sym, ap, ◌∙◌, subst, codes, arith}
use Rattle.std.proofs.lemmas.List.Sums.{sum_by-cons}
use Rattle.check_flow.proofs.Inner.{same_is}
use Rattle.ir_rules.specs.Finding.{IsNamed}
use Rattle.ir_rules.specs.Lists.{times}
use Rattle.ir_rules.specs.Scopes.{block_names, names}
use Rattle.ir_tree.specs.Names.{same}
use Rattle.ir_tree.specs.Operands.{result_names}
use Rattle.ir_tree.specs.declared.types.Block.{Block}
use Rattle.ir_tree.specs.declared.types.Function.{Function}
use Rattle.ir_tree.specs.declared.types.Ty.{Ty}
use Rattle.check_flow.proofs.tests.named.Goals as goal

abbrev Name : Type 0
Name = List ℕ

once_of_three : (n x y z : Name) → x ≢ y → x ≢ z → y ≢ z → times n (x ∷ y ∷ z ∷ []) ≤ 1
once_of_three n x y z p q r = by (same n x) refl (same n y) refl (same n z) refl
  where
    all : times n (x ∷ y ∷ z ∷ []) ≡ cond {A = ℕ} (same n x) 1 0 + (cond {A = ℕ} (same n y) 1 0 + (cond {A = ℕ} (same n z) 1 0 + 0))
    all = sum_by-cons (λ m. cond (same n m) 1 0) x (y ∷ z ∷ []) ∙ ap (λ (k : ℕ). cond {A = ℕ} (same n x) 1 0 + k) (sum_by-cons (λ m. cond (same n m) 1 0) y (z ∷ []) ∙ ap (λ (k : ℕ). cond {A = ℕ} (same n y) 1 0 + k) (sum_by-cons (λ m. cond (same n m) 1 0) z []))

    is : (m : Name) (t : Bool) → same n m ≡ t → cond {A = ℕ} (same n m) 1 0 ≡ cond {A = ℕ} t 1 0
    is m t e = ap (λ (s : Bool). cond {A = ℕ} s 1 0) e

    by : (s : Bool) → same n x ≡ s → (t : Bool) → same n y ≡ t → (u : Bool) → same n z ≡ u → times n (x ∷ y ∷ z ∷ []) ≤ 1
    by true d true e u f = absurd (p (sym (same_is n x d) ∙ same_is n y e))
    by true d false e true f = absurd (q (sym (same_is n x d) ∙ same_is n z f))
    by true d false e false f = omega (arith, all, is x true d, is y false e, is z false f)
    by false d true e true f = absurd (r (sym (same_is n y e) ∙ same_is n z f))
    by false d true e false f = omega (arith, all, is x false d, is y true e, is z false f)
    by false d false e true f = omega (arith, all, is x false d, is y false e, is z true f)
    by false d false e false f = omega (arith, all, is x false d, is y false e, is z false f)

apart : (v w : ℕ) → v ≢ w → ◌≢◌ {A = Name} (v ∷ []) (w ∷ [])
apart v w h e = h (ap (λ (l : Name). get_or l 0 0) e)

named_two : (f : Function) (a b : Block) → f.params ≡ [] → f.blocks ≡ a ∷ b ∷ [] → a.label ≡ codes "a" → a.instrs ≡ [] → b.label ≡ codes "b" → result_names b.instrs ≡ codes "p" ∷ [] → IsNamed f
named_two f a b params blocks first none second results = record {
  defined = ap (λ (bs : List Block). length bs == 0) blocks;
  once = λ n. subst (λ (ns : List Name). times n ns ≤ 1) (sym all) (once_of_three n (97 ∷ []) (98 ∷ []) (112 ∷ []) (apart 97 98 (λ e. absurd (omega (arith, e)))) (apart 97 112 (λ e. absurd (omega (arith, e)))) (apart 98 112 (λ e. absurd (omega (arith, e)))));
}
  where
    all : names f ≡ (97 ∷ []) ∷ (98 ∷ []) ∷ (112 ∷ []) ∷ []
    all = (λ i. map (λ (p : Ty × Name). p.1) (params i) ++ flat_map block_names (blocks i)) ∙ (λ i. (first i ∷ result_names (none i)) ++ ((second i ∷ results i) ++ []))

pub returns-clause-named : goal.returns-clause-named
returns-clause-named c = named_two c.in_ok-f.f c.in_ok-a.a c.in_ok-b.b c.in_ok-f.ensures.params c.in_ok-f.ensures.blocks c.in_ok-a.ensures.label c.in_ok-a.ensures.instrs c.in_ok-b.ensures.label c.in_ok-b.ensures.results
