-- A block into which nothing is put stays.
use Rattle.std.proofs.Common.{◌≡◌, ℕ, ◌+◌, List, [], ◌∷◌, ◌++◌, map, refl, ◌∙◌, ap}
use Rattle.std.proofs.lemmas.List.{take-append-drop}
use Rattle.spec_lists.specs.Each.{each}
use Rattle.count_plan.specs.Calls.{increments, watched}
use Rattle.count_plan.specs.Counted.{counted_from, counted_instrs, put_on}
use Rattle.count_plan.specs.Stays.{BlocksStay, PutsNothing}
use Rattle.count_plan.specs.Ways.{led, led_cases, led_to, new_at, renamed_phi}
use Rattle.count_plan.specs.declared.plan.BlockPlan.{BlockPlan}
use Rattle.count_plan.specs.declared.plan.FunctionPlan.{FunctionPlan}
use Rattle.ir_tree.specs.Phis.{behind_phis, leading_phis, phi_count}
use Rattle.ir_tree.specs.Successors.{successors}
use Rattle.ir_tree.specs.declared.types.Instr.{Instr}
use Rattle.ir_tree.specs.declared.types.Instr.TheVariants.{Binary, Compare, Convert, Freeze, Select, Phi, Alloca, Load, Store, Gep, Call, Count}
use Rattle.ir_tree.specs.declared.types.Term.{Term}
use Rattle.ir_tree.specs.declared.types.Term.TheVariants.{Br, CondBr, Switch, Ret, Unreachable}

none_made : {X Y : Type 0} (make : ℕ → X → List Y) → ((n : ℕ) (x : X) → make n x ≡ []) → (n : ℕ) (xs : List X) → each make n xs ≡ []
none_made make h n [] = refl
none_made make h n (x ∷ xs) = (λ i. h n x i ++ each make (n + 1) xs) ∙ none_made make h (n + 1) xs

phi_stays : (x : Instr) → renamed_phi [] x ≡ x
phi_stays (Binary into op flags ty left right) = refl
phi_stays (Compare into pred ty left right) = refl
phi_stays (Convert into op flags from value to) = refl
phi_stays (Freeze into ty value) = refl
phi_stays (Select into c ty first second prof) = refl
phi_stays (Phi into ty entries) = refl
phi_stays (Alloca into mem) = refl
phi_stays (Load into ty address) = refl
phi_stays (Store ty value address) = refl
phi_stays (Gep into inbounds mem address indices) = refl
phi_stays (Call into ret callee values prof) = refl
phi_stays (Count symbol size index step) = refl

phis_stay : (is : List Instr) → map (renamed_phi []) is ≡ is
phis_stay [] = refl
phis_stay (i ∷ is) = λ k. phi_stays i k ∷ phis_stay is k

module _ (unit : FunctionPlan) (plan : BlockPlan) (nothing : PutsNothing plan) where
  instrs_stay : (i : ℕ) (is : List Instr) → counted_from unit plan i is ≡ is
  instrs_stay i [] = ap (increments unit) nothing.tail
  instrs_stay i (x ∷ xs) = λ k. watched unit (nothing.watches i k) x ++ (x ∷ instrs_stay (i + 1) xs k)

  way_stays : (p : ℕ) (to : List ℕ) → led_to (new_at plan p) to ≡ to
  way_stays p to = ap (λ o. led_to o to) (nothing.edges p)

  cases_stay : (n : ℕ) (cases : List (ℕ × List ℕ)) → led_cases plan n cases ≡ cases
  cases_stay n [] = refl
  cases_stay n (c ∷ cs) = λ i. (c.0, way_stays n c.1 i) ∷ cases_stay (n + 1) cs i

  term_stays : (t : Term) → led plan t ≡ t
  term_stays (Br to) = ap Br (way_stays 0 to)
  term_stays (CondBr c first second prof) = λ i. CondBr c (way_stays 0 first i) (way_stays 1 second i) prof
  term_stays (Switch ty v default cases prof) = λ i. Switch ty v (way_stays 0 default i) (cases_stay 1 cases i) prof
  term_stays (Ret v) = refl
  term_stays Unreachable = refl

  all_instrs_stay : (is : List Instr) → counted_instrs unit plan [] is ≡ is
  all_instrs_stay is =
      (λ i. phis_stay (leading_phis is) i ++ (increments unit (nothing.head i) ++ instrs_stay 0 (behind_phis is) i)) ∙ take-append-drop (phi_count is) is

pub stays : BlocksStay
stays unit bs plan b nothing none = record {
  block =
      ap (λ rs. record { label = b.label; instrs = counted_instrs unit plan rs b.instrs; term = led plan b.term }) none
      ∙ (λ i. record { label = b.label; instrs = all_instrs_stay unit plan nothing b.instrs i; term = term_stays unit plan nothing b.term i });
  alone = none_made (λ p to. put_on unit to (new_at plan p)) (λ p to. ap (put_on unit to) (nothing.edges p)) 0 (successors b.term);
}
