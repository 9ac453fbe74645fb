-- Nothing is put into declared functions, whatever their plans are.
use Rattle.std.proofs.Common.{◌≡◌, ℕ, suc, ◌+◌, ◌==◌, Bool, true, false, cond, List, [], ◌∷◌, ◌++◌, length, map, Some, slice_get, refl, sym, ap, ◌∙◌, arith, zero-add}
use Rattle.std.proofs.lemmas.Bool.{eqb-true}
use Rattle.std.specs.List.{list_any}
use Rattle.count_plan.specs.Counted.{counted_blocks, counted_function, counted_functions, counted_module, function_plan, no_function_plan}
use Rattle.count_plan.specs.declared.plan.FunctionPlan.{FunctionPlan}
use Rattle.gen_code.specs.Planned.{intrinsics, plan_of, record_globals}
use Rattle.gen_plan.specs.Gen.{counted, declarations, gen_function, has_select}
use Rattle.ir_tree.specs.Functions.{is_declared}
use Rattle.ir_tree.specs.declared.types.Block.{Block}
use Rattle.ir_tree.specs.declared.types.Function.{Function}
use Rattle.ir_tree.specs.declared.types.Global1.{Global1}
use Rattle.ir_tree.specs.declared.types.Module.{Module}
use Rattle.spec_items.proofs.Made.{map_at}
use Rattle.spec_lists.specs.Each.{each}

none_of : {X : Type 0} (xs : List X) → length xs ≡ 0 → xs ≡ []
none_of [] e = refl
none_of (x ∷ xs) e = absurd (omega (arith, e))

no_items : {X : Type 0} (xs : List X) → (length xs == 0) ≡ true → xs ≡ []
no_items xs e = none_of xs (eqb-true (length xs) 0 e)

nothing_in : (one other : FunctionPlan) (blocks : List Block) → (length blocks == 0) ≡ true → counted_blocks one blocks ≡ counted_blocks other blocks
nothing_in one other blocks e = ap (counted_blocks one) (no_items blocks e) ∙ sym (ap (counted_blocks other) (no_items blocks e))

plan_same : (entry_first : Bool) (f : Function) → counted_function (plan_of entry_first f) f ≡ counted_function (gen_function entry_first f) f
plan_same entry_first f = by (is_declared f) refl
  where
    by : (d : Bool) → is_declared f ≡ d → counted_function (cond d no_function_plan (gen_function entry_first f)) f ≡ counted_function (gen_function entry_first f) f
    by false e = refl
    by true e = ap (λ (blocks : List Block). record f { blocks = blocks }) (nothing_in no_function_plan (gen_function entry_first f) f.blocks e)

each_same : {X Y : Type 0} (one other : ℕ → X → List Y) (n : ℕ) (xs : List X) → ((i : ℕ) (x : X) → slice_get xs i ≡ Some x → one (n + i) x ≡ other (n + i) x) → each one n xs ≡ each other n xs
each_same one other n [] h = refl
each_same one other n (x ∷ xs) h =
    let here : one n x ≡ other n x = ap (λ (k : ℕ). one k x) (let e : n ≡ n + 0 = omega arith in e) ∙ h 0 x refl ∙ ap (λ (k : ℕ). other k x) (let e : n + 0 ≡ n = omega arith in e) in
    let later = each_same one other (n + 1) xs (λ i y at. ap (λ (k : ℕ). one k y) (let e : n + 1 + i ≡ n + suc i = omega arith in e) ∙ h (suc i) y at ∙ ap (λ (k : ℕ). other k y) (let e : n + suc i ≡ n + 1 + i = omega arith in e)) in
    λ i. here i ++ later i

module _ (entry_first : Bool) (fs : List Function) where
  planned_at : (plan : Function → FunctionPlan) (i : ℕ) (f : Function) → slice_get fs i ≡ Some f → counted_function (function_plan (map plan fs) (0 + i)) f ≡ counted_function (plan f) f
  planned_at plan i f at = ap (λ (k : ℕ). counted_function (function_plan (map plan fs) k) f) (zero-add i) ∙ ap (λ (unit : FunctionPlan). counted_function unit f) (map_at plan fs i f no_function_plan at)

  functions_same : counted_functions (map (plan_of entry_first) fs) fs ≡ counted_functions (map (gen_function entry_first) fs) fs
  functions_same =
      each_same (λ j f. counted_function (function_plan (map (plan_of entry_first) fs) j) f ∷ []) (λ j f. counted_function (function_plan (map (gen_function entry_first) fs) j) f ∷ []) 0 fs
      (λ i f at. ap (λ (g : Function). g ∷ []) (planned_at (plan_of entry_first) i f at ∙ plan_same entry_first f ∙ sym (planned_at (gen_function entry_first) i f at)))

pub module_same : (entry_first : Bool) (m : Module) (plans : List FunctionPlan) (globals : List Global1) (others : List Function) → plans ≡ map (plan_of entry_first) m.functions → globals ≡ record_globals m.functions → others ≡ intrinsics (list_any has_select m.functions)
    → counted_module (record { functions = plans; globals = globals; declarations = others }) m ≡ counted entry_first m
module_same entry_first m plans globals others a b d =
    (λ i. counted_module (record { functions = a i; globals = b i; declarations = d i }) m)
    ∙ ap (λ (made : List Function). record { globals = m.globals ++ record_globals m.functions; functions = made ++ declarations m.functions }) (functions_same entry_first m.functions)
