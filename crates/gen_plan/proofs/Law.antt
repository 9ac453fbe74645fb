-- The plan fits a module that can be counted.
use Rattle.std.proofs.Common.{◌≡◌, ℕ, zero, suc, ◌==◌, Bool, true, false, cond, not, List, [], ◌∷◌, length, map, filter, Some, slice_get, refl, sym, ◌∙◌, ap, subst, arith}
use Rattle.std.specs.List.{list_any}
use Rattle.std.proofs.lemmas.Bool.{ne_eqb}
use Rattle.std.proofs.lemmas.Option.{none-some, same_Some}
use Rattle.spec_items.proofs.Made.{filter_at, map_at}
use Rattle.count_plan.specs.Calls.{increment_name, step_name, value_name}
use Rattle.count_plan.specs.Counted.{no_function_plan}
use Rattle.count_plan.specs.declared.plan.FunctionPlan.{FunctionPlan}
use Rattle.count_likeness.specs.Fits.{FunctionFits, ModuleFits, number_at}
use Rattle.gen_plan.specs.Countable.{CanCount}
use Rattle.gen_plan.specs.Gen.{declaration, declarations, gen_function, gen_plan, has_select, record_global}
use Rattle.gen_plan.specs.GenImage.{gen_image}
use Rattle.gen_plan.proofs.Edges.{Graphed}
use Rattle.gen_plan.proofs.Fitting.{fits_declared, fits_defined}
use Rattle.ir_model.specs.Values.{functions_of, is_profile_global}
use Rattle.ir_tree.specs.Functions.{function_at, is_declared, is_profile_name}
use Rattle.ir_tree.specs.Graphs.{HasGraph, graph_of}
use Rattle.ir_tree.specs.declared.types.Block.{Block}
use Rattle.ir_tree.specs.declared.types.Function.{Function}
use Rattle.ir_tree.specs.declared.types.Global1.{Global1}
use Rattle.ir_tree.specs.declared.types.Module.{Module}
use Rattle.ir_tree.specs.declared.types.Ty.TheVariants.{I32, I64, Ptr}

-- each item of a list that is made item by item is made of one
mapped : {X Y : Type 0} (h : X → Y) (xs : List X) (i : ℕ) (y : Y) → slice_get (map h xs) i ≡ Some y → (x : X) × (y ≡ h x)
mapped h [] i y e = absurd (none-some y e)
mapped h (x ∷ xs) zero y e = (x, sym (same_Some (h x) y e))
mapped h (x ∷ xs) (suc i) y e = mapped h xs i y e

record_names : (name : List ℕ) → is_profile_global (record_global name).name ≡ true
record_names name = refl

declared_names : (fs : List Function) (i : ℕ) (f : Function) → slice_get (declarations fs) i ≡ Some f → is_profile_name f.name ≡ true
unfolding increment_name step_name value_name is_profile_name
declared_names fs zero f e = ap (λ (g : Function). is_profile_name g.name) (sym (same_Some _ f e))
declared_names fs (suc zero) f e = ap (λ (g : Function). is_profile_name g.name) (sym (same_Some _ f e))
declared_names fs (suc (suc i)) f e = by (list_any has_select fs) i e
  where
    by : (b : Bool) (i : ℕ) → slice_get (cond b (declaration step_name (Ptr ∷ I64 ∷ I32 ∷ I32 ∷ I64 ∷ []) ∷ []) []) i ≡ Some f → is_profile_name f.name ≡ true
    by true zero h = ap (λ (g : Function). is_profile_name g.name) (sym (same_Some _ f h))
    by true (suc i) h = absurd (none-some f h)
    by false i h = absurd (none-some f h)

module _ (graphs : (f : Function) → HasGraph f → Graphed f (graph_of f)) (entry_first : Bool) (m : Module) (can : CanCount m) where
  fits_function : (j : ℕ) (f : Function) → slice_get m.functions j ≡ Some f → is_profile_name f.name ≡ false → FunctionFits (functions_of m) (number_at m j) (gen_function entry_first f) (gen_image entry_first m) 4 1 f
  fits_function j f at plain = by f.blocks refl
    where
      found : function_at m (number_at m j) ≡ Some f
      found = filter_at (λ (g : Function). not (is_profile_name g.name)) m.functions j f at (ap not plain)

      by : (bs : List Block) → f.blocks ≡ bs → FunctionFits (functions_of m) (number_at m j) (gen_function entry_first f) (gen_image entry_first m) 4 1 f
      by [] none = fits_declared entry_first m (number_at m j) f found (can.formed j f at) (can.few_names j f at) can.few_functions none
      by (b ∷ bs) some =
          fits_defined entry_first m (number_at m j) f found (can.formed j f at) (can.few_names j f at) can.few_functions
          (graphs f (can.graphs j f at (ap (λ bs. length bs == 0) some ∙ ne_eqb (length (b ∷ bs)) 0 (omega arith))))

  pub gen_fits : ModuleFits (gen_plan entry_first m) (gen_image entry_first m) 4 1 m
  gen_fits = record {
    some = omega arith;
    function = λ j f at plain. subst (λ (u : FunctionPlan). FunctionFits (functions_of m) (number_at m j) u (gen_image entry_first m) 4 1 f) (sym (map_at (gen_function entry_first) m.functions j f no_function_plan at)) (fits_function j f at plain);
    globals = λ i g e. (let r = mapped (λ (f : Function). record_global f.name) (filter (λ f. not (is_declared f)) m.functions) i g e in ap (λ (x : Global1). is_profile_global x.name) r.1 ∙ record_names r.0.name);
    declarations = λ i f e. declared_names m.functions i f e;
  }
