-- The parts of the module that counts are spellable where those of the module are.
use Rattle.std.proofs.Common.{◌≡◌, ℕ, ◌<◌, ◌≤◌, ◌^◌, inl, inr, Bool, true, false, not, cond, List, [], ◌∷◌, length, filter, Some, slice_get, refl, sym, subst, arith}
use Rattle.std.specs.List.{list_any}
use Rattle.count_plan.specs.Calls.{step_name}
use Rattle.count_plan.specs.Counted.{counted_function, counted_functions, function_plan, no_function_plan}
use Rattle.count_plan.specs.declared.plan.FunctionPlan.{FunctionPlan}
use Rattle.counted_rules.specs.PlanFits.{PlanFits}
use Rattle.gen_plan.specs.Gen.{counted, declaration, declarations, gen_function, gen_plan, has_select, record_global}
use Rattle.gen_spelled.proofs.Blocks.{function_is}
use Rattle.gen_spelled.proofs.Calls.{increment_named, record_named, step_named, value_named}
use Rattle.gen_spelled.proofs.Lists.{Name, among_each, among_filter, at_among, each_among, each_append, each_get, each_made, each_mapped, mapped_at}
use Rattle.gen_spelled.proofs.Notes.{nodes_same}
use Rattle.gen_spelled.specs.GenSpelled.{HaveShortNames}
use Rattle.ir_grammar.specs.Types.{depth_most, memory_of}
use Rattle.ir_rules.specs.Lists.{Among}
use Rattle.ir_tree.specs.Functions.{is_declared}
use Rattle.ir_tree.specs.declared.types.Function.{Function}
use Rattle.ir_tree.specs.declared.types.MemTy.TheBlock.{shape-the_row-MemTy-0, hidden-the_row-MemTy-0}
use Rattle.ir_tree.specs.declared.types.Module.{Module}
use Rattle.ir_tree.specs.declared.types.Prof.{Prof}
use Rattle.ir_tree.specs.declared.types.Ty.TheVariants.{I8, I32, I64, Ptr}
use Rattle.spellable.specs.Instructions.{IsNote}
use Rattle.spellable.specs.Modules.{IsFunction, IsSpellable, IsVariable}
use Rattle.spellable.specs.Values.{Each, IsGlobal}
use denote.Hole.Carrier

-- ---- the globals that name records

record_memory : (name : Name) → (record_global name).mem ≡ memory_of (length name ∷ []) I8
unfolding shape-the_row-MemTy-0 hidden-the_row-MemTy-0 Carrier.hidden
record_memory name = refl

record_is : (name : Name) → IsGlobal name → length name < 2 ^ 64 → IsVariable (record_global name)
record_is name h short = record {
  name = record_named name h;
  init = (length name ∷ [], I8, record_memory name, ((let few : 1 ≤ depth_most = omega arith in few), (short, tt)), inr (inl (inr (inr (inr (name, refl))))));
}

not_false : (b : Bool) → not b ≡ true → b ≡ false
not_false true e = absurd (cc)
not_false false e = refl

-- a function whose record's name and length are spelled
abbrev HasRecord : Function → Type 0
HasRecord f = IsGlobal f.name × (length f.name < 2 ^ 64)

-- ---- the declarations

declarations_are : (fs : List Function) → Each (IsFunction IsNote) (declarations fs)
declarations_are fs = ((increment_named, ((refl, (refl, (refl, (refl, tt)))), refl)), ((value_named, ((refl, (refl, (refl, (refl, (refl, tt))))), refl)), by (list_any has_select fs)))
  where
    by : (b : Bool) → Each (IsFunction IsNote) (cond b (declaration step_name (Ptr ∷ I64 ∷ I32 ∷ I32 ∷ I64 ∷ []) ∷ []) [])
    by true = ((step_named, ((refl, (refl, (refl, (refl, (refl, tt))))), refl)), tt)
    by false = tt

-- ---- the module

module _ (entry_first : Bool) (m : Module) (fits : (f : Function) → Among f m.functions → is_declared f ≡ false → PlanFits (counted entry_first m) (gen_function entry_first f) f) (short : HaveShortNames m.functions) (h : IsSpellable m) where
  records : Each HasRecord (filter (λ f. not (is_declared f)) m.functions)
  records =
      each_among HasRecord (filter (λ f. not (is_declared f)) m.functions) (λ f at.
      let there = among_filter (λ (f : Function). not (is_declared f)) m.functions f at in
      ((among_each (IsFunction IsNote) m.functions f h.functions there.0).0, short f there.0 (not_false (is_declared f) there.1)))

  counted_at : (j : ℕ) (f : Function) → slice_get m.functions j ≡ Some f → Each (IsFunction IsNote) (counted_function (function_plan (gen_plan entry_first m).functions j) f ∷ [])
  counted_at j f at =
      let formed : IsFunction IsNote f = each_get (IsFunction IsNote) m.functions j f h.functions at in
      let one : IsFunction IsNote (counted_function (gen_function entry_first f) f) = function_is IsNote (counted entry_first m) (gen_function entry_first f) (record_named f.name formed.0) f formed (fits f (at_among m.functions j f at)) in
      (subst (λ (unit : FunctionPlan). IsFunction IsNote (counted_function unit f)) (sym (mapped_at (gen_function entry_first) m.functions j f no_function_plan at)) one, tt)

  pub counted_spellable : IsSpellable (counted entry_first m)
  counted_spellable = record {
    variables = each_append IsVariable m.globals (gen_plan entry_first m).globals h.variables (each_mapped HasRecord IsVariable (λ (f : Function). record_global f.name) (filter (λ f. not (is_declared f)) m.functions) (λ f r. record_is f.name r.0 r.1) records);
    functions = each_append (IsFunction IsNote) (counted_functions (gen_plan entry_first m).functions m.functions) (declarations m.functions) (each_made (λ j f. counted_function (function_plan (gen_plan entry_first m).functions j) f ∷ []) (IsFunction IsNote) m.functions counted_at) (declarations_are m.functions);
    notes = subst (λ (notes : List Prof). length notes ≤ 2 ^ 64) (sym (nodes_same entry_first m)) h.notes;
  }
