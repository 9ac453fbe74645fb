-- Functions and modules that have plans, and what the plans of a module put into it.
use Rattle.std.specs.Prelude.{◌≡◌, ℕ, suc, ◌<◌, ◌^◌, Bool, false, cond, List, [], ◌∷◌, filter, length, map, not, Some, slice_get}
use Rattle.count_plan.specs.Calls.{increment_name, step_name, value_name}
use Rattle.count_plan.specs.Counted.{no_function_plan}
use Rattle.count_plan.specs.declared.plan.FunctionPlan.{FunctionPlan}
use Rattle.gen_plan.specs.Gen.{counted_edges, counters_in, declaration, gen_function, record_global}
use Rattle.ir_tree.specs.Functions.{is_declared}
use Rattle.ir_tree.specs.Graphs.{HasGraph, graph_of}
use Rattle.ir_tree.specs.Locals.{locals}
use Rattle.ir_tree.specs.declared.types.Function.{Function}
use Rattle.ir_tree.specs.declared.types.Global1.{Global1}
use Rattle.ir_tree.specs.declared.types.Module.{Module}
use Rattle.ir_tree.specs.declared.types.Ty.TheVariants.{I32, I64, Ptr}

-- A function that has a graph, and so few counters and names that their numbers fit 32 and 64 bits
pub record HasPlan (entry_first : Bool) (f : Function) : Type 0 where
  pub graph : HasGraph f
  pub few_counters : counters_in (graph_of f) (counted_edges entry_first f) < 4294967296
  pub few_names : suc (length (locals f)) < 2 ^ 64

-- each defined function has one
abbrev pub HavePlans : Bool → Module → Type 0
HavePlans entry_first m = (j : ℕ) (f : Function) → slice_get m.functions j ≡ Some f → is_declared f ≡ false → HasPlan entry_first f

-- nothing is put into a declared function
abbrev pub plan_of : Bool → Function → FunctionPlan
plan_of entry_first f = cond (is_declared f) no_function_plan (gen_function entry_first f)

-- the intrinsics that are declared, where selects are counted or not
abbrev pub intrinsics : Bool → List Function
intrinsics selects =
    declaration increment_name (Ptr ∷ I64 ∷ I32 ∷ I32 ∷ [])
    ∷ declaration value_name (Ptr ∷ I64 ∷ I64 ∷ I32 ∷ I32 ∷ [])
    ∷ cond selects (declaration step_name (Ptr ∷ I64 ∷ I32 ∷ I32 ∷ I64 ∷ []) ∷ []) []

-- the globals that name the records of the defined ones
abbrev pub record_globals : List Function → List Global1
record_globals fs = map (λ (f : Function). record_global f.name) (filter (λ f. not (is_declared f)) fs)
