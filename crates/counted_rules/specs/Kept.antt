-- What a function that counts keeps of the rules.
use Rattle.std.specs.Prelude.{◌≡◌, ℕ, ◌≤◌, true, false, List, [], ◌∷◌, IsPermutation}
use Rattle.count_plan.specs.Counted.{counted_function}
use Rattle.count_plan.specs.declared.plan.FunctionPlan.{FunctionPlan}
use Rattle.counted_rules.specs.PlanFits.{PlanFits}
use Rattle.ir_rules.specs.Kinds.{is_lowered_kind, kind_of}
use Rattle.ir_rules.specs.Lists.{Among, times}
use Rattle.ir_rules.specs.Reserved.{is_reserved_function}
use Rattle.ir_rules.specs.Scopes.{Signature, function_names, is_of_profile, names, signatures, symbols}
use Rattle.ir_rules.specs.WellFormed.{FunctionFormed}
use Rattle.ir_tree.specs.Functions.{is_declared, is_profile_name}
use Rattle.ir_tree.specs.declared.types.Block.{Block}
use Rattle.ir_tree.specs.declared.types.Function.{Function}
use Rattle.ir_tree.specs.declared.types.Module.{Module}

-- The second module has the symbols and functions of the first one, which has no counters and no profile; no symbol of the first one
-- is of the profile in the second, or reserved there
pub record TakesOver (m m2 : Module) : Type 0 where
  pub has_symbols : (n : List ℕ) → Among n (symbols m) → Among n (symbols m2)
  pub has_signatures : (s : Signature) → Among s (signatures m) → Among s (signatures m2)
  pub of_program : (n : List ℕ) → Among n (symbols m) → is_of_profile m2 n ≡ false
  pub no_profile : (n : List ℕ) → Among n (symbols m) → is_profile_name n ≡ false
  pub not_lowered : is_lowered_kind (kind_of m.functions) ≡ false
  pub free : (n : List ℕ) → Among n (function_names m) → is_reserved_function (kind_of m2.functions) n ≡ false

-- the names of a function that counts are distinct
abbrev pub NamesStayApart : Type 0
NamesStayApart = (m : Module) (unit : FunctionPlan) (f : Function) → PlanFits m unit f → (n : List ℕ) → times n (names (counted_function unit f)) ≤ 1

-- a function that counts by a plan that fits is well formed in the module that counts
abbrev pub FunctionsStayFormed : Type 0
FunctionsStayFormed = (m m2 : Module) (unit : FunctionPlan) (f : Function) → TakesOver m m2 → Among f m.functions → FunctionFormed m f → PlanFits m2 unit f → FunctionFormed m2 (counted_function unit f)

-- a declared function is well formed in it, whatever the plan
abbrev pub DeclaredStayFormed : Type 0
DeclaredStayFormed = (m m2 : Module) (unit : FunctionPlan) (f : Function) → TakesOver m m2 → Among f m.functions → FunctionFormed m f → is_declared f ≡ true → FunctionFormed m2 (counted_function unit f)

-- the same blocks, those behind the first in any order
abbrev pub IsReordered : List Block → List Block → Type 0
IsReordered [] cs = cs ≡ []
IsReordered (b ∷ bs) cs = (rest : List Block) × (cs ≡ b ∷ rest) × IsPermutation bs rest

-- a function that doesn't count is well formed in it, in whatever order its blocks behind the first stand
abbrev pub ReorderedStayFormed : Type 0
ReorderedStayFormed = (m m2 : Module) (f : Function) (blocks : List Block) → TakesOver m m2 → Among f m.functions → FunctionFormed m f → IsReordered f.blocks blocks → FunctionFormed m2 (record f { blocks = blocks })
