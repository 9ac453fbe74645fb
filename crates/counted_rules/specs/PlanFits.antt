-- When a plan fits a function, so that the function that counts by it keeps the rules.
use Rattle.std.specs.Prelude.{◌≡◌, ℕ, ◌+◌, ◌≤◌, true, nat_lt, List, [], ◌∷◌, ◌++◌, Some, slice_get}
use Rattle.count_plan.specs.Calls.{increment_name, step_name, value_name, watched}
use Rattle.count_plan.specs.Counted.{new_blocks, watch_at}
use Rattle.count_plan.specs.Ways.{block_plan, new_at}
use Rattle.count_plan.specs.declared.plan.BlockPlan.{BlockPlan}
use Rattle.count_plan.specs.declared.plan.FunctionPlan.{FunctionPlan}
use Rattle.count_plan.specs.declared.plan.NewBlock.{NewBlock}
use Rattle.count_plan.specs.declared.plan.Watch.{Watch}
use Rattle.count_plan.specs.declared.plan.Watch.TheVariants.{Nothing, Condition, Target}
use Rattle.ir_rules.specs.Intrinsics.{is_counter_total, names_unit}
use Rattle.ir_rules.specs.Lists.{Among, times}
use Rattle.ir_rules.specs.Scopes.{Signature, names, signatures}
use Rattle.ir_tree.specs.Blocks.{labels}
use Rattle.ir_tree.specs.Operands.{result_names}
use Rattle.ir_tree.specs.Phis.{behind_phis}
use Rattle.ir_tree.specs.Spelling.{is_local_name}
use Rattle.ir_tree.specs.Successors.{successors}
use Rattle.ir_tree.specs.Types.{is_integer_of}
use Rattle.ir_tree.specs.declared.types.Block.{Block}
use Rattle.ir_tree.specs.declared.types.Function.{Function}
use Rattle.ir_tree.specs.declared.types.Instr.{Instr}
use Rattle.ir_tree.specs.declared.types.Module.{Module}
use Rattle.ir_tree.specs.declared.types.Operand.TheVariants.{Global}
use Rattle.ir_tree.specs.declared.types.Ret.TheVariants.{Void}
use Rattle.ir_tree.specs.declared.types.Ty.TheVariants.{I32, I64, Ptr}
use Rattle.spec_lists.specs.Each.{each}

-- ---- what is put in

-- the instructions that watch others of a block
abbrev pub watches_in : FunctionPlan → BlockPlan → Block → List Instr
watches_in unit plan b = each (λ i x. watched unit (watch_at plan i) x) 0 (behind_phis b.instrs)

-- the registers and labels that a block gets
abbrev pub put_names : FunctionPlan → BlockPlan → Block → List (List ℕ)
put_names unit plan b = result_names (watches_in unit plan b) ++ labels (new_blocks unit plan b)

-- those that all blocks get
abbrev pub new_names : FunctionPlan → List Block → List (List ℕ)
new_names unit bs = each (λ j b. put_names unit (block_plan unit.blocks j) b) 0 bs

-- ---- what the intrinsics take

abbrev pub increment_signature : Signature
increment_signature = (increment_name, Void, Ptr ∷ I64 ∷ I32 ∷ I32 ∷ [])

abbrev pub step_signature : Signature
step_signature = (step_name, Void, Ptr ∷ I64 ∷ I32 ∷ I32 ∷ I64 ∷ [])

abbrev pub value_signature : Signature
value_signature = (value_name, Void, Ptr ∷ I64 ∷ I64 ∷ I32 ∷ I32 ∷ [])

-- calls of the intrinsics can name the unit, and tell its hash
pub record IsUnit (m : Module) (unit : FunctionPlan) : Type 0 where
  pub known : names_unit m (Global unit.symbol) ≡ true
  pub hash : is_integer_of I64 unit.hash ≡ true

-- the unit has so many counters as a unit may have, and the counter a number of 32 bits
pub record IsCounter (m : Module) (unit : FunctionPlan) (counter : ℕ) : Type 0 where
  pub of_unit : IsUnit m unit
  pub total : is_counter_total unit.counters ≡ true
  pub number : is_integer_of I32 counter ≡ true

-- what a counter that rises by one needs of the module that counts
abbrev pub CounterFits : Module → FunctionPlan → ℕ → Type 0
CounterFits m unit counter = IsCounter m unit counter × Among increment_signature (signatures m)

-- what a watch needs of it
abbrev pub WatchFits : Module → FunctionPlan → Watch → Type 0
WatchFits m unit Nothing = Unit {0}
WatchFits m unit (Condition register counter) = IsCounter m unit counter × Among step_signature (signatures m)
WatchFits m unit (Target register site) = IsUnit m unit × (nat_lt site 65536 ≡ true) × Among value_signature (signatures m)

-- ---- the plan of a function

-- New names are names, apart from those of the function and from each other; and each counter and watch has what it needs in the
-- module that counts. A plan without any owes that module nothing
pub record PlanFits (m : Module) (unit : FunctionPlan) (f : Function) : Type 0 where
  pub apart : (n : List ℕ) → times n (names f) + times n (new_names unit f.blocks) ≤ 1
  pub named : (n : List ℕ) → Among n (new_names unit f.blocks) → is_local_name n ≡ true
  pub head : (j c : ℕ) (b : Block) → slice_get f.blocks j ≡ Some b → (block_plan unit.blocks j).head ≡ Some c → CounterFits m unit c
  pub tail : (j c : ℕ) (b : Block) → slice_get f.blocks j ≡ Some b → (block_plan unit.blocks j).tail ≡ Some c → CounterFits m unit c
  pub watch : (j i : ℕ) (b : Block) (x : Instr) → slice_get f.blocks j ≡ Some b → slice_get (behind_phis b.instrs) i ≡ Some x → WatchFits m unit (watch_at (block_plan unit.blocks j) i)
  pub edge : (j p c : ℕ) (b : Block) (to : List ℕ) (new : NewBlock) → slice_get f.blocks j ≡ Some b → slice_get (successors b.term) p ≡ Some to → new_at (block_plan unit.blocks j) p ≡ Some new → new.counter ≡ Some c → CounterFits m unit c
