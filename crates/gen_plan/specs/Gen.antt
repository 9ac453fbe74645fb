-- The plan of a module that counts: a counter for each edge outside the spanning tree and for each select, a note for each call through
-- a register, and nothing in blocks that no walk leads to.
use Rattle.std.specs.Prelude.{ℕ, ◌+◌, ◌==◌, Bool, true, ◌&&◌, cond, List, [], ◌∷◌, ◌++◌, length, map, filter, not, position, codes, Option, None, Some}
use Rattle.std.specs.List.{list_any}
use Rattle.cfg_edges.specs.Hash.{hash_text}
use Rattle.cfg_tree.specs.Tree.{tree_of}
use Rattle.count_plan.specs.Calls.{increment_name, step_name, value_name}
use Rattle.count_plan.specs.Counted.{counted_module}
use Rattle.count_plan.specs.declared.plan.BlockPlan.{BlockPlan}
use Rattle.count_plan.specs.declared.plan.FunctionPlan.{FunctionPlan}
use Rattle.count_plan.specs.declared.plan.ModulePlan.{ModulePlan}
use Rattle.count_plan.specs.declared.plan.Watch.{Watch}
use Rattle.count_plan.specs.declared.plan.Watch.TheVariants.{Nothing, Condition, Target}
use Rattle.gen_plan.specs.Fresh.{fresh, select_hint, target_hint}
use Rattle.gen_plan.specs.Placing.{head_counter, new_on, tail_counter}
use Rattle.ir_tree.specs.Functions.{is_declared}
use Rattle.ir_tree.specs.Graphs.{FlowGraph, graph_of, is_select, is_site}
use Rattle.ir_tree.specs.Phis.{behind_phis, phi_count}
use Rattle.ir_tree.specs.Successors.{successors}
use Rattle.ir_tree.specs.declared.types.Block.{Block}
use Rattle.ir_tree.specs.declared.types.Function.{Function}
use Rattle.ir_tree.specs.declared.types.Global1.{Global1}
use Rattle.ir_tree.specs.declared.types.Init.TheVariants.{Bytes}
use Rattle.ir_tree.specs.declared.types.Instr.{Instr}
use Rattle.ir_tree.specs.declared.types.MemTy.{Array', end_of-MemTy, more_of-MemTy}
use Rattle.ir_tree.specs.declared.types.MemTy.TheVariants.{Scalar}
use Rattle.ir_tree.specs.declared.types.Module.{Module}
use Rattle.ir_tree.specs.declared.types.Ret.TheVariants.{Void}
use Rattle.ir_tree.specs.declared.types.Ty.{Ty}
use Rattle.ir_tree.specs.declared.types.Ty.TheVariants.{I8, I32, I64, Ptr}
use Rattle.pgo_base.specs.Hash.{hash8}
use Rattle.spec_lists.specs.Each.{each}

-- ---- selects and sites

-- the number of the select or site at item i of block b
abbrev pub number_of : ℕ → ℕ → List (ℕ × ℕ) → Option ℕ
number_of b i places = position (λ at. at.0 == b && at.1 == i) places

-- the counters of selects follow those of the edges
abbrev pub select_watch : Function → ℕ → Option ℕ → Watch
select_watch f edges None = Nothing
select_watch f edges (Some k) = Condition (fresh f (select_hint k)) (edges + k)

abbrev pub site_watch : Function → Option ℕ → Watch
site_watch f None = Nothing
site_watch f (Some j) = Target (fresh f (target_hint j)) j

abbrev pub watch_of : Function → FlowGraph → List ℕ → ℕ → ℕ → Instr → Watch
watch_of f g counted b i x =
    cond (is_select x) (select_watch f (length counted) (number_of b i g.selects)) (cond (is_site x) (site_watch f (number_of b i g.sites)) Nothing)

-- ---- functions

-- block b, with these counted edges
abbrev pub gen_block : Function → FlowGraph → List ℕ → ℕ → Block → BlockPlan
gen_block f g counted b block = record {
  head = head_counter g counted b;
  watches = each (λ i x. watch_of f g counted b (phi_count block.instrs + i) x ∷ []) 0 (behind_phis block.instrs);
  tail = tail_counter g counted b;
  edges = each (λ p to. new_on f g counted b p ∷ []) 0 (successors block.term);
}

abbrev pub record_name : List ℕ → List ℕ
record_name name = codes "__profn_" ++ name

-- so many counters as counted edges and selects
abbrev pub counters_in : FlowGraph → List ℕ → ℕ
counters_in g counted = length counted + length g.selects

abbrev pub gen_with : Function → FlowGraph → List ℕ → ℕ → FunctionPlan
gen_with f g counted hash = record {
  symbol = record_name f.name;
  hash = hash;
  counters = counters_in g counted;
  blocks = each (λ b block. gen_block f g counted b block ∷ []) 0 f.blocks;
}

-- the edges of a function that keep a counter, where the entry is counted first or not
abbrev pub counted_edges : Bool → Function → List ℕ
counted_edges entry_first f = (tree_of (graph_of f) entry_first).counted

abbrev pub gen_hash : Bool → Function → ℕ
gen_hash entry_first f = hash8 (hash_text (graph_of f) (counters_in (graph_of f) (counted_edges entry_first f)) entry_first)

abbrev pub gen_function : Bool → Function → FunctionPlan
gen_function entry_first f = gen_with f (graph_of f) (counted_edges entry_first f) (gen_hash entry_first f)

-- ---- modules

-- the global that names the record of a function in the profile
abbrev pub record_global : List ℕ → Global1
record_global name = record {
  name = record_name name;
  constant = true;
  mem = Array' (length name) _ (more_of-MemTy (Scalar I8) end_of-MemTy);
  init = Bytes name;
}

abbrev pub declaration : List ℕ → List Ty → Function
declaration name params = record { name = name; ret = Void; params = map (λ t. (t, [])) params; blocks = []; prof = None }

-- some defined function has a select that a walk leads to
abbrev pub has_select : Function → Bool
has_select f = not (is_declared f) && not (length (graph_of f).selects == 0)

abbrev pub declarations : List Function → List Function
declarations fs =
    declaration increment_name (Ptr ∷ I64 ∷ I32 ∷ I32 ∷ [])
    ∷ declaration value_name (Ptr ∷ I64 ∷ I64 ∷ I32 ∷ I32 ∷ [])
    ∷ cond (list_any has_select fs) (declaration step_name (Ptr ∷ I64 ∷ I32 ∷ I32 ∷ I64 ∷ []) ∷ []) []

abbrev pub gen_plan : Bool → Module → ModulePlan
gen_plan entry_first m = record {
  functions = map (gen_function entry_first) m.functions;
  globals = map (λ (f : Function). record_global f.name) (filter (λ f. not (is_declared f)) m.functions);
  declarations = declarations m.functions;
}

-- the module that counts m
abbrev pub counted : Bool → Module → Module
counted entry_first m = counted_module (gen_plan entry_first m) m
