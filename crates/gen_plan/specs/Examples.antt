-- Counted functions, by hand.
use Rattle.std.specs.Prelude.{◌≡◌, ℕ, List, [], ◌∷◌, codes, None, Some, refl}
use Rattle.std.specs.Fmt.{digits}
use Rattle.cfg_edges.specs.Examples.{leaving}
use Rattle.cfg_tree.specs.Examples.{parallel}
use Rattle.count_plan.specs.Calls.{increment_name, no_flags, step_name, value_name}
use Rattle.count_plan.specs.Counted.{counted_function}
use Rattle.gen_plan.specs.Gen.{gen_with}
use Rattle.ir_tree.specs.Blocks.{block_with}
use Rattle.ir_tree.specs.Edges.{entry_edge}
use Rattle.ir_tree.specs.Graphs.{FlowGraph, flow_graph, graph_of}
use Rattle.ir_tree.specs.Locals.{block_locals, locals}
use Rattle.ir_tree.specs.Reach.{reached}
use Rattle.ir_tree.specs.declared.types.Block.{Block}
use Rattle.ir_tree.specs.declared.types.ConvOp.TheVariants.{ZExt, PtrToInt}
use Rattle.ir_tree.specs.declared.types.Function.{Function}
use Rattle.ir_tree.specs.declared.types.Instr.{Instr}
use Rattle.ir_tree.specs.declared.types.Instr.TheVariants.{Call, Convert, Phi, Select}
use Rattle.ir_tree.specs.declared.types.Operand.TheVariants.{Int, Local, Global}
use Rattle.ir_tree.specs.declared.types.Ret.TheVariants.{Void, Value}
use Rattle.ir_tree.specs.declared.types.Term.TheVariants.{Br, CondBr, Ret}
use Rattle.ir_tree.specs.declared.types.Ty.{Ty}
use Rattle.ir_tree.specs.declared.types.Ty.TheVariants.{I1, I32, I64, Ptr}

abbrev pub function : List (Ty × List ℕ) → List Block → Function
function params blocks = record { name = codes "p"; ret = Value I64; params = params; blocks = blocks; prof = None }

-- `call void @llvm.instrprof.increment(ptr @__profn_p, i64 77, i32 COUNTERS, i32 COUNTER)`
abbrev pub rise : ℕ → ℕ → Instr
rise counters counter =
    Call None Void (Global (codes "llvm.instrprof.increment")) ((Ptr, Global (codes "__profn_p")) ∷ (I64, Int 77) ∷ (I32, Int counters) ∷ (I32, Int counter) ∷ []) None

-- ---- two parallel edges
--
--     define i64 @p(i1 %c) {
--     entry:
--       br i1 %c, label %j, label %j
--     j:
--       %x = phi i64 [ 7, %entry ], [ 7, %entry ]
--       ret i64 %x
--     }
--
-- Edge 2, the second of them, and the exit are counted.

abbrev pub condition : List (Ty × List ℕ)
condition = (I1, codes "c") ∷ []

abbrev pub joining : List ℕ → List ℕ → Instr
joining first second = Phi (codes "x") I64 ((Int 7, first) ∷ (Int 7, second) ∷ [])

abbrev pub parallel_function : Function
parallel_function =
    function condition (
    block_with (codes "entry") [] (CondBr (Local (codes "c")) (codes "j") (codes "j") None)
    ∷ block_with (codes "j") (joining (codes "entry") (codes "entry") ∷ []) (Ret (Some (I64, Local (codes "x")))) ∷ [])

pub parallel_graph : graph_of parallel_function ≡ parallel
unfolding graph_of reached
parallel_graph = refl

pub parallel_counted : counted_function (gen_with parallel_function parallel (2 ∷ 3 ∷ []) 77) parallel_function ≡ function condition (
    block_with (codes "entry") [] (CondBr (Local (codes "c")) (codes "j") (codes "pgo.edge.2") None)
    ∷ block_with (codes "pgo.edge.2") (rise 2 0 ∷ []) (Br (codes "j"))
    ∷ block_with (codes "j") (joining (codes "pgo.edge.2") (codes "entry") ∷ rise 2 1 ∷ []) (Ret (Some (I64, Local (codes "x")))) ∷ [])
unfolding digits locals block_locals increment_name
parallel_counted = refl

-- ---- every edge counted, at each of the three places
--
--     entry:
--       br i1 %c, label %a, label %j
--     a:
--       br label %j
--     j:
--       %x = phi i64 [ 7, %entry ], [ 7, %a ]
--       ret i64 %x
--
-- Edge 1 is counted at the head of `a`, which no other edge enters; edge 2 is critical; edges 3 and 4 are counted before the
-- terminators of their tails, and edge 0 at the head of the entry.

abbrev pub triangle_function : Function
triangle_function =
    function condition (
    block_with (codes "entry") [] (CondBr (Local (codes "c")) (codes "a") (codes "j") None)
    ∷ block_with (codes "a") [] (Br (codes "j"))
    ∷ block_with (codes "j") (joining (codes "entry") (codes "a") ∷ []) (Ret (Some (I64, Local (codes "x")))) ∷ [])

abbrev pub triangle : FlowGraph
triangle = flow_graph (0 ∷ 1 ∷ 2 ∷ []) (entry_edge ∷ leaving 0 0 1 2 ∷ leaving 0 1 1 3 ∷ leaving 1 0 2 3 ∷ leaving 2 0 3 0 ∷ []) [] []

pub triangle_graph : graph_of triangle_function ≡ triangle
unfolding graph_of reached
triangle_graph = refl

pub triangle_counted : counted_function (gen_with triangle_function triangle (0 ∷ 1 ∷ 2 ∷ 3 ∷ 4 ∷ []) 77) triangle_function ≡ function condition (
    block_with (codes "entry") (rise 5 0 ∷ []) (CondBr (Local (codes "c")) (codes "a") (codes "pgo.edge.2") None)
    ∷ block_with (codes "pgo.edge.2") (rise 5 2 ∷ []) (Br (codes "j"))
    ∷ block_with (codes "a") (rise 5 1 ∷ rise 5 3 ∷ []) (Br (codes "j"))
    ∷ block_with (codes "j") (joining (codes "pgo.edge.2") (codes "a") ∷ rise 5 4 ∷ []) (Ret (Some (I64, Local (codes "x")))) ∷ [])
unfolding digits locals block_locals increment_name
triangle_counted = refl

-- ---- a select and a call through a register; a parameter has a name that would be new
--
--     entry:
--       %x = select i1 %c, i64 4, i64 9
--       %y = call i64 %q(i64 %x)
--       ret i64 %y

abbrev pub watching_params : List (Ty × List ℕ)
watching_params = (I1, codes "c") ∷ (Ptr, codes "q") ∷ (I64, codes "pgo.select.0") ∷ []

abbrev pub selecting : Instr
selecting = Select (codes "x") (Local (codes "c")) I64 (Int 4) (Int 9) None

abbrev pub calling : Instr
calling = Call (Some (codes "y")) (Value I64) (Local (codes "q")) ((I64, Local (codes "x")) ∷ []) None

abbrev pub watching_function : Function
watching_function = function watching_params (block_with (codes "entry") (selecting ∷ calling ∷ []) (Ret (Some (I64, Local (codes "y")))) ∷ [])

abbrev pub watching : FlowGraph
watching = flow_graph (0 ∷ []) (entry_edge ∷ leaving 0 0 1 0 ∷ []) ((0, 1) ∷ []) ((0, 0) ∷ [])

pub watching_graph : graph_of watching_function ≡ watching
unfolding graph_of reached
watching_graph = refl

pub watching_counted : counted_function (gen_with watching_function watching (1 ∷ []) 77) watching_function ≡ function watching_params (
    block_with (codes "entry") (
    Convert (codes "pgo.select.0.1") ZExt no_flags I1 (Local (codes "c")) I64
    ∷ Call None Void (Global (codes "llvm.instrprof.increment.step")) ((Ptr, Global (codes "__profn_p")) ∷ (I64, Int 77) ∷ (I32, Int 2) ∷ (I32, Int 1) ∷ (I64, Local (codes "pgo.select.0.1")) ∷ []) None
    ∷ selecting
    ∷ Convert (codes "pgo.target.0") PtrToInt no_flags Ptr (Local (codes "q")) I64
    ∷ Call None Void (Global (codes "llvm.instrprof.value.profile")) ((Ptr, Global (codes "__profn_p")) ∷ (I64, Int 77) ∷ (I64, Local (codes "pgo.target.0")) ∷ (I32, Int 0) ∷ (I32, Int 0) ∷ []) None
    ∷ calling
    ∷ rise 2 0 ∷ []) (Ret (Some (I64, Local (codes "y")))) ∷ [])
unfolding digits locals block_locals increment_name step_name value_name
watching_counted = refl
