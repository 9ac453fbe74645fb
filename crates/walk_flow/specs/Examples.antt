-- The traversals of a loop, in two calls, to 0 and to 3:
--
--     define i64 @f(i64 %n) {
--     entry:
--       br label %head
--     head:
--       %i = phi i64 [ 0, %entry ], [ %j, %body ]
--       %c = icmp slt i64 %i, %n
--       br i1 %c, label %body, label %done
--     body:
--       %j = add i64 %i, 1
--       br label %head
--     done:
--       ret i64 %i
--     }
use Rattle.std.specs.Prelude.{◌≡◌, ℕ, ℤ, [], ◌∷◌, None, Some, false, refl, codes, pos}
use Rattle.ir_model.specs.declared.result.Call.{Call}
use Rattle.ir_tree.specs.Blocks.{block_with}
use Rattle.ir_tree.specs.Flows.{net}
use Rattle.ir_tree.specs.Functions.{is_profile_name}
use Rattle.ir_tree.specs.Graphs.{graph_of}
use Rattle.ir_tree.specs.Reach.{reached}
use Rattle.ir_tree.specs.declared.types.BinOp.TheVariants.{Add}
use Rattle.ir_tree.specs.declared.types.Block.{Block}
use Rattle.ir_tree.specs.declared.types.Function.{Function}
use Rattle.ir_tree.specs.declared.types.Instr.TheVariants.{Binary, Compare, Phi}
use Rattle.ir_tree.specs.declared.types.Module.{Module}
use Rattle.ir_tree.specs.declared.types.Operand.TheVariants.{Int, Local}
use Rattle.ir_tree.specs.declared.types.Pred.TheVariants.{Slt}
use Rattle.ir_tree.specs.declared.types.Ret.TheVariants as ret
use Rattle.ir_tree.specs.declared.types.Term.TheVariants.{Br, CondBr, Ret}
use Rattle.ir_tree.specs.declared.types.Ty.TheVariants.{I64}
use Rattle.walk_flow.specs.Traversed.{edge_traversals}

abbrev pub loop_entry : Block
loop_entry = block_with (codes "entry") [] (Br (codes "head"))

abbrev pub loop_head : Block
loop_head =
    block_with (codes "head")
    (Phi (codes "i") I64 ((Int 0, codes "entry") ∷ (Local (codes "j"), codes "body") ∷ []) ∷ Compare (codes "c") Slt I64 (Local (codes "i")) (Local (codes "n")) ∷ [])
    (CondBr (Local (codes "c")) (codes "body") (codes "done") None)

abbrev pub loop_body : Block
loop_body =
    block_with (codes "body")
    (Binary (codes "j") Add (record { nuw = false; nsw = false; exact = false }) I64 (Local (codes "i")) (Int 1) ∷ [])
    (Br (codes "head"))

abbrev pub loop_done : Block
loop_done = block_with (codes "done") [] (Ret (Some (I64, Local (codes "i"))))

abbrev pub loop : Function
loop = record { name = codes "f"; ret = ret.Value I64; params = (I64, codes "n") ∷ []; blocks = loop_entry ∷ loop_head ∷ loop_body ∷ loop_done ∷ []; prof = None }

abbrev pub counting : Module
counting = record { globals = []; functions = loop ∷ [] }

abbrev pub count_to : ℕ → Call
count_to n = record { function = 0; args = n ∷ [] }

-- both calls enter, 0 + 3 walks lead from the head to the body, and as many back
abbrev pub times : ℕ → ℤ
times j = edge_traversals counting 0 loop (count_to 0 ∷ count_to 3 ∷ []) 16 j

pub enters : times 0 ≡ pos 2
unfolding reached graph_of is_profile_name
enters = refl

pub head_to_body : times 2 ≡ pos 3
unfolding reached graph_of is_profile_name
head_to_body = refl

pub body_to_head : times 4 ≡ pos 3
unfolding reached graph_of is_profile_name
body_to_head = refl

-- the head, node 2, is balanced
pub head_balances : net (graph_of loop).edges times 2 ≡ pos 0
unfolding reached graph_of is_profile_name
head_balances = refl
