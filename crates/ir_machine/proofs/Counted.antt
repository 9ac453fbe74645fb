-- The edges of a graph are edges that a run is counted by.
use Rattle.std.proofs.Common.{◌≡◌, ◌⊎◌, inl, inr, ℕ, zero, suc, ◌<◌, List, [], ◌∷◌, length, Option, None, Some, slice_get, sym, subst, arith}
use Rattle.std.specs.Prelude.{max}
use Rattle.std.proofs.lemmas.Option.{slice_get_within}
use Rattle.ir_tree.specs.Functions.{function_at}
use Rattle.ir_tree.specs.Graphs.{FlowGraph}
use Rattle.ir_tree.specs.declared.edge.Edge.{Edge}
use Rattle.ir_tree.specs.declared.types.Block.{Block}
use Rattle.ir_tree.specs.declared.types.Function.{Function}
use Rattle.ir_tree.specs.declared.types.Module.{Module}
use Rattle.cfg_edges.specs.Graph.{successors_of, IsBranch, IsExit, Stands, EdgesStand}
use Rattle.ir_machine.specs.Slots.{HasEdge, HasEdgeIn, IsWayOut}

way_out : (blocks : List Block) (b p : ℕ) → b < length blocks → p < max 1 (length (successors_of blocks b)) → IsWayOut (slice_get blocks b) p
way_out [] b p within h = absurd (omega (arith, within))
way_out (block ∷ blocks) zero p within h = h
way_out (block ∷ blocks) (suc b) p within h = way_out blocks b p (omega (arith, within)) h

leads_out : (f : Function) (g : FlowGraph) (b : ℕ) (e : Edge) → IsBranch f g b e ⊎ IsExit f b e → e.position < max 1 (length (successors_of f.blocks b))
leads_out f g b e (inl branch) =
    let inside = slice_get_within (successors_of f.blocks b) e.position branch.to branch.successor in omega (arith, inside)
leads_out f g b e (inr out) = let first = out.position in omega (arith, first)

leaves_by : (f : Function) (g : FlowGraph) (e : Edge) (block : Option ℕ) → 0 < length f.blocks → Stands f g e block → HasEdgeIn (Some f) block e.position
leaves_by f g e None some s = some
leaves_by f g e (Some b) some s = way_out f.blocks b e.position s.within (leads_out f g b e s.leads)

pub has_edge : (m : Module) (k : ℕ) (f : Function) (g : FlowGraph) → function_at m k ≡ Some f → 0 < length f.blocks → EdgesStand f g → (n : ℕ) (e : Edge) → slice_get g.edges n ≡ Some e → HasEdge m k e.block e.position
has_edge m k f g at some stand n e here =
    subst (λ (o : Option Function). HasEdgeIn o e.block e.position) (sym at) (leaves_by f g e e.block some (stand n e here))
