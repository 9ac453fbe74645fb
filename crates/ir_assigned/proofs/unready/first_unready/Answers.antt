use Rattle.std.proofs.Common.{◌≡◌, ◌∙◌, ◌<◌, ◌≢◌, ℕ, List, length, sym, ap, subst, refl, Some, arith, cond, ◌==◌, Bool, true, false}
use Rattle.ir_assigned.proofs.Decided.{first_spot, gathered, placed_by}
use Rattle.ir_assigned.proofs.InBlocks.{are_rows, some_blocks, uses_givers, uses_places}
use Rattle.ir_tree.specs.Edges.{rows}
use Rattle.ir_tree.specs.FunctionNames.{indexed}
use Rattle.ir_tree.specs.Locals.{first_local}
use Rattle.ir_tree.specs.Reach.{AreRows}
use Rattle.ir_tree.specs.declared.types.Block.{Block}
use Rattle.ir_assigned.proofs.unready.first_unready.Goals as goal

pub push_blocks-requires-clause-known : goal.push_blocks-requires-clause-known
push_blocks-requires-clause-known c n l h =
    let finds = c.look_ups_tell.ensures.names c.args.f.now c.requires.resolved.named in
    let within : l.block < length c.args.f.now.blocks = finds.within n l (sym (c.requires.known n) ∙ h) in
    omega (arith, within, c.requires.resolved.few)

pub first_use-requires-clause-few : goal.first_use-requires-clause-few
first_use-requires-clause-few c = subst (λ (bs : List Block). length bs < 4294967296) (sym c.as_slice-blocks.ensures) c.requires.resolved.few

pub first_use-requires-clause-graph : goal.first_use-requires-clause-graph
first_use-requires-clause-graph c = subst (λ (bs : List Block). AreRows (rows bs)) (sym c.as_slice-blocks.ensures) (are_rows c.args.f.now.blocks (some_blocks c.args.f.now c.requires.resolved.named.defined))

pub first_use-requires-clause-givers : goal.first_use-requires-clause-givers
first_use-requires-clause-givers c =
    uses_givers c.args.f.now.blocks (first_local c.args.f.now) (c.look_ups_tell.ensures.names c.args.f.now c.requires.resolved.named).within c.as_slice-2.result.now (rows c.as_slice-blocks.result.now) c.as_slice.result.now (c.as_slice-2.ensures.value ∙ c.in_ok-uses.ensures) (c.as_slice.ensures.value ∙ gathered c.args.f.now (indexed c.args.known.now) c.requires.known c.new-reads.result.items c.push_blocks.new.reads.items c.as_slice-blocks.result.now c.new-reads.ensures.items c.as_slice-blocks.ensures c.in_ok-push_blocks.ensures) (ap rows c.as_slice-blocks.ensures)

pub first_use-requires-clause-places : goal.first_use-requires-clause-places
first_use-requires-clause-places c =
    uses_places c.args.f.now.blocks (first_local c.args.f.now) (c.look_ups_tell.ensures.names c.args.f.now c.requires.resolved.named).within c.as_slice-2.result.now (rows c.as_slice-blocks.result.now) c.as_slice.result.now (c.as_slice-2.ensures.value ∙ c.in_ok-uses.ensures) (c.as_slice.ensures.value ∙ gathered c.args.f.now (indexed c.args.known.now) c.requires.known c.new-reads.result.items c.push_blocks.new.reads.items c.as_slice-blocks.result.now c.new-reads.ensures.items c.as_slice-blocks.ensures c.in_ok-push_blocks.ensures) (ap rows c.as_slice-blocks.ensures)

pub returns : goal.returns
returns c =
    c.spot_of.ensures ∙ first_spot c.args.f.now c.requires.resolved (c.look_ups_tell.ensures.names c.args.f.now c.requires.resolved.named) (c.look_ups_tell.ensures.registers c.args.f.now c.requires.resolved.named) c.as_slice-3.result.now c.in_ok-found.found
    (c.as_slice-3.ensures.value ∙ gathered c.args.f.now (indexed c.args.known.now) c.requires.known c.new-reads.result.items c.push_blocks.new.reads.items c.as_slice-blocks.result.now c.new-reads.ensures.items c.as_slice-blocks.ensures c.in_ok-push_blocks.ensures)
    (placed_by c.args.f.now.blocks c.as_slice-2.result.now (rows c.as_slice-blocks.result.now) c.as_slice.result.now c.as_slice-3.result.now c.in_ok-found.found (ap rows c.as_slice-blocks.ensures) (c.as_slice-2.ensures.value ∙ c.in_ok-uses.ensures) (c.as_slice.ensures.value ∙ sym c.as_slice-3.ensures.value) c.in_ok-found.ensures)
