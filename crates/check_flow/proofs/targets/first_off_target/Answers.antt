use Rattle.std.proofs.Common.{ap, sym, ◌∙◌, List}
use Rattle.check_flow.proofs.Parts.{exit_rule}
use Rattle.check_flow.proofs.Inner.{targets_found}
use Rattle.check_flow.specs.LookUps.{are_inner, block_of, exit_places}
use Rattle.ir_rules.specs.Targets.{names_targets}
use Rattle.ir_rules.specs.declared.place.Place.{Place}
use Rattle.ir_tree.specs.declared.types.Block.{Block}
use Rattle.spec_lists.specs.Each.{each, first_of}
use Rattle.check_flow.proofs.targets.first_off_target.Goals as goal

pub returns : goal.returns
returns c =
    let f = c.args.f.now in
    let known = block_of c.args.known.now in
    let finds = c.look_ups_tell.ensures.names f c.requires.named in
    let all : List Block → List Place = λ (blocks : List Block). each (exit_places (λ block. are_inner known block.term) c.args.k) 0 blocks in
    c.off_target_in.ensures ∙ ap (λ (blocks : List Block). first_of (all blocks)) c.as_slice.ensures ∙ (λ i. first_of (each (exit_places (λ block. targets_found f finds c.args.known.now c.requires.known block.term i) c.args.k) 0 f.blocks)) ∙ sym (ap (λ (ps : List Place). first_of ps) (exit_rule (λ g b block. names_targets g block.term) c.args.k f))
