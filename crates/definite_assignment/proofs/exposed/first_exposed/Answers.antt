use Rattle.std.proofs.Common.{◌≡◌, ◌∙◌, ℕ, List, length, position, sym, ap, subst, All, ◌<◌, Option, IfOk}
use Rattle.definite_assignment.proofs.Small.{blocks_of, first_tag}
use Rattle.definite_assignment.specs.Chunks.{AreBlocks, is_open_tag}
use Rattle.definite_assignment.specs.Uses.{is_exposed}
use Rattle.definite_assignment.specs.declared.givers.Tagged.{Tagged}
use Rattle.definite_assignment.specs.declared.givers.Use.{Use}
use Rattle.definite_assignment.proofs.exposed.first_exposed.Goals as goal

pub first_open-requires-clause-blocks : goal.first_open-requires-clause-blocks
first_open-requires-clause-blocks c =
    let in_blocks : AreBlocks (length c.args.rows.now) c.in_ok-of.of.tagged.items = blocks_of c.in_ok-of.of.tagged.items (length c.args.rows.now) (subst (λ (us : List Use). All (λ (u : Use). u.at < length c.args.rows.now) us) (sym c.in_ok-of.ensures.uses) c.requires.places) in
    subst (λ (ts : List Tagged). AreBlocks (length c.args.rows.now) ts) (sym c.as_slice-2.ensures.value) in_blocks

pub returns : goal.returns
returns c =
    let same : position (is_exposed c.args.rows.now) c.args.uses.now ≡ position (is_open_tag c.args.rows.now) c.as_slice-2.result.now =
    ap (λ (us : List Use). position (is_exposed c.args.rows.now) us) (sym c.in_ok-of.ensures.uses) ∙ (first_tag c.args.rows.now c.in_ok-of.of.tagged.items ∙ ap (λ (ts : List Tagged). position (is_open_tag c.args.rows.now) ts) (sym c.as_slice-2.ensures.value)) in
    subst (λ (o : Option ℕ). IfOk c.first_open.result (λ found. found ≡ o)) (sym same) c.first_open.ensures
