use Rattle.std.proofs.Common.{◌≡◌, ap, sym, ◌∙◌, List, Option, subst}
use Rattle.std.specs.Result.{IfOk}
use Rattle.check_flow.proofs.Parts.{exit_rule}
use Rattle.check_flow.specs.LookUps.{exit_places}
use Rattle.ir_rules.specs.Lists.{are_apart}
use Rattle.ir_rules.specs.declared.place.Place.{Place}
use Rattle.ir_tree.specs.Successors.{case_values}
use Rattle.ir_tree.specs.declared.types.Block.{Block}
use Rattle.spec_lists.specs.Each.{each, first_of}
use Rattle.check_flow.proofs.cases.first_case_again.Goals as goal

pub returns : goal.returns
returns c =
    let whole : first_of (each (exit_places (λ block. are_apart (case_values block.term)) c.args.k) 0 c.as_slice.result.now) ≡ first_of (each (exit_places (λ block. are_apart (case_values block.term)) c.args.k) 0 c.args.f.now.blocks) = ap (λ (blocks : List Block). first_of (each (exit_places (λ block. are_apart (case_values block.term)) c.args.k) 0 blocks)) c.as_slice.ensures in
    let rule = sym (ap (λ (ps : List Place). first_of ps) (exit_rule (λ f b block. are_apart (case_values block.term)) c.args.k c.args.f.now)) in
    subst (λ (o : Option Place). IfOk c.case_again_in.result (λ found. found ≡ o)) (whole ∙ rule) c.case_again_in.ensures
