use Rattle.std.proofs.Common.{◌≡◌, ap, sym, List, Option, subst}
use Rattle.std.specs.Result.{IfOk}
use Rattle.check_flow.proofs.Parts.{item_rule}
use Rattle.ir_rules.specs.PhiEntries.{are_matched_if_any}
use Rattle.ir_rules.specs.declared.place.Place.{Place}
use Rattle.ir_tree.specs.Phis.{entries_of}
use Rattle.spec_lists.specs.Each.{first_of}
use Rattle.check_flow.proofs.entries.first_unmatched.Goals as goal

pub returns : goal.returns
returns c =
    let rule = sym (ap (λ (ps : List Place). first_of ps) (item_rule (λ f b block i x. are_matched_if_any f.blocks block.label (entries_of x)) c.args.k c.args.f.now)) in
    subst (λ (o : Option Place). IfOk c.unmatched_if_any.result (λ found. found ≡ o)) rule c.unmatched_if_any.ensures
