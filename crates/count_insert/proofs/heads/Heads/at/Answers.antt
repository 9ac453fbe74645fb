use Rattle.std.proofs.Common.{◌≡◌, [], unwrap_or, ap, ◌∙◌}
use Rattle.count_insert.proofs.heads.Heads.at.Goals as goal
use Rattle.indexmap.specs.IndexMap.{get_by}
use Rattle.ir_tree.specs.Names.{same}

pub returns-in-Some : goal.returns-in-Some
returns-in-Some c =
    c.as_slice.ensures ∙ ap (λ o. unwrap_or o []) (c.in-Some.ensures.value ∙ ap (λ n. get_by (same n) c.args.self.now.lists) c.bytes.ensures)

pub returns-in-None : goal.returns-in-None
returns-in-None c =
    ap (λ o. unwrap_or o []) (c.in-None.ensures.value ∙ ap (λ n. get_by (same n) c.args.self.now.lists) c.bytes.ensures)
