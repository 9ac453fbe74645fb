use Rattle.std.proofs.Common.{◌≡◌, ◌∙◌, sym, is_some}
use Rattle.std.proofs.lemmas.List.Folds.{list_all-map}
use Rattle.ir_tree.specs.Names.{first_place}
use Rattle.bench_graphs.proofs.graphable.labels_have.Goals as goal

pub returns : goal.returns
returns c = c.cases_have.ensures ∙ sym (list_all-map (λ to. is_some (first_place c.args.index.now to)) (λ case. case.1) c.args.cases.now)
