use Rattle.std.proofs.Common.{ℕ, List, Bor, sym, ◌∙◌}
use Rattle.std.proofs.lemmas.List.Folds.{list_all-map}
use Rattle.call_list.specs.Form.{is_argument}
use Rattle.call_list.proofs.line.are_arguments.Goals as goal

pub returns-clause-value : goal.returns-clause-value
returns-clause-value c = c.all_arguments.ensures.value ∙ sym (list_all-map is_argument (λ (w : Bor (List ℕ)). w.now) c.args.words.now)
