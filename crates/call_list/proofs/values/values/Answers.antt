use Rattle.std.proofs.Common.{◌≡◌, ◌∙◌, ℕ, List, Bor, map, ap}
use Rattle.std.proofs.lemmas.List.{length-map}
use Rattle.std.specs.Option.{ok_or}
use Rattle.call_list.specs.declared.line.LineError.TheVariants as fault
use Rattle.call_list.proofs.ValueLemmas.{values_of-uneven, behind}
use Rattle.call_list.proofs.values.values.Goals as goal

pub returns-then-params-words : goal.returns-then-params-words
returns-then-params-words c = ap (λ o. ok_or o fault.BadArgs) (values_of-uneven c.args.params.now (map (λ w. w.now) c.args.words.now) (λ e. c.if-params-words.true (e ∙ length-map c.args.words.now (λ (w : Bor (List ℕ)). w.now))))
