-- The arguments are added in turn.
use Rattle.std.proofs.Common.{◌∙◌, ap₂}
use Rattle.std.proofs.lemmas.Result.{IfOk-weaker}
use Rattle.clap.specs.Words.{with_rule}
use Rattle.pgo_words.proofs.parting.command.Goals as goal

pub returns : goal.returns
returns c =
    let files = c.in_ok-files.ensures.shape c.files.ensures.local ∙ ap₂ with_rule c.bare.ensures c.files.ensures.rule in
    let steps = c.in_ok-steps.ensures.shape c.option.ensures.local ∙ ap₂ with_rule files c.option.ensures.rule in
    let workers = c.in_ok-workers.ensures.shape c.option-2.ensures.local ∙ ap₂ with_rule steps c.option-2.ensures.rule in
    let profile = c.in_ok-profile.ensures.shape c.option-3.ensures.local ∙ ap₂ with_rule workers c.option-3.ensures.rule in
    let entry_first = c.in_ok-entry_first.ensures.shape c.option-4.ensures.local ∙ ap₂ with_rule profile c.option-4.ensures.rule in
    let places = c.in_ok-places.ensures.shape c.option-5.ensures.local ∙ ap₂ with_rule entry_first c.option-5.ensures.rule in
    let room = c.in_ok-room.ensures.shape c.option-6.ensures.local ∙ ap₂ with_rule places c.option-6.ensures.rule in
    IfOk-weaker c.arg-8.result _ _ (λ r h. h.shape c.option-7.ensures.local ∙ ap₂ with_rule room c.option-7.ensures.rule) c.arg-8.ensures
