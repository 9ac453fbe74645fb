use Rattle.std.proofs.Common.{◌≡◌, ◌≤◌, length, subst, IfOk, IfErr, Result}
use Rattle.prof_view.specs.Profile.{ProfileInput}
use Rattle.prof_view.specs.Spelled.{Refuses, Spells, text_most}
use Rattle.prof_view.specs.declared.error.ViewError.{ViewError}
use Rattle.command_profiles.proofs.AnswerLemmas.{said}
use Rattle.command_profiles.proofs.reading.judged.Goals as goal

pub returns-in-Ok-clause-found : goal.returns-in-Ok-clause-found
returns-in-Ok-clause-found c text reading =
    let spelled : Spells text c.in-Ok.view = subst (λ (r : Result ProfileInput ViewError). IfOk r (Spells text)) c.in-Ok.is reading.spelled in
    let fits : length text ≤ text_most = subst (λ (r : Result ProfileInput ViewError). IfOk r (λ _. length text ≤ text_most)) c.in-Ok.is reading.within in
    record {
      is = record { fits = fits; spelled = spelled };
      only = λ q other. c.one_profile.ensures text q c.in-Ok.view other spelled;
    }

pub returns-in-Err-clause-refuses : goal.returns-in-Err-clause-refuses
returns-in-Err-clause-refuses c text reading =
    said c.args.name.now text c.in-Err.error c.refused_profile.result c.refused_profile.ensures
    (subst (λ (r : Result ProfileInput ViewError). IfErr r (Refuses text)) c.in-Err.is reading.refused)
