use Rattle.std.proofs.Common.{◌≡◌, length, sym, ◌∙◌, rules, vec_len}
use Rattle.command_profiles.proofs.AnswerLemmas.{as_many}
use Rattle.command_profiles.proofs.reading.profiles.Goals as goal

pub collected-requires : goal.collected-requires
collected-requires g c =
    let len : vec_len c.in_ok-answers.answers ≡ length c.in_ok-answers.answers.items = search rules in
    len ∙ (sym (as_many c.args.texts.now c.in_ok-answers.answers.items c.in_ok-answers.ensures) ∙ c.requires.names)
