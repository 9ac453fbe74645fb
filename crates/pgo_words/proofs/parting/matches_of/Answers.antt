-- Clap's answer is the parts of the words.
use Rattle.std.proofs.Common.{◌≡◌, ap, ◌∙◌}
use Rattle.clap.specs.Words.{is_simple, is_simple_and_free}
use Rattle.pgo_words.specs.declared.error.WordsError.TheVariants as words
use Rattle.pgo_words.proofs.Parted.{are_texts, has_no_parts, has_parts, line_is_free, line_is_simple}
use Rattle.pgo_words.proofs.parting.matches_of.Goals as goal

pub returns-in-Ok-clause-parted : goal.returns-in-Ok-clause-parted
returns-in-Ok-clause-parted c =
    has_parts _ _ _ (are_texts c.args.words.now) c.in_ok-command.ensures
    (c.in-Ok.ensures.matches (ap is_simple c.in_ok-command.ensures ∙ line_is_simple)).0
    (c.in-Ok.ensures.kinds (ap is_simple_and_free c.in_ok-command.ensures ∙ line_is_free))

pub returns-in-Err-clause-usage : goal.returns-in-Err-clause-usage
returns-in-Err-clause-usage c is =
    let same : c.words_error.result ≡ words.Usage = cc in
    has_no_parts _ c.in-Err.error _ (are_texts c.args.words.now) c.in_ok-command.ensures
    (c.in-Err.ensures.kinds (ap is_simple_and_free c.in_ok-command.ensures ∙ line_is_free)) (c.words_error.ensures.usage same)
