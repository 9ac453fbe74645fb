use Rattle.std.proofs.lemmas.Result.{on_ok_weaker}
use Rattle.prof_text.specs.Text.{counters_text}
use Rattle.prof_text.proofs.TextLemmas.{four}
use Rattle.prof_text.proofs.writer.push_all_counters.Goals as goal

pub returns : goal.returns
unfolding counters_text
returns c =
    on_ok_weaker c.push_counters.result
    (λ e. four c.args.out.now.items _ _ _ _ _ _ _ _ c.in_ok-push.ensures c.in_ok-push_number_line.ensures c.in_ok-push-2.ensures e)
    c.push_counters.ensures
