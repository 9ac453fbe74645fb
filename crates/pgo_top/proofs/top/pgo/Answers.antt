-- A command that is `Done`, in its own words.
use Rattle.command_chain.specs.Laws.{chain_stands}
use Rattle.command_check.specs.Laws.{check_stands}
use Rattle.command_gen.specs.Laws.{gen_stands}
use Rattle.command_lower.specs.Laws.{lower_stands}
use Rattle.command_merge.specs.Laws.{merge_stands}
use Rattle.command_print.specs.Laws.{print_stands}
use Rattle.command_run.specs.Laws.{run_stands}
use Rattle.command_show.specs.Laws.{show_stands}
use Rattle.pgo_top.specs.Asked as asked
use Rattle.pgo_top.proofs.top.pgo.Goals as goal

pub returns-clause-check : goal.returns-clause-check
returns-clause-check g c f is done told = check_stands f _ _ told ((c.perform_words.ensures.promises (asked.AsksCheck f) is).done done told)

pub returns-clause-print : goal.returns-clause-print
returns-clause-print g c f is done told = print_stands f _ _ told ((c.perform_words.ensures.promises (asked.AsksPrint f) is).done done told)

pub returns-clause-counts : goal.returns-clause-counts
returns-clause-counts g c f is done told =
    gen_stands c.plain_modules_are_made.ensures f _ _ told ((c.perform_words.ensures.promises (asked.AsksGen f) is).done done told)

pub returns-clause-lower : goal.returns-clause-lower
returns-clause-lower g c f is done told =
    lower_stands c.modules_are_lowered.ensures f _ _ told ((c.perform_words.ensures.promises (asked.AsksLower f) is).done done told)

pub returns-clause-run : goal.returns-clause-run
returns-clause-run g c f is done told = run_stands f _ _ told ((c.perform_words.ensures.promises (asked.AsksRun f) is).done done told)

pub returns-clause-chain : goal.returns-clause-chain
returns-clause-chain g c f is done told = chain_stands f _ _ told ((c.perform_words.ensures.promises (asked.AsksChain f) is).done done told)

pub returns-clause-merge : goal.returns-clause-merge
returns-clause-merge g c f is done told = merge_stands f _ _ told ((c.perform_words.ensures.promises (asked.AsksMerge f) is).done done told)

pub returns-clause-show : goal.returns-clause-show
returns-clause-show g c f is done told = show_stands f _ _ told ((c.perform_words.ensures.promises (asked.AsksShow f) is).done done told)
