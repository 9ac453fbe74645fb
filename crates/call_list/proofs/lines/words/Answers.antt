use Rattle.std.proofs.Common.{rules, not, length, nat_eq}
use Rattle.std.proofs.lemmas.Iterator.Consumers.{YieldsList-from_filter, map_from_collect}
use Rattle.std.proofs.lemmas.Iterator.Splits.{YieldsList-from_slice_split}
use borrow.Author.Tests.{tests}
use Rattle.call_list.specs.Lines.{is_blank, words_of}
use Rattle.call_list.proofs.lines.words.Goals as goal

pub returns : goal.returns
unfolding words_of
returns c =
    map_from_collect _ c.collect.ensures.ran (YieldsList-from_filter _ (λ w. not (nat_eq (length w) 0))
    (YieldsList-from_slice_split _ is_blank c.args.line.now (cc) (cc) (cc) (λ x b q k. search (rules, tests)))
    c.filter.ensures.closure (λ x b q k. search (rules, tests)))
