use Rattle.std.proofs.Common.{rules, not}
use Rattle.std.proofs.lemmas.Iterator.Consumers.{YieldsList-from_filter, map_from_collect}
use Rattle.std.proofs.lemmas.Iterator.{YieldsList-from_slice}
use borrow.Author.Tests.{tests}
use Rattle.ir_tree.specs.Functions.{is_profile_name}
use Rattle.ir_tree.proofs.numbering.numbered.Goals as goal

pub returns : goal.returns
returns c =
    map_from_collect _ c.collect.ensures.ran (YieldsList-from_filter _ (λ f. not (is_profile_name f.name))
    (YieldsList-from_slice c.args.functions.now cc)
    c.filter.ensures.closure (λ x b q k. search (rules, tests)))
