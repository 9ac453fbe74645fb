use Rattle.prof_text.proofs.OrderLemmas.{reordered, one_merge, one_key, merged_or_not}
use Rattle.prof_text.proofs.order.any_order.Goals as goal

pub returns : goal.returns
returns c = record { reordered = reordered; one_merge = one_merge; one_key = one_key; merged_or_not = merged_or_not }
