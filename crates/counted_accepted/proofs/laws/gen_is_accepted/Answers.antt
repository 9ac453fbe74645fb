use Rattle.counted_accepted.proofs.LimitsKept.{is_counted, limits_kept}
use Rattle.counted_accepted.proofs.laws.gen_is_accepted.Goals as goal

pub returns-clause-accepted : goal.returns-clause-accepted
returns-clause-accepted c entry_first m accepted plain = record {
  within = limits_kept entry_first m accepted plain (c.names_are_plain.ensures m accepted.formed plain) c.limits_are_kept.ensures c.functions_grow_little.ensures;
  formed = c.counted_is_formed.ensures entry_first m accepted plain;
}

pub returns-clause-kind : goal.returns-clause-kind
returns-clause-kind c entry_first m accepted plain = is_counted entry_first m accepted plain (c.names_are_plain.ensures m accepted.formed plain) c.limits_are_kept.ensures c.functions_grow_little.ensures
