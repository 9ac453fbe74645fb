use Rattle.std.proofs.Common.{subst}
use Rattle.counted_accepted.proofs.Law.{room}
use Rattle.counted_accepted.proofs.laws.counters_are_few.Goals as goal
use Rattle.counted_rules.specs.Within.{IsWithin}
use Rattle.ir_rules.specs.declared.place.Kind.{Kind}

pub returns : goal.returns
returns c entry_first m accepted plain f at some =
    room entry_first m accepted plain (c.names_are_plain.ensures m accepted.formed plain) (subst (λ (kind : Kind). IsWithin kind m) plain ((c.limits_are_kept.ensures m).0 accepted.within)) (c.plain_can_be_counted.ensures m accepted plain) c.look_ups_tell.ensures.names c.graphs_stand.ensures.relation c.graphs_stand.ensures.whole f at some
