use Rattle.std.proofs.Common.{refl, length, slice_index, sym, subst, ◌∙◌, ap, arith, ◌*◌, ◌+◌, ◌^◌, List, ℤ, drop}
use Rattle.flow_solve.specs.Nets.{pay_all, AreWithin}
use Rattle.flow_solve.proofs.Paying.{is_edge, ends_in, room, stays_within, one_further, starts_within, ends_within_limit}
use Rattle.flow_solve.proofs.nets.pay_counters.Goals as goal

pub loop-c-init : goal.loop-c-init
loop-c-init c = record { paid = refl; within = starts_within c.args.nets.now c.requires.none }

pub bounds-ends-k : goal.bounds-ends-k
bounds-ends-k c = omega (arith, is_edge c.args.edges.now c.args.counted.now c.args.counters.now c.args.ends.now c.args.nets.now c.loop-c.nets c.loop-c.c c.requires.nodes c.requires.rising c.requires.edges c.requires.few c.requires.counters c.loop-c-test.true, c.requires.places)

pub bounds-edges-k : goal.bounds-edges-k
bounds-edges-k c = is_edge c.args.edges.now c.args.counted.now c.args.counters.now c.args.ends.now c.args.nets.now c.loop-c.nets c.loop-c.c c.requires.nodes c.requires.rising c.requires.edges c.requires.few c.requires.counters c.loop-c-test.true

pub pay_outside-requires-clause-from : goal.pay_outside-requires-clause-from
pay_outside-requires-clause-from c = (ends_in c.args.edges.now c.args.counted.now c.args.counters.now c.args.ends.now c.args.nets.now c.loop-c.nets c.loop-c.c c.requires.nodes c.requires.rising c.requires.edges c.requires.few c.requires.counters c.loop-c-test.true (length c.loop-c.nets) c.loop-c.auto.nets).0

pub pay_outside-requires-clause-to : goal.pay_outside-requires-clause-to
pay_outside-requires-clause-to c = (ends_in c.args.edges.now c.args.counted.now c.args.counters.now c.args.ends.now c.args.nets.now c.loop-c.nets c.loop-c.c c.requires.nodes c.requires.rising c.requires.edges c.requires.few c.requires.counters c.loop-c-test.true (length c.loop-c.nets) c.loop-c.auto.nets).1

pub pay_outside-requires-clause-within : goal.pay_outside-requires-clause-within
pay_outside-requires-clause-within c = room c.args.edges.now c.args.counted.now c.args.counters.now c.args.ends.now c.args.nets.now c.loop-c.nets c.loop-c.c c.requires.nodes c.requires.rising c.requires.edges c.requires.few c.requires.counters c.loop-c-test.true c.loop-c.invariant.within

pub loop-c-preserved : goal.loop-c-preserved
loop-c-preserved c = record {
  paid = ap (λ (nets : List ℤ). pay_all c.args.edges.now c.args.ends.now (drop (c.loop-c.c + 1) c.args.counted.now) (drop (c.loop-c.c + 1) c.args.counters.now) nets) c.pay_outside.ensures ∙ sym (one_further c.args.edges.now c.args.counted.now c.args.counters.now c.args.ends.now c.args.nets.now c.loop-c.nets c.loop-c.c c.requires.nodes c.requires.rising c.requires.edges c.requires.few c.requires.counters c.loop-c-test.true) ∙ c.loop-c.invariant.paid;
  within = subst (λ (nets : List ℤ). AreWithin (2 ^ 65 * (c.loop-c.c + 1)) nets) (sym c.pay_outside.ensures) (stays_within c.args.edges.now c.args.counted.now c.args.counters.now c.args.ends.now c.args.nets.now c.loop-c.nets c.loop-c.c c.requires.nodes c.requires.rising c.requires.edges c.requires.few c.requires.counters c.loop-c-test.true (slice_index c.args.ends.now (slice_index c.args.counted.now c.loop-c.c)) (slice_index c.args.counters.now c.loop-c.c) (c.type_inv.counters c.loop-c.c).fits c.loop-c.auto.nets c.loop-c.invariant.within);
}

pub returns-clause-within : goal.returns-clause-within
returns-clause-within c = ends_within_limit c.args.counted.now (length c.args.edges.now) c.loop-c.c c.loop-c.nets c.requires.rising c.requires.edges c.requires.few c.loop-c.auto.c-end c.loop-c.invariant.within
