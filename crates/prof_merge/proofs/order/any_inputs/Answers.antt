use Rattle.prof_merge.specs.Inputs.{records_of}
use Rattle.prof_merge.proofs.OrderLemmas.{same_inputs, same_mode, modes_differ, one_profile}
use Rattle.prof_merge.proofs.order.any_inputs.Goals as goal

pub returns : goal.returns
returns c = record {
  one_merge = λ xs ys p q moved some hp hq.
      one_profile p q (same_mode xs ys p.entry_first q.entry_first moved some hp.mode hq.mode)
      (c.any_order.ensures.one_merge (records_of xs) (records_of ys) p.records q.records (same_inputs xs ys moved) hp.records hq.records);
  one_key = λ xs ys error other k l moved he ho ek el.
      c.any_order.ensures.one_key (records_of xs) (records_of ys) error other k l (same_inputs xs ys moved) he.records ho.records ek el;
  modes_differ = modes_differ;
}
