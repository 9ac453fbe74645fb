use Rattle.std.proofs.Common.{arith}
use Rattle.gen_module.proofs.Places.{at_among}
use Rattle.gen_module.proofs.laws.plain_have_plans.Goals as goal

pub returns : goal.returns
returns c entry_first m accepted plain j f at some =
    let can = c.plain_can_be_counted.ensures m accepted plain in
    let few = c.counters_are_few.ensures entry_first m accepted plain f (at_among m.functions j f at) some in
    record {
      graph = can.graphs j f at some;
      few_counters = omega (arith, few);
      few_names = can.few_names j f at;
    }
