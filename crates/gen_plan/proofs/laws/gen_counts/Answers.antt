use Rattle.gen_plan.specs.Gen.{gen_plan}
use Rattle.gen_plan.specs.GenImage.{gen_image}
use Rattle.gen_plan.proofs.Law.{gen_fits}
use Rattle.gen_plan.proofs.laws.gen_counts.Goals as goal

pub returns-clause-alike : goal.returns-clause-alike
returns-clause-alike c entry_first m can =
    c.counting_behaves.ensures.alike (gen_plan entry_first m) (gen_image entry_first m) 4 1 m
    (gen_fits
    (λ f graph. record {
      relation = c.graphs_stand.ensures.relation f graph;
      whole = c.graphs_stand.ensures.whole f graph;
      edges = c.graphs_stand.ensures.edges f graph;
      each_way = c.graphs_stand.ensures.each f graph;
      nodes = c.graphs_stand.ensures.nodes f graph;
      onward = c.graphs_stand.ensures.successors f graph;
    })
    entry_first m can)

pub returns-clause-marks : goal.returns-clause-marks
returns-clause-marks c entry_first m can =
    c.counting_behaves.ensures.marks (gen_plan entry_first m) (gen_image entry_first m) 4 1 m
    (gen_fits
    (λ f graph. record {
      relation = c.graphs_stand.ensures.relation f graph;
      whole = c.graphs_stand.ensures.whole f graph;
      edges = c.graphs_stand.ensures.edges f graph;
      each_way = c.graphs_stand.ensures.each f graph;
      nodes = c.graphs_stand.ensures.nodes f graph;
      onward = c.graphs_stand.ensures.successors f graph;
    })
    entry_first m can)
