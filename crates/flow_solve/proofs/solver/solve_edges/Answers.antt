use Rattle.std.proofs.Common.{rules, ◌≡◌, ◌<◌, ◌≤◌, [], ◌∷◌, length, replicate, pos, arith}
use Rattle.std.proofs.lemmas.Result.{err_from_is_err_and}
use Rattle.flow_solve.proofs.Solution.{joins_some_of, joins_none_of, solution_of, refuses, entry_is_off, solved, ends_are_nodes}
use Rattle.flow_solve.proofs.Unique.{grows_weaker}
use Rattle.flow_solve.proofs.solver.solve_edges.Goals as goal

pub find_ends-requires-clause-order : goal.find_ends-requires-clause-order
find_ends-requires-clause-order c = grows_weaker c.args.edges.now c.args.nodes 0 (0 ∷ []) c.args.order.now (λ v lt. absurd (omega arith)) c.requires.order

pub write_values-requires-clause-ends : goal.write_values-requires-clause-ends
write_values-requires-clause-ends c =
    let room : c.args.nodes ≤ length c.merge_nets.new.nets = omega arith in
    ends_are_nodes c.args.edges.now c.args.order.now c.find_ends.new.ends c.args.nodes (length c.merge_nets.new.nets) c.find_ends.ensures.joins c.requires.nodes c.find_ends.ensures.others c.requires.some room

pub returns-in_err-write_values-clause-err : goal.returns-in_err-write_values-clause-err
returns-in_err-write_values-clause-err c =
    let bare : c.fill.new.self ≡ replicate (length c.fill.new.self) (pos 0) = search rules in
    let room : c.args.nodes ≤ length c.fill.new.self = omega arith in
    let p = err_from_is_err_and c.from_residual.result c.from_residual.ensures.1 in
    rw (p.1, p.2) (refuses c.args.edges.now c.args.order.now c.args.counted.now c.args.counters.now c.find_ends.new.ends c.merge_nets.new.nets c.requires.counted c.requires.counters (λ i. (c.type_inv.counters i).fits) (joins_some_of c.args.edges.now c.args.nodes c.args.order.now c.args.counted.now c.args.counters.now c.find_ends.new.ends c.fill.new.self c.pay_counters.new.nets c.merge_nets.new.nets c.requires.order c.requires.nodes c.requires.counted c.requires.counters c.find_ends.ensures.joins c.find_ends.ensures.others (length c.fill.new.self) bare room c.pay_counters.ensures.nets c.merge_nets.ensures.nets) (joins_none_of c.args.edges.now c.args.nodes c.args.order.now c.args.counted.now c.args.counters.now c.find_ends.new.ends c.fill.new.self c.pay_counters.new.nets c.merge_nets.new.nets c.requires.order c.requires.nodes c.requires.counted c.requires.counters c.find_ends.ensures.joins c.find_ends.ensures.others (length c.fill.new.self) bare room c.pay_counters.ensures.nets c.merge_nets.ensures.nets) (solution_of c.args.edges.now c.args.nodes c.args.order.now c.args.counted.now c.args.counters.now c.find_ends.new.ends c.fill.new.self c.pay_counters.new.nets c.merge_nets.new.nets c.requires.order c.requires.nodes c.requires.counted c.requires.counters c.find_ends.ensures.joins c.find_ends.ensures.others (length c.fill.new.self) bare room c.pay_counters.ensures.nets c.merge_nets.ensures.nets) c.in_err-write_values.field-0.0 c.in_err-write_values.ensures.misfit)

pub returns-in_err-check_entry-clause-err : goal.returns-in_err-check_entry-clause-err
returns-in_err-check_entry-clause-err c =
    let bare : c.fill.new.self ≡ replicate (length c.fill.new.self) (pos 0) = search rules in
    let room : c.args.nodes ≤ length c.fill.new.self = omega arith in
    let some : 0 < length c.args.edges.now = omega arith in
    let p = err_from_is_err_and c.from_residual-in_err-check_entry.result c.from_residual-in_err-check_entry.ensures.1 in
    rw (p.1, p.2) (entry_is_off c.args.edges.now c.args.order.now c.args.counted.now c.args.counters.now c.find_ends.new.ends c.merge_nets.new.nets c.requires.counted c.requires.counters (λ i. (c.type_inv.counters i).fits) (joins_some_of c.args.edges.now c.args.nodes c.args.order.now c.args.counted.now c.args.counters.now c.find_ends.new.ends c.fill.new.self c.pay_counters.new.nets c.merge_nets.new.nets c.requires.order c.requires.nodes c.requires.counted c.requires.counters c.find_ends.ensures.joins c.find_ends.ensures.others (length c.fill.new.self) bare room c.pay_counters.ensures.nets c.merge_nets.ensures.nets) (joins_none_of c.args.edges.now c.args.nodes c.args.order.now c.args.counted.now c.args.counters.now c.find_ends.new.ends c.fill.new.self c.pay_counters.new.nets c.merge_nets.new.nets c.requires.order c.requires.nodes c.requires.counted c.requires.counters c.find_ends.ensures.joins c.find_ends.ensures.others (length c.fill.new.self) bare room c.pay_counters.ensures.nets c.merge_nets.ensures.nets) (solution_of c.args.edges.now c.args.nodes c.args.order.now c.args.counted.now c.args.counters.now c.find_ends.new.ends c.fill.new.self c.pay_counters.new.nets c.merge_nets.new.nets c.requires.order c.requires.nodes c.requires.counted c.requires.counters c.find_ends.ensures.joins c.find_ends.ensures.others (length c.fill.new.self) bare room c.pay_counters.ensures.nets c.merge_nets.ensures.nets) c.write_values.new.counts c.in_ok-write_values.ensures.ok (λ k. (c.type_inv.counts k).fits) some c.in_err-check_entry.field-0.0 c.in_err-check_entry.ensures.differs)

pub write_counters-requires-clause-edges : goal.write_counters-requires-clause-edges
write_counters-requires-clause-edges c = λ k a. omega (arith, c.requires.counted.edges_only k a)

pub returns-clause-ok : goal.returns-clause-ok
returns-clause-ok c =
    let bare : c.fill.new.self ≡ replicate (length c.fill.new.self) (pos 0) = search rules in
    let room : c.args.nodes ≤ length c.fill.new.self = omega arith in
    solved c.args.edges.now c.args.order.now c.args.counted.now c.args.counters.now c.find_ends.new.ends c.merge_nets.new.nets c.requires.counted c.requires.counters (λ i. (c.type_inv.counters i).fits) (joins_some_of c.args.edges.now c.args.nodes c.args.order.now c.args.counted.now c.args.counters.now c.find_ends.new.ends c.fill.new.self c.pay_counters.new.nets c.merge_nets.new.nets c.requires.order c.requires.nodes c.requires.counted c.requires.counters c.find_ends.ensures.joins c.find_ends.ensures.others (length c.fill.new.self) bare room c.pay_counters.ensures.nets c.merge_nets.ensures.nets) (joins_none_of c.args.edges.now c.args.nodes c.args.order.now c.args.counted.now c.args.counters.now c.find_ends.new.ends c.fill.new.self c.pay_counters.new.nets c.merge_nets.new.nets c.requires.order c.requires.nodes c.requires.counted c.requires.counters c.find_ends.ensures.joins c.find_ends.ensures.others (length c.fill.new.self) bare room c.pay_counters.ensures.nets c.merge_nets.ensures.nets) (solution_of c.args.edges.now c.args.nodes c.args.order.now c.args.counted.now c.args.counters.now c.find_ends.new.ends c.fill.new.self c.pay_counters.new.nets c.merge_nets.new.nets c.requires.order c.requires.nodes c.requires.counted c.requires.counters c.find_ends.ensures.joins c.find_ends.ensures.others (length c.fill.new.self) bare room c.pay_counters.ensures.nets c.merge_nets.ensures.nets) c.write_values.new.counts c.in_ok-write_values.ensures.ok c.write_counters.new.counts c.in_ok-check_entry.ensures.ok c.write_counters.ensures.counters c.write_counters.ensures.others
