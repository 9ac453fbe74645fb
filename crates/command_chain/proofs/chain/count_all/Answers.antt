use Rattle.std.proofs.Common.{rules, ◌≡◌, ℕ, ◌<◌, ◌++◌, List, length, drop, sym, ap, ◌∙◌, subst}
use Rattle.std.specs.Option.{option_map}
use Rattle.std.specs.Prelude.{Some, slice_get}
use Rattle.ir_machine.specs.Slots.{HasEdge}
use Rattle.ir_tree.specs.Graphs.{graph_of}
use Rattle.ir_tree.specs.declared.edge.Edge.{Edge}
use Rattle.ir_tree.specs.declared.types.Function.{Function}
use Rattle.ir_tree.specs.declared.types.Module.{Module}
use Rattle.pgo_shell.specs.Product.{bytes_of, bytes_of_all}
use Rattle.command_chain.specs.Counted.{AreWalks, counted_at}
use Rattle.command_chain.specs.Report.{report}
use Rattle.command_chain.proofs.ChainLemmas.{lent_whole}
use Rattle.command_chain.proofs.ReportLemmas.{report_walks}
use Rattle.command_chain.proofs.chain.count_all.Goals as goal

pub returns-in-None-clause-made : goal.returns-in-None-clause-made
returns-in-None-clause-made c =
    let m = c.args.«module».now in
    let long : c.in_ok-counts.counts.len ≡ length c.trace_all.new.counts = search rules in
    let counted : AreWalks m c.args.steps c.args.calls.now c.as_slice.result.now = subst (AreWalks m c.args.steps c.args.calls.now) (sym (c.as_slice.ensures.value ∙ lent_whole c.trace_all.new.counts (drop (length c.trace_all.new.counts) c.in_ok-counts.counts.items) c.in_ok-counts.counts.len long)) c.in_ok-output.ensures.counts in
    let numbers = c.functions_have_numbers.ensures m c.requires.accepted c.requires.plain in
    let has : (k : ℕ) (f : Function) (n : ℕ) (e : Edge) → slice_get m.functions k ≡ Some f → 0 < length f.blocks → slice_get (graph_of f).edges n ≡ Some e → HasEdge m k e.block e.position = λ k f n e at some there. c.edges_are_counted.ensures.graph m k f (ap (λ (fs : List Function). slice_get fs k) numbers ∙ at) (c.functions_have_graphs.ensures m k f c.requires.accepted at some) n e there in
    let walked = report_walks m c.args.steps c.args.calls.now c.as_slice.result.now counted has in
    let put = c.in_ok-push_report-in-None.ensures ∙ ap (λ (n : Module). c.in_ok-output.field-0.output.items ++ report (counted_at n c.as_slice.result.now) 0 m.functions) c.requires.code in
    record {
      halted = sym (ap (option_map bytes_of) c.in-None.is) ∙ c.in_ok-output.ensures.halted;
      puts = put ∙ (λ i. c.in_ok-output.ensures.output i ++ walked i);
      written = ap bytes_of_all c.new.ensures.items;
    }
