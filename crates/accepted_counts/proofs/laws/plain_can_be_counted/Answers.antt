use Rattle.std.proofs.Common.{◌≡◌, ℕ, ◌<◌, false, List, length, Some, slice_get, ap, arith}
use Rattle.accepted_counts.proofs.Formed.{at_among, function_formed}
use Rattle.accepted_counts.proofs.Names.{has_some, names_few}
use Rattle.ir_tree.specs.Functions.{is_declared}
use Rattle.ir_tree.specs.Graphs.{HasGraph}
use Rattle.ir_tree.specs.declared.types.Function.{Function}
use Rattle.accepted_counts.proofs.laws.plain_can_be_counted.Goals as goal

pub returns : goal.returns
returns c m accepted plain =
    let graphs : (k : ℕ) (f : Function) → slice_get m.functions k ≡ Some f → is_declared f ≡ false → HasGraph f = λ k f at some. c.functions_have_graphs.ensures m k f accepted at (has_some f.blocks some) in
    let small = (c.accepted_are_small.ensures.plain m accepted plain).functions in
    let same = ap (λ (fs : List Function). length fs) (c.functions_have_numbers.ensures m accepted plain) in
    record {
      formed = λ j f at. function_formed m f (accepted.formed.function f (at_among m.functions j f at)) c.look_ups_tell.ensures.names;
      graphs = graphs;
      few_functions = omega (arith, small, same);
      few_names = λ j f at. names_few m accepted.within plain j f at (graphs j f at);
    }
