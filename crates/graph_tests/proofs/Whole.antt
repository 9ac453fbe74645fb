-- The function of the switch has a graph.
use Rattle.std.proofs.Common.{◌≡◌, ◌<◌, List, ◌∙◌, refl, sym, subst, sum_by, true, arith}
use Rattle.std.specs.List.{list_all}
use Rattle.std.specs.Prelude.{Result, Ok, Err, IfOk, ◌+◌, length}
use Rattle.ir_tree.specs.Graphs.{count_in, ways_out, has_targets, is_select, is_site, HasGraph}
use Rattle.ir_tree.specs.declared.types.Block.{Block}
use Rattle.ir_tree.specs.declared.types.Function.{Function}
use Rattle.graph_tests.specs.Switching.{entry_block, last_block, switching}

switching_has_graph : (f : Function) → f.blocks ≡ switching → HasGraph f
unfolding entry_block last_block
switching_has_graph f is = record {
  entry = subst (λ (bs : List Block). 0 < length bs) (sym is) (omega arith);
  targets = subst (λ (bs : List Block). list_all (has_targets bs) bs ≡ true) (sym is) refl;
  few = subst (λ (bs : List Block). 1 + sum_by ways_out bs < 4294967296) (sym is) (omega arith);
  few_sites = subst (λ (bs : List Block). count_in is_site bs < 4294967296) (sym is) (omega arith);
  few_selects = subst (λ (bs : List Block). count_in is_select bs < 4294967296) (sym is) (omega arith);
}

pub switching_made : {E : Type 0} (r : Result Function E) (blocks : List Block) → IfOk r (λ f. f.blocks ≡ blocks) → blocks ≡ switching → IfOk r HasGraph
switching_made (Ok f) blocks of is = switching_has_graph f (of ∙ is)
switching_made (Err e) blocks of is = tt
