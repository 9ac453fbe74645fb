-- The worked blocks are those of functions with a graph.
use Rattle.std.proofs.Common.{◌≡◌, ◌<◌, ◌+◌, List, [], ◌∷◌, ◌++◌, length, ◌∙◌, refl, sym, subst, sum_by, true, arith}
use Rattle.std.specs.List.{list_all}
use Rattle.std.specs.Prelude.{Result, Ok, Err, IfOk}
use Rattle.ir_tree.specs.Graphs.{count_in, ways_out, has_targets, is_select, is_site, HasGraph}
use Rattle.ir_tree.specs.declared.types.Block.{Block}
use Rattle.ir_tree.specs.declared.types.Function.{Function}
use Rattle.cfg_edges.specs.Examples.{entry_block, head_block, body_block, done_block, looping, choosing, calling, selecting}

module _ (blocks : List Block) (some : 0 < length blocks) (targets : list_all (has_targets blocks) blocks ≡ true) (few : 1 + sum_by ways_out blocks < 4294967296) (few_sites : count_in is_site blocks < 4294967296) (few_selects : count_in is_select blocks < 4294967296) where
  has_graph : (f : Function) → f.blocks ≡ blocks → HasGraph f
  has_graph f is = record {
    entry = subst (λ (bs : List Block). 0 < length bs) (sym is) some;
    targets = subst (λ (bs : List Block). list_all (has_targets bs) bs ≡ true) (sym is) targets;
    few = subst (λ (bs : List Block). 1 + sum_by ways_out bs < 4294967296) (sym is) few;
    few_sites = subst (λ (bs : List Block). count_in is_site bs < 4294967296) (sym is) few_sites;
    few_selects = subst (λ (bs : List Block). count_in is_select bs < 4294967296) (sym is) few_selects;
  }

looping_has_graph : (f : Function) → f.blocks ≡ looping → HasGraph f
unfolding entry_block head_block body_block done_block
looping_has_graph = has_graph looping (omega arith) refl (omega arith) (omega arith) (omega arith)

selecting_has_graph : (f : Function) → f.blocks ≡ selecting → HasGraph f
unfolding selecting choosing calling
selecting_has_graph = has_graph selecting (omega arith) refl (omega arith) (omega arith) (omega arith)

pub looping_made : {E : Type 0} (r : Result Function E) (blocks : List Block) → IfOk r (λ f. f.blocks ≡ blocks) → blocks ≡ looping → IfOk r HasGraph
looping_made (Ok f) blocks of is = looping_has_graph f (of ∙ is)
looping_made (Err e) blocks of is = tt

pub selecting_made : {E : Type 0} (r : Result Function E) (blocks : List Block) → IfOk r (λ f. f.blocks ≡ blocks) → blocks ≡ selecting → IfOk r HasGraph
selecting_made (Ok f) blocks of is = selecting_has_graph f (of ∙ is)
selecting_made (Err e) blocks of is = tt

pushed : (before after start : List Block) (b good : Block) → after ≡ before ++ b ∷ [] → b ≡ good → before ≡ start → after ≡ start ++ good ∷ []
pushed before after start b good put is was = put ∙ (λ i. was i ++ is i ∷ [])

pub made : (none one two three four : List Block) (a b c d : Block) → none ≡ [] → one ≡ none ++ a ∷ [] → two ≡ one ++ b ∷ [] → three ≡ two ++ c ∷ [] → four ≡ three ++ d ∷ [] → a ≡ entry_block → b ≡ head_block → c ≡ body_block → d ≡ done_block → four ≡ looping
made none one two three four a b c d p0 p1 p2 p3 p4 ea eb ec ed =
    pushed three four (entry_block ∷ head_block ∷ body_block ∷ []) d done_block p4 ed
    (pushed two three (entry_block ∷ head_block ∷ []) c body_block p3 ec (pushed one two (entry_block ∷ []) b head_block p2 eb (pushed none one [] a entry_block p1 ea p0)))
