-- What a plan's parts come to, and the numbers of selects.
use Rattle.std.proofs.Common.{◌≡◌, ℕ, ◌<◌, ◌==◌, ◌&&◌, Bool, List, [], ◌∷◌, length, Some, ap, ◌∙◌}
use Rattle.std.proofs.lemmas.List.Quantifiers.{position-Some}
use Rattle.cfg_edges.specs.Hash.{hash_text}
use Rattle.count_plan.specs.declared.plan.BlockPlan.{BlockPlan}
use Rattle.count_plan.specs.declared.plan.FunctionPlan.{FunctionPlan}
use Rattle.gen_plan.specs.Gen.{counted_edges, counters_in, gen_block, gen_function, gen_with, number_of, record_name}
use Rattle.ir_tree.specs.Graphs.{FlowGraph, graph_of}
use Rattle.ir_tree.specs.declared.types.Function.{Function}
use Rattle.pgo_base.specs.Hash.{hash8}
use Rattle.spec_lists.specs.Each.{each}

abbrev pub plan_with : List ℕ → ℕ → ℕ → List BlockPlan → FunctionPlan
plan_with symbol hash counters blocks = record { symbol = symbol; hash = hash; counters = counters; blocks = blocks }

pub planned_is : (entry_first : Bool) (f : Function) (g : FlowGraph) (counted symbol : List ℕ) (hash counters : ℕ) (blocks : List BlockPlan) → g ≡ graph_of f → counted ≡ counted_edges entry_first f → symbol ≡ record_name f.name → counters ≡ counters_in g counted
    → hash ≡ hash8 (hash_text g counters entry_first) → blocks ≡ each (λ b block. gen_block f g counted b block ∷ []) 0 f.blocks → plan_with symbol hash counters blocks ≡ gen_function entry_first f
planned_is entry_first f g counted symbol hash counters blocks graph edges named few hashed made =
    let told : hash ≡ hash8 (hash_text g (counters_in g counted) entry_first) = hashed ∙ ap (λ (n : ℕ). hash8 (hash_text g n entry_first)) few in
    (λ i. plan_with (named i) (told i) (few i) (made i))
    ∙ (λ i. gen_with f (graph i) (edges i) (hash8 (hash_text (graph i) (counters_in (graph i) (edges i)) entry_first)))

pub number_below : (b i k : ℕ) (places : List (ℕ × ℕ)) → number_of b i places ≡ Some k → k < length places
number_below b i k places is = (position-Some (λ (at : ℕ × ℕ). at.0 == b && at.1 == i) places k (0, 0) is).0
