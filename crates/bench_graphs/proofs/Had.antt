-- A function has a graph.
use Rattle.std.proofs.Common.{◌≡◌, ℕ, zero, suc, ◌+◌, ◌<◌, ◌==◌, Bool, true, false, ◌&&◌, List, [], ◌∷◌, length, is_some, sum_by, refl, sym, ap, subst, ◌∙◌, arith, eqb-true, ltb-true}
use Rattle.std.specs.Prelude.{nat_lt}
use Rattle.std.specs.List.{count_by, list_all}
use Rattle.std.proofs.lemmas.List.{nil_from_length}
use Rattle.std.proofs.lemmas.List.Sums.{sum_by-cons}
use Rattle.ir_tree.specs.Blocks.{labels}
use Rattle.ir_tree.specs.Graphs.{HasGraph, count_in, has_targets, is_select, is_site}
use Rattle.ir_tree.specs.Names.{Indexes, first_place}
use Rattle.ir_tree.specs.Successors.{successors, ways_out}
use Rattle.ir_tree.specs.declared.index.Index.{Index}
use Rattle.ir_tree.specs.declared.types.Block.{Block}
use Rattle.ir_tree.specs.declared.types.Function.{Function}
use Rattle.ir_tree.specs.declared.types.Instr.{Instr}

both_true : (x y : Bool) → x && y ≡ true → (x ≡ true) × (y ≡ true)
both_true true y h = (refl, h)
both_true false y h = absurd (let c : false ≡ true = h in cc)

nothing_counted : (test : Instr → Bool) (blocks : List Block) → list_all (λ b. length b.instrs == 0) blocks ≡ true → count_in test blocks ≡ 0
nothing_counted test [] h = refl
nothing_counted test (b ∷ bs) h =
    let p = both_true (length b.instrs == 0) (list_all (λ b. length b.instrs == 0) bs) h in
    let none : b.instrs ≡ [] = nil_from_length b.instrs (eqb-true (length b.instrs) 0 p.0) in
    let zero_here : count_by test b.instrs ≡ 0 = ap (λ (xs : List Instr). count_by test xs) none in
    let first = sum_by-cons (λ (b : Block). count_by test b.instrs) b bs in
    let later = nothing_counted test bs p.1 in
    omega (arith, zero_here, first, later)

pub graph_is_had : (f : Function) (index : Index) → Indexes index (labels f.blocks) → 0 < length f.blocks → list_all (λ b. list_all (λ to. is_some (first_place index to)) (successors b.term)) f.blocks ≡ true
    → 1 + sum_by ways_out f.blocks < 4294967296 → list_all (λ b. length b.instrs == 0) f.blocks ≡ true → HasGraph f
graph_is_had f index made some targets small empty = record {
  entry = some;
  targets = sym (λ i. list_all (λ b. list_all (λ to. is_some (made to i)) (successors b.term)) f.blocks) ∙ targets;
  few = small;
  few_sites = let e = nothing_counted is_site f.blocks empty in omega (arith, e);
  few_selects = let e = nothing_counted is_select f.blocks empty in omega (arith, e);
}

-- the same as the code has it
pub graph_at : (f : Function) (index : Index) (blocks : List Block) → blocks ≡ f.blocks → Indexes index (labels blocks) → nat_lt 0 (length blocks) ≡ true → list_all (λ b. list_all (λ to. is_some (first_place index to)) (successors b.term)) blocks ≡ true
    → 1 + sum_by ways_out blocks < 4294967296 → list_all (λ b. length b.instrs == 0) blocks ≡ true → HasGraph f
graph_at f index blocks is made some targets small empty =
    graph_is_had f index (subst (λ (bs : List Block). Indexes index (labels bs)) is made) (subst (λ (bs : List Block). 0 < length bs) is (ltb-true 0 (length blocks) some)) (subst (λ (bs : List Block). list_all (λ b. list_all (λ to. is_some (first_place index to)) (successors b.term)) bs ≡ true) is targets)
    (subst (λ (bs : List Block). 1 + sum_by ways_out bs < 4294967296) is small) (subst (λ (bs : List Block). list_all (λ b. length b.instrs == 0) bs ≡ true) is empty)
