-- A lowered function has no more of anything.
use Rattle.std.proofs.Common.{◌≡◌, ℕ, ◌+◌, ◌≤◌, ◌==◌, ◌⊎◌, inl, inr, Bool, false, cond, List, [], ◌∷◌, count_by, map, sum_by, Option, Some, None, refl, ap, ap₂, arith}
use Rattle.std.specs.List.{flat_map}
use Rattle.std.proofs.lemmas.List.{length-map}
use Rattle.std.proofs.lemmas.List.Sums.{sum_by-cons}
use Rattle.ir_rules.specs.Limits.{has_result, instr_arrays, total_of}
use Rattle.ir_rules.specs.Lists.{Among}
use Rattle.ir_tree.specs.Edges.{edges_in}
use Rattle.ir_tree.specs.Graphs.{count_in, is_site}
use Rattle.ir_tree.specs.Successors.{ways_out}
use Rattle.ir_tree.specs.declared.types.Block.{Block}
use Rattle.ir_tree.specs.declared.types.Function.{Function}
use Rattle.ir_tree.specs.declared.types.Instr.{Instr}
use Rattle.lowered_rules.proofs.Listed.{among_either, among_left, among_right}
use Rattle.lowered_rules.specs.Small.{StaysSmall}
use Rattle.lowering.specs.Asked.{Asked, Rise, Note, asked}
use Rattle.lowering.specs.Lowered.{doing, lowered_block, lowered_function, lowered_instr}

-- ---- counts

-- a test that neither a counter instruction nor a call of the runtime passes
abbrev PassesNone : (Instr → Bool) → Type 0
PassesNone test = (x : Instr) (a : Asked) → test (doing x (Some a)) ≡ false

module _ (test : Instr → Bool) (none : PassesNone test) where
  one_less : (x : Instr) → cond {A = ℕ} (test (lowered_instr x)) 1 0 ≤ cond {A = ℕ} (test x) 1 0
  one_less x = by (asked x)
    where
      by : (o : Option Asked) → cond {A = ℕ} (test (doing x o)) 1 0 ≤ cond {A = ℕ} (test x) 1 0
      by None = omega arith
      by (Some a) = (let z : cond {A = ℕ} (test (doing x (Some a))) 1 0 ≡ 0 = ap (λ (b : Bool). cond {A = ℕ} b 1 0) (none x a) in omega (arith, z))

  count_cons : (x : Instr) (xs : List Instr) → count_by test (x ∷ xs) ≡ cond {A = ℕ} (test x) 1 0 + count_by test xs
  count_cons x xs = sum_by-cons (λ (y : Instr). cond (test y) 1 0) x xs

  block_less : (xs : List Instr) → count_by test (map lowered_instr xs) ≤ count_by test xs
  block_less [] = omega arith
  block_less (x ∷ xs) = (let here = one_less x in let rest = block_less xs in omega (arith, here, rest, count_cons x xs, count_cons (lowered_instr x) (map lowered_instr xs)))

  blocks_less : (bs : List Block) → count_in test (map lowered_block bs) ≤ count_in test bs
  blocks_less [] = omega arith
  blocks_less (b ∷ bs) =
      let here = block_less b.instrs in
      let rest = blocks_less bs in
      omega (arith, here, rest, sum_by-cons (λ (d : Block). count_by test d.instrs) b bs, sum_by-cons (λ (d : Block). count_by test d.instrs) (lowered_block b) (map lowered_block bs))

  total_less : (f : Function) → total_of test (lowered_function f) ≤ total_of test f
  unfolding total_of
  total_less f = blocks_less f.blocks

no_result : PassesNone has_result
no_result x (Rise symbol hash counters counter amount) = refl
no_result x (Note symbol hash target site) = refl

no_site : PassesNone is_site
no_site x (Rise symbol hash counters counter amount) = refl
no_site x (Note symbol hash target site) = refl

-- ---- edges

ways_same : (bs : List Block) → sum_by ways_out (map lowered_block bs) ≡ sum_by ways_out bs
ways_same [] = refl
ways_same (b ∷ bs) = (let rest = ways_same bs in omega (arith, rest, sum_by-cons ways_out b bs, sum_by-cons ways_out (lowered_block b) (map lowered_block bs)))

edges_same : (f : Function) → edges_in (lowered_function f) ≡ edges_in f
edges_same f = ap₂ (λ (k ways : ℕ). cond {A = ℕ} (k == 0) 0 (1 + ways)) (length-map f.blocks lowered_block) (ways_same f.blocks)

-- ---- array types

instr_less : (x : Instr) (size : ℕ) → Among size (instr_arrays (lowered_instr x)) → Among size (instr_arrays x)
instr_less x size h = by (asked x) h
  where
    by : (o : Option Asked) → Among size (instr_arrays (doing x o)) → Among size (instr_arrays x)
    by None h = h
    by (Some (Rise symbol hash counters counter amount)) h = absurd h
    by (Some (Note symbol hash target site)) h = absurd h

row_less : (xs : List Instr) (size : ℕ) → Among size (flat_map instr_arrays (map lowered_instr xs)) → Among size (flat_map instr_arrays xs)
row_less [] size h = h
row_less (x ∷ xs) size h = by (among_either (instr_arrays (lowered_instr x)) (flat_map instr_arrays (map lowered_instr xs)) size h) (λ k. row_less xs size k)
  where
    by : Among size (instr_arrays (lowered_instr x)) ⊎ Among size (flat_map instr_arrays (map lowered_instr xs)) → (Among size (flat_map instr_arrays (map lowered_instr xs)) → Among size (flat_map instr_arrays xs)) → Among size (flat_map instr_arrays (x ∷ xs))
    by (inl k) rest = among_left (instr_arrays x) (flat_map instr_arrays xs) size (instr_less x size k)
    by (inr k) rest = among_right (instr_arrays x) (flat_map instr_arrays xs) size (rest k)

abbrev arrays_in : List Block → List ℕ
arrays_in bs = flat_map (λ (b : Block). flat_map instr_arrays b.instrs) bs

arrays_less : (bs : List Block) (size : ℕ) → Among size (arrays_in (map lowered_block bs)) → Among size (arrays_in bs)
arrays_less [] size h = h
arrays_less (b ∷ bs) size h = by (among_either (flat_map instr_arrays (map lowered_instr b.instrs)) (arrays_in (map lowered_block bs)) size h) (λ k. arrays_less bs size k)
  where
    by : Among size (flat_map instr_arrays (map lowered_instr b.instrs)) ⊎ Among size (arrays_in (map lowered_block bs)) → (Among size (arrays_in (map lowered_block bs)) → Among size (arrays_in bs)) → Among size (arrays_in (b ∷ bs))
    by (inl k) rest = among_left (flat_map instr_arrays b.instrs) (arrays_in bs) size (row_less b.instrs size k)
    by (inr k) rest = among_right (flat_map instr_arrays b.instrs) (arrays_in bs) size (rest k)

pub stays_small : (f : Function) → StaysSmall f
stays_small f = record {
  edges = edges_same f;
  results = total_less has_result no_result f;
  sites = total_less is_site no_site f;
  arrays = arrays_less f.blocks;
}
