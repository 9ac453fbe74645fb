-- The new block of a split at any place behind the first block.
use Rattle.std.proofs.Common.{◌≡◌, ℕ, zero, suc, ◌+◌, ◌*◌, ◌≤◌, Bool, List, [], ◌∷◌, ◌++◌, take, drop, count_by, slice_get, slice_set, refl, sym, ◌∙◌, ap, subst, arith, inl, inr, ◌⊎◌}
use Rattle.std.proofs.lemmas.List.{take-append-drop}
use Rattle.spec_lists.specs.Each.{each}
use Rattle.spec_items.proofs.Items.{Has, count_cons, count-append, find_same, has_either, has_left, has_right}
use Rattle.block_order.specs.Reordered.{AllReordered, AreReordered, IsReordered}
use Rattle.count_plan.specs.Counted.{counted_block, counted_blocks, new_blocks}
use Rattle.count_plan.specs.Ways.{block_plan}
use Rattle.count_plan.specs.declared.plan.FunctionPlan.{FunctionPlan}
use Rattle.edge_split.specs.Split.{MarksStay, added_blocks, changed_blocks, split, split_before, split_plan, with_function}
use Rattle.ir_likeness.specs.Like.{AreLike, EndsWith, printed_of, signature_at}
use Rattle.ir_model.specs.Run.{run_of}
use Rattle.ir_model.specs.declared.result.Call.{Call}
use Rattle.ir_tree.specs.Blocks.{labels}
use Rattle.ir_tree.specs.Names.{same}
use Rattle.ir_tree.specs.declared.types.Block.{Block}
use Rattle.ir_tree.specs.declared.types.Function.{Function}
use Rattle.ir_tree.specs.declared.types.Module.{Module}

count_labels : (l : List ℕ) (bs : List Block) → count_by (same l) (labels bs) ≡ count_by (λ (b : Block). same l b.label) bs
count_labels l [] = refl
count_labels l (b ∷ bs) =
    let c = count_cons (same l) b.label (labels bs) in
    let d = count_cons (λ (b : Block). same l b.label) b bs in
    let later = count_labels l bs in
    omega (arith, c, d, later)

-- ---- one list made of two

module _ {X Y : Type 0} (first : ℕ → Y → X) (more : ℕ → Y → List X) where
  abbrev together : ℕ → List Y → List X
  together n ys = each (λ j y. first j y ∷ more j y) n ys

  abbrev firsts : ℕ → List Y → List X
  firsts n ys = each (λ j y. first j y ∷ []) n ys

  abbrev others : ℕ → List Y → List X
  others n ys = each more n ys

  counts : (test : X → Bool) (n : ℕ) (ys : List Y) → count_by test (together n ys) ≡ count_by test (firsts n ys) + count_by test (others n ys)
  counts test n [] = refl
  counts test n (y ∷ ys) =
      let a = count_cons test (first n y) (more n y ++ together (n + 1) ys) in
      let b = count-append test (more n y) (together (n + 1) ys) in
      let c = count_cons test (first n y) (firsts (n + 1) ys) in
      let d = count-append test (more n y) (others (n + 1) ys) in
      let later = counts test (n + 1) ys in
      omega (arith, a, b, c, d, later)

  of_both : (x : X) (n : ℕ) (ys : List Y) → Has x (together n ys) → Has x (firsts n ys) ⊎ Has x (others n ys)
  of_both x n [] h = inl h
  of_both x n (y ∷ ys) (zero, e) = inl (0, e)
  of_both x n (y ∷ ys) (suc i, e) = by (has_either x (more n y) (together (n + 1) ys) (i, e)) (λ h. of_both x (n + 1) ys h)
    where
      later : Has x (firsts (n + 1) ys) ⊎ Has x (others (n + 1) ys) → Has x (firsts n (y ∷ ys)) ⊎ Has x (others n (y ∷ ys))
      later (inl h) = inl (suc h.0, h.1)
      later (inr h) = inr (has_right x (more n y) (others (n + 1) ys) h)

      by : Has x (more n y) ⊎ Has x (together (n + 1) ys) → (Has x (together (n + 1) ys) → Has x (firsts (n + 1) ys) ⊎ Has x (others (n + 1) ys)) → Has x (firsts n (y ∷ ys)) ⊎ Has x (others n (y ∷ ys))
      by (inl h) rec = inr (has_left x (more n y) (others (n + 1) ys) h)
      by (inr h) rec = later (rec h)

  from_firsts : (x : X) (n : ℕ) (ys : List Y) → Has x (firsts n ys) → Has x (together n ys)
  from_firsts x n [] h = h
  from_firsts x n (y ∷ ys) (zero, e) = (0, e)
  from_firsts x n (y ∷ ys) (suc i, e) = (let r = has_right x (more n y) (together (n + 1) ys) (from_firsts x (n + 1) ys (i, e)) in (suc r.0, r.1))

  from_others : (x : X) (n : ℕ) (ys : List Y) → Has x (others n ys) → Has x (together n ys)
  from_others x n [] h = h
  from_others x n (y ∷ ys) h = by (has_either x (more n y) (others (n + 1) ys) h) (λ k. from_others x (n + 1) ys k)
    where
      by : Has x (more n y) ⊎ Has x (others (n + 1) ys) → (Has x (others (n + 1) ys) → Has x (together (n + 1) ys)) → Has x (together n (y ∷ ys))
      by (inl k) rec = (let r = has_left x (more n y) (together (n + 1) ys) k in (suc r.0, r.1))
      by (inr k) rec = (let r = has_right x (more n y) (together (n + 1) ys) (rec k) in (suc r.0, r.1))

-- ---- put at a place

module _ {X : Type 0} (place : ℕ) (xs zs : List X) where
  abbrev put : List X
  put = take place xs ++ (zs ++ drop place xs)

  count_put : (test : X → Bool) → count_by test put ≡ count_by test xs + count_by test zs
  count_put test =
      let a = count-append test (take place xs) (zs ++ drop place xs) in
      let b = count-append test zs (drop place xs) in
      let c = count-append test (take place xs) (drop place xs) in
      let d : count_by test (take place xs ++ drop place xs) ≡ count_by test xs = ap (count_by test) (take-append-drop place xs) in
      omega (arith, a, b, c, d)

  into_put : (x : X) → Has x xs ⊎ Has x zs → Has x put
  into_put x (inl h) = by (has_either x (take place xs) (drop place xs) (subst (Has x) (sym (take-append-drop place xs)) h))
    where
      by : Has x (take place xs) ⊎ Has x (drop place xs) → Has x put
      by (inl k) = has_left x (take place xs) (zs ++ drop place xs) k
      by (inr k) = has_right x (take place xs) (zs ++ drop place xs) (has_right x zs (drop place xs) k)
  into_put x (inr h) = has_right x (take place xs) (zs ++ drop place xs) (has_left x zs (drop place xs) h)

  of_put : (x : X) → Has x put → Has x xs ⊎ Has x zs
  of_put x h = by (has_either x (take place xs) (zs ++ drop place xs) h)
    where
      whole : Has x (take place xs ++ drop place xs) → Has x xs
      whole k = subst (Has x) (take-append-drop place xs) k

      by : Has x (take place xs) ⊎ Has x (zs ++ drop place xs) → Has x xs ⊎ Has x zs
      by (inl k) = inl (whole (has_left x (take place xs) (drop place xs) k))
      by (inr k) = behind (has_either x zs (drop place xs) k)
        where
          behind : Has x zs ⊎ Has x (drop place xs) → Has x xs ⊎ Has x zs
          behind (inl z) = inr z
          behind (inr d) = inl (whole (has_right x (take place xs) (drop place xs) d))

-- ---- the same function in another order

module _ (place a p : ℕ) (new : List ℕ) (f : Function) (distinct : (l : List ℕ) → count_by (same l) (labels (split a p new f).blocks) ≤ 1) where
  abbrev unit : FunctionPlan
  unit = split_plan a p new

  abbrev first_of_block : ℕ → Block → Block
  first_of_block j b = counted_block unit f.blocks (block_plan unit.blocks j) b

  abbrev added_of_block : ℕ → Block → List Block
  added_of_block j b = new_blocks unit (block_plan unit.blocks j) b

  once : (l : List ℕ) → count_by (λ (b : Block). same l b.label) (counted_blocks unit f.blocks) ≤ 1
  once l = (let c = count_labels l (counted_blocks unit f.blocks) in let d = distinct l in omega (arith, c, d))

  once_put : (l : List ℕ) → count_by (λ (b : Block). same l b.label) (split_before (suc place) a p new f).blocks ≤ 1
  once_put l =
      let c = count_put (suc place) (changed_blocks unit f.blocks) (added_blocks unit f.blocks) (λ (b : Block). same l b.label) in
      let d = counts first_of_block added_of_block (λ (b : Block). same l b.label) 0 f.blocks in
      let e = once l in
      omega (arith, c, d, e)

  is_reordered : IsReordered (split a p new f) (split_before (suc place) a p new f)
  is_reordered = record {
    name = refl;
    ret = refl;
    params = refl;
    first = same_first f.blocks;
    named = λ l. find_same (λ (b : Block). same l b.label) (counted_blocks unit f.blocks) (split_before (suc place) a p new f).blocks (once l) (once_put l)
        (λ x h. into_put (suc place) (changed_blocks unit f.blocks) (added_blocks unit f.blocks) x (of_both first_of_block added_of_block x 0 f.blocks h))
        (λ x h. back x (of_put (suc place) (changed_blocks unit f.blocks) (added_blocks unit f.blocks) x h));
  }
    where
      same_first : (bs : List Block) → slice_get (take (suc place) (each (λ j b. first_of_block j b ∷ []) 0 bs) ++ (each added_of_block 0 bs ++ drop (suc place) (each (λ j b. first_of_block j b ∷ []) 0 bs))) 0 ≡ slice_get (each (λ j b. first_of_block j b ∷ added_of_block j b) 0 bs) 0
      same_first [] = refl
      same_first (b ∷ bs) = refl

      back : (x : Block) → Has x (changed_blocks unit f.blocks) ⊎ Has x (added_blocks unit f.blocks) → Has x (counted_blocks unit f.blocks)
      back x (inl h) = from_firsts first_of_block added_of_block x 0 f.blocks h
      back x (inr h) = from_others first_of_block added_of_block x 0 f.blocks h

  same_function : (g : Function) → IsReordered g g
  same_function g = record { name = refl; ret = refl; params = refl; first = refl; named = λ l. refl }

  all_reordered : (fs : List Function) (j : ℕ) → AllReordered (slice_set fs j (split a p new f)) (slice_set fs j (split_before (suc place) a p new f))
  all_reordered [] j = tt
  all_reordered (g ∷ gs) zero = (is_reordered, all_same gs)
    where
      all_same : (gs : List Function) → AllReordered gs gs
      all_same [] = tt
      all_same (g ∷ gs) = (same_function g, all_same gs)
  all_reordered (g ∷ gs) (suc j) = (same_function g, all_reordered gs j)

  pub are_reordered : (m : Module) (j : ℕ) → AreReordered (with_function m j (split a p new f)) (with_function m j (split_before (suc place) a p new f))
  are_reordered m j = record { globals = refl; functions = all_reordered m.functions j }

-- ---- what holds of equal runs

module _ (m n n' : Module) (most late : ℕ) (runs : (c : Call) (k : ℕ) → run_of n' c k ≡ run_of n c k) where
  pub like_moved : ((k : ℕ) → signature_at n' k ≡ signature_at n k) → AreLike m n most late → AreLike m n' most late
  like_moved signatures like = record {
    signatures = λ k. signatures k ∙ like.signatures k;
    ends = λ c k valid bytes stop e. subst (λ r. EndsWith r bytes stop) (sym (runs c (most * k + late))) (like.ends c k valid bytes stop e);
    ends_only = λ c k valid bytes stop e. like.ends_only c k valid bytes stop (subst (λ r. EndsWith r bytes stop) (runs c k) e);
    prints = λ c k valid. subst (λ r. (rest : List ℕ) × (printed_of r ≡ printed_of (run_of m c k) ++ rest)) (sym (runs c (most * k + late))) (like.prints c k valid);
    prints_only = λ c k valid. subst (λ r. (rest : List ℕ) × (printed_of (run_of m c k) ≡ printed_of r ++ rest)) (sym (runs c k)) (like.prints_only c k valid);
  }

  pub marks_moved : MarksStay m n most late → MarksStay m n' most late
  marks_moved marks c k valid shown value e = (let r = marks c k valid shown value e in (r.0, runs c (most * k + late) ∙ r.1, r.2))
