-- The labels of the blocks that are made: each stands once, so each of the blocks is found under its label, and of the renamings
-- for the edges into a block those of one new block are one.
use Rattle.std.proofs.Common.{◌≡◌, ℕ, zero, suc, ◌+◌, ◌≤◌, Bool, true, false, cond, List, [], ◌∷◌, count_by, Option, Some, None, slice_get, slice_index_or, drop, flat_map, refl, sym, ◌∙◌, ap, subst, arith, zero-add}
use Rattle.std.proofs.lemmas.List.Sums.{sum_by-cons}
use Rattle.std.proofs.lemmas.List.{drop-drop}
use Rattle.std.proofs.lemmas.Option.{get_or_from_slice_get, none-some, same_Some}
use Rattle.ir_tree.specs.Blocks.{block_named, block_with, labels}
use Rattle.ir_tree.specs.Names.{same}
use Rattle.ir_tree.specs.Successors.{successors}
use Rattle.ir_tree.specs.declared.types.Block.{Block}
use Rattle.ir_tree.specs.declared.types.Term.TheVariants.{Br}
use Rattle.count_plan.specs.Calls.{increments}
use Rattle.count_plan.specs.Counted.{counted_block, counted_blocks, counted_pieces, new_blocks, put_on}
use Rattle.count_plan.specs.Ways.{block_plan, new_at, no_block_plan, renaming, renamings, renamings_from}
use Rattle.count_plan.specs.declared.plan.BlockPlan.{BlockPlan}
use Rattle.count_plan.specs.declared.plan.FunctionPlan.{FunctionPlan}
use Rattle.count_plan.specs.declared.plan.NewBlock.{NewBlock}
use Rattle.count_likeness.specs.Fits.{label_of, new_labels, positions}
use Rattle.spec_items.proofs.Items.{Has, count_cons, count-append, count_few, count_fewer, count_made, counted_some, find_only, get_dropped, has_each, only_one, total}
use Rattle.count_likeness.proofs.Renamed.{OnlyFrom, one_if, renamings_of, renamings_to, same_self}

count_labels : (l : List ℕ) (bs : List Block) → count_by (same l) (labels bs) ≡ count_by (λ (b : Block). same l b.label) bs
count_labels l [] = refl
count_labels l (b ∷ bs) =
    let c = count_cons (same l) b.label (labels bs) in
    let d = count_cons (λ (b : Block). same l b.label) b bs in
    let later = count_labels l bs in
    omega (arith, c, d, later)

total_successors : (l : List ℕ) (n : ℕ) (cs : List (List ℕ)) → total (λ p to. one_if (same l to)) n cs ≡ count_by (same l) cs
total_successors l n [] = refl
total_successors l n (c ∷ cs) =
    let e = count_cons (same l) c cs in
    let later = total_successors l (n + 1) cs in
    omega (arith, e, later)

-- ---- renamings for the edges into block l, from one block

module _ (l : List ℕ) (q : BlockPlan) (b : Block) where
  -- at most one for each position that leads there, and none of another block
  abbrev pub ways_to : List ℕ → ℕ
  ways_to a = cond {A = ℕ} (same a b.label) (count_by (same l) (successors b.term)) 0

  module _ (a : List ℕ) where
    of_one : (s t : Bool) (new : Option NewBlock) → same a b.label ≡ t → renamings_of a (renaming s b.label new) ≤ cond {A = ℕ} t (one_if s) 0
    of_one false t new u = omega arith
    of_one true true None u = omega arith
    of_one true false None u = omega arith
    of_one true true (Some new) u =
        let c = count_cons (λ (r : List ℕ × List ℕ). same a r.0) (b.label, new.label) [] in
        let one : one_if (same a b.label) ≡ 1 = ap one_if u in
        let none : renamings_of a [] ≡ 0 = refl in
        omega (arith, c, one, none)
    of_one true false (Some new) u =
        let c = count_cons (λ (r : List ℕ × List ℕ). same a r.0) (b.label, new.label) [] in
        let zero' : one_if (same a b.label) ≡ 0 = ap one_if u in
        let none : renamings_of a [] ≡ 0 = refl in
        omega (arith, c, zero', none)

    weigh : (t : Bool) (n : ℕ) (cs : List (List ℕ)) → total (λ p to. cond {A = ℕ} t (one_if (same l to)) 0) n cs ≡ cond {A = ℕ} t (count_by (same l) cs) 0
    weigh true n cs = total_successors l n cs
    weigh false n [] = refl
    weigh false n (c ∷ cs) = (let later = weigh false (n + 1) cs in omega (arith, later))

    pub from_few : renamings_of a (renamings_from l q b) ≤ ways_to a
    from_few =
        let few = count_few (λ p to. cond {A = ℕ} (same a b.label) (one_if (same l to)) 0) (λ (r : List ℕ × List ℕ). same a r.0) (λ p to. renaming (same l to) b.label (new_at q p)) (λ p to. of_one (same l to) (same a b.label) (new_at q p) refl) 0 (successors b.term) in
        let w = weigh (same a b.label) 0 (successors b.term) in
        omega (arith, few, w)

    -- fewer, where one of these positions has no new block
    pub from_fewer : same a b.label ≡ true → (p : ℕ) (to : List ℕ) → slice_get (successors b.term) p ≡ Some to → same l to ≡ true → new_at q p ≡ None → suc (renamings_of a (renamings_from l q b)) ≤ ways_to a
    from_fewer is p to at leads none =
        let less : suc (renamings_of a (renaming (same l to) b.label (new_at q p))) ≤ cond {A = ℕ} (same a b.label) (one_if (same l to)) 0 =
        subst (λ (s : Bool). suc (renamings_of a (renaming s b.label (new_at q p))) ≤ cond {A = ℕ} (same a b.label) (one_if s) 0) (sym leads)
        (subst (λ (t : Bool). suc (renamings_of a (renaming true b.label (new_at q p))) ≤ cond {A = ℕ} t 1 0) (sym is)
        (subst (λ (o : Option NewBlock). suc (renamings_of a (renaming true b.label o)) ≤ 1) (sym none) (let z : renamings_of a [] ≡ 0 = refl in omega (arith, z)))) in
        let at_p : suc (renamings_of a (renaming (same l to) b.label (new_at q (0 + p)))) ≤ cond {A = ℕ} (same a b.label) (one_if (same l to)) 0 =
        subst (λ (j : ℕ). suc (renamings_of a (renaming (same l to) b.label (new_at q j))) ≤ cond {A = ℕ} (same a b.label) (one_if (same l to)) 0) (let z : p ≡ 0 + p = omega arith in z) less in
        let fewer = count_fewer (λ p to. cond {A = ℕ} (same a b.label) (one_if (same l to)) 0) (λ (r : List ℕ × List ℕ). same a r.0) (λ p to. renaming (same l to) b.label (new_at q p)) (λ p to. of_one (same l to) (same a b.label) (new_at q p) refl) 0 (successors b.term) p to at at_p in
        let w = weigh (same a b.label) 0 (successors b.term) in
        omega (arith, fewer, w)

  -- the new name of each is the label of a new block
  module _ (unit : FunctionPlan) (n : List ℕ) where
    to_one : (s : Bool) (new : Option NewBlock) (to : List ℕ) → renamings_to n (renaming s b.label new) ≤ count_by (λ (x : Block). same n x.label) (put_on unit to new)
    to_one false new to = omega arith
    to_one true None to = omega arith
    to_one true (Some new) to =
        let c = count_cons (λ (r : List ℕ × List ℕ). same n r.1) (b.label, new.label) [] in
        let d = count_cons (λ (x : Block). same n x.label) (block_with new.label (increments unit new.counter) (Br to)) [] in
        let none : renamings_to n [] ≡ 0 = refl in
        let none' : count_by (λ (x : Block). same n x.label) [] ≡ 0 = refl in
        omega (arith, c, d, none, none')

    pub to_few : renamings_to n (renamings_from l q b) ≤ count_by (λ (x : Block). same n x.label) (new_blocks unit q b)
    to_few =
        let few = count_few (λ p to. count_by (λ (x : Block). same n x.label) (put_on unit to (new_at q p))) (λ (r : List ℕ × List ℕ). same n r.1) (λ p to. renaming (same l to) b.label (new_at q p)) (λ p to. to_one (same l to) (new_at q p) to) 0 (successors b.term) in
        let made = count_made (λ p to. count_by (λ (x : Block). same n x.label) (put_on unit to (new_at q p))) (λ (x : Block). same n x.label) (λ p to. put_on unit to (new_at q p)) (λ p to. refl) 0 (successors b.term) in
        omega (arith, few, made)

-- what holds at an index counted from 0
from_start : (P : ℕ → Type 0) (j : ℕ) → P j → P (0 + j)
from_start P j h = subst P (sym (zero-add j)) h

-- ---- in the whole function

total_sum : {Y : Type 0} (u v : ℕ → Y → ℕ) (n : ℕ) (ys : List Y) → total (λ j y. u j y + v j y) n ys ≡ total u n ys + total v n ys
total_sum u v n [] = refl
total_sum u v n (y ∷ ys) = (let later = total_sum u v (n + 1) ys in omega (arith, later))

total_count : (l : List ℕ) (n : ℕ) (bs : List Block) → total (λ j (b : Block). one_if (same l b.label)) n bs ≡ count_by (λ (b : Block). same l b.label) bs
total_count l n [] = refl
total_count l n (b ∷ bs) =
    let e = count_cons (λ (b : Block). same l b.label) b bs in
    let later = total_count l (n + 1) bs in
    omega (arith, e, later)

total_positions : (a l : List ℕ) (n : ℕ) (bs : List Block) → total (λ j (b : Block). cond {A = ℕ} (same a b.label) (count_by (same l) (successors b.term)) 0) n bs ≡ positions a l bs
total_positions a l n [] = refl
total_positions a l n (b ∷ bs) =
    let e = sum_by-cons (λ (b : Block). cond {A = ℕ} (same a b.label) (count_by (same l) (successors b.term)) 0) b bs in
    let later = total_positions a l (n + 1) bs in
    omega (arith, e, later)

-- some item has its weight in the total
total_part : {Y : Type 0} (u : ℕ → Y → ℕ) (n : ℕ) (ys : List Y) (i : ℕ) (y : Y) → slice_get ys i ≡ Some y → u (n + i) y ≤ total u n ys
total_part u n [] i y e = absurd (none-some y e)
total_part u n (z ∷ ys) zero y e =
    let here : u (n + 0) y ≡ u n z = ap (λ w. u (n + 0) w) (sym (same_Some z y e)) ∙ ap (λ j. u j z) (let q : n + 0 ≡ n = omega arith in q) in
    omega (arith, here)
total_part u n (z ∷ ys) (suc i) y e =
    let later = total_part u (n + 1) ys i y e in
    let here : u (n + suc i) y ≡ u (n + 1 + i) y = ap (λ j. u j y) (let q : n + suc i ≡ n + 1 + i = omega arith in q) in
    omega (arith, here, later)

-- blocks that none are have no positions
none_named : (a l : List ℕ) (bs : List Block) → count_by (λ (x : Block). same a x.label) bs ≡ 0 → positions a l bs ≡ 0
none_named a l [] e = refl
none_named a l (b ∷ bs) e = by (same a b.label) refl (none_named a l bs)
  where
    by : (t : Bool) → same a b.label ≡ t → (count_by (λ (x : Block). same a x.label) bs ≡ 0 → positions a l bs ≡ 0) → positions a l (b ∷ bs) ≡ 0
    by true u later =
        let c = count_cons (λ (x : Block). same a x.label) b bs in
        let one : one_if (same a b.label) ≡ 1 = ap one_if u in
        absurd (omega (arith, c, one, e))
    by false u later =
        let c = count_cons (λ (x : Block). same a x.label) b bs in
        let d = sum_by-cons (λ (b : Block). cond {A = ℕ} (same a b.label) (count_by (same l) (successors b.term)) 0) b bs in
        let none : cond {A = ℕ} (same a b.label) (count_by (same l) (successors b.term)) 0 ≡ 0 = ap (λ (t : Bool). cond {A = ℕ} t (count_by (same l) (successors b.term)) 0) u in
        let rest = later (omega (arith, c, e)) in
        omega (arith, d, none, rest)

only_from : (a n : List ℕ) (rs : List (List ℕ × List ℕ)) → ((r : List ℕ × List ℕ) → Has r rs → same n r.1 ≡ true → r.0 ≡ a) → OnlyFrom a n rs
only_from a n [] h = tt
only_from a n (r ∷ rs) h = (λ q. h r (0, refl) q, only_from a n rs (λ x has q. h x (suc has.0, has.1) q))

-- ---- what lists hold by their places

abbrev weights : {A : Type 0} → (A → ℕ) → List A → ℕ
weights w [] = 0
weights w (x ∷ xs) = w x + weights w xs

module _ {A Y : Type 0} (w : A → ℕ) (d : A) (none : w d ≡ 0) (xs : List A) where
  -- items looked up by rising places weigh no more than all items
  total_places : (n : ℕ) (ys : List Y) → total (λ j y. w (slice_index_or xs j d)) n ys ≤ weights w (drop n xs)
  total_places n [] = omega arith
  total_places n (y ∷ ys) = by (drop n xs) refl (total_places (n + 1) ys)
    where
      past : (xs : List A) (n : ℕ) → drop n xs ≡ [] → slice_index_or xs n d ≡ d
      past [] n e = refl
      past (x ∷ xs) zero e = absurd (cc)
      past (x ∷ xs) (suc n) e = past xs n e

      by : (zs : List A) → drop n xs ≡ zs → total (λ j y. w (slice_index_or xs j d)) (n + 1) ys ≤ weights w (drop (n + 1) xs) → w (slice_index_or xs n d) + total (λ j y. w (slice_index_or xs j d)) (n + 1) ys ≤ weights w (drop n xs)
      by [] e later =
          let here : w (slice_index_or xs n d) ≡ 0 = ap w (past xs n e) ∙ none in
          let gone : drop (n + 1) xs ≡ [] = sym (drop-drop 1 n xs) ∙ ap (drop 1) e in
          let nothing : weights w (drop (n + 1) xs) ≡ 0 = ap (weights w) gone in
          omega (arith, here, nothing, later)
      by (z ∷ zs) e later =
          let next = get_dropped n xs zs z e in
          let here : w (slice_index_or xs n d) ≡ w z = ap w (get_or_from_slice_get xs n z d next.0) in
          let rest : weights w (drop (n + 1) xs) ≡ weights w zs = ap (weights w) next.1 in
          let all : weights w (drop n xs) ≡ w z + weights w zs = ap (weights w) e in
          omega (arith, here, rest, all, later)

count_flat : {X Y : Type 0} (test : Y → Bool) (f : X → List Y) (xs : List X) → count_by test (flat_map f xs) ≡ weights (λ x. count_by test (f x)) xs
count_flat test f [] = refl
count_flat test f (x ∷ xs) =
    let c = count-append test (f x) (flat_map f xs) in
    let later = count_flat test f xs in
    omega (arith, c, later)

module _ (unit : FunctionPlan) (bs : List Block) where
  abbrev pub plan_at : ℕ → BlockPlan
  plan_at j = block_plan unit.blocks j

  -- how many new blocks have a label
  unfoldable pub news : List ℕ → ℕ
  news n = total (λ j b. count_by (λ (x : Block). same n x.label) (new_blocks unit (plan_at j) b)) 0 bs

  pub count_pieces : (n : List ℕ) → count_by (λ (x : Block). same n x.label) (counted_blocks unit bs) ≡ count_by (λ (x : Block). same n x.label) bs + news n
  unfolding news
  count_pieces n =
      let made = count_made (λ j b. one_if (same n b.label) + count_by (λ (x : Block). same n x.label) (new_blocks unit (plan_at j) b)) (λ (x : Block). same n x.label) (counted_pieces unit bs)
      (λ j b. count_cons (λ (x : Block). same n x.label) (counted_block unit bs (plan_at j) b) (new_blocks unit (plan_at j) b)) 0 bs in
      let parts = total_sum (λ j (b : Block). one_if (same n b.label)) (λ j b. count_by (λ (x : Block). same n x.label) (new_blocks unit (plan_at j) b)) 0 bs in
      let old = total_count n 0 bs in
      omega (arith, made, parts, old)

  -- the new blocks have labels of the plan
  news_few : (n : List ℕ) → news n ≤ count_by (same n) (new_labels unit)
  unfolding news
  news_few n =
      let places = total_places {Y = Block} (λ (q : BlockPlan). count_by (same n) (flat_map label_of q.edges)) no_block_plan refl unit.blocks 0 bs in
      let few = total_few (λ j b. count_by (λ (x : Block). same n x.label) (new_blocks unit (plan_at j) b)) (λ j b. count_by (same n) (flat_map label_of (plan_at j).edges)) (λ j b. block_few n (plan_at j) b) 0 bs in
      let flat = count_flat (same n) (λ (q : BlockPlan). flat_map label_of q.edges) unit.blocks in
      omega (arith, places, few, flat)
    where
      one_few : (n : List ℕ) (to : List ℕ) (o : Option NewBlock) → count_by (λ (x : Block). same n x.label) (put_on unit to o) ≤ count_by (same n) (label_of o)
      one_few n to None = omega arith
      one_few n to (Some new) =
          let c = count_cons (same n) new.label [] in
          let d = count_cons (λ (x : Block). same n x.label) (block_with new.label (increments unit new.counter) (Br to)) [] in
          let none : count_by (same n) [] ≡ 0 = refl in
          let none' : count_by (λ (x : Block). same n x.label) [] ≡ 0 = refl in
          omega (arith, c, d, none, none')

      block_few : (n : List ℕ) (q : BlockPlan) (b : Block) → count_by (λ (x : Block). same n x.label) (new_blocks unit q b) ≤ count_by (same n) (flat_map label_of q.edges)
      block_few n q b =
          let few = count_few (λ p (to : List ℕ). count_by (same n) (label_of (new_at q p))) (λ (x : Block). same n x.label) (λ p to. put_on unit to (new_at q p)) (λ p to. one_few n to (new_at q p)) 0 (successors b.term) in
          let places = total_places {Y = List ℕ} (λ (o : Option NewBlock). count_by (same n) (label_of o)) None refl q.edges 0 (successors b.term) in
          let flat = count_flat (same n) label_of q.edges in
          omega (arith, few, places, flat)

      total_few : (u v : ℕ → Block → ℕ) → ((j : ℕ) (b : Block) → u j b ≤ v j b) → (n : ℕ) (bs : List Block) → total u n bs ≤ total v n bs
      total_few u v h n [] = omega arith
      total_few u v h n (b ∷ bs) = (let here = h n b in let later = total_few u v h (n + 1) bs in omega (arith, here, later))

  module _ (distinct : (l : List ℕ) → count_by (same l) (labels bs) + count_by (same l) (new_labels unit) ≤ 1) where
    once : (n : List ℕ) → count_by (λ (x : Block). same n x.label) (counted_blocks unit bs) ≤ 1
    once n =
        let c = count_pieces n in
        let d = distinct n in
        let l = count_labels n bs in
        let few = news_few n in
        omega (arith, c, d, l, few)

    pub made_distinct : (l : List ℕ) → count_by (same l) (labels (counted_blocks unit bs)) ≤ 1
    made_distinct l =
        let c = count_labels l (counted_blocks unit bs) in
        let d = once l in
        omega (arith, c, d)

    -- ---- blocks under their labels

    pub old_found : (j : ℕ) (b : Block) → slice_get bs j ≡ Some b → block_named bs b.label ≡ Some b
    old_found j b at =
        let c = count_pieces b.label in
        let d = once b.label in
        find_only (λ (x : Block). same b.label x.label) bs b (omega (arith, c, d)) (j, at) (same_self b.label)

    pub made_found : (j : ℕ) (b : Block) → slice_get bs j ≡ Some b → (x : Block) → Has x (counted_pieces unit bs j b) → block_named (counted_blocks unit bs) x.label ≡ Some x
    made_found j b at x has =
        find_only (λ (y : Block). same x.label y.label) (counted_blocks unit bs) x (once x.label) (has_each (counted_pieces unit bs) x 0 bs j b at (from_start (λ i. Has x (counted_pieces unit bs i b)) j has)) (same_self x.label)

    -- ---- the renamings for the edges into block l

    module _ (l : List ℕ) where
      pub all_few : (a : List ℕ) → renamings_of a (renamings unit.blocks bs l) ≤ positions a l bs
      all_few a =
          let few = count_few (λ j (b : Block). cond {A = ℕ} (same a b.label) (count_by (same l) (successors b.term)) 0) (λ (r : List ℕ × List ℕ). same a r.0) (λ j b. renamings_from l (plan_at j) b) (λ j b. from_few l (plan_at j) b a) 0 bs in
          let w = total_positions a l 0 bs in
          omega (arith, few, w)

      pub all_fewer : (j : ℕ) (b : Block) (p : ℕ) (to : List ℕ) → slice_get bs j ≡ Some b → slice_get (successors b.term) p ≡ Some to → same l to ≡ true → new_at (plan_at j) p ≡ None → suc (renamings_of b.label (renamings unit.blocks bs l)) ≤ positions b.label l bs
      all_fewer j b p to at leads is none =
          let fewer = count_fewer (λ j (c : Block). cond {A = ℕ} (same b.label c.label) (count_by (same l) (successors c.term)) 0) (λ (r : List ℕ × List ℕ). same b.label r.0) (λ j b. renamings_from l (plan_at j) b) (λ j c. from_few l (plan_at j) c b.label) 0 bs j b at
          (from_start (λ i. suc (renamings_of b.label (renamings_from l (plan_at i) b)) ≤ cond {A = ℕ} (same b.label b.label) (count_by (same l) (successors b.term)) 0) j (from_fewer l (plan_at j) b b.label (same_self b.label) p to leads is none)) in
          let w = total_positions b.label l 0 bs in
          omega (arith, fewer, w)

      to_news : (n : List ℕ) → renamings_to n (renamings unit.blocks bs l) ≤ news n
      unfolding news
      to_news n = count_few (λ j b. count_by (λ (x : Block). same n x.label) (new_blocks unit (plan_at j) b)) (λ (r : List ℕ × List ℕ). same n r.1) (λ j b. renamings_from l (plan_at j) b) (λ j b. to_few l (plan_at j) b unit n) 0 bs

      -- no new block has the label of an old one
      pub none_to_old : (j : ℕ) (b : Block) → slice_get bs j ≡ Some b → renamings_to b.label (renamings unit.blocks bs l) ≡ 0
      none_to_old j b at =
          let c = count_pieces b.label in
          let d = once b.label in
          let some = counted_some (λ (x : Block). same b.label x.label) bs b (j, at) (same_self b.label) in
          let few = to_news b.label in
          omega (arith, c, d, some, few)

      -- the new block on a way to l
      module _ (j : ℕ) (b : Block) (p : ℕ) (to : List ℕ) (new : NewBlock) (at : slice_get bs j ≡ Some b) (leads : slice_get (successors b.term) p ≡ Some to) (is : same l to ≡ true) (here : new_at (plan_at j) p ≡ Some new) where
        new_has : Has (block_with new.label (increments unit new.counter) (Br to)) (new_blocks unit (plan_at j) b)
        new_has = has_each (λ p to. put_on unit to (new_at (plan_at j) p)) (block_with new.label (increments unit new.counter) (Br to)) 0 (successors b.term) p to leads
            (from_start (λ i. Has (block_with new.label (increments unit new.counter) (Br to)) (put_on unit to (new_at (plan_at j) i))) p
            (subst (λ (o : Option NewBlock). Has (block_with new.label (increments unit new.counter) (Br to)) (put_on unit to o)) (sym here) (0, refl)))

        pub new_found : block_named (counted_blocks unit bs) new.label ≡ Some (block_with new.label (increments unit new.counter) (Br to))
        new_found = made_found j b at (block_with new.label (increments unit new.counter) (Br to)) (suc new_has.0, new_has.1)

        has_renaming : Has (b.label, new.label) (renamings unit.blocks bs l)
        has_renaming = has_each (λ j b. renamings_from l (plan_at j) b) (b.label, new.label) 0 bs j b at
            (from_start (λ i. Has (b.label, new.label) (renamings_from l (plan_at i) b)) j
            (has_each (λ p to. renaming (same l to) b.label (new_at (plan_at j) p)) (b.label, new.label) 0 (successors b.term) p to leads
            (from_start (λ i. Has (b.label, new.label) (renaming (same l to) b.label (new_at (plan_at j) i))) p
            (subst (λ (o : Option NewBlock). Has (b.label, new.label) (renaming (same l to) b.label o)) (sym here)
            (subst (λ (s : Bool). Has (b.label, new.label) (renaming s b.label (Some new))) (sym is) (0, refl))))))

        some_new : 1 ≤ news new.label
        unfolding news
        some_new =
            let some = counted_some (λ (x : Block). same new.label x.label) (new_blocks unit (plan_at j) b) (block_with new.label (increments unit new.counter) (Br to)) new_has (same_self new.label) in
            let part = total_part (λ j b. count_by (λ (x : Block). same new.label x.label) (new_blocks unit (plan_at j) b)) 0 bs j b at in
            let shifted : count_by (λ (x : Block). same new.label x.label) (new_blocks unit (plan_at (0 + j)) b) ≡ count_by (λ (x : Block). same new.label x.label) (new_blocks unit (plan_at j) b) =
            ap (λ i. count_by (λ (x : Block). same new.label x.label) (new_blocks unit (plan_at i) b)) (zero-add j) in
            omega (arith, some, part, shifted)

        -- its label is no old one, and its renaming is one
        pub none_of_new : renamings_of new.label (renamings unit.blocks bs l) ≡ 0
        none_of_new =
            let c = count_pieces new.label in
            let d = once new.label in
            let few = all_few new.label in
            let w = none_named new.label l bs (omega (arith, c, d, some_new)) in
            omega (arith, few, w)

        pub some_renaming : 1 ≤ renamings_to new.label (renamings unit.blocks bs l)
        some_renaming = counted_some (λ (r : List ℕ × List ℕ). same new.label r.1) (renamings unit.blocks bs l) (b.label, new.label) has_renaming (same_self new.label)

        pub only_of_tail : OnlyFrom b.label new.label (renamings unit.blocks bs l)
        only_of_tail =
            let c = count_pieces new.label in
            let d = once new.label in
            let few = to_news new.label in
            only_from b.label new.label (renamings unit.blocks bs l)
            (λ r has q. ap (λ (x : List ℕ × List ℕ). x.0) (only_one (λ (r : List ℕ × List ℕ). same new.label r.1) (renamings unit.blocks bs l) r (b.label, new.label) (omega (arith, c, d, few)) has has_renaming q (same_self new.label)))

        -- the block before it has a renaming, and no phi of the original has an entry for the new block
        pub of_some_tail : 1 ≤ renamings_of b.label (renamings unit.blocks bs l)
        of_some_tail = counted_some (λ (r : List ℕ × List ℕ). same b.label r.0) (renamings unit.blocks bs l) (b.label, new.label) has_renaming (same_self b.label)

        pub new_entries_none : positions new.label l bs ≡ 0
        new_entries_none =
            let c = count_pieces new.label in
            let d = once new.label in
            none_named new.label l bs (omega (arith, c, d, some_new))
