-- How much a function grows that counts: ways out, results, sites and array types.
use Rattle.std.proofs.Common.{◌≡◌, ℕ, suc, ◌+◌, ◌*◌, ◌≤◌, Bool, true, false, cond, List, [], ◌∷◌, ◌++◌, length, map, count_by, sum_by, Option, Some, None, is_some, slice_get, refl, ap, subst, ◌∙◌, arith}
use Rattle.std.specs.Prelude.{max}
use Rattle.std.specs.List.{flat_map}
use Rattle.std.proofs.lemmas.List.{length-append, length-map, take-append-drop}
use Rattle.std.proofs.lemmas.List.Sums.{sum_by-append, sum_by-cons}
use Rattle.count_plan.specs.Calls.{condition_of, condition_watched, increment, increments, target_of, target_watched, watched}
use Rattle.count_plan.specs.Counted.{counted_blocks, counted_from, counted_function, counted_instrs, counted_pieces, new_blocks, put_on, watch_at}
use Rattle.count_plan.specs.Ways.{block_plan, led, new_at, renamed_phi, renamings}
use Rattle.count_plan.specs.declared.plan.BlockPlan.{BlockPlan}
use Rattle.count_plan.specs.declared.plan.FunctionPlan.{FunctionPlan}
use Rattle.count_plan.specs.declared.plan.NewBlock.{NewBlock}
use Rattle.count_plan.specs.declared.plan.Watch.{Watch}
use Rattle.count_plan.specs.declared.plan.Watch.TheVariants.{Nothing, Condition, Target}
use Rattle.counted_rules.proofs.FunctionKept.{same_empty}
use Rattle.counted_rules.proofs.Instrs.{Added, Cast, Front, Head, Item, Noted, Own, Put, Puts, Tail, Taken, behind_among, front_among, increment_among, item_from}
use Rattle.counted_rules.proofs.Listed.{Name, among_flat, at_among, flat_among}
use Rattle.counted_rules.proofs.NamesKept.{same_result}
use Rattle.counted_rules.proofs.Ways.{Made, New, Old, block_from, led_all, made_of, made_on, plan_at, successors_led}
use Rattle.counted_rules.specs.Grown.{GrowsLittle}
use Rattle.counted_rules.specs.PlanFits.{put_names, watches_in}
use Rattle.ir_rules.specs.Limits.{function_arrays, has_result, instr_arrays, total_of}
use Rattle.ir_rules.specs.Lists.{Among}
use Rattle.ir_tree.specs.Blocks.{labels}
use Rattle.ir_tree.specs.Graphs.{count_in, is_local, is_select, is_site}
use Rattle.ir_tree.specs.Operands.{result_names}
use Rattle.ir_tree.specs.Phis.{behind_phis, leading_phis, phi_count}
use Rattle.ir_tree.specs.Successors.{successors, ways_out}
use Rattle.ir_tree.specs.declared.types.Block.{Block}
use Rattle.ir_tree.specs.declared.types.Function.{Function}
use Rattle.ir_tree.specs.declared.types.Instr.{Instr}
use Rattle.ir_tree.specs.declared.types.Instr.TheVariants.{Binary, Compare, Convert, Freeze, Select, Phi, Alloca, Load, Store, Gep, Call, Count}
use Rattle.ir_tree.specs.declared.types.Operand.{Operand}
use Rattle.ir_tree.specs.declared.types.Ret.{Ret}
use Rattle.spec_items.proofs.Items.{count_cons, count-append}
use Rattle.spec_lists.specs.Each.{each}

-- ---- instructions that pass a test

module _ (test : Instr → Bool) (more : Instr → ℕ) (unit : FunctionPlan) (same_test : (rs : List (Name × Name)) (x : Instr) → test (renamed_phi rs x) ≡ test x) (no_increment : (c : ℕ) → test (increment unit c) ≡ false) (few : (j i : ℕ) (x : Instr) → count_by test (watched unit (watch_at (block_plan unit.blocks j) i) x) ≤ more x) where
  none_there : (o : Option ℕ) → count_by test (increments unit o) ≡ 0
  none_there None = refl
  none_there (Some c) =
      let a = count_cons test (increment unit c) [] in
      let b : cond {A = ℕ} (test (increment unit c)) 1 0 ≡ 0 = ap (λ (t : Bool). cond {A = ℕ} t 1 0) (no_increment c) in
      let z : count_by test [] ≡ 0 = refl in
      omega (arith, a, b, z)

  from_few : (j i : ℕ) (xs : List Instr) → count_by test (counted_from unit (block_plan unit.blocks j) i xs) ≤ count_by test xs + sum_by more xs
  from_few j i [] = (let z = none_there (block_plan unit.blocks j).tail in omega (arith, z))
  from_few j i (x ∷ xs) =
      let plan : BlockPlan = block_plan unit.blocks j in
      let a = count-append test (watched unit (watch_at plan i) x) (x ∷ counted_from unit plan (i + 1) xs) in
      let b = count_cons test x (counted_from unit plan (i + 1) xs) in
      let c = count_cons test x xs in
      let d = sum_by-cons more x xs in
      let w = few j i x in
      let rest = from_few j (i + 1) xs in
      omega (arith, a, b, c, d, w, rest)

  renamed_count : (rs : List (Name × Name)) (xs : List Instr) → count_by test (map (renamed_phi rs) xs) ≡ count_by test xs
  renamed_count rs [] = refl
  renamed_count rs (x ∷ xs) =
      let a = count_cons test (renamed_phi rs x) (map (renamed_phi rs) xs) in
      let b = count_cons test x xs in
      let c : cond {A = ℕ} (test (renamed_phi rs x)) 1 0 ≡ cond {A = ℕ} (test x) 1 0 = ap (λ (t : Bool). cond {A = ℕ} t 1 0) (same_test rs x) in
      let rest = renamed_count rs xs in
      omega (arith, a, b, c, rest)

  instrs_few : (j : ℕ) (rs : List (Name × Name)) (xs : List Instr) → count_by test (counted_instrs unit (block_plan unit.blocks j) rs xs) ≤ count_by test xs + sum_by more xs
  instrs_few j rs xs =
      let plan : BlockPlan = block_plan unit.blocks j in
      let front : List Instr = map (renamed_phi rs) (leading_phis xs) in
      let rest : List Instr = counted_from unit plan 0 (behind_phis xs) in
      let a : count_by test (map (renamed_phi rs) (leading_phis xs) ++ (increments unit plan.head ++ counted_from unit plan 0 (behind_phis xs))) ≡ count_by test (map (renamed_phi rs) (leading_phis xs)) + count_by test (increments unit plan.head ++ counted_from unit plan 0 (behind_phis xs)) = count-append test (map (renamed_phi rs) (leading_phis xs)) (increments unit plan.head ++ counted_from unit plan 0 (behind_phis xs)) in
      let b = count-append test (increments unit plan.head) (counted_from unit plan 0 (behind_phis xs)) in
      let z = none_there plan.head in
      let r = renamed_count rs (leading_phis xs) in
      let f = from_few j 0 (behind_phis xs) in
      let c : count_by test (leading_phis xs ++ behind_phis xs) ≡ count_by test (leading_phis xs) + count_by test (behind_phis xs) = count-append test (leading_phis xs) (behind_phis xs) in
      let d : count_by test (leading_phis xs ++ behind_phis xs) ≡ count_by test xs = ap (λ (ys : List Instr). count_by test ys) (take-append-drop (phi_count xs) xs) in
      let e : sum_by more (leading_phis xs ++ behind_phis xs) ≡ sum_by more (leading_phis xs) + sum_by more (behind_phis xs) = sum_by-append more (leading_phis xs) (behind_phis xs) in
      let g : sum_by more (leading_phis xs ++ behind_phis xs) ≡ sum_by more xs = ap (λ (ys : List Instr). sum_by more ys) (take-append-drop (phi_count xs) xs) in
      omega (arith, a, b, z, r, f, c, d, e, g)

  in_append : (bs cs : List Block) → count_in test (bs ++ cs) ≡ count_in test bs + count_in test cs
  in_append bs cs = sum_by-append (λ (b : Block). count_by test b.instrs) bs cs

  new_none : (plan : BlockPlan) (p : ℕ) (tos : List Name) → count_in test (each (λ q to. put_on unit to (new_at plan q)) p tos) ≡ 0
  new_none plan p [] = refl
  new_none plan p (to ∷ tos) =
      let a = in_append (put_on unit to (new_at plan p)) (each (λ q t. put_on unit t (new_at plan q)) (p + 1) tos) in
      let here = one (new_at plan p) in
      let rest = new_none plan (p + 1) tos in
      omega (arith, a, here, rest)
    where
      one : (o : Option NewBlock) → count_in test (put_on unit to o) ≡ 0
      one None = refl
      one (Some new) =
          let c = sum_by-cons (λ (b : Block). count_by test b.instrs) (made_on unit [] new to) [] in
          let z = none_there new.counter in
          let n : sum_by (λ (b : Block). count_by test b.instrs) [] ≡ 0 = refl in
          omega (arith, c, z, n)

  blocks_few : (bs : List Block) (n : ℕ) (xs : List Block) → count_in test (each (counted_pieces unit bs) n xs) ≤ count_in test xs + sum_by (λ (b : Block). sum_by more b.instrs) xs
  blocks_few bs n [] = omega arith
  blocks_few bs n (b ∷ xs) =
      let plan : BlockPlan = block_plan unit.blocks n in
      let a = in_append (counted_pieces unit bs n b) (each (counted_pieces unit bs) (n + 1) xs) in
      let c = sum_by-cons (λ (d : Block). count_by test d.instrs) (made_of unit bs n b) (new_blocks unit plan b) in
      let d = new_none plan 0 (successors b.term) in
      let e = instrs_few n (renamings unit.blocks bs b.label) b.instrs in
      let g = sum_by-cons (λ (d : Block). count_by test d.instrs) b xs in
      let h = sum_by-cons (λ (d : Block). sum_by more d.instrs) b xs in
      let rest = blocks_few bs (n + 1) xs in
      omega (arith, a, c, d, e, g, h, rest)

-- ---- results

abbrev watchable : Instr → ℕ
watchable x = cond {A = ℕ} (is_select x) 1 0 + cond {A = ℕ} (is_site x) 1 0

one_condition : (unit : FunctionPlan) (r : Name) (c : ℕ) (x : Instr) → count_by has_result (condition_watched unit r c (condition_of x)) ≤ cond {A = ℕ} (is_select x) 1 0 + cond {A = ℕ} (is_site x) 1 0
one_condition unit r c (Binary into op flags ty left right) = omega arith
one_condition unit r c (Compare into pred ty left right) = omega arith
one_condition unit r c (Convert into op flags from value to) = omega arith
one_condition unit r c (Freeze into ty value) = omega arith
one_condition unit r c (Select into o ty first second prof) = omega arith
one_condition unit r c (Phi into ty entries) = omega arith
one_condition unit r c (Alloca into mem) = omega arith
one_condition unit r c (Load into ty address) = omega arith
one_condition unit r c (Store ty value address) = omega arith
one_condition unit r c (Gep into inbounds mem address indices) = omega arith
one_condition unit r c (Call into ret callee values prof) = omega arith
one_condition unit r c (Count symbol size index step) = omega arith

one_target : (unit : FunctionPlan) (r : Name) (s : ℕ) (x : Instr) → count_by has_result (target_watched unit r s (target_of x)) ≤ cond {A = ℕ} (is_select x) 1 0 + cond {A = ℕ} (is_site x) 1 0
one_target unit r s (Binary into op flags ty left right) = omega arith
one_target unit r s (Compare into pred ty left right) = omega arith
one_target unit r s (Convert into op flags from value to) = omega arith
one_target unit r s (Freeze into ty value) = omega arith
one_target unit r s (Select into o ty first second prof) = omega arith
one_target unit r s (Phi into ty entries) = omega arith
one_target unit r s (Alloca into mem) = omega arith
one_target unit r s (Load into ty address) = omega arith
one_target unit r s (Store ty value address) = omega arith
one_target unit r s (Gep into inbounds mem address indices) = omega arith
one_target unit r s (Call into ret callee values prof) = by (is_local callee)
  where
    by : (b : Bool) → count_by has_result (target_watched unit r s (cond b (Some callee) None)) ≤ 0 + cond {A = ℕ} b 1 0
    by true = omega arith
    by false = omega arith
one_target unit r s (Count symbol size index step) = omega arith

results_watched : (unit : FunctionPlan) (w : Watch) (x : Instr) → count_by has_result (watched unit w x) ≤ cond {A = ℕ} (is_select x) 1 0 + cond {A = ℕ} (is_site x) 1 0
results_watched unit Nothing x = omega arith
results_watched unit (Condition r c) x = one_condition unit r c x
results_watched unit (Target r s) x = one_target unit r s x

-- ---- sites

same_site : (rs : List (Name × Name)) (x : Instr) → is_site (renamed_phi rs x) ≡ is_site x
same_site rs (Binary into op flags ty left right) = refl
same_site rs (Compare into pred ty left right) = refl
same_site rs (Convert into op flags from value to) = refl
same_site rs (Freeze into ty value) = refl
same_site rs (Select into c ty first second prof) = refl
same_site rs (Phi into ty entries) = refl
same_site rs (Alloca into mem) = refl
same_site rs (Load into ty address) = refl
same_site rs (Store ty value address) = refl
same_site rs (Gep into inbounds mem address indices) = refl
same_site rs (Call into ret callee values prof) = refl
same_site rs (Count symbol size index step) = refl

sites_watched : (unit : FunctionPlan) (w : Watch) (x : Instr) → count_by is_site (watched unit w x) ≤ 0
sites_watched unit Nothing x = omega arith
sites_watched unit (Condition r c) x = by (condition_of x)
  where
    by : (o : Option Operand) → count_by is_site (condition_watched unit r c o) ≤ 0
    by None = omega arith
    by (Some o) = omega arith
sites_watched unit (Target r s) x = by (target_of x)
  where
    by : (o : Option Operand) → count_by is_site (target_watched unit r s o) ≤ 0
    by None = omega arith
    by (Some o) = omega arith

-- ---- selects

same_select : (rs : List (Name × Name)) (x : Instr) → is_select (renamed_phi rs x) ≡ is_select x
same_select rs (Binary into op flags ty left right) = refl
same_select rs (Compare into pred ty left right) = refl
same_select rs (Convert into op flags from value to) = refl
same_select rs (Freeze into ty value) = refl
same_select rs (Select into c ty first second prof) = refl
same_select rs (Phi into ty entries) = refl
same_select rs (Alloca into mem) = refl
same_select rs (Load into ty address) = refl
same_select rs (Store ty value address) = refl
same_select rs (Gep into inbounds mem address indices) = refl
same_select rs (Call into ret callee values prof) = refl
same_select rs (Count symbol size index step) = refl

selects_watched : (unit : FunctionPlan) (w : Watch) (x : Instr) → count_by is_select (watched unit w x) ≤ 0
selects_watched unit Nothing x = omega arith
selects_watched unit (Condition r c) x = by (condition_of x)
  where
    by : (o : Option Operand) → count_by is_select (condition_watched unit r c o) ≤ 0
    by None = omega arith
    by (Some o) = omega arith
selects_watched unit (Target r s) x = by (target_of x)
  where
    by : (o : Option Operand) → count_by is_select (target_watched unit r s o) ≤ 0
    by None = omega arith
    by (Some o) = omega arith

-- ---- sums

two_counts : (p q : Instr → Bool) (xs : List Instr) → sum_by (λ x. cond {A = ℕ} (p x) 1 0 + cond {A = ℕ} (q x) 1 0) xs ≡ count_by p xs + count_by q xs
two_counts p q [] = refl
two_counts p q (x ∷ xs) =
    let a = sum_by-cons (λ (y : Instr). cond {A = ℕ} (p y) 1 0 + cond {A = ℕ} (q y) 1 0) x xs in
    let b = count_cons p x xs in
    let c = count_cons q x xs in
    let rest = two_counts p q xs in
    omega (arith, a, b, c, rest)

two_counts_in : (p q : Instr → Bool) (bs : List Block) → sum_by (λ (b : Block). sum_by (λ x. cond {A = ℕ} (p x) 1 0 + cond {A = ℕ} (q x) 1 0) b.instrs) bs ≡ count_in p bs + count_in q bs
two_counts_in p q [] = refl
two_counts_in p q (b ∷ bs) =
    let a = sum_by-cons (λ (d : Block). sum_by (λ x. cond {A = ℕ} (p x) 1 0 + cond {A = ℕ} (q x) 1 0) d.instrs) b bs in
    let here = two_counts p q b.instrs in
    let c = sum_by-cons (λ (d : Block). count_by p d.instrs) b bs in
    let e = sum_by-cons (λ (d : Block). count_by q d.instrs) b bs in
    let rest = two_counts_in p q bs in
    omega (arith, a, here, c, e, rest)

no_sum : (xs : List Instr) → sum_by (λ (x : Instr). 0) xs ≡ 0
no_sum [] = refl
no_sum (x ∷ xs) = (let a = sum_by-cons (λ (y : Instr). 0) x xs in let rest = no_sum xs in omega (arith, a, rest))

no_sums : (bs : List Block) → sum_by (λ (b : Block). sum_by (λ (x : Instr). 0) b.instrs) bs ≡ 0
no_sums [] = refl
no_sums (b ∷ bs) = (let a = sum_by-cons (λ (d : Block). sum_by (λ (x : Instr). 0) d.instrs) b bs in let here = no_sum b.instrs in let rest = no_sums bs in omega (arith, a, here, rest))

-- ---- ways out

module _ (unit : FunctionPlan) where
  as_many_led : (plan : BlockPlan) (p : ℕ) (tos : List Name) → length (led_all plan p tos) ≡ length tos
  as_many_led plan p [] = refl
  as_many_led plan p (to ∷ tos) = ap (λ (k : ℕ). suc k) (as_many_led plan (p + 1) tos)

  led_ways : (j : ℕ) (b : Block) → length (successors (led (block_plan unit.blocks j) b.term)) ≡ length (successors b.term)
  led_ways j b = ap (λ (ns : List Name). length ns) (successors_led (block_plan unit.blocks j) b.term) ∙ as_many_led (block_plan unit.blocks j) 0 (successors b.term)

  new_ways : (plan : BlockPlan) (p : ℕ) (tos : List Name) → sum_by ways_out (each (λ q to. put_on unit to (new_at plan q)) p tos) ≤ length tos
  new_ways plan p [] = omega arith
  new_ways plan p (to ∷ tos) =
      let a = sum_by-append ways_out (put_on unit to (new_at plan p)) (each (λ q t. put_on unit t (new_at plan q)) (p + 1) tos) in
      let here = one (new_at plan p) in
      let rest = new_ways plan (p + 1) tos in
      omega (arith, a, here, rest)
    where
      one : (o : Option NewBlock) → sum_by ways_out (put_on unit to o) ≤ 1
      one None = omega arith
      one (Some new) =
          let c = sum_by-cons ways_out (made_on unit [] new to) [] in
          let w : ways_out (made_on unit [] new to) ≡ 1 = refl in
          let n : sum_by ways_out [] ≡ 0 = refl in
          omega (arith, c, w, n)

  ways_few : (bs : List Block) (n : ℕ) (xs : List Block) → sum_by ways_out (each (counted_pieces unit bs) n xs) ≤ 2 * sum_by ways_out xs
  ways_few bs n [] = omega arith
  ways_few bs n (b ∷ xs) =
      let plan : BlockPlan = block_plan unit.blocks n in
      let a = sum_by-append ways_out (counted_pieces unit bs n b) (each (counted_pieces unit bs) (n + 1) xs) in
      let c = sum_by-cons ways_out (made_of unit bs n b) (new_blocks unit plan b) in
      let m : ways_out (made_of unit bs n b) ≡ ways_out b = ap (λ (k : ℕ). max 1 k) (led_ways n b) in
      let d = new_ways (block_plan unit.blocks n) 0 (successors b.term) in
      let w : length (successors b.term) ≤ ways_out b = omega arith in
      let e = sum_by-cons ways_out b xs in
      let rest = ways_few bs (n + 1) xs in
      omega (arith, a, c, m, d, w, e, rest)

  -- each new block has one way out and one name
  new_named : (plan : BlockPlan) (p : ℕ) (tos : List Name) → sum_by ways_out (each (λ q to. put_on unit to (new_at plan q)) p tos) ≡ length (each (λ q to. put_on unit to (new_at plan q)) p tos)
  new_named plan p [] = refl
  new_named plan p (to ∷ tos) =
      let a = sum_by-append ways_out (put_on unit to (new_at plan p)) (each (λ q t. put_on unit t (new_at plan q)) (p + 1) tos) in
      let b = length-append (put_on unit to (new_at plan p)) (each (λ q t. put_on unit t (new_at plan q)) (p + 1) tos) in
      let here = one (new_at plan p) in
      let rest = new_named plan (p + 1) tos in
      omega (arith, a, b, here, rest)
    where
      one : (o : Option NewBlock) → sum_by ways_out (put_on unit to o) ≡ length (put_on unit to o)
      one None = refl
      one (Some new) = refl

  ways_named : (bs : List Block) (n : ℕ) (xs : List Block) → sum_by ways_out (each (counted_pieces unit bs) n xs) ≤ sum_by ways_out xs + length (each (λ j b. put_names unit (block_plan unit.blocks j) b) n xs)
  ways_named bs n [] = omega arith
  ways_named bs n (b ∷ xs) =
      let plan : BlockPlan = block_plan unit.blocks n in
      let a = sum_by-append ways_out (counted_pieces unit bs n b) (each (counted_pieces unit bs) (n + 1) xs) in
      let c = sum_by-cons ways_out (made_of unit bs n b) (new_blocks unit plan b) in
      let m : ways_out (made_of unit bs n b) ≡ ways_out b = ap (λ (k : ℕ). max 1 k) (led_ways n b) in
      let d = new_named (block_plan unit.blocks n) 0 (successors b.term) in
      let l : length (labels (new_blocks unit (block_plan unit.blocks n) b)) ≡ length (new_blocks unit (block_plan unit.blocks n) b) = length-map (new_blocks unit (block_plan unit.blocks n) b) (λ (q : Block). q.label) in
      let p = length-append (result_names (watches_in unit (block_plan unit.blocks n) b)) (labels (new_blocks unit (block_plan unit.blocks n) b)) in
      let q = length-append (put_names unit (block_plan unit.blocks n) b) (each (λ j c. put_names unit (block_plan unit.blocks j) c) (n + 1) xs) in
      let e = sum_by-cons ways_out b xs in
      let rest = ways_named bs (n + 1) xs in
      omega (arith, a, c, m, d, l, p, q, e, rest)

-- ---- array types

same_arrays : (rs : List (Name × Name)) (x : Instr) → instr_arrays (renamed_phi rs x) ≡ instr_arrays x
same_arrays rs (Binary into op flags ty left right) = refl
same_arrays rs (Compare into pred ty left right) = refl
same_arrays rs (Convert into op flags from value to) = refl
same_arrays rs (Freeze into ty value) = refl
same_arrays rs (Select into c ty first second prof) = refl
same_arrays rs (Phi into ty entries) = refl
same_arrays rs (Alloca into mem) = refl
same_arrays rs (Load into ty address) = refl
same_arrays rs (Store ty value address) = refl
same_arrays rs (Gep into inbounds mem address indices) = refl
same_arrays rs (Call into ret callee values prof) = refl
same_arrays rs (Count symbol size index step) = refl

put_no_array : (unit : FunctionPlan) (plan : BlockPlan) (xs : List Instr) (x : Instr) → Put unit plan xs x → instr_arrays x ≡ []
put_no_array unit plan xs x (Head c h e) = ap instr_arrays e
put_no_array unit plan xs x (Tail c h e) = ap instr_arrays e
put_no_array unit plan xs x (Taken k y r c o at is h e) = ap instr_arrays e
put_no_array unit plan xs x (Added k y r c o at is h e) = ap instr_arrays e
put_no_array unit plan xs x (Cast k y r s o at is h e) = ap instr_arrays e
put_no_array unit plan xs x (Noted k y r s o at is h e) = ap instr_arrays e

module _ (unit : FunctionPlan) (f : Function) (n : ℕ) where
  abbrev of_block : Block → List ℕ
  of_block b = flat_map instr_arrays b.instrs

  in_old : (j : ℕ) (b : Block) → slice_get f.blocks j ≡ Some b → Among n (of_block (made_of unit f.blocks j b)) → Among n (of_block b)
  in_old j b at h = by (flat_among instr_arrays (made_of unit f.blocks j b).instrs n h)
    where
      on : (x : Instr) → Among n (instr_arrays x) → Item unit (plan_at unit f.blocks j) (renamings unit.blocks f.blocks b.label) b.instrs x → Among n (of_block b)
      on x k (Front y here e) = among_flat instr_arrays b.instrs y n (front_among b.instrs y here) (subst (λ (ns : List ℕ). Among n ns) (ap instr_arrays e ∙ same_arrays (renamings unit.blocks f.blocks b.label) y) k)
      on x k (Own here) = among_flat instr_arrays b.instrs x n (behind_among b.instrs x here) k
      on x k (Puts p) = absurd (subst (λ (ns : List ℕ). Among n ns) (put_no_array unit (plan_at unit f.blocks j) (behind_phis b.instrs) x p) k)

      by : (x : Instr) × Among x (made_of unit f.blocks j b).instrs × Among n (instr_arrays x) → Among n (of_block b)
      by (x, here, k) = on x k (item_from unit (plan_at unit f.blocks j) (renamings unit.blocks f.blocks b.label) b.instrs x here)

  in_new : (new : NewBlock) (to : Name) → Among n (of_block (made_on unit f.blocks new to)) → ⊥
  in_new new to h =
      let x = flat_among instr_arrays (increments unit new.counter) n h in
      let c = increment_among unit new.counter x.0 x.1 in
      subst (λ (ns : List ℕ). Among n ns) (ap instr_arrays c.2) x.2

  arrays_stay : Among n (function_arrays (counted_function unit f)) → Among n (function_arrays f)
  arrays_stay h = by (flat_among of_block (counted_blocks unit f.blocks) n h)
    where
      on : (q : Block) → Among n (of_block q) → Made unit f.blocks q → Among n (function_arrays f)
      on q k (Old j b at e) = among_flat of_block f.blocks b n (at_among f.blocks j b at) (in_old j b at (subst (λ (d : Block). Among n (of_block d)) e k))
      on q k (New j b p to new way e) = absurd (in_new new to (subst (λ (d : Block). Among n (of_block d)) e k))

      by : (q : Block) × Among q (counted_blocks unit f.blocks) × Among n (of_block q) → Among n (function_arrays f)
      by (q, at, k) = on q k (block_from unit f.blocks q at)

same_has : (rs : List (Name × Name)) (x : Instr) → has_result (renamed_phi rs x) ≡ has_result x
same_has rs x = ap (λ (o : Option (Name × Ret)). is_some o) (same_result rs x)

nothing_watched : (unit : FunctionPlan) → ((j i : ℕ) → watch_at (block_plan unit.blocks j) i ≡ Nothing) → (j i : ℕ) (x : Instr) → count_by has_result (watched unit (watch_at (block_plan unit.blocks j) i) x) ≤ 0
nothing_watched unit none j i x = (let e : count_by has_result (watched unit (watch_at (block_plan unit.blocks j) i) x) ≡ 0 = ap (λ (w : Watch). count_by has_result (watched unit w x)) (none j i) in omega (arith, e))

pub grows_little : (unit : FunctionPlan) (f : Function) → GrowsLittle unit f
unfolding total_of
grows_little unit f = record {
  declared = same_empty unit f.blocks;
  edges = ways_few unit f.blocks 0 f.blocks;
  by_names = ways_named unit f.blocks 0 f.blocks;
  results = (let a = blocks_few has_result (λ x. cond {A = ℕ} (is_select x) 1 0 + cond {A = ℕ} (is_site x) 1 0) unit same_has (λ c. refl) (λ j i x. results_watched unit (watch_at (block_plan unit.blocks j) i) x) f.blocks 0 f.blocks in let b = two_counts_in is_select is_site f.blocks in omega (arith, a, b));
  unwatched = λ none. (let a = blocks_few has_result (λ x. 0) unit same_has (λ c. refl) (nothing_watched unit none) f.blocks 0 f.blocks in let b = no_sums f.blocks in omega (arith, a, b));
  selects = (let a = blocks_few is_select (λ x. 0) unit same_select (λ c. refl) (λ j i x. selects_watched unit (watch_at (block_plan unit.blocks j) i) x) f.blocks 0 f.blocks in let b = no_sums f.blocks in omega (arith, a, b));
  sites = (let a = blocks_few is_site (λ x. 0) unit same_site (λ c. refl) (λ j i x. sites_watched unit (watch_at (block_plan unit.blocks j) i) x) f.blocks 0 f.blocks in let b = no_sums f.blocks in omega (arith, a, b));
  arrays = λ n h. arrays_stay unit f n h;
}
