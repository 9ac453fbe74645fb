-- The names of a function that counts: its own, and those that are put in.
use Rattle.std.proofs.Common.{◌≡◌, ℕ, ◌+◌, ◌≤◌, List, [], ◌∷◌, ◌++◌, map, Option, Some, None, refl, ap, ◌∙◌, arith}
use Rattle.std.specs.List.{cons_option, flat_map, filter_map}
use Rattle.std.specs.Option.{option_map}
use Rattle.std.proofs.lemmas.Grind.{flat_map-append}
use Rattle.std.proofs.lemmas.List.{take-append-drop}
use Rattle.std.proofs.lemmas.List.Elements.{filter_map-append}
use Rattle.count_plan.specs.Calls.{increments, watched}
use Rattle.count_plan.specs.Counted.{counted_block, counted_blocks, counted_from, counted_function, counted_instrs, counted_pieces, new_blocks, put_on, watch_at}
use Rattle.count_plan.specs.Ways.{block_plan, new_at, renamed_phi, renamings}
use Rattle.count_plan.specs.declared.plan.BlockPlan.{BlockPlan}
use Rattle.count_plan.specs.declared.plan.FunctionPlan.{FunctionPlan}
use Rattle.count_plan.specs.declared.plan.NewBlock.{NewBlock}
use Rattle.counted_rules.proofs.Listed.{Name, times_append, times_cons}
use Rattle.counted_rules.specs.PlanFits.{new_names, put_names, watches_in}
use Rattle.ir_rules.specs.Lists.{times}
use Rattle.ir_rules.specs.Scopes.{block_names, names, param_names}
use Rattle.ir_tree.specs.Blocks.{labels}
use Rattle.ir_tree.specs.Operands.{result_name, result_names, result_of}
use Rattle.ir_tree.specs.Phis.{behind_phis, leading_phis, phi_count}
use Rattle.ir_tree.specs.Successors.{successors}
use Rattle.ir_tree.specs.declared.types.Block.{Block}
use Rattle.ir_tree.specs.declared.types.Function.{Function}
use Rattle.ir_tree.specs.declared.types.Instr.{Instr}
use Rattle.ir_tree.specs.declared.types.Instr.TheVariants.{Binary, Compare, Convert, Freeze, Select, Phi, Alloca, Load, Store, Gep, Call, Count}
use Rattle.ir_tree.specs.declared.types.Ret.{Ret}
use Rattle.spec_lists.specs.Each.{each}

-- a phi keeps its result
pub same_result : (rs : List (Name × Name)) (x : Instr) → result_of (renamed_phi rs x) ≡ result_of x
same_result rs (Binary into op flags ty left right) = refl
same_result rs (Compare into pred ty left right) = refl
same_result rs (Convert into op flags from value to) = refl
same_result rs (Freeze into ty value) = refl
same_result rs (Select into c ty first second prof) = refl
same_result rs (Phi into ty entries) = refl
same_result rs (Alloca into mem) = refl
same_result rs (Load into ty address) = refl
same_result rs (Store ty value address) = refl
same_result rs (Gep into inbounds mem address indices) = refl
same_result rs (Call into ret callee values prof) = refl
same_result rs (Count symbol size index step) = refl

pub filtered_map : {X Y : Type 0} (h : X → Option Y) (g : X → X) → ((x : X) → h (g x) ≡ h x) → (xs : List X) → filter_map h (map g xs) ≡ filter_map h xs
filtered_map h g keeps [] = refl
filtered_map h g keeps (x ∷ xs) = λ i. cons_option (keeps x i) (filtered_map h g keeps xs i)

no_results : (unit : FunctionPlan) (o : Option ℕ) → result_names (increments unit o) ≡ []
no_results unit None = refl
no_results unit (Some c) = refl

module _ (unit : FunctionPlan) (n : Name) where
  results_append : (xs ys : List Instr) → times n (result_names (xs ++ ys)) ≡ times n (result_names xs) + times n (result_names ys)
  results_append xs ys = ap (λ (ns : List Name). times n ns) (filter_map-append result_name xs ys) ∙ times_append n (result_names xs) (result_names ys)

  names_append : (xs ys : List Block) → times n (flat_map block_names (xs ++ ys)) ≡ times n (flat_map block_names xs) + times n (flat_map block_names ys)
  names_append xs ys = ap (λ (ns : List Name). times n ns) (flat_map-append block_names xs ys) ∙ times_append n (flat_map block_names xs) (flat_map block_names ys)

  no_more : (o : Option ℕ) → times n (result_names (increments unit o)) ≡ 0
  no_more o = ap (λ (ns : List Name). times n ns) (no_results unit o)

  -- ---- a block

  from_names : (plan : BlockPlan) (i : ℕ) (xs : List Instr) → times n (result_names (counted_from unit plan i xs)) ≡ times n (result_names xs) + times n (result_names (each (λ k x. watched unit (watch_at plan k) x) i xs))
  from_names plan i [] = let none : times n (result_names (increments unit plan.tail)) ≡ 0 = no_more plan.tail in omega (arith, none)
  from_names plan i (x ∷ xs) =
      let w : List Instr = watched unit (watch_at plan i) x in
      let a : times n (result_names (w ++ (x ∷ counted_from unit plan (i + 1) xs))) ≡ times n (result_names w) + times n (result_names (x ∷ counted_from unit plan (i + 1) xs)) = results_append w (x ∷ counted_from unit plan (i + 1) xs) in
      let b : times n (result_names ((x ∷ []) ++ counted_from unit plan (i + 1) xs)) ≡ times n (result_names (x ∷ [])) + times n (result_names (counted_from unit plan (i + 1) xs)) = results_append (x ∷ []) (counted_from unit plan (i + 1) xs) in
      let c : times n (result_names ((x ∷ []) ++ xs)) ≡ times n (result_names (x ∷ [])) + times n (result_names xs) = results_append (x ∷ []) xs in
      let d : times n (result_names (w ++ each (λ k z. watched unit (watch_at plan k) z) (i + 1) xs)) ≡ times n (result_names w) + times n (result_names (each (λ k z. watched unit (watch_at plan k) z) (i + 1) xs)) = results_append w (each (λ k z. watched unit (watch_at plan k) z) (i + 1) xs) in
      let later = from_names plan (i + 1) xs in
      omega (arith, a, b, c, d, later)

  pub instr_names : (plan : BlockPlan) (rs : List (Name × Name)) (b : Block) → times n (result_names (counted_instrs unit plan rs b.instrs)) ≡ times n (result_names b.instrs) + times n (result_names (watches_in unit plan b))
  instr_names plan rs b =
      let front : List Instr = map (renamed_phi rs) (leading_phis b.instrs) in
      let rest : List Instr = counted_from unit plan 0 (behind_phis b.instrs) in
      let a : times n (result_names (front ++ (increments unit plan.head ++ rest))) ≡ times n (result_names front) + times n (result_names (increments unit plan.head ++ rest)) = results_append front (increments unit plan.head ++ rest) in
      let h : times n (result_names (increments unit plan.head ++ rest)) ≡ times n (result_names (increments unit plan.head)) + times n (result_names rest) = results_append (increments unit plan.head) rest in
      let z : times n (result_names (increments unit plan.head)) ≡ 0 = no_more plan.head in
      let same_front : times n (result_names front) ≡ times n (result_names (leading_phis b.instrs)) = ap (λ (ns : List Name). times n ns) (filtered_map result_name (renamed_phi rs) (λ x. ap (λ (o : Option (Name × Ret)). option_map (λ (r : Name × Ret). r.0) o) (same_result rs x)) (leading_phis b.instrs)) in
      let whole : times n (result_names (leading_phis b.instrs ++ behind_phis b.instrs)) ≡ times n (result_names (leading_phis b.instrs)) + times n (result_names (behind_phis b.instrs)) = results_append (leading_phis b.instrs) (behind_phis b.instrs) in
      let is : times n (result_names (leading_phis b.instrs ++ behind_phis b.instrs)) ≡ times n (result_names b.instrs) = ap (λ (xs : List Instr). times n (result_names xs)) (take-append-drop (phi_count b.instrs) b.instrs) in
      let made = from_names plan 0 (behind_phis b.instrs) in
      omega (arith, a, h, z, same_front, whole, is, made)

  -- ---- new blocks

  put_named : (to : Name) (o : Option NewBlock) → times n (flat_map block_names (put_on unit to o)) ≡ times n (labels (put_on unit to o))
  put_named to None = refl
  put_named to (Some new) = by new.counter
    where
      by : (o : Option ℕ) → times n (new.label ∷ (result_names (increments unit o) ++ [])) ≡ times n (new.label ∷ [])
      by None = refl
      by (Some c) = refl

  new_named : (plan : BlockPlan) (p : ℕ) (tos : List Name) → times n (flat_map block_names (each (λ q to. put_on unit to (new_at plan q)) p tos)) ≡ times n (labels (each (λ q to. put_on unit to (new_at plan q)) p tos))
  new_named plan p [] = refl
  new_named plan p (to ∷ tos) =
      let rest : List Block = each (λ q t. put_on unit t (new_at plan q)) (p + 1) tos in
      let a = names_append (put_on unit to (new_at plan p)) rest in
      let here = put_named to (new_at plan p) in
      let later = new_named plan (p + 1) tos in
      let c : times n (labels (put_on unit to (new_at plan p) ++ rest)) ≡ times n (labels (put_on unit to (new_at plan p))) + times n (labels rest) = labels_append (put_on unit to (new_at plan p)) rest in
      omega (arith, a, here, later, c)
    where
      labels_append : (xs ys : List Block) → times n (labels (xs ++ ys)) ≡ times n (labels xs) + times n (labels ys)
      labels_append [] ys = omega arith
      labels_append (x ∷ xs) ys = let r = labels_append xs ys in omega (arith, r, times_cons n x.label (labels (xs ++ ys)), times_cons n x.label (labels xs))

  -- ---- all blocks

  piece_names : (bs : List Block) (j : ℕ) (b : Block) → times n (flat_map block_names (counted_pieces unit bs j b)) ≡ times n (block_names b) + times n (put_names unit (block_plan unit.blocks j) b)
  piece_names bs j b =
      let plan : BlockPlan = block_plan unit.blocks j in
      let rs : List (Name × Name) = renamings unit.blocks bs b.label in
      let a = times_append n (block_names (counted_block unit bs plan b)) (flat_map block_names (new_blocks unit plan b)) in
      let l = times_cons n b.label (result_names (counted_instrs unit plan rs b.instrs)) in
      let i = instr_names plan rs b in
      let m = new_named plan 0 (successors b.term) in
      let o = times_cons n b.label (result_names b.instrs) in
      let q = times_append n (result_names (watches_in unit plan b)) (labels (new_blocks unit plan b)) in
      omega (arith, a, l, i, m, o, q)

  blocks_names : (bs : List Block) (j : ℕ) (xs : List Block) → times n (flat_map block_names (each (counted_pieces unit bs) j xs)) ≡ times n (flat_map block_names xs) + times n (each (λ k b. put_names unit (block_plan unit.blocks k) b) j xs)
  blocks_names bs j [] = refl
  blocks_names bs j (b ∷ xs) =
      let a = names_append (counted_pieces unit bs j b) (each (counted_pieces unit bs) (j + 1) xs) in
      let here = piece_names bs j b in
      let later = blocks_names bs (j + 1) xs in
      let c = times_append n (block_names b) (flat_map block_names xs) in
      let d = times_append n (put_names unit (block_plan unit.blocks j) b) (each (λ k z. put_names unit (block_plan unit.blocks k) z) (j + 1) xs) in
      omega (arith, a, here, later, c, d)

pub names_are : (unit : FunctionPlan) (f : Function) (n : Name) → times n (names (counted_function unit f)) ≡ times n (names f) + times n (new_names unit f.blocks)
names_are unit f n =
    let a = times_append n (param_names f) (flat_map block_names (counted_blocks unit f.blocks)) in
    let b = times_append n (param_names f) (flat_map block_names f.blocks) in
    let c = blocks_names unit n f.blocks 0 f.blocks in
    omega (arith, a, b, c)

pub names_once : (unit : FunctionPlan) (f : Function) (n : Name) → times n (names f) + times n (new_names unit f.blocks) ≤ 1 → times n (names (counted_function unit f)) ≤ 1
names_once unit f n few = let is = names_are unit f n in omega (arith, is, few)
