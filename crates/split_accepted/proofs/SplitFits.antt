-- A plan with one new block fits the function, and makes it larger by one edge; at another place the block is in another order.
use Rattle.std.proofs.Common.{◌≡◌, ℕ, zero, suc, ◌+◌, ◌≤◌, ◌⊎◌, inl, inr, Bool, true, false, cond, List, [], ◌∷◌, ◌++◌, take, drop, length, map, sum_by, Option, Some, None, slice_index_or, refl, sym, ap, subst, ◌∙◌, arith}
use Rattle.std.specs.Cmp.Lexicographic.{bytes_decides}
use Rattle.std.proofs.lemmas.List.Sorted.{IsPermutation-trans}
use Rattle.std.proofs.lemmas.List.Sums.{sum_by-cons}
use Rattle.std.proofs.lemmas.Option.{none-some, same_Some}
use Rattle.count_plan.specs.Calls.{watched}
use Rattle.count_plan.specs.Counted.{counted_block, new_blocks, put_on, watch_at}
use Rattle.count_plan.specs.Ways.{block_plan, new_at, no_block_plan}
use Rattle.count_plan.specs.declared.plan.BlockPlan.{BlockPlan}
use Rattle.count_plan.specs.declared.plan.FunctionPlan.{FunctionPlan}
use Rattle.count_plan.specs.declared.plan.NewBlock.{NewBlock}
use Rattle.count_plan.specs.declared.plan.Watch.{Watch}
use Rattle.count_plan.specs.declared.plan.Watch.TheVariants.{Nothing}
use Rattle.counted_rules.specs.Grown.{GrowsLittle}
use Rattle.counted_rules.specs.Kept.{IsReordered}
use Rattle.counted_rules.specs.PlanFits.{PlanFits, WatchFits, new_names, put_names, watches_in}
use Rattle.edge_split.specs.Split.{at_place, split, split_before, split_block, split_plan}
use Rattle.ir_rules.specs.Lists.{Among, times}
use Rattle.ir_rules.specs.Scopes.{names}
use Rattle.ir_tree.specs.Blocks.{labels}
use Rattle.ir_tree.specs.Edges.{edges_in}
use Rattle.ir_tree.specs.Functions.{is_declared}
use Rattle.ir_tree.specs.Names.{same}
use Rattle.ir_tree.specs.Operands.{result_names}
use Rattle.ir_tree.specs.Phis.{behind_phis}
use Rattle.ir_tree.specs.Spelling.{is_local_name}
use Rattle.ir_tree.specs.Successors.{successors, ways_out}
use Rattle.ir_tree.specs.declared.types.Block.{Block}
use Rattle.ir_tree.specs.declared.types.Function.{Function}
use Rattle.ir_tree.specs.declared.types.Instr.{Instr}
use Rattle.ir_tree.specs.declared.types.Module.{Module}
use Rattle.spec_lists.specs.Each.{each}
use Rattle.split_accepted.proofs.Lists.{few_made, moved_between, part_of_sum, parted, put_before}
use Rattle.split_accepted.proofs.Replaced.{GrowsBy}
use Rattle.split_accepted.specs.Accepted.{IsFreeLabel}

-- what stands in a list with one item
place_is : {A : Type 0} (nothing x : A) (n j : ℕ) → (slice_index_or (at_place nothing n x) j nothing ≡ nothing) ⊎ ((j ≡ n) × (slice_index_or (at_place nothing n x) j nothing ≡ x))
place_is nothing x zero zero = inr (refl, refl)
place_is nothing x zero (suc j) = inl refl
place_is nothing x (suc n) zero = inl refl
place_is nothing x (suc n) (suc j) = further (place_is nothing x n j)
  where
    further : (slice_index_or (at_place nothing n x) j nothing ≡ nothing) ⊎ ((j ≡ n) × (slice_index_or (at_place nothing n x) j nothing ≡ x)) → (slice_index_or (at_place nothing n x) j nothing ≡ nothing) ⊎ ((suc j ≡ suc n) × (slice_index_or (at_place nothing n x) j nothing ≡ x))
    further (inl e) = inl e
    further (inr (e, is)) = inr (ap (λ (k : ℕ). suc k) e, is)

none_made : {X Y : Type 0} (make : ℕ → X → List Y) → ((n : ℕ) (x : X) → make n x ≡ []) → (n : ℕ) (xs : List X) → each make n xs ≡ []
none_made make h n [] = refl
none_made make h n (x ∷ xs) = (λ i. h n x i ++ each make (n + 1) xs) ∙ none_made make h (n + 1) xs

mapped_sum : {X Y : Type 0} (g : Y → ℕ) (h : X → Y) (xs : List X) → sum_by g (map h xs) ≡ sum_by (λ x. g (h x)) xs
mapped_sum g h [] = refl
mapped_sum g h (x ∷ xs) = omega (arith, mapped_sum g h xs, sum_by-cons g (h x) (map h xs), sum_by-cons (λ y. g (h y)) x xs)

ones : {X : Type 0} (xs : List X) → sum_by (λ (x : X). 1) xs ≡ length xs
ones [] = refl
ones {X} (x ∷ xs) = omega (arith, ones xs, sum_by-cons (λ (y : X). 1) x xs)

module _ (a p : ℕ) (new : List ℕ) where
  abbrev unit : FunctionPlan
  unit = split_plan a p new

  abbrev put : NewBlock
  put = record { label = new; counter = None }

  abbrev plan : ℕ → BlockPlan
  plan j = block_plan unit.blocks j

  -- ---- what stands in the plan

  each_plan : (P : BlockPlan → Type 0) → P no_block_plan → P (split_block p new) → (j : ℕ) → P (plan j)
  each_plan P none one j = by (place_is no_block_plan (split_block p new) a j)
    where
      by : (plan j ≡ no_block_plan) ⊎ ((j ≡ a) × (plan j ≡ split_block p new)) → P (plan j)
      by (inl e) = subst P (sym e) none
      by (inr (is, e)) = subst P (sym e) one

  no_head : (j : ℕ) → (plan j).head ≡ None
  no_head = each_plan (λ (q : BlockPlan). q.head ≡ None) refl refl

  no_tail : (j : ℕ) → (plan j).tail ≡ None
  no_tail = each_plan (λ (q : BlockPlan). q.tail ≡ None) refl refl

  pub no_watch : (j i : ℕ) → watch_at (plan j) i ≡ Nothing
  no_watch = each_plan (λ (q : BlockPlan). (i : ℕ) → watch_at q i ≡ Nothing) (λ i. refl) (λ i. refl)

  no_counter : (j q c : ℕ) (block : NewBlock) → new_at (plan j) q ≡ Some block → block.counter ≡ Some c → ⊥
  no_counter j q c block = each_plan (λ (b : BlockPlan). new_at b q ≡ Some block → block.counter ≡ Some c → ⊥)
      (λ e h. none-some block e)
      (λ e h. by (place_is None (Some put) p q) e h)
      j
    where
      by : (new_at (split_block p new) q ≡ None) ⊎ ((q ≡ p) × (new_at (split_block p new) q ≡ Some put)) → new_at (split_block p new) q ≡ Some block → block.counter ≡ Some c → ⊥
      by (inl none) e h = none-some block (sym none ∙ e)
      by (inr (is, one)) e h = none-some c (ap (λ (b : NewBlock). b.counter) (same_Some put block (sym one ∙ e)) ∙ h)

  -- ---- what is put in: the label, if anything

  module _ (g : List ℕ → ℕ) where
    on_edge : (q : ℕ) (to : List ℕ) → (q ≡ p → ⊥) → put_on unit to (new_at (split_block p new) q) ≡ []
    on_edge q to off = by (place_is None (Some put) p q)
      where
        by : (new_at (split_block p new) q ≡ None) ⊎ ((q ≡ p) × (new_at (split_block p new) q ≡ Some put)) → put_on unit to (new_at (split_block p new) q) ≡ []
        by (inl none) = ap (put_on unit to) none
        by (inr (is, one)) = absurd (off is)

    at_edge : (to : List ℕ) → sum_by (λ (b : Block). g b.label) (put_on unit to (new_at (split_block p new) p)) ≤ g new
    at_edge to = by (place_is None (Some put) p p)
      where
        by : (new_at (split_block p new) p ≡ None) ⊎ ((p ≡ p) × (new_at (split_block p new) p ≡ Some put)) → sum_by (λ (b : Block). g b.label) (put_on unit to (new_at (split_block p new) p)) ≤ g new
        by (inl none) = (let z : sum_by (λ (b : Block). g b.label) (put_on unit to (new_at (split_block p new) p)) ≡ 0 = ap (λ (o : Option NewBlock). sum_by (λ (b : Block). g b.label) (put_on unit to o)) none in omega (arith, z))
        by (inr (is, one)) =
            let z : sum_by (λ (b : Block). g b.label) (put_on unit to (new_at (split_block p new) p)) ≡ 0 + g new = ap (λ (o : Option NewBlock). sum_by (λ (b : Block). g b.label) (put_on unit to o)) one in
            omega (arith, z)

    few_labels : (b : Block) → sum_by g (labels (new_blocks unit (split_block p new) b)) ≤ g new
    few_labels b =
        let a = mapped_sum g (λ (q : Block). q.label) (new_blocks unit (split_block p new) b) in
        let c = few_made (λ q to. put_on unit to (new_at (split_block p new) q)) (λ (q : Block). g q.label) (g new) p on_edge at_edge 0 (successors b.term) in
        omega (arith, a, c)

    put_nothing : (j : ℕ) (b : Block) → watches_in unit (plan j) b ≡ []
    put_nothing j b = none_made (λ i x. watched unit (watch_at (plan j) i) x) (λ i x. ap (λ (w : Watch). watched unit w x) (no_watch j i)) 0 (behind_phis b.instrs)

    labels_alone : (j : ℕ) (b : Block) → put_names unit (plan j) b ≡ labels (new_blocks unit (plan j) b)
    labels_alone j b = ap (λ (ws : List Instr). result_names ws ++ labels (new_blocks unit (plan j) b)) (put_nothing j b)

    other_block : (j : ℕ) (b : Block) → (j ≡ a → ⊥) → put_names unit (plan j) b ≡ []
    other_block j b off = labels_alone j b ∙ by (place_is no_block_plan (split_block p new) a j)
      where
        by : (plan j ≡ no_block_plan) ⊎ ((j ≡ a) × (plan j ≡ split_block p new)) → labels (new_blocks unit (plan j) b) ≡ []
        by (inl none) = ap (λ (q : BlockPlan). labels (new_blocks unit q b)) none ∙ ap labels (none_made (λ q to. put_on unit to (new_at no_block_plan q)) (λ q to. refl) 0 (successors b.term))
        by (inr (is, one)) = absurd (off is)

    one_block : (b : Block) → sum_by g (put_names unit (plan a) b) ≤ g new
    one_block b = subst (λ (ns : List (List ℕ)). sum_by g ns ≤ g new) (sym (labels_alone a b)) (by (place_is no_block_plan (split_block p new) a a))
      where
        by : (plan a ≡ no_block_plan) ⊎ ((a ≡ a) × (plan a ≡ split_block p new)) → sum_by g (labels (new_blocks unit (plan a) b)) ≤ g new
        by (inl none) =
            let e : labels (new_blocks unit (plan a) b) ≡ [] = ap (λ (q : BlockPlan). labels (new_blocks unit q b)) none ∙ ap labels (none_made (λ q to. put_on unit to (new_at no_block_plan q)) (λ q to. refl) 0 (successors b.term)) in
            let z : sum_by g (labels (new_blocks unit (plan a) b)) ≡ 0 = ap (sum_by g) e in
            omega (arith, z)
        by (inr (is, one)) = subst (λ (q : BlockPlan). sum_by g (labels (new_blocks unit q b)) ≤ g new) (sym one) (few_labels b)

    pub few_names : (bs : List Block) → sum_by g (new_names unit bs) ≤ g new
    few_names bs = few_made (λ j b. put_names unit (plan j) b) g (g new) a other_block one_block 0 bs

  -- ---- the plan fits

  module _ (m : Module) (f : Function) (free : IsFreeLabel new f) (once : (n : List ℕ) → times n (names f) ≤ 1) where
    apart : (n : List ℕ) → times n (names f) + times n (new_names unit f.blocks) ≤ 1
    apart n = by (same n new) refl
      where
        few : times n (new_names unit f.blocks) ≤ cond {A = ℕ} (same n new) 1 0
        few = few_names (λ (x : List ℕ). cond {A = ℕ} (same n x) 1 0) f.blocks

        by : (s : Bool) → same n new ≡ s → times n (names f) + times n (new_names unit f.blocks) ≤ 1
        by true e =
            let c : cond {A = ℕ} (same n new) 1 0 ≡ 1 = ap (λ (s : Bool). cond {A = ℕ} s 1 0) e in
            let z : times n (names f) ≡ 0 = ap (λ (x : List ℕ). times x (names f)) ((bytes_decides n new).0 e) ∙ free.apart in
            omega (arith, few, c, z)
        by false e =
            let c : cond {A = ℕ} (same n new) 1 0 ≡ 0 = ap (λ (s : Bool). cond {A = ℕ} s 1 0) e in
            omega (arith, few, c, once n)

    abbrev wrong : List ℕ → ℕ
    wrong n = cond {A = ℕ} (is_local_name n) 0 1

    named : (n : List ℕ) → Among n (new_names unit f.blocks) → is_local_name n ≡ true
    named n at = by (is_local_name n) refl
      where
        none : cond {A = ℕ} (is_local_name n) 0 1 ≤ cond {A = ℕ} (is_local_name new) 0 1
        none = omega (arith, part_of_sum wrong (new_names unit f.blocks) n at, few_names wrong f.blocks)

        by : (s : Bool) → is_local_name n ≡ s → s ≡ true
        by true e = refl
        by false e =
            let c : cond {A = ℕ} (is_local_name n) 0 1 ≡ 1 = ap (λ (s : Bool). cond {A = ℕ} s 0 1) e in
            let z : cond {A = ℕ} (is_local_name new) 0 1 ≡ 0 = ap (λ (s : Bool). cond {A = ℕ} s 0 1) free.named in
            absurd (omega (arith, none, c, z))

    pub split_fits : PlanFits m unit f
    split_fits = record {
      apart = apart;
      named = named;
      head = λ j c b at e. absurd (none-some c (sym (no_head j) ∙ e));
      tail = λ j c b at e. absurd (none-some c (sym (no_tail j) ∙ e));
      watch = λ j i b x at here. subst (λ (w : Watch). WatchFits m unit w) (sym (no_watch j i)) tt;
      edge = λ j q c b to block at leads e h. absurd (no_counter j q c block e h);
    }

  -- ---- its size

  pub grows_by_one : (f : Function) → GrowsLittle unit f → GrowsBy 1 f (split a p new f)
  grows_by_one f grow = record {
    edges = edges (is_declared f) refl;
    results = grow.unwatched no_watch;
    selects = grow.selects;
    sites = grow.sites;
    arrays = grow.arrays;
  }
    where
      one_name : length (new_names unit f.blocks) ≤ 1
      one_name = omega (arith, ones (new_names unit f.blocks), few_names (λ (n : List ℕ). 1) f.blocks)

      edges : (d : Bool) → is_declared f ≡ d → edges_in (split a p new f) ≤ edges_in f + 1
      edges true e =
          let z : edges_in (split a p new f) ≡ 0 = ap (λ (d : Bool). cond {A = ℕ} d 0 (1 + sum_by ways_out (split a p new f).blocks)) (grow.declared ∙ e) in
          omega (arith, z)
      edges false e =
          let x : edges_in (split a p new f) ≡ 1 + sum_by ways_out (split a p new f).blocks = ap (λ (d : Bool). cond {A = ℕ} d 0 (1 + sum_by ways_out (split a p new f).blocks)) (grow.declared ∙ e) in
          let y : edges_in f ≡ 1 + sum_by ways_out f.blocks = ap (λ (d : Bool). cond {A = ℕ} d 0 (1 + sum_by ways_out f.blocks)) e in
          omega (arith, x, y, grow.by_names, one_name)

  -- ---- at another place

  module _ (f : Function) (place : ℕ) where
    abbrev first : ℕ → Block → Block
    first j b = counted_block unit f.blocks (plan j) b

    abbrev more : ℕ → Block → List Block
    more j b = new_blocks unit (plan j) b

    moved : (bs : List Block) → IsReordered (each (λ j b. first j b ∷ more j b) 0 bs) (take (suc place) (each (λ j b. first j b ∷ []) 0 bs) ++ (each more 0 bs ++ drop (suc place) (each (λ j b. first j b ∷ []) 0 bs)))
    moved [] = refl
    moved (b ∷ bs) =
        let fs : List Block = each (λ j b. first j b ∷ []) (0 + 1) bs in
        let os : List Block = each more (0 + 1) bs in (
          take place (each (λ j b. first j b ∷ []) (0 + 1) bs) ++ ((more 0 b ++ each more (0 + 1) bs) ++ drop place (each (λ j b. first j b ∷ []) (0 + 1) bs)),
          refl,
          IsPermutation-trans _ _ _ (moved_between (more 0 b) (each (λ j b. first j b ∷ more j b) (0 + 1) bs) fs os (parted first more (0 + 1) bs)) (put_before place fs (more 0 b ++ os)),
        )

    pub split_moved : IsReordered (split a p new f).blocks (split_before (suc place) a p new f).blocks
    split_moved = moved f.blocks
