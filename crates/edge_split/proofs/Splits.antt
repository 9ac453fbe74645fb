-- A plan that counts nothing fits, at twice as many steps.
use Rattle.std.specs.Cmp.Lexicographic.{bytes_decides}
use Rattle.std.proofs.lemmas.List.Sums.{sum_by-cons}
use Rattle.std.proofs.Common.{◌≡◌, ℕ, zero, suc, ◌+◌, ◌≤◌, Bool, true, false, cond, List, [], ◌∷◌, ◌++◌, length, flat_map, count_by, Some, None, slice_get, slice_index_or, refl, sym, ◌∙◌, ap, subst, arith, inl, inr, ◌⊎◌, is_some, drop}
use Rattle.std.proofs.lemmas.List.{append-nil}
use Rattle.std.proofs.lemmas.Option.{none-some, same_Some}
use Rattle.ir_model.specs.Run.{marks, marks_one}
use Rattle.ir_model.specs.State.{Shown, Did, Targeted, Printed, Entered, Walked, Added, Noted, Chose}
use Rattle.ir_model.specs.Values.{functions_of}
use Rattle.ir_tree.specs.Blocks.{labels}
use Rattle.ir_tree.specs.Names.{same}
use Rattle.ir_tree.specs.Operands.{listed}
use Rattle.ir_tree.specs.Phis.{behind_phis}
use Rattle.ir_tree.specs.Successors.{successors}
use Rattle.ir_tree.specs.declared.types.Block.{Block}
use Rattle.ir_tree.specs.declared.types.Function.{Function}
use Rattle.ir_tree.specs.declared.types.Instr.{Instr}
use Rattle.ir_tree.specs.declared.types.Module.{Module}
use Rattle.ir_likeness.specs.Like.{AreLike}
use Rattle.count_plan.specs.Calls.{watched}
use Rattle.count_plan.specs.Counted.{counted_functions, counted_module, function_plan, no_function_plan, watch_at}
use Rattle.count_plan.specs.Ways.{block_plan, new_at, no_block_plan}
use Rattle.count_plan.specs.declared.plan.BlockPlan.{BlockPlan}
use Rattle.count_plan.specs.declared.plan.FunctionPlan.{FunctionPlan}
use Rattle.count_plan.specs.declared.plan.ModulePlan.{ModulePlan}
use Rattle.count_likeness.specs.Fits.{BlockFits, FunctionFits, InstrFits, IsOld, ModuleFits, WayFits, counters_in, new_labels, new_registers, number_at, steps_in, label_of, counter_of, site_of, register_of}
use Rattle.count_likeness.specs.Formed.{AreFormed, IsFormed}
use Rattle.count_likeness.specs.Image.{Image, MarksAre, counted_marks, counted_one}
use Rattle.edge_split.specs.Split.{MarksStay, at_place, split, split_block, split_plan, with_function}
use Rattle.count_plan.specs.Stays.{BlocksStay}
use Rattle.edge_split.proofs.Unplanned.{one_planned}

-- nothing is counted
abbrev pub no_image : Image
no_image = record { unit = λ k. []; entry = λ k. []; way = λ k l p. []; condition = λ k l i. None; site = λ k l i. None }

marks_one_stay : (x : Shown) → counted_one no_image x ≡ marks_one x
marks_one_stay (Did k l i (Added unit counter amount)) = refl
marks_one_stay (Did k l i (Noted unit site callee)) = refl
marks_one_stay (Did k l i (Chose v)) = refl
marks_one_stay (Targeted k l i callee) = refl
marks_one_stay (Printed b) = refl
marks_one_stay (Entered k) = refl
marks_one_stay (Walked k l p) = refl

marks_stay : (xs : List Shown) → counted_marks no_image xs ≡ marks xs
marks_stay [] = refl
marks_stay (x ∷ xs) = λ i. marks_one_stay x i ++ marks_stay xs i

-- ---- plans that put new blocks without counters on edges, and nothing else

record IsQuietBlock (q : BlockPlan) : Type 0 where
  head : q.head ≡ None
  watches : q.watches ≡ []
  tail : q.tail ≡ None
  ways : (p : ℕ) → (counters_in (new_at q p) ≡ []) × (steps_in (new_at q p) ≤ 1)

record IsQuiet (unit : FunctionPlan) : Type 0 where
  symbol : unit.symbol ≡ []
  registers : new_registers unit ≡ []
  blocks : (j : ℕ) → IsQuietBlock (block_plan unit.blocks j)

module _ (count k : ℕ) (unit : FunctionPlan) (quiet : IsQuiet unit) (f : Function) (formed : IsFormed f) where
  any_old : (r : List ℕ) → IsOld unit r
  any_old r = ap (count_by (same r)) quiet.registers

  module _ (j : ℕ) (b : Block) (at : slice_get f.blocks j ≡ Some b) where
    abbrev q : BlockPlan
    q = block_plan unit.blocks j

    q_quiet : IsQuietBlock (block_plan unit.blocks j)
    q_quiet = quiet.blocks j

    no_watch : (i : ℕ) → watch_at (block_plan unit.blocks j) i ≡ watch_at no_block_plan i
    no_watch i = ap (λ ws. slice_index_or ws i (watch_at no_block_plan i)) q_quiet.watches

    fits_instr : (i : ℕ) (x : Instr) → slice_get (behind_phis b.instrs) i ≡ Some x → InstrFits count k unit no_image 2 (block_plan unit.blocks j) b.label i x
    fits_instr i x e = record {
      reads = λ n t r h. any_old r;
      condition = λ h. sym (ap counter_of (no_watch i));
      site = λ h. sym (ap site_of (no_watch i));
      few = λ h g. absurd (none_true (sym (ap (λ w. is_some (site_of w)) (no_watch i)) ∙ g));
      cost = (let none : length (watched unit (watch_at (block_plan unit.blocks j) i) x) ≡ 0 = ap (λ w. length (watched unit w x)) (no_watch i) in omega (arith, none));
    }
      where
        none_true : false ≡ true → ⊥
        none_true h = cc

    fits_way : (p : ℕ) (to : List ℕ) → slice_get (successors b.term) p ≡ Some to → WayFits k unit no_image 2 f (λ h. true) (block_plan unit.blocks j) b p to
    fits_way p to leads =
        let target = formed.targets j p b to at leads in
        let h_quiet = quiet.blocks (suc target.0) in
        record {
          number = suc target.0;
          block = target.1;
          at = target.2;
          named = target.3;
          goes_on = refl;
          counters = (λ i. listed (sym q_quiet.tail i) ++ (sym (q_quiet.ways p).0 i ++ listed (sym h_quiet.head i)));
          cost = (let t : length (listed q.tail) ≡ 0 = ap (λ o. length (listed o)) q_quiet.tail in
              let h : length (listed (block_plan unit.blocks (suc target.0)).head) ≡ 0 = ap (λ o. length (listed o)) h_quiet.head in
              let s = (q_quiet.ways p).1 in
              omega (arith, t, h, s));
        }

    fits_block : BlockFits count k unit no_image 2 f (λ h. true) (block_plan unit.blocks j) b
    fits_block = record {
      instr = fits_instr;
      phi_reads = λ i x e n t r h. any_old r;
      entries = λ i x es e g. formed.entries j i b x es at e g;
      term_reads = λ t r h. any_old r;
      ways = fits_way;
      exit = λ h. sym (ap listed q_quiet.tail);
      exit_cost = (let t : length (listed q.tail) ≡ 0 = ap (λ o. length (listed o)) q_quiet.tail in omega (arith, t));
    }

  fits_quiet : ((l : List ℕ) → count_by (same l) (labels f.blocks) + count_by (same l) (new_labels unit) ≤ 1) → FunctionFits count k unit no_image 2 0 f
  fits_quiet distinct = record {
    reached = λ j. true;
    entry = refl;
    named = ap (λ s. drop 8 s) (sym quiet.symbol);
    distinct = distinct;
    block = λ j b at h. fits_block j b at;
    enters = λ b at. sym (ap listed (quiet.blocks 0).head);
    start = (let h : length (listed (block_plan unit.blocks 0).head) ≡ 0 = ap (λ o. length (listed o)) (quiet.blocks 0).head in omega (arith, h));
  }

-- ---- one new block

-- what stands in a list with one item
place_is : {A : Type 0} (nothing x : A) (n j : ℕ) → (slice_index_or (at_place nothing n x) j nothing ≡ nothing) ⊎ (slice_index_or (at_place nothing n x) j nothing ≡ x)
place_is nothing x zero zero = inr refl
place_is nothing x zero (suc j) = inl refl
place_is nothing x (suc n) zero = inl refl
place_is nothing x (suc n) (suc j) = place_is nothing x n j

place_flat : {A B : Type 0} (nothing x : A) (f : A → List B) → f nothing ≡ [] → (n : ℕ) → flat_map f (at_place nothing n x) ≡ f x
place_flat nothing x f none zero = append-nil (f x)
place_flat nothing x f none (suc n) = ap (λ l. l ++ flat_map f (at_place nothing n x)) none ∙ place_flat nothing x f none n

no_plan_quiet : IsQuietBlock no_block_plan
no_plan_quiet = record { head = refl; watches = refl; tail = refl; ways = λ p. (refl, omega arith) }

none_quiet : IsQuiet no_function_plan
none_quiet = record { symbol = refl; registers = refl; blocks = λ j. no_plan_quiet }

split_block_quiet : (p : ℕ) (new : List ℕ) → IsQuietBlock (split_block p new)
split_block_quiet p new = record { head = refl; watches = refl; tail = refl; ways = λ i. by i (place_is None (Some (record { label = new; counter = None })) p i) }
  where
    by : (i : ℕ) → (new_at (split_block p new) i ≡ None) ⊎ (new_at (split_block p new) i ≡ Some (record { label = new; counter = None })) → (counters_in (new_at (split_block p new) i) ≡ []) × (steps_in (new_at (split_block p new) i) ≤ 1)
    by i (inl e) = (ap counters_in e, (let s : steps_in (new_at (split_block p new) i) ≡ 0 = ap steps_in e in omega (arith, s)))
    by i (inr e) = (ap counters_in e, (let s : steps_in (new_at (split_block p new) i) ≡ 1 = ap steps_in e in omega (arith, s)))

split_quiet : (a p : ℕ) (new : List ℕ) → IsQuiet (split_plan a p new)
split_quiet a p new = record {
  symbol = refl;
  registers = place_flat no_block_plan (split_block p new) (λ (q : BlockPlan). flat_map register_of q.watches) refl a;
  blocks = λ j. by j (place_is no_block_plan (split_block p new) a j);
}
  where
    by : (j : ℕ) → (block_plan (split_plan a p new).blocks j ≡ no_block_plan) ⊎ (block_plan (split_plan a p new).blocks j ≡ split_block p new) → IsQuietBlock (block_plan (split_plan a p new).blocks j)
    by j (inl e) = subst IsQuietBlock (sym e) no_plan_quiet
    by j (inr e) = subst IsQuietBlock (sym e) (split_block_quiet p new)

split_labels : (a p : ℕ) (new : List ℕ) → new_labels (split_plan a p new) ≡ new ∷ []
split_labels a p new =
    place_flat no_block_plan (split_block p new) (λ (q : BlockPlan). flat_map label_of q.edges) refl a
    ∙ place_flat None (Some (record { label = new; counter = None })) label_of refl p

module _ (m : Module) (j a p : ℕ) (new : List ℕ) (f : Function) (formed : AreFormed m) (at : slice_get m.functions j ≡ Some f) (fresh : count_by (same new) (labels f.blocks) ≡ 0) where
  abbrev pub whole : ModulePlan
  whole = record { functions = at_place no_function_plan j (split_plan a p new); globals = []; declarations = [] }

  pub distinct_split : (l : List ℕ) → count_by (same l) (labels f.blocks) + count_by (same l) (new_labels (split_plan a p new)) ≤ 1
  distinct_split l = by (same l new) refl
    where
      one : count_by (same l) (new_labels (split_plan a p new)) ≡ cond {A = ℕ} (same l new) 1 0 + 0
      one = ap (count_by (same l)) (split_labels a p new) ∙ sum_by-cons (λ (x : List ℕ). cond (same l x) 1 0) new []

      by : (s : Bool) → same l new ≡ s → count_by (same l) (labels f.blocks) + count_by (same l) (new_labels (split_plan a p new)) ≤ 1
      by true e =
          let is : l ≡ new = (bytes_decides l new).0 e in
          let none : count_by (same l) (labels f.blocks) ≡ 0 = ap (λ x. count_by (same x) (labels f.blocks)) is ∙ fresh in
          let c : cond {A = ℕ} (same l new) 1 0 ≡ 1 = ap (λ b. cond {A = ℕ} b 1 0) e in
          omega (arith, one, none, c)
      by false e =
          let few = (formed j f at).distinct l in
          let c : cond {A = ℕ} (same l new) 1 0 ≡ 0 = ap (λ b. cond {A = ℕ} b 1 0) e in
          omega (arith, one, few, c)

  pub fits : ModuleFits whole no_image 2 0 m
  fits = record {
    some = omega arith;
    function = λ i g e h. fits_function i g e (place_at i g e);
    globals = λ i g e. absurd (none-some g e);
    declarations = λ i g e. absurd (none-some g e);
  }
    where
      -- the function of the split, or another one
      place_at : (i : ℕ) (g : Function) → slice_get m.functions i ≡ Some g → (function_plan whole.functions i ≡ no_function_plan) ⊎ ((function_plan whole.functions i ≡ split_plan a p new) × (g ≡ f))
      place_at i g e = by m.functions j i at e
        where
          by : (fs : List Function) (n i : ℕ) → slice_get fs n ≡ Some f → slice_get fs i ≡ Some g → (slice_index_or (at_place no_function_plan n (split_plan a p new)) i no_function_plan ≡ no_function_plan) ⊎ ((slice_index_or (at_place no_function_plan n (split_plan a p new)) i no_function_plan ≡ split_plan a p new) × (g ≡ f))
          by [] n i h k = absurd (none-some f h)
          by (x ∷ xs) zero zero h k = inr (refl, sym (same_Some x g k) ∙ same_Some x f h)
          by (x ∷ xs) zero (suc i) h k = inl refl
          by (x ∷ xs) (suc n) zero h k = inl refl
          by (x ∷ xs) (suc n) (suc i) h k = by xs n i h k

      plain : (g : Function) → IsFormed g → (l : List ℕ) → count_by (same l) (labels g.blocks) + count_by (same l) (new_labels no_function_plan) ≤ 1
      plain g formed l = (let few = formed.distinct l in let none : count_by (same l) (new_labels no_function_plan) ≡ 0 = refl in omega (arith, few, none))

      fits_function : (i : ℕ) (g : Function) → slice_get m.functions i ≡ Some g → (function_plan whole.functions i ≡ no_function_plan) ⊎ ((function_plan whole.functions i ≡ split_plan a p new) × (g ≡ f)) → FunctionFits (functions_of m) (number_at m i) (function_plan whole.functions i) no_image 2 0 g
      fits_function i g e (inl is) = subst (λ u. FunctionFits (functions_of m) (number_at m i) u no_image 2 0 g) (sym is) (fits_quiet (functions_of m) (number_at m i) no_function_plan none_quiet g (formed i g e) (plain g (formed i g e)))
      fits_function i g e (inr (is, same_f)) =
          subst (λ u. FunctionFits (functions_of m) (number_at m i) u no_image 2 0 g) (sym is)
          (subst (λ h. FunctionFits (functions_of m) (number_at m i) (split_plan a p new) no_image 2 0 h) (sym same_f)
          (fits_quiet (functions_of m) (number_at m i) (split_plan a p new) (split_quiet a p new) f (formed j f at) distinct_split))

  made_is : BlocksStay → counted_module whole m ≡ with_function m j (split a p new f)
  made_is stays = λ i. record {
    globals = append-nil m.globals i;
    functions = (append-nil (counted_functions whole.functions m.functions) ∙ one_planned stays (split_plan a p new) j m.functions f at) i;
  }

  pub like_split : BlocksStay → AreLike m (counted_module whole m) 2 0 → AreLike m (with_function m j (split a p new f)) 2 0
  like_split stays like = subst (λ n. AreLike m n 2 0) (made_is stays) like

  pub marks_split : BlocksStay → MarksAre no_image m (counted_module whole m) 2 0 → MarksStay m (with_function m j (split a p new f)) 2 0
  marks_split stays are c n valid shown value e =
      let r = subst (λ n. MarksAre no_image m n 2 0) (made_is stays) are c n valid shown value e in
      (r.0, r.1, r.2 ∙ marks_stay shown)
