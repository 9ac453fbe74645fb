-- A function that counts by a plan that fits it is well formed.
use Rattle.std.proofs.Common.{◌≡◌, ℕ, ◌≤◌, ◌==◌, ◌⊎◌, inl, inr, Bool, true, false, ◌&&◌, if◌then◌else◌, not, List, [], ◌∷◌, length, drop, Option, Some, None, is_some, slice_get, refl, sym, ap, subst, ◌∙◌, arith}
use Rattle.std.specs.List.{list_all}
use Rattle.std.proofs.lemmas.Bool.{eqb-true, ne_eqb}
use Rattle.std.proofs.lemmas.Option.{none-some, same_Some}
use Rattle.count_plan.specs.Calls.{increments}
use Rattle.count_plan.specs.Counted.{counted_blocks, counted_function}
use Rattle.count_plan.specs.Ways.{led, renamed, renamed_phi, renamings}
use Rattle.count_plan.specs.declared.plan.BlockPlan.{BlockPlan}
use Rattle.count_plan.specs.declared.plan.FunctionPlan.{FunctionPlan}
use Rattle.count_plan.specs.declared.plan.NewBlock.{NewBlock}
use Rattle.counted_rules.proofs.Apart.{LabelsApart, labels_apart}
use Rattle.counted_rules.proofs.Exits.{branch_formed, exit_formed}
use Rattle.counted_rules.proofs.Formed.{instr_kept, made, phi_kept}
use Rattle.counted_rules.proofs.HeldKept.{before_new, before_stays, block_ready, held_more, new_ready, results_stay}
use Rattle.counted_rules.proofs.Instrs.{Front, Item, Own, Puts, behind_among, first_stays, front_among, increment_among, item_from, lead_stays, puts_no_phi}
use Rattle.counted_rules.proofs.Listed.{Name, among_at, among_map, at_among, dropped_among, each_of, map_among, not_same, stands}
use Rattle.counted_rules.proofs.NamesKept.{names_once}
use Rattle.counted_rules.proofs.PhiKept.{Origin, Renames, entries_match, origin, positioned, renames}
use Rattle.counted_rules.proofs.PutFormed.{edge_formed, label_named, put_formed}
use Rattle.counted_rules.proofs.Ways.{IsWay, Made, New, Old, block_from, made_of, made_on, old_among, plan_at, same_reads}
use Rattle.counted_rules.specs.Kept.{TakesOver}
use Rattle.counted_rules.specs.PlanFits.{PlanFits}
use Rattle.ir_rules.specs.Declarations.{has_profile_types, has_provided_types}
use Rattle.ir_rules.specs.Lists.{Among, times}
use Rattle.ir_rules.specs.Naming.{is_param_name}
use Rattle.ir_rules.specs.PhiEntries.{tails}
use Rattle.ir_rules.specs.Scopes.{param_names}
use Rattle.ir_rules.specs.Walks.{AtEnd, AtHead, HeldAt, IsBefore, Joined}
use Rattle.ir_rules.specs.Weighing.{has_entries}
use Rattle.ir_rules.specs.WellFormed.{BlockFormed, FunctionFormed, InstrFormed, Matched, no_phis, no_phis_first}
use Rattle.ir_tree.specs.Blocks.{labels}
use Rattle.ir_tree.specs.Functions.{is_declared, is_profile_name}
use Rattle.ir_tree.specs.Operands.{Entries, result_names}
use Rattle.ir_tree.specs.Phis.{behind_phis, entries_of, is_phi}
use Rattle.ir_tree.specs.Successors.{successors}
use Rattle.ir_tree.specs.declared.types.Block.{Block}
use Rattle.ir_tree.specs.declared.types.Function.{Function}
use Rattle.ir_tree.specs.declared.types.Instr.{Instr}
use Rattle.ir_tree.specs.declared.types.Instr.TheVariants.{Binary, Compare, Convert, Freeze, Select, Phi, Alloca, Load, Store, Gep, Call, Count}
use Rattle.ir_tree.specs.declared.types.Module.{Module}
use Rattle.ir_tree.specs.declared.types.Operand.{Operand}

-- ---- lists of blocks

pub same_empty : (unit : FunctionPlan) (bs : List Block) → (length (counted_blocks unit bs) == 0) ≡ (length bs == 0)
same_empty unit [] = refl
same_empty unit (b ∷ bs) = ne_eqb (length (counted_blocks unit (b ∷ bs))) 0 (omega arith) ∙ sym (ne_eqb (length (b ∷ bs)) 0 (omega arith))

first_free : (unit : FunctionPlan) (bs : List Block) → no_phis_first bs ≡ true → no_phis_first (counted_blocks unit bs) ≡ true
first_free unit [] h = refl
first_free unit (b ∷ bs) h = first_stays unit (plan_at unit (b ∷ bs) 0) (renamings unit.blocks (b ∷ bs) b.label) b.instrs h

in_labels : (bs : List Block) (l : Name) → Among l (labels (drop 1 bs)) → Among l (labels bs)
in_labels bs l at = (let d = map_among (λ (x : Block). x.label) (drop 1 bs) l at in subst (λ (n : Name). Among n (labels bs)) (sym d.2) (among_map (λ (x : Block). x.label) bs d.0 (dropped_among 1 bs d.0 d.1)))

-- the entries of a phi whose entries were renamed
renamed_entries : (rs : List (Name × Name)) (y : Instr) (es : Entries) → entries_of (renamed_phi rs y) ≡ Some es → (old : Entries) × (entries_of y ≡ Some old) × (es ≡ renamed rs old)
renamed_entries rs (Binary into op flags ty left right) es e = absurd (none-some es e)
renamed_entries rs (Compare into pred ty left right) es e = absurd (none-some es e)
renamed_entries rs (Convert into op flags from value to) es e = absurd (none-some es e)
renamed_entries rs (Freeze into ty value) es e = absurd (none-some es e)
renamed_entries rs (Select into c ty first second prof) es e = absurd (none-some es e)
renamed_entries rs (Phi into ty entries) es e = (entries, refl, sym (same_Some (renamed rs entries) es e))
renamed_entries rs (Alloca into mem) es e = absurd (none-some es e)
renamed_entries rs (Load into ty address) es e = absurd (none-some es e)
renamed_entries rs (Store ty value address) es e = absurd (none-some es e)
renamed_entries rs (Gep into inbounds mem address indices) es e = absurd (none-some es e)
renamed_entries rs (Call into ret callee values prof) es e = absurd (none-some es e)
renamed_entries rs (Count symbol size index step) es e = absurd (none-some es e)

no_entries : (x : Instr) (es : Entries) → is_phi x ≡ false → entries_of x ≡ Some es → ⊥
no_entries x es off e = absurd (cc (sym off ∙ ap (λ (o : Option Entries). is_some o) e))

not_phi : (x : Instr) → not (is_phi x) ≡ true → is_phi x ≡ false
not_phi x h = by (is_phi x) h
  where
    by : (b : Bool) → not b ≡ true → b ≡ false
    by true e = absurd (cc)
    by false e = refl

module _ (m m2 : Module) (takes : TakesOver m m2) (unit : FunctionPlan) (f : Function) (formed : FunctionFormed m f) (fits : PlanFits m2 unit f) where
  abbrev counting : Function
  counting = made m m2 takes unit f

  apart : LabelsApart unit f.blocks
  apart = labels_apart unit f fits.apart

  targets : (b : Block) → Among b f.blocks → (to : Name) → Among to (successors b.term) → Among to (labels f.blocks)
  targets b at to leads = in_labels f.blocks to ((formed.block b at).exit.targets to leads)

  -- ---- phis

  module _ (l : Name) (es : Entries) (old : Matched f.blocks l es) where
    abbrev rs : List (Name × Name)
    rs = renamings unit.blocks f.blocks l

    sources_apart : (x y z : Name) → Among (x, y) rs → Among (y, z) rs → ⊥
    sources_apart x y z h k =
        let a = renames unit f.blocks l x y h in
        let b = renames unit f.blocks l y z k in
        apart.mixed b.block a.number a.block a.position a.to a.put (at_among f.blocks b.number b.block b.way.at) a.way (sym b.old ∙ a.label)

    came : (v : Operand) (n : Name) → Among (v, n) (renamed rs es) → Origin rs es v n
    came v n at = origin rs sources_apart es v n at

    -- a label that an entry names is a block's
    named_block : (v : Operand) (n : Name) → Among (v, n) es → (b : Block) × Among b f.blocks × (b.label ≡ n)
    named_block v n at =
        let some : 1 ≤ times n (tails es) = stands n (tails es) (among_map (λ (e : Operand × Name). e.1) es (v, n) at) in
        let is = old.count n in
        positioned n l f.blocks (omega (arith, some, is))

    -- it is no new one
    not_new : (v : Operand) (n a : Name) → Among (v, n) es → Among (a, n) rs → ⊥
    not_new v n a at h =
        let c = named_block v n at in
        let r = renames unit f.blocks l a n h in
        apart.mixed c.0 r.number r.block r.position r.to r.put c.1 r.way (c.2 ∙ r.label)

    same_source : (a c n : Name) → Among (a, n) rs → Among (c, n) rs → a ≡ c
    same_source a c n h k =
        let x = renames unit f.blocks l a n h in
        let y = renames unit f.blocks l c n k in
        x.old ∙ ap (λ (b : Block). b.label) (apart.fresh x.number y.number x.block y.block x.position y.position x.to y.to x.put y.put x.way y.way (sym x.label ∙ y.label)) ∙ sym y.old

    one_value : (n : Name) (v w : Operand) → Among (v, n) (renamed rs es) → Among (w, n) (renamed rs es) → v ≡ w
    one_value n v w at there = by (came v n at) (came w n there)
      where
        both : (a c : Name) → Among (v, a) es → Among (w, c) es → (a ≡ n) ⊎ Among (a, n) rs → (c ≡ n) ⊎ Among (c, n) rs → v ≡ w
        both a c p q (inl e) (inl d) = old.value n v w (subst (λ (x : Name). Among (v, x) es) e p) (subst (λ (x : Name). Among (w, x) es) d q)
        both a c p q (inl e) (inr k) = absurd (not_new v n c (subst (λ (x : Name). Among (v, x) es) e p) k)
        both a c p q (inr h) (inl d) = absurd (not_new w n a (subst (λ (x : Name). Among (w, x) es) d q) h)
        both a c p q (inr h) (inr k) = old.value c v w (subst (λ (x : Name). Among (v, x) es) (same_source a c n h k) p) q

        by : Origin rs es v n → Origin rs es w n → v ≡ w
        by o q = both o.from q.from o.stood q.stood o.named q.named

    matched_stays : ((j : ℕ) (b : Block) (p : ℕ) (to : Name) (new : NewBlock) → IsWay unit f.blocks j b p to new → (l ≡ new.label → ⊥)) → Matched counting.blocks l (renamed rs es)
    matched_stays old_label = record {
      count = entries_match unit f.blocks l (λ j b p to new way. not_same l new.label (old_label j b p to new way)) es old.count;
      value = one_value;
    }

    -- ---- values of phis

    end_stays : (a n r : Name) → a ≡ n → (b : Block) → Among b f.blocks → b.label ≡ a → AtEnd f a r → AtEnd counting n r
    end_stays a n r e b at is (inl (inl h)) = inl (inl h)
    end_stays a n r e b at is (inl (inr h)) =
        let spot = among_at f.blocks b at in
        inl (inr (subst (λ (x : Name). IsBefore counting.blocks x r) (is ∙ e) (before_stays unit f.blocks apart targets r spot.0 b spot.1 (subst (λ (x : Name). IsBefore f.blocks x r) (sym is) h))))
    end_stays a n r e b at is (inr h) =
        let spot = among_at f.blocks h.0 h.1 in
        inr (made_of unit f.blocks spot.0 h.0, old_among unit f.blocks spot.0 h.0 spot.1, h.2 ∙ e, results_stay unit f.blocks apart targets r spot.0 h.0 h.3)

    end_moves : (a n r : Name) → Renames unit f.blocks a n → AtEnd f a r → AtEnd counting n r
    end_moves a n r way (inl (inl h)) = inl (inl h)
    end_moves a n r way (inl (inr h)) = inl (inr (subst (λ (x : Name). IsBefore counting.blocks x r) (sym way.label) (before_new unit f.blocks apart targets r way.number way.block way.position way.to way.put way.way (inl (subst (λ (x : Name). IsBefore f.blocks x r) way.old h)))))
    end_moves a n r way (inr h) =
        let is : h.0 ≡ way.block = apart.old h.0 way.block h.1 (at_among f.blocks way.number way.block way.way.at) (h.2 ∙ way.old) in
        inl (inr (subst (λ (x : Name). IsBefore counting.blocks x r) (sym way.label) (before_new unit f.blocks apart targets r way.number way.block way.position way.to way.put way.way (inr (subst (λ (x : Block). Among r (result_names x.instrs)) is h.3)))))

    joined_stays : Joined f es → Joined counting (renamed rs es)
    joined_stays h v n at = by (came v n at)
      where
        on : (a : Name) → Among (v, a) es → (a ≡ n) ⊎ Among (a, n) rs → HeldAt (AtEnd counting n) v
        on a p (inl e) = (let b = named_block v a p in held_more (AtEnd f a) (AtEnd counting n) (λ r k. end_stays a n r e b.0 b.1 b.2 k) v (h v a p))
        on a p (inr k) = held_more (AtEnd f a) (AtEnd counting n) (λ r q. end_moves a n r (renames unit f.blocks l a n k) q) v (h v a p)

        by : Origin rs es v n → HeldAt (AtEnd counting n) v
        by o = on o.from o.stood o.named

  -- ---- a block of the function

  module _ (j : ℕ) (b : Block) (at : slice_get f.blocks j ≡ Some b) where
    abbrev plan : BlockPlan
    plan = plan_at unit f.blocks j

    abbrev here_rs : List (Name × Name)
    here_rs = renamings unit.blocks f.blocks b.label

    was : BlockFormed m f b
    was = formed.block b (at_among f.blocks j b at)

    head_stays : (r : Name) → AtHead f b.label r → AtHead counting b.label r
    head_stays r (inl h) = inl h
    head_stays r (inr h) = inr (before_stays unit f.blocks apart targets r j b at h)

    kept : (x : Instr) → Among x b.instrs → InstrFormed m2 counting x
    kept x here = instr_kept m m2 takes unit f x (was.item x here)

    item_formed : (x : Instr) → Among x (made_of unit f.blocks j b).instrs → InstrFormed m2 counting x
    item_formed x here = by (item_from unit plan here_rs b.instrs x here)
      where
        by : Item unit plan here_rs b.instrs x → InstrFormed m2 counting x
        by (Front y h e) = subst (λ (z : Instr). InstrFormed m2 counting z) (sym e) (phi_kept m2 counting here_rs y (kept y (front_among b.instrs y h)))
        by (Own h) = kept x (behind_among b.instrs x h)
        by (Puts p) = put_formed m m2 takes unit f fits j b at kept x p

    -- a phi of the block was one with other entries
    record WasPhi (es : Entries) : Type 0 where
      phi : Instr
      entries : Entries
      stood : Among phi b.instrs
      is : entries_of phi ≡ Some entries
      renamed_to : es ≡ renamed here_rs entries

    was_phi : (x : Instr) (es : Entries) → Among x (made_of unit f.blocks j b).instrs → entries_of x ≡ Some es → WasPhi es
    was_phi x es here e = by (item_from unit plan here_rs b.instrs x here)
      where
        by : Item unit plan here_rs b.instrs x → WasPhi es
        by (Front y h is) = (let r = renamed_entries here_rs y es (sym (ap entries_of is) ∙ e) in record { phi = y; entries = r.0; stood = front_among b.instrs y h; is = r.1; renamed_to = r.2 })
        by (Own h) = absurd (no_entries x es (not_phi x (each_of (λ z. not (is_phi z)) (behind_phis b.instrs) was.lead x h)) e)
        by (Puts p) = absurd (no_entries x es (puts_no_phi unit plan (behind_phis b.instrs) x p) e)

    old_formed : BlockFormed m2 counting (made_of unit f.blocks j b)
    old_formed = record {
      named = was.named;
      lead = lead_stays unit plan here_rs b.instrs was.lead;
      item = item_formed;
      exit = exit_formed m m2 takes unit f j b at was.exit;
      matched = λ x es here e. (let p = was_phi x es here e in subst (λ (z : Entries). Matched counting.blocks b.label z) (sym p.renamed_to) (matched_stays b.label p.entries (was.matched p.phi p.entries p.stood p.is) (λ i c q to new way. apart.mixed b i c q to new (at_among f.blocks j b at) way)));
      ready = block_ready unit plan b.term (led plan b.term) (same_reads plan b.term) here_rs (AtHead f b.label) (AtHead counting b.label) head_stays b.instrs was.ready;
      joined = λ x es here e. (let p = was_phi x es here e in subst (λ (z : Entries). Joined counting z) (sym p.renamed_to) (joined_stays b.label p.entries (was.matched p.phi p.entries p.stood p.is) (was.joined p.phi p.entries p.stood p.is)));
    }

    -- ---- a new block

    module _ (p : ℕ) (to : Name) (new : NewBlock) (way : IsWay unit f.blocks j b p to new) where
      lead_new : (o : Option ℕ) → no_phis (behind_phis (increments unit o)) ≡ true
      lead_new None = refl
      lead_new (Some c) = refl

      item_new : (x : Instr) → Among x (increments unit new.counter) → InstrFormed m2 counting x
      item_new x here = (let r = increment_among unit new.counter x here in subst (λ (z : Instr). InstrFormed m2 counting z) (sym r.2) (edge_formed m m2 takes unit f fits j b at p to new way r.0 r.1))

      none_new : (x : Instr) (es : Entries) → Among x (increments unit new.counter) → entries_of x ≡ Some es → ⊥
      none_new x es here e = (let r = increment_among unit new.counter x here in no_entries x es (ap is_phi r.2) e)

      new_formed : BlockFormed m2 counting (made_on unit f.blocks new to)
      new_formed = record {
        named = label_named m m2 takes unit f fits j b at p to new way;
        lead = lead_new new.counter;
        item = item_new;
        exit = branch_formed m m2 takes unit f j b at was.exit p to way.leads;
        matched = λ x es here e. absurd (none_new x es here e);
        ready = new_ready unit (AtHead counting new.label) new.counter to;
        joined = λ x es here e. absurd (none_new x es here e);
      }

  block_formed : (q : Block) → Among q counting.blocks → BlockFormed m2 counting q
  block_formed q at = by (block_from unit f.blocks q at)
    where
      by : Made unit f.blocks q → BlockFormed m2 counting q
      by (Old j b here e) = subst (λ (x : Block). BlockFormed m2 counting x) (sym e) (old_formed j b here)
      by (New j b p to new way e) = subst (λ (x : Block). BlockFormed m2 counting x) (sym e) (new_formed j b way.at p to new way)

  -- ---- the function

  same_declared : is_declared counting ≡ is_declared f
  same_declared = same_empty unit f.blocks

  abbrev well_where : Bool → Bool
  well_where declared = if is_profile_name f.name then declared && has_profile_types f else (if declared then has_provided_types f else true)

  pub function_formed : Among f m.functions → FunctionFormed m2 counting
  function_formed at = record {
    named = formed.named;
    params = ap (λ (d : Bool). list_all (is_param_name d) (param_names f)) same_declared ∙ formed.params;
    free = takes.free f.name (among_map (λ (g : Function). g.name) m.functions f at);
    provided = ap well_where same_declared ∙ formed.provided;
    noted = ap (λ (d : Bool). has_entries d f.prof) same_declared ∙ formed.noted;
    distinct = λ d n. names_once unit f n (fits.apart n);
    first = first_free unit f.blocks formed.first;
    block = block_formed;
  }

-- ---- a declared function

no_block : {X : Type 0} (xs : List X) → length xs ≡ 0 → (i : ℕ) (x : X) → slice_get xs i ≡ Some x → ⊥
no_block [] e i x at = absurd (none-some x at)
no_block (y ∷ ys) e i x at = absurd (omega (arith, e))

module _ (m m2 : Module) (takes : TakesOver m m2) (unit : FunctionPlan) (f : Function) (formed : FunctionFormed m f) (declared : is_declared f ≡ true) where
  abbrev still : Function
  still = counted_function unit f

  is_still : is_declared still ≡ is_declared f
  is_still = same_empty unit f.blocks

  abbrev still_well : Bool → Bool
  still_well d = if is_profile_name f.name then d && has_profile_types f else (if d then has_provided_types f else true)

  none_there : (q : Block) → Among q still.blocks → ⊥
  none_there q at = by (block_from unit f.blocks q at)
    where
      empty : length f.blocks ≡ 0
      empty = eqb-true (length f.blocks) 0 declared

      by : Made unit f.blocks q → ⊥
      by (Old j b here e) = no_block f.blocks empty j b here
      by (New j b p to new way e) = no_block f.blocks empty j b way.at

  pub declared_formed : Among f m.functions → FunctionFormed m2 still
  declared_formed at = record {
    named = formed.named;
    params = ap (λ (d : Bool). list_all (is_param_name d) (param_names f)) is_still ∙ formed.params;
    free = takes.free f.name (among_map (λ (g : Function). g.name) m.functions f at);
    provided = ap still_well is_still ∙ formed.provided;
    noted = ap (λ (d : Bool). has_entries d f.prof) is_still ∙ formed.noted;
    distinct = λ d n. absurd (cc (sym (is_still ∙ declared) ∙ d));
    first = first_free unit f.blocks formed.first;
    block = λ q h. absurd (none_there q h);
  }
