-- What the instructions ask for that a plan puts into a function.
use Rattle.std.proofs.Common.{◌≡◌, ℕ, zero, suc, ◌+◌, ◌<◌, ◌⊎◌, inl, inr, Bool, true, false, if◌then◌else◌, List, [], ◌∷◌, ◌++◌, drop, map, take, Option, Some, None, refl, sym, ap, subst, ◌∙◌}
use Rattle.std.specs.List.{filter_map}
use Rattle.std.specs.Cmp.Lexicographic.{bytes_decides}
use Rattle.std.proofs.lemmas.Option.{none-some, same_Some}
use Rattle.count_plan.specs.Calls.{condition_of, condition_watched, increment, increment_by, increment_name, increments, no_flags, note_target, step_name, target_of, target_watched, value_name, watched}
use Rattle.count_plan.specs.Counted.{counted_blocks, counted_from, counted_instrs, counted_pieces, new_blocks, put_on, watch_at}
use Rattle.count_plan.specs.Ways.{block_plan, new_at, renamed_phi, renamings}
use Rattle.count_plan.specs.declared.plan.BlockPlan.{BlockPlan}
use Rattle.count_plan.specs.declared.plan.FunctionPlan.{FunctionPlan}
use Rattle.count_plan.specs.declared.plan.NewBlock.{NewBlock}
use Rattle.count_plan.specs.declared.plan.Watch.{Watch}
use Rattle.count_plan.specs.declared.plan.Watch.TheVariants.{Nothing, Condition, Target}
use Rattle.gen_asks.proofs.Listed.{among_either, among_made, at_among, flat_among, from_each, map_among}
use Rattle.gen_asks.proofs.Plans.{CounterBelow, NewBelow, PlanBelow, WatchBelow}
use Rattle.gen_asks.specs.Asks.{IsWithin}
use Rattle.ir_rules.specs.Lists.{Among}
use Rattle.ir_tree.specs.Names.{same}
use Rattle.ir_tree.specs.Phis.{behind_phis, leading_phis, phi_count}
use Rattle.ir_tree.specs.Successors.{successors}
use Rattle.ir_tree.specs.declared.types.Block.{Block}
use Rattle.ir_tree.specs.declared.types.ConvOp.TheVariants.{ZExt, PtrToInt}
use Rattle.ir_tree.specs.declared.types.Instr.{Instr}
use Rattle.ir_tree.specs.declared.types.Instr.TheVariants.{Binary, Compare, Convert, Freeze, Select, Phi, Alloca, Load, Store, Gep, Call, Count}
use Rattle.ir_tree.specs.declared.types.Operand.{Operand}
use Rattle.ir_tree.specs.declared.types.Operand.TheVariants.{Int, Local, Global}
use Rattle.ir_tree.specs.declared.types.Ty.TheVariants.{I1, I64, Ptr}
use Rattle.lowering.specs.Asked.{Asked, Rise, Note, asked, asked_in, hash_asked, note, rise, symbol_asked}

abbrev Name : Type 0
Name = List ℕ

same_self : (n : Name) → same n n ≡ true
same_self n = (bytes_decides n n).1 refl

step_no_value : same step_name value_name ≡ false
unfolding step_name value_name
step_no_value = refl

taken_among : {X : Type 0} (k : ℕ) (xs : List X) (x : X) → Among x (take k xs) → Among x xs
taken_among zero xs x at = absurd at
taken_among (suc k) [] x at = at
taken_among (suc k) (y ∷ ys) x (inl e) = inl e
taken_among (suc k) (y ∷ ys) x (inr at) = inr (taken_among k ys x at)

dropped_among : {X : Type 0} (k : ℕ) (xs : List X) (x : X) → Among x (drop k xs) → Among x xs
dropped_among zero xs x at = at
dropped_among (suc k) [] x at = at
dropped_among (suc k) (y ∷ ys) x at = inr (dropped_among k ys x at)

-- an instruction that asks for nothing asks for nothing with other entries
renamed_asks : (rs : List (Name × Name)) (x : Instr) → asked x ≡ None → asked (renamed_phi rs x) ≡ None
renamed_asks rs (Binary into op flags ty left right) e = e
renamed_asks rs (Compare into pred ty left right) e = e
renamed_asks rs (Convert into op flags from value to) e = e
renamed_asks rs (Freeze into ty value) e = e
renamed_asks rs (Select into c ty first second prof) e = e
renamed_asks rs (Phi into ty entries) e = refl
renamed_asks rs (Alloca into mem) e = e
renamed_asks rs (Load into ty address) e = e
renamed_asks rs (Store ty value address) e = e
renamed_asks rs (Gep into inbounds mem address indices) e = e
renamed_asks rs (Call into ret callee values prof) e = e
renamed_asks rs (Count symbol size index step) e = e

-- what the calls ask for that are put in
pub increment_asks : (unit : FunctionPlan) (c : ℕ) → asked (increment unit c) ≡ Some (Rise unit.symbol unit.hash unit.counters c (Int 1))
increment_asks unit c = ap (λ (b : Bool). if b then Some (Rise unit.symbol unit.hash unit.counters c (Int 1)) else None) (same_self increment_name)

step_asks : (unit : FunctionPlan) (c : ℕ) (r : Name) → asked (increment_by unit c r) ≡ Some (Rise unit.symbol unit.hash unit.counters c (Local r))
step_asks unit c r =
    ap (λ (b : Bool). if b then Some (Rise unit.symbol unit.hash unit.counters c (Local r)) else (if same value_name step_name then note (Global unit.symbol) (Int unit.hash) (Int unit.counters) (Local r) else None)) (same_self step_name)

note_asks : (unit : FunctionPlan) (s : ℕ) (r : Name) → asked (note_target unit s r) ≡ Some (Note unit.symbol unit.hash (Local r) s)
note_asks unit s r =
    ap (λ (b : Bool). if b then rise (Global unit.symbol) (Int unit.hash) (Local r) (Int 0) (Int s) else (if same value_name value_name then Some (Note unit.symbol unit.hash (Local r) s) else None)) step_no_value
    ∙ ap (λ (b : Bool). if b then Some (Note unit.symbol unit.hash (Local r) s) else None) (same_self value_name)

module _ (unit : FunctionPlan) (sites : ℕ) where
  -- asked of the unit, within its counters and sites
  pub record OfUnit (a : Asked) : Type 0 where
    pub symbol : symbol_asked a ≡ unit.symbol
    pub hash : hash_asked a ≡ unit.hash
    pub within : IsWithin unit.counters sites a

  abbrev Fine : Instr → Type 0
  Fine x = (a : Asked) → asked x ≡ Some a → OfUnit a

  abbrev AllFine : List Instr → Type 0
  AllFine xs = (x : Instr) → Among x xs → Fine x

  fine_none : (x : Instr) → asked x ≡ None → Fine x
  fine_none x none a e = absurd (none-some a (sym none ∙ e))

  fine_some : (x : Instr) (b : Asked) → asked x ≡ Some b → OfUnit b → Fine x
  fine_some x b is h a e = subst OfUnit (same_Some b a (sym is ∙ e)) h

  fine_same : (x y : Instr) → x ≡ y → Fine y → Fine x
  fine_same x y e h = subst Fine (sym e) h

  increments_fine : (o : Option ℕ) → CounterBelow unit.counters o → AllFine (increments unit o)
  increments_fine None h x at = absurd at
  increments_fine (Some c) h x (inl e) = fine_same x (increment unit c) e (fine_some (increment unit c) (Rise unit.symbol unit.hash unit.counters c (Int 1)) (increment_asks unit c) (record { symbol = refl; hash = refl; within = (refl, h) }))
  increments_fine (Some c) h x (inr none) = absurd none

  condition_fine : (r : Name) (c : ℕ) → c < unit.counters → (o : Option Operand) → AllFine (condition_watched unit r c o)
  condition_fine r c h None x at = absurd at
  condition_fine r c h (Some o) x (inl e) = fine_same x (Convert r ZExt no_flags I1 o I64) e (fine_none (Convert r ZExt no_flags I1 o I64) refl)
  condition_fine r c h (Some o) x (inr (inl e)) = fine_same x (increment_by unit c r) e (fine_some (increment_by unit c r) (Rise unit.symbol unit.hash unit.counters c (Local r)) (step_asks unit c r) (record { symbol = refl; hash = refl; within = (refl, h) }))
  condition_fine r c h (Some o) x (inr (inr none)) = absurd none

  target_fine : (r : Name) (s : ℕ) → s < sites → (o : Option Operand) → AllFine (target_watched unit r s o)
  target_fine r s h None x at = absurd at
  target_fine r s h (Some o) x (inl e) = fine_same x (Convert r PtrToInt no_flags Ptr o I64) e (fine_none (Convert r PtrToInt no_flags Ptr o I64) refl)
  target_fine r s h (Some o) x (inr (inl e)) = fine_same x (note_target unit s r) e (fine_some (note_target unit s r) (Note unit.symbol unit.hash (Local r) s) (note_asks unit s r) (record { symbol = refl; hash = refl; within = h }))
  target_fine r s h (Some o) x (inr (inr none)) = absurd none

  watched_fine : (w : Watch) (y : Instr) → WatchBelow unit.counters sites w → AllFine (watched unit w y)
  watched_fine Nothing y h x at = absurd at
  watched_fine (Condition r c) y h x at = condition_fine r c h (condition_of y) x at
  watched_fine (Target r s) y h x at = target_fine r s h (target_of y) x at

  module _ (plan : BlockPlan) (below : PlanBelow unit.counters sites plan) where
    from_fine : (i : ℕ) (xs : List Instr) → ((x : Instr) → Among x xs → asked x ≡ None) → AllFine (counted_from unit plan i xs)
    from_fine i [] own x at = increments_fine plan.tail below.tail x at
    from_fine i (y ∷ ys) own x at = by (among_either (watched unit (watch_at plan i) y) (y ∷ counted_from unit plan (i + 1) ys) x at) (λ h. from_fine (i + 1) ys (λ z there. own z (inr there)) x h)
      where
        by : Among x (watched unit (watch_at plan i) y) ⊎ Among x (y ∷ counted_from unit plan (i + 1) ys) → (Among x (counted_from unit plan (i + 1) ys) → Fine x) → Fine x
        by (inl h) rest = watched_fine (watch_at plan i) y (below.watch i) x h
        by (inr (inl e)) rest = fine_same x y e (fine_none y (own y (inl refl)))
        by (inr (inr h)) rest = rest h

    instrs_fine : (rs : List (Name × Name)) (is : List Instr) → ((x : Instr) → Among x is → asked x ≡ None) → AllFine (counted_instrs unit plan rs is)
    instrs_fine rs is own x at = by (among_either (map (renamed_phi rs) (leading_phis is)) (increments unit plan.head ++ counted_from unit plan 0 (behind_phis is)) x at)
      where
        behind : Among x (increments unit plan.head) ⊎ Among x (counted_from unit plan 0 (behind_phis is)) → Fine x
        behind (inl h) = increments_fine plan.head below.head x h
        behind (inr h) = from_fine 0 (behind_phis is) (λ z there. own z (dropped_among (phi_count is) is z there)) x h

        by : Among x (map (renamed_phi rs) (leading_phis is)) ⊎ Among x (increments unit plan.head ++ counted_from unit plan 0 (behind_phis is)) → Fine x
        by (inl h) = (let y = map_among (renamed_phi rs) (leading_phis is) x h in fine_same x (renamed_phi rs y.0) y.2 (fine_none (renamed_phi rs y.0) (renamed_asks rs y.0 (own y.0 (taken_among (phi_count is) is y.0 y.1)))))
        by (inr h) = behind (among_either (increments unit plan.head) (counted_from unit plan 0 (behind_phis is)) x h)

    new_fine : (to : Name) (o : Option NewBlock) → NewBelow unit.counters o → (b : Block) → Among b (put_on unit to o) → AllFine b.instrs
    new_fine to None h b at x there = absurd at
    new_fine to (Some new) h b (inl e) x there = increments_fine new.counter h x (subst (λ (c : Block). Among x c.instrs) e there)
    new_fine to (Some new) h b (inr none) x there = absurd none

    news_fine : (b q : Block) → Among q (new_blocks unit plan b) → AllFine q.instrs
    news_fine b q at = (let r = from_each (λ p to. put_on unit to (new_at plan p)) (successors b.term) q at in new_fine r.1 (new_at plan r.0) (below.edge r.0) q r.3)

  -- the calls of the function that counts
  module _ (bs : List Block) (below : (j : ℕ) → PlanBelow unit.counters sites (block_plan unit.blocks j)) (own : (b : Block) → Among b bs → (x : Instr) → Among x b.instrs → asked x ≡ None) where
    piece_fine : (j : ℕ) (b : Block) → Among b bs → (q : Block) → Among q (counted_pieces unit bs j b) → AllFine q.instrs
    piece_fine j b here q (inl e) x at = instrs_fine (block_plan unit.blocks j) (below j) (renamings unit.blocks bs b.label) b.instrs (own b here) x (subst (λ (c : Block). Among x c.instrs) e at)
    piece_fine j b here q (inr h) x at = news_fine (block_plan unit.blocks j) (below j) b q h x at

    pub asks_of_unit : (a : Asked) → Among a (asked_in (counted_blocks unit bs)) → OfUnit a
    asks_of_unit a at =
        let q = flat_among (λ (b : Block). filter_map asked b.instrs) (counted_blocks unit bs) a at in
        let x = among_made asked q.0.instrs a q.2 in
        let r = from_each (counted_pieces unit bs) bs q.0 q.1 in
        piece_fine r.0 r.1 (at_among bs r.0 r.1 r.2) q.0 r.3 x.0 x.1 a x.2
