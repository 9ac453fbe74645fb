-- The instructions of a block that counts: its own ones, its phis with other entries, and those that are put in.
use Rattle.std.proofs.Common.{◌≡◌, ℕ, zero, suc, ◌+◌, ◌⊎◌, inl, inr, Bool, true, false, cond, not, List, [], ◌∷◌, ◌++◌, map, take, drop, Option, Some, None, slice_get, refl, sym, ap, subst, ◌∙◌, arith}
use Rattle.std.specs.List.{prefix_len}
use Rattle.std.proofs.lemmas.List.{take-append-drop}
use Rattle.std.proofs.lemmas.Option.{none-some, same_Some}
use Rattle.count_plan.specs.Calls.{condition_of, condition_watched, increment, increment_by, increments, no_flags, note_target, target_of, target_watched, watched}
use Rattle.count_plan.specs.Counted.{counted_from, counted_instrs, watch_at}
use Rattle.count_plan.specs.Ways.{renamed_phi}
use Rattle.count_plan.specs.declared.plan.BlockPlan.{BlockPlan}
use Rattle.count_plan.specs.declared.plan.FunctionPlan.{FunctionPlan}
use Rattle.count_plan.specs.declared.plan.Watch.{Watch}
use Rattle.count_plan.specs.declared.plan.Watch.TheVariants.{Nothing, Condition, Target}
use Rattle.counted_rules.proofs.Listed.{Name, all_of, among_either, among_left, among_map, among_right, dropped_among, each_of, map_among, taken_among}
use Rattle.ir_rules.specs.Lists.{Among}
use Rattle.ir_rules.specs.WellFormed.{no_phis}
use Rattle.ir_tree.specs.Phis.{behind_phis, is_phi, leading_phis, phi_count}
use Rattle.ir_tree.specs.declared.types.ConvOp.TheVariants.{ZExt, PtrToInt}
use Rattle.ir_tree.specs.declared.types.Instr.{Instr}
use Rattle.ir_tree.specs.declared.types.Instr.TheVariants.{Binary, Compare, Convert, Freeze, Select, Phi, Alloca, Load, Store, Gep, Call, Count}
use Rattle.ir_tree.specs.declared.types.Operand.{Operand}
use Rattle.ir_tree.specs.declared.types.Ty.TheVariants.{I1, I64, Ptr}

-- ---- what is put in

-- an instruction that is put in, and what it stands on
pub data Put (unit : FunctionPlan) (plan : BlockPlan) (xs : List Instr) (x : Instr) : Type 0 where
  Head : (c : ℕ) → plan.head ≡ Some c → x ≡ increment unit c → Put unit plan xs x
  Tail : (c : ℕ) → plan.tail ≡ Some c → x ≡ increment unit c → Put unit plan xs x
  Taken : (k : ℕ) (y : Instr) (r : Name) (c : ℕ) (o : Operand) → slice_get xs k ≡ Some y → watch_at plan k ≡ Condition r c → condition_of y ≡ Some o → x ≡ Convert r ZExt no_flags I1 o I64 → Put unit plan xs x
  Added : (k : ℕ) (y : Instr) (r : Name) (c : ℕ) (o : Operand) → slice_get xs k ≡ Some y → watch_at plan k ≡ Condition r c → condition_of y ≡ Some o → x ≡ increment_by unit c r → Put unit plan xs x
  Cast : (k : ℕ) (y : Instr) (r : Name) (s : ℕ) (o : Operand) → slice_get xs k ≡ Some y → watch_at plan k ≡ Target r s → target_of y ≡ Some o → x ≡ Convert r PtrToInt no_flags Ptr o I64 → Put unit plan xs x
  Noted : (k : ℕ) (y : Instr) (r : Name) (s : ℕ) (o : Operand) → slice_get xs k ≡ Some y → watch_at plan k ≡ Target r s → target_of y ≡ Some o → x ≡ note_target unit s r → Put unit plan xs x

-- an instruction of the block that counts
pub data Item (unit : FunctionPlan) (plan : BlockPlan) (rs : List (Name × Name)) (xs : List Instr) (x : Instr) : Type 0 where
  Front : (y : Instr) → Among y (leading_phis xs) → x ≡ renamed_phi rs y → Item unit plan rs xs x
  Own : Among x (behind_phis xs) → Item unit plan rs xs x
  Puts : Put unit plan (behind_phis xs) x → Item unit plan rs xs x

increment_from : (unit : FunctionPlan) (o : Option ℕ) (x : Instr) → Among x (increments unit o) → (c : ℕ) × (o ≡ Some c) × (x ≡ increment unit c)
increment_from unit None x at = absurd at
increment_from unit (Some c) x (inl e) = (c, refl, e)
increment_from unit (Some c) x (inr h) = absurd h

pub increment_among : (unit : FunctionPlan) (o : Option ℕ) (x : Instr) → Among x (increments unit o) → (c : ℕ) × (o ≡ Some c) × (x ≡ increment unit c)
increment_among unit o x at = increment_from unit o x at

module _ (unit : FunctionPlan) (plan : BlockPlan) where
  module _ (xs : List Instr) (x : Instr) where
    watched_put : (k : ℕ) (y : Instr) → slice_get xs k ≡ Some y → (w : Watch) → watch_at plan k ≡ w → Among x (watched unit w y) → Put unit plan xs x
    watched_put k y at Nothing is h = absurd h
    watched_put k y at (Condition r c) is h = by (condition_of y) refl h
      where
        by : (o : Option Operand) → condition_of y ≡ o → Among x (condition_watched unit r c o) → Put unit plan xs x
        by None e h = absurd h
        by (Some o) e (inl q) = Taken k y r c o at is e q
        by (Some o) e (inr (inl q)) = Added k y r c o at is e q
        by (Some o) e (inr (inr h)) = absurd h
    watched_put k y at (Target r s) is h = by (target_of y) refl h
      where
        by : (o : Option Operand) → target_of y ≡ o → Among x (target_watched unit r s o) → Put unit plan xs x
        by None e h = absurd h
        by (Some o) e (inl q) = Cast k y r s o at is e q
        by (Some o) e (inr (inl q)) = Noted k y r s o at is e q
        by (Some o) e (inr (inr h)) = absurd h

    -- what stands from place i on
    put_from : (i : ℕ) (ys : List Instr) → ((k : ℕ) (y : Instr) → slice_get ys k ≡ Some y → slice_get xs (i + k) ≡ Some y) → Among x (counted_from unit plan i ys) → Among x ys ⊎ Put unit plan xs x
    put_from i [] places h = (let r = increment_from unit plan.tail x h in inr (Tail r.0 r.1 r.2))
    put_from i (y ∷ ys) places h = by (among_either (watched unit (watch_at plan i) y) (y ∷ counted_from unit plan (i + 1) ys) x h) (λ a. put_from (i + 1) ys (λ k z at. ap (λ (n : ℕ). slice_get xs n) (let e : i + 1 + k ≡ i + suc k = omega arith in e) ∙ places (suc k) z at) a)
      where
        here : slice_get xs i ≡ Some y
        here = ap (λ (k : ℕ). slice_get xs k) (let e : i ≡ i + 0 = omega arith in e) ∙ places 0 y refl

        later : Among x ys ⊎ Put unit plan xs x → Among x (y ∷ ys) ⊎ Put unit plan xs x
        later (inl a) = inl (inr a)
        later (inr p) = inr p

        by : Among x (watched unit (watch_at plan i) y) ⊎ Among x (y ∷ counted_from unit plan (i + 1) ys) → (Among x (counted_from unit plan (i + 1) ys) → Among x ys ⊎ Put unit plan xs x) → Among x (y ∷ ys) ⊎ Put unit plan xs x
        by (inl a) more = inr (watched_put i y here (watch_at plan i) refl a)
        by (inr (inl e)) more = inl (inl e)
        by (inr (inr a)) more = later (more a)

  pub item_from : (rs : List (Name × Name)) (xs : List Instr) (x : Instr) → Among x (counted_instrs unit plan rs xs) → Item unit plan rs xs x
  item_from rs xs x h = by (among_either (map (renamed_phi rs) (leading_phis xs)) (increments unit plan.head ++ counted_from unit plan 0 (behind_phis xs)) x h)
    where
      behind : Among x (behind_phis xs) ⊎ Put unit plan (behind_phis xs) x → Item unit plan rs xs x
      behind (inl a) = Own a
      behind (inr p) = Puts p

      rest : Among x (increments unit plan.head) ⊎ Among x (counted_from unit plan 0 (behind_phis xs)) → Item unit plan rs xs x
      rest (inl a) = (let r = increment_from unit plan.head x a in Puts (Head r.0 r.1 r.2))
      rest (inr a) = behind (put_from (behind_phis xs) x 0 (behind_phis xs) (λ k y at. ap (λ (n : ℕ). slice_get (behind_phis xs) n) (let e : 0 + k ≡ k = omega arith in e) ∙ at) a)

      by : Among x (map (renamed_phi rs) (leading_phis xs)) ⊎ Among x (increments unit plan.head ++ counted_from unit plan 0 (behind_phis xs)) → Item unit plan rs xs x
      by (inl a) = (let r = map_among (renamed_phi rs) (leading_phis xs) x a in Front r.0 r.1 r.2)
      by (inr a) = rest (among_either (increments unit plan.head) (counted_from unit plan 0 (behind_phis xs)) x a)

  -- ---- what stays

  stays_from : (i : ℕ) (ys : List Instr) (x : Instr) → Among x ys → Among x (counted_from unit plan i ys)
  stays_from i [] x at = absurd at
  stays_from i (y ∷ ys) x (inl e) = among_right (watched unit (watch_at plan i) y) (y ∷ counted_from unit plan (i + 1) ys) x (inl e)
  stays_from i (y ∷ ys) x (inr at) = among_right (watched unit (watch_at plan i) y) (y ∷ counted_from unit plan (i + 1) ys) x (inr (stays_from (i + 1) ys x at))

  -- what watches an instruction stands before it
  pub watch_from : (i : ℕ) (ys : List Instr) (k : ℕ) (y x : Instr) → slice_get ys k ≡ Some y → Among x (watched unit (watch_at plan (i + k)) y) → Among x (counted_from unit plan i ys)
  watch_from i [] k y x at h = absurd (none-some y at)
  watch_from i (z ∷ ys) zero y x at h =
      among_left (watched unit (watch_at plan i) z) (z ∷ counted_from unit plan (i + 1) ys) x (subst (λ (w : Instr). Among x (watched unit (watch_at plan i) w)) (sym (same_Some z y at)) (subst (λ (n : ℕ). Among x (watched unit (watch_at plan n) y)) (let e : i + 0 ≡ i = omega arith in e) h))
  watch_from i (z ∷ ys) (suc k) y x at h =
      among_right (watched unit (watch_at plan i) z) (z ∷ counted_from unit plan (i + 1) ys) x (inr (watch_from (i + 1) ys k y x at (subst (λ (n : ℕ). Among x (watched unit (watch_at plan n) y)) (let e : i + suc k ≡ i + 1 + k = omega arith in e) h)))

  module _ (rs : List (Name × Name)) (xs : List Instr) where
    pub behind_stays : (x : Instr) → Among x (counted_from unit plan 0 (behind_phis xs)) → Among x (counted_instrs unit plan rs xs)
    behind_stays x at =
        among_right (map (renamed_phi rs) (leading_phis xs)) (increments unit plan.head ++ counted_from unit plan 0 (behind_phis xs)) x (among_right (increments unit plan.head) (counted_from unit plan 0 (behind_phis xs)) x at)

    -- each instruction stays, a phi with its entries renamed
    pub item_stays : (x : Instr) → Among x xs → (y : Instr) × Among y (counted_instrs unit plan rs xs) × ((y ≡ x) ⊎ (y ≡ renamed_phi rs x))
    item_stays x at = by (among_either (leading_phis xs) (behind_phis xs) x (subst (λ (zs : List Instr). Among x zs) (sym (take-append-drop (phi_count xs) xs)) at))
      where
        by : Among x (leading_phis xs) ⊎ Among x (behind_phis xs) → (y : Instr) × Among y (counted_instrs unit plan rs xs) × ((y ≡ x) ⊎ (y ≡ renamed_phi rs x))
        by (inl a) = (renamed_phi rs x, among_left (map (renamed_phi rs) (leading_phis xs)) (increments unit plan.head ++ counted_from unit plan 0 (behind_phis xs)) (renamed_phi rs x) (among_map (renamed_phi rs) (leading_phis xs) x a), inr refl)
        by (inr a) = (x, behind_stays x (stays_from 0 (behind_phis xs) x a), inl refl)

-- ---- phis

pub front_among : (xs : List Instr) (x : Instr) → Among x (leading_phis xs) → Among x xs
front_among xs x at = taken_among (phi_count xs) xs x at

pub behind_among : (xs : List Instr) (x : Instr) → Among x (behind_phis xs) → Among x xs
behind_among xs x at = dropped_among (phi_count xs) xs x at

pub same_phi : (rs : List (Name × Name)) (x : Instr) → is_phi (renamed_phi rs x) ≡ is_phi x
same_phi rs (Binary into op flags ty left right) = refl
same_phi rs (Compare into pred ty left right) = refl
same_phi rs (Convert into op flags from value to) = refl
same_phi rs (Freeze into ty value) = refl
same_phi rs (Select into c ty first second prof) = refl
same_phi rs (Phi into ty entries) = refl
same_phi rs (Alloca into mem) = refl
same_phi rs (Load into ty address) = refl
same_phi rs (Store ty value address) = refl
same_phi rs (Gep into inbounds mem address indices) = refl
same_phi rs (Call into ret callee values prof) = refl
same_phi rs (Count symbol size index step) = refl

put_no_phi : (unit : FunctionPlan) (plan : BlockPlan) (xs : List Instr) (x : Instr) → Put unit plan xs x → is_phi x ≡ false
put_no_phi unit plan xs x (Head c h e) = ap is_phi e
put_no_phi unit plan xs x (Tail c h e) = ap is_phi e
put_no_phi unit plan xs x (Taken k y r c o at is h e) = ap is_phi e
put_no_phi unit plan xs x (Added k y r c o at is h e) = ap is_phi e
put_no_phi unit plan xs x (Cast k y r s o at is h e) = ap is_phi e
put_no_phi unit plan xs x (Noted k y r s o at is h e) = ap is_phi e

pub puts_no_phi : (unit : FunctionPlan) (plan : BlockPlan) (xs : List Instr) (x : Instr) → Put unit plan xs x → is_phi x ≡ false
puts_no_phi unit plan xs x p = put_no_phi unit plan xs x p

abbrev pub test_no : Instr → Bool
test_no x = not (is_phi x)

all_phis : (xs : List Instr) → (x : Instr) → Among x (leading_phis xs) → is_phi x ≡ true
all_phis [] x at = absurd at
all_phis (z ∷ zs) x at = by (is_phi z) refl at (λ h. all_phis zs x h)
  where
    one_more : 1 + prefix_len is_phi zs ≡ suc (prefix_len is_phi zs)
    one_more = omega arith

    front : Among x (z ∷ leading_phis zs) → is_phi z ≡ true → (Among x (leading_phis zs) → is_phi x ≡ true) → is_phi x ≡ true
    front (inl q) e rest = ap is_phi q ∙ e
    front (inr h) e rest = rest h

    by : (b : Bool) → is_phi z ≡ b → Among x (take (cond {A = ℕ} b (1 + prefix_len is_phi zs) 0) (z ∷ zs)) → (Among x (leading_phis zs) → is_phi x ≡ true) → is_phi x ≡ true
    by true e h rest = front (subst (λ (k : ℕ). Among x (take k (z ∷ zs))) one_more h) e rest
    by false e h rest = absurd h

-- behind phis stand no others, where none stands behind these
lead_behind : (front rest : List Instr) → ((x : Instr) → Among x front → is_phi x ≡ true) → no_phis rest ≡ true → no_phis (behind_phis (front ++ rest)) ≡ true
lead_behind [] rest phis none = all_of test_no (behind_phis rest) (λ x at. each_of test_no rest none x (dropped_among (phi_count rest) rest x at))
lead_behind (z ∷ zs) rest phis none = by (is_phi z) (phis z (inl refl)) (lead_behind zs rest (λ x at. phis x (inr at)) none)
  where
    one_more : suc (prefix_len is_phi (zs ++ rest)) ≡ 1 + prefix_len is_phi (zs ++ rest)
    one_more = omega arith

    by : (b : Bool) → b ≡ true → no_phis (behind_phis (zs ++ rest)) ≡ true → no_phis (drop (cond {A = ℕ} b (1 + prefix_len is_phi (zs ++ rest)) 0) (z ∷ (zs ++ rest))) ≡ true
    by true e later = subst (λ (k : ℕ). no_phis (drop k (z ∷ (zs ++ rest))) ≡ true) one_more later
    by false e later = absurd (cc)

module _ (unit : FunctionPlan) (plan : BlockPlan) (rs : List (Name × Name)) (xs : List Instr) where
  behind_none : no_phis (behind_phis xs) ≡ true → no_phis (increments unit plan.head ++ counted_from unit plan 0 (behind_phis xs)) ≡ true
  behind_none none = all_of test_no (increments unit plan.head ++ counted_from unit plan 0 (behind_phis xs)) (λ x at. one x (among_either (increments unit plan.head) (counted_from unit plan 0 (behind_phis xs)) x at))
    where
      put : (x : Instr) → Among x (behind_phis xs) ⊎ Put unit plan (behind_phis xs) x → test_no x ≡ true
      put x (inl a) = each_of test_no (behind_phis xs) none x a
      put x (inr p) = ap not (put_no_phi unit plan (behind_phis xs) x p)

      one : (x : Instr) → Among x (increments unit plan.head) ⊎ Among x (counted_from unit plan 0 (behind_phis xs)) → test_no x ≡ true
      one x (inl a) = (let r = increment_from unit plan.head x a in ap test_no r.2)
      one x (inr a) = put x (put_from unit plan (behind_phis xs) x 0 (behind_phis xs) (λ k y at. ap (λ (n : ℕ). slice_get (behind_phis xs) n) (let e : 0 + k ≡ k = omega arith in e) ∙ at) a)

  pub lead_stays : no_phis (behind_phis xs) ≡ true → no_phis (behind_phis (counted_instrs unit plan rs xs)) ≡ true
  lead_stays none = lead_behind (map (renamed_phi rs) (leading_phis xs)) (increments unit plan.head ++ counted_from unit plan 0 (behind_phis xs)) (λ x at. one x (map_among (renamed_phi rs) (leading_phis xs) x at)) (behind_none none)
    where
      one : (x : Instr) → (y : Instr) × Among y (leading_phis xs) × (x ≡ renamed_phi rs y) → is_phi x ≡ true
      one x (y, at, e) = ap is_phi e ∙ same_phi rs y ∙ all_phis xs y at

  pub first_stays : no_phis xs ≡ true → no_phis (counted_instrs unit plan rs xs) ≡ true
  first_stays none = all_of test_no (counted_instrs unit plan rs xs) (λ x at. one x (item_from unit plan rs xs x at))
    where
      one : (x : Instr) → Item unit plan rs xs x → test_no x ≡ true
      one x (Front y at e) = ap test_no e ∙ ap not (same_phi rs y) ∙ each_of test_no xs none y (front_among xs y at)
      one x (Own at) = each_of test_no xs none x (behind_among xs x at)
      one x (Puts p) = ap not (put_no_phi unit plan (behind_phis xs) x p)
