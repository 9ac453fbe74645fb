-- Where phis stand, and what entries they have.
use Rattle.std.proofs.Common.{◌≡◌, ℕ, ◌+◌, ◌-◌, ◌<◌, ◌≤◌, Bool, true, false, cond, ◌==◌, ◌&&◌, ◌||◌, not, nat_lt, List, [], ◌∷◌, map, Option, Some, slice_get, refl, sym, ap, subst, ◌∙◌, arith, inl, inr, ◌⊎◌}
use Rattle.std.specs.List.{list_all}
use Rattle.std.proofs.lemmas.Bool.{and_from, and_parts, cases_lt, eq-eqb, eqb-true, ltb-true, lt-ltb, or_cases, or_left, or_right}
use Rattle.std.proofs.lemmas.List.Sums.{sum_by-cons}
use Rattle.ir_rules.proofs.Counts.{Name, one, times_cons}
use Rattle.ir_rules.proofs.Members.{all_of, among_behind, among_is, at_among, among_at, behind_among, each_of, is_same, map_among, same_is}
use Rattle.ir_rules.specs.Lists.{Among, is_among, times}
use Rattle.ir_rules.specs.PhiEntries.{are_as_many, are_matched, has_value, have_one_value, positions, tails}
use Rattle.ir_rules.specs.PhiPlaces.{is_placed_well}
use Rattle.ir_rules.specs.WellFormed.{Matched, no_phis}
use Rattle.ir_tree.specs.Names.{same}
use Rattle.ir_tree.specs.Operands.{Entries, same_operand}
use Rattle.ir_tree.specs.Phis.{behind_phis, entry_for, is_phi, phi_count}
use Rattle.ir_tree.specs.Successors.{successors}
use Rattle.ir_tree.specs.declared.types.Block.{Block}
use Rattle.ir_tree.specs.declared.types.Instr.{Instr}
use Rattle.ir_tree.specs.declared.types.Operand.{Operand}
use Rattle.ir_tree.specs.declared.types.Operand.TheVariants.{Int, Null, Local, Global}

-- ---- places of phis

abbrev pub AllPlaced : ℕ → List Instr → Type 0
AllPlaced b xs = (i : ℕ) (x : Instr) → slice_get xs i ≡ Some x → is_placed_well b xs i x ≡ true

pub none_behind : (b : ℕ) (xs : List Instr) → AllPlaced b xs → no_phis (behind_phis xs) ≡ true
none_behind b xs placed = all_of (λ x. not (is_phi x)) (behind_phis xs) (λ x at. let there = among_behind xs (phi_count xs) x at in by x there.0 (placed (phi_count xs + there.0) x there.1))
  where
    by : (x : Instr) (i : ℕ) → (not (is_phi x) || (not (b == 0) && nat_lt (phi_count xs + i) (phi_count xs))) ≡ true → not (is_phi x) ≡ true
    by x i h = late (or_cases (not (is_phi x)) (not (b == 0) && nat_lt (phi_count xs + i) (phi_count xs)) h)
      where
        late : (not (is_phi x) ≡ true) ⊎ ((not (b == 0) && nat_lt (phi_count xs + i) (phi_count xs)) ≡ true) → not (is_phi x) ≡ true
        late (inl k) = k
        late (inr k) = let less : phi_count xs + i < phi_count xs = ltb-true (phi_count xs + i) (phi_count xs) (and_parts (not (b == 0)) (nat_lt (phi_count xs + i) (phi_count xs)) k).1 in absurd (omega (arith, less))

pub none_in_first : (xs : List Instr) → AllPlaced 0 xs → no_phis xs ≡ true
none_in_first xs placed = all_of (λ x. not (is_phi x)) xs (λ x at. let there = among_at xs x at in by x (placed there.0 x there.1))
  where
    by : (x : Instr) → (not (is_phi x) || false) ≡ true → not (is_phi x) ≡ true
    by x h = elim (or_cases (not (is_phi x)) false h) [ inl k ↦ k | inr k ↦ absurd (cc) ]

pub all_placed : (b : ℕ) (xs : List Instr) → no_phis (behind_phis xs) ≡ true → (b ≡ 0 → no_phis xs ≡ true) → AllPlaced b xs
all_placed b xs behind first i x at = by (b == 0) refl
  where
    late : nat_lt i (phi_count xs) ≡ true → (not (is_phi x) || nat_lt i (phi_count xs)) ≡ true
    late h = or_right (not (is_phi x)) (nat_lt i (phi_count xs)) h

    here : (i < phi_count xs) ⊎ (phi_count xs ≤ i) → (not (is_phi x) || nat_lt i (phi_count xs)) ≡ true
    here (inl k) = late (lt-ltb i (phi_count xs) k)
    here (inr k) =
        let off : (j : ℕ) × (phi_count xs + j ≡ i) = (i - phi_count xs, omega (arith, k)) in
        let there : slice_get xs (phi_count xs + off.0) ≡ Some x = ap (λ (j : ℕ). slice_get xs j) off.1 ∙ at in
        or_left (not (is_phi x)) (nat_lt i (phi_count xs)) (each_of (λ y. not (is_phi y)) (behind_phis xs) behind x (behind_among xs (phi_count xs) off.0 x there))

    by : (t : Bool) → (b == 0) ≡ t → (not (is_phi x) || (not t && nat_lt i (phi_count xs))) ≡ true
    by true e = or_left (not (is_phi x)) false (each_of (λ y. not (is_phi y)) xs (first (eqb-true b 0 e)) x (at_among xs i x at))
    by false e = here (cases_lt i (phi_count xs))

-- ---- equal operands

pub same_operand_is : (a b : Operand) → same_operand a b ≡ true → a ≡ b
same_operand_is (Int x) (Int y) h = ap Int (eqb-true x y h)
same_operand_is (Int x) Null h = absurd (cc)
same_operand_is (Int x) (Local y) h = absurd (cc)
same_operand_is (Int x) (Global y) h = absurd (cc)
same_operand_is Null (Int y) h = absurd (cc)
same_operand_is Null Null h = refl
same_operand_is Null (Local y) h = absurd (cc)
same_operand_is Null (Global y) h = absurd (cc)
same_operand_is (Local x) (Int y) h = absurd (cc)
same_operand_is (Local x) Null h = absurd (cc)
same_operand_is (Local x) (Local y) h = ap Local (same_is x y h)
same_operand_is (Local x) (Global y) h = absurd (cc)
same_operand_is (Global x) (Int y) h = absurd (cc)
same_operand_is (Global x) Null h = absurd (cc)
same_operand_is (Global x) (Local y) h = absurd (cc)
same_operand_is (Global x) (Global y) h = ap Global (same_is x y h)

pub operand_self : (a : Operand) → same_operand a a ≡ true
operand_self (Int x) = eq-eqb x x refl
operand_self Null = refl
operand_self (Local x) = is_same x x refl
operand_self (Global x) = is_same x x refl

-- ---- the first entry of a label

found_entry : (n : Name) (v : Operand) (es : Entries) → Among (v, n) es → (e : Operand × Name) × (entry_for n es ≡ Some e) × Among e es × (e.1 ≡ n)
found_entry n v [] at = absurd at
found_entry n v (d ∷ es) (inl e) =
    let here : same n d.1 ≡ true = is_same n d.1 (ap (λ (p : Operand × Name). p.1) e) in
    (d, ap (λ (b : Bool). cond b (Some d) (entry_for n es)) here, inl refl, sym (same_is n d.1 here))
found_entry n v (d ∷ es) (inr at) = by (same n d.1) refl (found_entry n v es at)
  where
    by : (b : Bool) → same n d.1 ≡ b → (e : Operand × Name) × (entry_for n es ≡ Some e) × Among e es × (e.1 ≡ n) → (e : Operand × Name) × (cond b (Some d) (entry_for n es) ≡ Some e) × Among e (d ∷ es) × (e.1 ≡ n)
    by true k rest = (d, refl, inl refl, sym (same_is n d.1 k))
    by false k rest = (rest.0, rest.1, inr rest.2, rest.3)

module _ (es : Entries) where
  value_found : (v : Operand) (n : Name) (e : Operand × Name) → entry_for n es ≡ Some e → has_value v (entry_for n es) ≡ true → v ≡ e.0
  value_found v n e is h = same_operand_is v e.0 (sym (ap (λ (o : Option (Operand × Name)). has_value v o) is) ∙ h)

  pub one_value : have_one_value es ≡ true → (n : Name) (v w : Operand) → Among (v, n) es → Among (w, n) es → v ≡ w
  one_value h n v w here there =
      let first = found_entry n v es here in
      let of_v : v ≡ first.0.0 = value_found v n first.0 first.1 (each_of (λ e. has_value e.0 (entry_for e.1 es)) es h (v, n) here) in
      let of_w : w ≡ first.0.0 = value_found w n first.0 first.1 (each_of (λ e. has_value e.0 (entry_for e.1 es)) es h (w, n) there) in
      of_v ∙ sym of_w

  pub has_one : ((n : Name) (v w : Operand) → Among (v, n) es → Among (w, n) es → v ≡ w) → have_one_value es ≡ true
  has_one one = all_of (λ e. has_value e.0 (entry_for e.1 es)) es (λ e at. let first = found_entry e.1 e.0 es at in let in_list : Among (first.0.0, e.1) es = subst (λ (n : Name). Among (first.0.0, n) es) first.3 first.2 in let equal : e.0 ≡ first.0.0 = one e.1 e.0 first.0.0 at in_list in ap (λ (o : Option (Operand × Name)). has_value e.0 o) first.1 ∙ (ap (λ (v : Operand). same_operand v first.0.0) equal ∙ operand_self first.0.0))

-- ---- as many entries as positions

never : (n : Name) (xs : List Name) → is_among n xs ≡ false → times n xs ≡ 0
never n [] h = refl
never n (x ∷ xs) h = by (same n x) refl h (λ k. never n xs k)
  where
    by : (b : Bool) → same n x ≡ b → (b || is_among n xs) ≡ false → (is_among n xs ≡ false → times n xs ≡ 0) → times n (x ∷ xs) ≡ 0
    by true e k rest = absurd (cc)
    by false e k rest = let here : one n x ≡ 0 = ap (λ (b : Bool). cond {A = ℕ} b 1 0) e in omega (arith, here, rest k, times_cons n x xs)

pub no_positions : (n l : Name) (blocks : List Block) → is_among n (map (λ (b : Block). b.label) blocks) ≡ false → positions n l blocks ≡ 0
no_positions n l [] h = refl
no_positions n l (b ∷ bs) h = by (same n b.label) refl h (λ k. no_positions n l bs k)
  where
    here : Bool → ℕ
    here t = cond {A = ℕ} t (times l (successors b.term)) 0

    by : (t : Bool) → same n b.label ≡ t → (t || is_among n (map (λ (d : Block). d.label) bs)) ≡ false → (is_among n (map (λ (d : Block). d.label) bs) ≡ false → positions n l bs ≡ 0) → positions n l (b ∷ bs) ≡ 0
    by true e k rest = absurd (cc)
    by false e k rest =
        let first : cond {A = ℕ} (same n b.label) (times l (successors b.term)) 0 ≡ 0 = ap (λ (t : Bool). cond {A = ℕ} t (times l (successors b.term)) 0) e in
        let all : positions n l (b ∷ bs) ≡ cond {A = ℕ} (same n b.label) (times l (successors b.term)) 0 + positions n l bs = sum_by-cons (λ (d : Block). cond {A = ℕ} (same n d.label) (times l (successors d.term)) 0) b bs in
        omega (arith, first, rest k, all)

module _ (blocks : List Block) (l : Name) (es : Entries) where
  pub matched : are_matched blocks l es ≡ true → Matched blocks l es
  matched h =
      let parts = and_parts (list_all (are_as_many blocks l es) (tails es)) (list_all (λ b. are_as_many blocks l es b.label) blocks && have_one_value es) h in
      let more = and_parts (list_all (λ (b : Block). are_as_many blocks l es b.label) blocks) (have_one_value es) parts.1 in
      record { count = λ n. many n parts.0 more.0 (is_among n (tails es)) refl; value = one_value es more.1 }
    where
      labelled : (n : Name) → list_all (λ (b : Block). are_as_many blocks l es b.label) blocks ≡ true → is_among n (tails es) ≡ false → (t : Bool) → is_among n (map (λ (b : Block). b.label) blocks) ≡ t → times n (tails es) ≡ positions n l blocks
      labelled n of_blocks k true e =
          let found = map_among (λ (b : Block). b.label) blocks n (among_is n (map (λ (b : Block). b.label) blocks) e) in
          let equal : times found.0.label (tails es) ≡ positions found.0.label l blocks = eqb-true (times found.0.label (tails es)) (positions found.0.label l blocks) (each_of (λ (b : Block). are_as_many blocks l es b.label) blocks of_blocks found.0 found.1) in
          ap (λ (q : Name). times q (tails es)) found.2 ∙ (equal ∙ ap (λ (q : Name). positions q l blocks) (sym found.2))
      labelled n of_blocks k false e = never n (tails es) k ∙ sym (no_positions n l blocks e)

      many : (n : Name) → list_all (are_as_many blocks l es) (tails es) ≡ true → list_all (λ (b : Block). are_as_many blocks l es b.label) blocks ≡ true → (t : Bool) → is_among n (tails es) ≡ t → times n (tails es) ≡ positions n l blocks
      many n of_entries of_blocks true e = eqb-true (times n (tails es)) (positions n l blocks) (each_of (are_as_many blocks l es) (tails es) of_entries n (among_is n (tails es) e))
      many n of_entries of_blocks false e = labelled n of_blocks e (is_among n (map (λ (b : Block). b.label) blocks)) refl

  pub is_matched : Matched blocks l es → are_matched blocks l es ≡ true
  is_matched h =
      and_from (list_all (are_as_many blocks l es) (tails es)) (list_all (λ (b : Block). are_as_many blocks l es b.label) blocks && have_one_value es) (all_of (are_as_many blocks l es) (tails es) (λ n at. eq-eqb (times n (tails es)) (positions n l blocks) (h.count n))) (
      and_from (list_all (λ (b : Block). are_as_many blocks l es b.label) blocks) (have_one_value es) (all_of (λ (b : Block). are_as_many blocks l es b.label) blocks (λ b at. eq-eqb (times b.label (tails es)) (positions b.label l blocks) (h.count b.label))) (has_one es h.value))
