-- Old operands are worth the same, and phis take the same values, on an edge with a new block and on one without.
use Rattle.std.proofs.Common.{◌≡◌, ℕ, zero, suc, ◌+◌, ◌≤◌, Bool, true, false, List, [], ◌∷◌, map, count_by, Option, Some, None, slice_get, refl, sym, ◌∙◌, ap, subst, arith}
use Rattle.std.proofs.lemmas.Option.{none-some, same_Some}
use Rattle.ir_model.specs.State.{Registers}
use Rattle.ir_model.specs.Step.{taken}
use Rattle.ir_model.specs.Values.{symbol_value}
use Rattle.ir_tree.specs.Blocks.{labels}
use Rattle.ir_tree.specs.Names.{same}
use Rattle.ir_tree.specs.Operands.{Entries, Use, operands}
use Rattle.ir_tree.specs.Phis.{entries_of, value_for}
use Rattle.ir_tree.specs.Successors.{successors}
use Rattle.ir_tree.specs.declared.types.Block.{Block}
use Rattle.ir_tree.specs.declared.types.Instr.{Instr}
use Rattle.ir_tree.specs.declared.types.Instr.TheVariants.{Binary, Compare, Convert, Freeze, Select, Phi, Alloca, Load, Store, Gep, Call, Count}
use Rattle.ir_tree.specs.declared.types.Module.{Module}
use Rattle.ir_tree.specs.declared.types.Operand.{Operand}
use Rattle.ir_tree.specs.declared.types.Operand.TheVariants.{Int, Null, Local, Global}
use Rattle.ir_tree.specs.declared.types.Ty.{Ty}
use Rattle.ir_likeness.proofs.Registers.{Agree, AllOld, IsOld as IsOldOperand, OneOld, PhisAgree, value_same}
use Rattle.count_plan.specs.Ways.{block_plan, new_at, renamed, renamed_phi, renamings}
use Rattle.count_plan.specs.declared.plan.FunctionPlan.{FunctionPlan}
use Rattle.count_plan.specs.declared.plan.NewBlock.{NewBlock}
use Rattle.count_likeness.specs.Fits.{EntriesFit, IsOld, ReadOld, new_labels, tails}
use Rattle.count_likeness.proofs.Labels.{all_few, all_fewer, new_entries_none, none_of_new, none_to_old, of_some_tail, only_of_tail, some_renaming}
use Rattle.spec_items.proofs.Items.{count_cons}
use Rattle.count_likeness.proofs.Renamed.{AllValued, entries_for, new_takes, not_same, one_if, renamings_of, renamings_to, same_names, tail_stays, value_by}

-- ---- operands

module _ (unit : FunctionPlan) where
  pub old_operand : (us : List Use) → ReadOld unit us → (i : ℕ) (t : Ty) (o : Operand) → slice_get us i ≡ Some (t, o) → IsOldOperand (IsOld unit) o
  old_operand us old i t (Int v) e = tt
  old_operand us old i t Null e = tt
  old_operand us old i t (Local r) e = old i t r e
  old_operand us old i t (Global g) e = tt

  pub all_old : (us : List Use) → ReadOld unit us → AllOld (IsOld unit) us
  all_old [] old = tt
  all_old (u ∷ us) old = (old_operand (u ∷ us) old 0 u.0 u.1 refl, all_old us (λ i t r e. old (suc i) t r e))

  pub one_old : (u : Option Use) → ((t : Ty) (r : List ℕ) → u ≡ Some (t, Local r) → IsOld unit r) → OneOld (IsOld unit) u
  one_old None old = tt
  one_old (Some (t, Int v)) old = tt
  one_old (Some (t, Null)) old = tt
  one_old (Some (t, Local r)) old = old t r refl
  one_old (Some (t, Global g)) old = tt

-- ---- entries

-- the first entry for a label
some_entry : (a : List ℕ) (es : Entries) → 1 ≤ entries_for a es → (i : ℕ) × (v : Operand) × (slice_get es i ≡ Some (v, a))
some_entry a [] some = absurd (omega arith)
some_entry a (e ∷ es) some = by (same a e.1) refl (λ more. some_entry a es more)
  where
    by : (s : Bool) → same a e.1 ≡ s → (1 ≤ entries_for a es → (i : ℕ) × (v : Operand) × (slice_get es i ≡ Some (v, a))) → (i : ℕ) × (v : Operand) × (slice_get (e ∷ es) i ≡ Some (v, a))
    by true q later = (0, e.0, ap (λ (l : List ℕ). Some (e.0, l)) (sym (same_names a e.1 q)))
    by false q later =
        let c = count_cons (same a) e.1 (tails es) in
        let none : one_if (same a e.1) ≡ 0 = ap one_if q in
        let r = later (omega (arith, c, none, some)) in
        (suc r.0, r.1, r.2)

all_valued : (a : List ℕ) (v : Operand) (es : Entries) → ((i : ℕ) (w : Operand) → slice_get es i ≡ Some (w, a) → w ≡ v) → AllValued a v es
all_valued a v [] h = tt
all_valued a v (e ∷ es) h = (λ q. h 0 e.0 (ap (λ (l : List ℕ). Some (e.0, l)) (sym (same_names a e.1 q))), all_valued a v es (λ i w at. h (suc i) w at))

-- where none has the label, each that has it has any value
none_valued : (n : List ℕ) (v : Operand) (es : Entries) → entries_for n es ≡ 0 → AllValued n v es
none_valued n v [] e = tt
none_valued n v (x ∷ es) e =
    let c = count_cons (same n) x.1 (tails es) in
    (λ q. (let one : one_if (same n x.1) ≡ 1 = ap one_if q in absurd (omega (arith, c, one, e))), none_valued n v es (omega (arith, c, e)))

entry_operand : (t : Ty) (es : Entries) (i : ℕ) (v : Operand) (a : List ℕ) → slice_get es i ≡ Some (v, a) → slice_get {X = Use} (map (λ (e : Operand × List ℕ). (t, e.0)) es) i ≡ Some (t, v)
entry_operand t [] i v a e = absurd (none-some (v, a) e)
entry_operand t (x ∷ es) zero v a e = ap (λ (y : Operand × List ℕ). Some (t, y.0)) (same_Some x (v, a) e)
entry_operand t (x ∷ es) (suc i) v a e = entry_operand t es i v a e

module _ (unit : FunctionPlan) (bs : List Block) (distinct : (l : List ℕ) → count_by (same l) (labels bs) + count_by (same l) (new_labels unit) ≤ 1) (j : ℕ) (b : Block) (at : slice_get bs j ≡ Some b) (p : ℕ) (to l : List ℕ) (leads : slice_get (successors b.term) p ≡ Some to) (is : same l to ≡ true) where
  -- the value that the entries for a block have
  record Valued (es : Entries) : Type 0 where
    place : ℕ
    value : Operand
    stands : slice_get es place ≡ Some (value, b.label)
    all : AllValued b.label value es

  valued : (es : Entries) → EntriesFit bs l es → 1 ≤ entries_for b.label es → Valued es
  valued es fit some =
      let first = some_entry b.label es some in
      record { place = first.0; value = first.1; stands = first.2; all = all_valued b.label first.1 es (λ i w e. fit.value b.label i first.0 w first.1 e first.2) }

  -- ---- an edge without a new block

  module _ (none : new_at (block_plan unit.blocks j) p ≡ None) where
    enough : (es : Entries) → EntriesFit bs l es → suc (renamings_of b.label (renamings unit.blocks bs l)) ≤ entries_for b.label es
    enough es fit = (let fewer = all_fewer unit bs distinct l j b p to at leads is none in let c = fit.count b.label in omega (arith, fewer, c))

    pub old_way : (es : Entries) → EntriesFit bs l es → (i : ℕ) × (v : Operand) × (slice_get es i ≡ Some (v, b.label)) × (value_for b.label es ≡ Some v) × (value_for b.label (renamed (renamings unit.blocks bs l) es) ≡ Some v)
    old_way es fit =
        let more = enough es fit in
        let v = valued es fit (omega (arith, more)) in (
          v.place,
          v.value,
          v.stands,
          value_by b.label v.value es v.all (omega (arith, more)),
          tail_stays b.label v.value (renamings unit.blocks bs l) es v.all (none_to_old unit bs distinct l j b at) more,
        )

  -- ---- an edge with one

  module _ (new : NewBlock) (here : new_at (block_plan unit.blocks j) p ≡ Some new) where
    room : (es : Entries) → EntriesFit bs l es → renamings_of b.label (renamings unit.blocks bs l) ≤ entries_for b.label es
    room es fit = (let few = all_few unit bs distinct l b.label in let c = fit.count b.label in omega (arith, few, c))

    pub new_way : (es : Entries) → EntriesFit bs l es → (i : ℕ) × (v : Operand) × (slice_get es i ≡ Some (v, b.label)) × (value_for b.label es ≡ Some v) × (value_for new.label (renamed (renamings unit.blocks bs l) es) ≡ Some v)
    new_way es fit =
        let few = room es fit in
        let some = of_some_tail unit bs distinct l j b p to new at leads is here in
        let v = valued es fit (omega (arith, few, some)) in
        let no_entries : entries_for new.label es ≡ 0 = fit.count new.label ∙ new_entries_none unit bs distinct l j b p to new at leads is here in
        let to_new = some_renaming unit bs distinct l j b p to new at leads is here in (
          v.place,
          v.value,
          v.stands,
          value_by b.label v.value es v.all (omega (arith, few, some)),
          new_takes b.label new.label v.value (not_same new.label b.label apart) (renamings unit.blocks bs l) es v.all (none_valued new.label v.value es no_entries)
              (none_to_old unit bs distinct l j b at) (none_of_new unit bs distinct l j b p to new at leads is here) (only_of_tail unit bs distinct l j b p to new at leads is here) few (omega (arith, to_new)),
        )
      where
        -- the new label is not the old one, to which no renaming leads
        apart : new.label ≡ b.label → ⊥
        apart e =
            let none : renamings_to b.label (renamings unit.blocks bs l) ≡ 0 = none_to_old unit bs distinct l j b at in
            let some : 1 ≤ renamings_to b.label (renamings unit.blocks bs l) = subst (λ (x : List ℕ). 1 ≤ renamings_to x (renamings unit.blocks bs l)) e (some_renaming unit bs distinct l j b p to new at leads is here) in
            absurd (omega (arith, none, some))

-- ---- phis

module _ (unit : FunctionPlan) (m n : Module) (symbols : (x : List ℕ) → symbol_value m x ≡ symbol_value n x) (rs rt : Registers) (agree : Agree (IsOld unit) rs rt) (from from' : List ℕ) (renames : List (List ℕ × List ℕ)) where
  -- an old value that both phis take
  abbrev pub TakesOne : Entries → Type 0
  TakesOne es = (i : ℕ) × (v : Operand) × (slice_get es i ≡ Some (v, from)) × (value_for from es ≡ Some v) × (value_for from' (renamed renames es) ≡ Some v)

  same_phi : (t : Ty) (es : Entries) → ReadOld unit (map (λ (e : Operand × List ℕ). (t, e.0)) es) → TakesOne es → taken m rs (value_for from es) ≡ taken n rt (value_for from' (renamed renames es))
  same_phi t es old (i, v, stands, first, second) =
      ap (taken m rs) first ∙ value_same (IsOld unit) m n symbols rs rt agree v (old_operand unit (map (λ (e : Operand × List ℕ). (t, e.0)) es) old i t v (entry_operand t es i v from stands)) ∙ sym (ap (taken n rt) second)

  pub phis_agree : (is : List Instr) → ((i : ℕ) (x : Instr) → slice_get is i ≡ Some x → ReadOld unit (operands x)) → ((i : ℕ) (x : Instr) (es : Entries) → slice_get is i ≡ Some x → entries_of x ≡ Some es → TakesOne es) →
      PhisAgree (IsOld unit) m n rs rt from from' is (map (renamed_phi renames) is)
  phis_agree [] old takes = tt
  phis_agree (x ∷ xs) old takes = by x (old 0 x refl) (λ es e. takes 0 x es refl e) (phis_agree xs (λ i y e. old (suc i) y e) (λ i y es e f. takes (suc i) y es e f))
    where
      by : (x : Instr) → ReadOld unit (operands x) → ((es : Entries) → entries_of x ≡ Some es → TakesOne es) → PhisAgree (IsOld unit) m n rs rt from from' xs (map (renamed_phi renames) xs) → PhisAgree (IsOld unit) m n rs rt from from' (x ∷ xs) (renamed_phi renames x ∷ map (renamed_phi renames) xs)
      by (Phi into t es) old takes later = (refl, same_phi t es old (takes es refl), later)
      by (Binary into op flags ty left right) old takes later = (refl, refl, later)
      by (Compare into pred ty left right) old takes later = (refl, refl, later)
      by (Convert into op flags from value to) old takes later = (refl, refl, later)
      by (Freeze into ty value) old takes later = (refl, refl, later)
      by (Select into c ty first second prof) old takes later = (refl, refl, later)
      by (Alloca into mem) old takes later = (refl, refl, later)
      by (Load into ty address) old takes later = (refl, refl, later)
      by (Store ty value address) old takes later = (refl, refl, later)
      by (Gep into inbounds mem address indices) old takes later = (refl, refl, later)
      by (Call into ret callee values prof) old takes later = (refl, refl, later)
      by (Count symbol size index step) old takes later = (refl, refl, later)
