-- Phis that name new blocks, and terminators that lead to them, are spellable.
use Rattle.std.proofs.Common.{◌≡◌, ℕ, suc, ◌+◌, Bool, true, false, cond, List, [], ◌∷◌, map, Option, Some, None, slice_get, refl, subst, arith}
use Rattle.count_plan.specs.Ways.{led, led_cases, led_to, new_at, renamed, renamed_phi, renaming}
use Rattle.count_plan.specs.declared.plan.BlockPlan.{BlockPlan}
use Rattle.count_plan.specs.declared.plan.NewBlock.{NewBlock}
use Rattle.gen_spelled.proofs.Lists.{Name, each_mapped}
use Rattle.ir_tree.specs.Names.{same}
use Rattle.ir_tree.specs.Operands.{Entries}
use Rattle.ir_tree.specs.Phis.{rename_first}
use Rattle.ir_tree.specs.Successors.{successors}
use Rattle.ir_tree.specs.declared.types.Instr.{Instr}
use Rattle.ir_tree.specs.declared.types.Instr.TheVariants.{Binary, Compare, Convert, Freeze, Select, Phi, Alloca, Load, Store, Gep, Call, Count}
use Rattle.ir_tree.specs.declared.types.Prof.{Prof}
use Rattle.ir_tree.specs.declared.types.Term.{Term}
use Rattle.ir_tree.specs.declared.types.Term.TheVariants.{Br, CondBr, Switch, Ret, Unreachable}
use Rattle.ir_tree.specs.declared.types.Ty.{Ty}
use Rattle.spellable.specs.Instructions.{IsCase, IsEntry, IsInstr, IsTerm}
use Rattle.spellable.specs.Values.{Each, IsLocal, IsSome}

-- a label and the one in its place, which is spelled
abbrev pub IsRenaming : Name × Name → Type 0
IsRenaming r = IsLocal r.1

-- ---- phis

module _ (ty : Ty) where
  first_renamed : (label other : Name) (es : Entries) → IsLocal other → Each (IsEntry ty) es → Each (IsEntry ty) (rename_first label other es)
  first_renamed label other [] local h = tt
  first_renamed label other (e ∷ es) local h = by (same label e.1) (first_renamed label other es local h.1)
    where
      by : (b : Bool) → Each (IsEntry ty) (rename_first label other es) → Each (IsEntry ty) (cond b ((e.0, other) ∷ es) (e ∷ rename_first label other es))
      by true rest = ((h.0.0, local), h.1)
      by false rest = (h.0, rest)

  entries_are : (rs : List (Name × Name)) (es : Entries) → Each IsRenaming rs → Each (IsEntry ty) es → Each (IsEntry ty) (renamed rs es)
  entries_are [] es locals h = h
  entries_are (r ∷ rs) es locals h = entries_are rs (rename_first r.0 r.1 es) locals.1 (first_renamed r.0 r.1 es locals.0 h)

some_renamed : (label other : Name) (es : Entries) → IsSome es → IsSome (rename_first label other es)
some_renamed label other [] h = h
some_renamed label other (e ∷ es) h = by (same label e.1)
  where
    by : (b : Bool) → IsSome (cond b ((e.0, other) ∷ es) (e ∷ rename_first label other es))
    by true = tt
    by false = tt

some_stay : (rs : List (Name × Name)) (es : Entries) → IsSome es → IsSome (renamed rs es)
some_stay [] es h = h
some_stay (r ∷ rs) es h = some_stay rs (rename_first r.0 r.1 es) (some_renamed r.0 r.1 es h)

pub renaming_is : (b : Bool) (label : Name) (o : Option NewBlock) → ((new : NewBlock) → o ≡ Some new → IsLocal new.label) → Each IsRenaming (renaming b label o)
renaming_is false label o h = tt
renaming_is true label None h = tt
renaming_is true label (Some new) h = (h new refl, tt)

module _ (P : Prof → Type 0) where
  pub phi_is : (rs : List (Name × Name)) (x : Instr) → Each IsRenaming rs → IsInstr P x → IsInstr P (renamed_phi rs x)
  phi_is rs (Binary dest op flags ty left right) locals h = h
  phi_is rs (Compare dest pred ty left right) locals h = h
  phi_is rs (Convert dest op flags from value to) locals h = h
  phi_is rs (Freeze dest ty value) locals h = h
  phi_is rs (Select dest c ty first second prof) locals h = h
  phi_is rs (Phi dest ty entries) locals h = (h.0, some_stay rs entries h.1, entries_are ty rs entries locals h.2)
  phi_is rs (Alloca dest mem) locals h = h
  phi_is rs (Load dest ty address) locals h = h
  phi_is rs (Store ty value address) locals h = h
  phi_is rs (Gep dest inbounds mem address indices) locals h = h
  phi_is rs (Call dest ret callee args prof) locals h = h
  phi_is rs (Count symbol size index step) locals h = h

  -- ---- terminators

  pub successors_are : (t : Term) → IsTerm P t → Each IsLocal (successors t)
  successors_are (Br to) h = (h, tt)
  successors_are (CondBr c first second prof) h = (h.1, (h.2, tt))
  successors_are (Switch ty v default cases prof) h = (h.1, each_mapped (IsCase ty) IsLocal (λ c. c.1) cases (λ c k. k.1) h.2)
  successors_are (Ret v) h = tt
  successors_are Unreachable h = tt

  module _ (plan : BlockPlan) where
    led_is : (o : Option NewBlock) (to : Name) → IsLocal to → ((new : NewBlock) → o ≡ Some new → IsLocal new.label) → IsLocal (led_to o to)
    led_is None to h k = h
    led_is (Some new) to h k = k new refl

    cases_are : (ty : Ty) (p : ℕ) (cs : List (ℕ × Name)) → Each (IsCase ty) cs → ((i : ℕ) (to : Name) (new : NewBlock) → slice_get (map (λ (c : ℕ × Name). c.1) cs) i ≡ Some to → new_at plan (p + i) ≡ Some new → IsLocal new.label) → Each (IsCase ty) (led_cases plan p cs)
    cases_are ty p [] h k = tt
    cases_are ty p (c ∷ cs) h k = (
      (h.0.0, led_is (new_at plan p) c.1 h.0.1 (λ new e. k 0 c.1 new refl (subst (λ (n : ℕ). new_at plan n ≡ Some new) (let s : p ≡ p + 0 = omega arith in s) e))),
      cases_are ty (p + 1) cs h.1 (λ i to new at e. k (suc i) to new at (subst (λ (n : ℕ). new_at plan n ≡ Some new) (let s : p + 1 + i ≡ p + suc i = omega arith in s) e)),
    )

    -- new blocks on the ways out have labels that are spelled
    pub term_is : (t : Term) → IsTerm P t → ((p : ℕ) (to : Name) (new : NewBlock) → slice_get (successors t) p ≡ Some to → new_at plan p ≡ Some new → IsLocal new.label) → IsTerm P (led plan t)
    term_is (Br to) h k = led_is (new_at plan 0) to h (λ new e. k 0 to new refl e)
    term_is (CondBr c first second prof) h k = (h.0, led_is (new_at plan 0) first h.1 (λ new e. k 0 first new refl e), led_is (new_at plan 1) second h.2 (λ new e. k 1 second new refl e), h.3)
    term_is (Switch ty v default cases prof) h k = (
      h.0,
      led_is (new_at plan 0) default h.1 (λ new e. k 0 default new refl e),
      cases_are ty 1 cases h.2 (λ i to new at e. k (suc i) to new at (subst (λ (n : ℕ). new_at plan n ≡ Some new) (let s : 1 + i ≡ suc i = omega arith in s) e)),
      h.3,
    )
    term_is (Ret v) h k = h
    term_is Unreachable h k = h
