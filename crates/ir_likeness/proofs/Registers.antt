-- Where the registers of the changed module agree with the original's: on the names that the original has.
use Rattle.std.proofs.Common.{◌≡◌, ℕ, Bool, true, false, cond, List, [], ◌∷◌, Option, Some, None, refl, sym, ◌∙◌, ap, ap₂, subst}
use Rattle.std.specs.Cmp.Lexicographic.{bytes_decides}
use Rattle.ir_tree.specs.Names.{same}
use Rattle.ir_tree.specs.Operands.{Use, result_of}
use Rattle.ir_tree.specs.Phis.{entries_of}
use Rattle.ir_tree.specs.declared.types.Instr.{Instr}
use Rattle.ir_tree.specs.declared.types.Module.{Module}
use Rattle.ir_tree.specs.declared.types.Operand.{Operand}
use Rattle.ir_tree.specs.declared.types.Operand.TheVariants.{Int, Null, Local, Global}
use Rattle.ir_tree.specs.declared.types.Ty.{Ty}
use Rattle.ir_memory.specs.declared.value.Value.{Value}
use Rattle.ir_model.specs.State.{Registers, held}
use Rattle.ir_model.specs.Step.{phi_value, typed, value_of, with_phis, with_result, with_typed}
use Rattle.ir_model.specs.Values.{at_type, symbol_value}
use Rattle.ir_likeness.proofs.Agree.{AgreeOn, AgreeOnOne}

module _ (Old : List ℕ → Type 0) where
  -- each register of these names holds the same in both
  abbrev pub Agree : Registers → Registers → Type 0
  Agree rs rt = (x : List ℕ) → Old x → held rs x ≡ held rt x

  -- both are assigned the same
  pub agree_both : (x : List ℕ) (v : Value) (rs rt : Registers) → Agree rs rt → Agree ((x, v) ∷ rs) ((x, v) ∷ rt)
  agree_both x v rs rt agree = λ y old. ap (λ w. cond (same y x) v w) (agree y old)

  -- the changed module assigns a name that the original doesn't have
  pub agree_new : (x : List ℕ) (v : Value) (rs rt : Registers) → (Old x → ⊥) → Agree rs rt → Agree rs ((x, v) ∷ rt)
  agree_new x v rs rt new agree = λ y old. by y old (same y x) refl
    where
      by : (y : List ℕ) → Old y → (s : Bool) → same y x ≡ s → held rs y ≡ held ((x, v) ∷ rt) y
      by y old true e = absurd (new (subst Old ((bytes_decides y x).0 e) old))
      by y old false e = agree y old ∙ sym (ap (λ s. cond s v (held rt y)) e)

  pub agree_result : (into : Option (List ℕ)) (v : Value) (rs rt : Registers) → Agree rs rt → Agree (with_result into v rs) (with_result into v rt)
  agree_result None v rs rt agree = agree
  agree_result (Some x) v rs rt agree = agree_both x v rs rt agree

  pub agree_typed : (into : Option (List ℕ × Ty)) (v : Value) (rs rt : Registers) → Agree rs rt → Agree (with_typed into v rs) (with_typed into v rt)
  agree_typed None v rs rt agree = agree
  agree_typed (Some x) v rs rt agree = agree_both x.0 (at_type x.1 v) rs rt agree

  -- ---- operands

  -- a register that an operand names is one of these
  abbrev pub IsOld : Operand → Type 0
  IsOld (Int k) = Unit {0}
  IsOld Null = Unit {0}
  IsOld (Local x) = Old x
  IsOld (Global x) = Unit {0}

  abbrev pub AllOld : List Use → Type 0
  AllOld [] = Unit {0}
  AllOld (u ∷ us) = IsOld u.1 × AllOld us

  abbrev pub OneOld : Option Use → Type 0
  OneOld None = Unit {0}
  OneOld (Some u) = IsOld u.1

  module _ (m n : Module) (symbols : (x : List ℕ) → symbol_value m x ≡ symbol_value n x) (rs rt : Registers) (agree : Agree rs rt) where
    pub value_same : (o : Operand) → IsOld o → value_of m rs o ≡ value_of n rt o
    value_same (Int k) old = refl
    value_same Null old = refl
    value_same (Local x) old = agree x old
    value_same (Global x) old = symbols x

    pub values_same : (us : List Use) → AllOld us → AgreeOn (value_of m rs) (value_of n rt) us
    values_same [] old = tt
    values_same (u ∷ us) old = (value_same u.1 old.0, values_same us old.1)

    pub value_same_one : (u : Option Use) → OneOld u → AgreeOnOne (value_of m rs) (value_of n rt) u
    value_same_one None old = tt
    value_same_one (Some u) old = value_same u.1 old

  -- ---- phis

  -- phis of which each assigns the same register the same value in both
  abbrev pub PhisAgree : Module → Module → Registers → Registers → List ℕ → List ℕ → List Instr → List Instr → Type 0
  PhisAgree m n before before' from from' [] [] = Unit {0}
  PhisAgree m n before before' from from' [] (j ∷ js) = ⊥
  PhisAgree m n before before' from from' (i ∷ is) [] = ⊥
  PhisAgree m n before before' from from' (i ∷ is) (j ∷ js) =
      (typed (result_of i) ≡ typed (result_of j)) × (phi_value m before from (entries_of i) ≡ phi_value n before' from' (entries_of j))
      × PhisAgree m n before before' from from' is js

  pub agree_phis : (m n : Module) (before before' : Registers) (from from' : List ℕ) (is js : List Instr) → PhisAgree m n before before' from from' is js → (rs rt : Registers) → Agree rs rt → Agree (with_phis m before from is rs) (with_phis n before' from' js rt)
  agree_phis m n before before' from from' [] [] phis rs rt agree = agree
  agree_phis m n before before' from from' [] (j ∷ js) phis rs rt agree = absurd phis
  agree_phis m n before before' from from' (i ∷ is) [] phis rs rt agree = absurd phis
  agree_phis m n before before' from from' (i ∷ is) (j ∷ js) phis rs rt agree =
      agree_phis m n before before' from from' is js phis.2
      (with_typed (typed (result_of i)) (phi_value m before from (entries_of i)) rs) (with_typed (typed (result_of j)) (phi_value n before' from' (entries_of j)) rt)
      (subst (λ (r : Registers). Agree (with_typed (typed (result_of i)) (phi_value m before from (entries_of i)) rs) r)
      (ap₂ (λ (t : Option (List ℕ × Ty)) (v : Value). with_typed t v rt) phis.0 phis.1)
      (agree_typed (typed (result_of i)) (phi_value m before from (entries_of i)) rs rt agree))
