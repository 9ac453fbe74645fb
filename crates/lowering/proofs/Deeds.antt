-- What stands in place of a call of an intrinsic does what that call does.
use Rattle.std.proofs.Common.{◌≡◌, ℕ, Bool, true, false, List, [], ◌∷◌, Option, Some, None, refl, sym, ◌∙◌, ap, subst}
use Rattle.std.specs.Prelude.{cond}
use Rattle.std.specs.Cmp.Lexicographic.{bytes_decides}
use Rattle.count_plan.specs.Calls.{increment_name, step_name, value_name}
use Rattle.ir_memory.specs.Memory.{MemoryState}
use Rattle.ir_model.specs.Deed.{Deed, deed}
use Rattle.ir_model.specs.State.{Registers}
use Rattle.ir_model.specs.Step.{value_of}
use Rattle.ir_tree.specs.Functions.{is_profile_name}
use Rattle.ir_tree.specs.Names.{same}
use Rattle.ir_tree.specs.Operands.{Use}
use Rattle.ir_tree.specs.declared.types.Instr.{Instr}
use Rattle.ir_tree.specs.declared.types.Instr.TheVariants.{Binary, Compare, Convert, Freeze, Select, Phi, Alloca, Load, Store, Gep, Call, Count}
use Rattle.ir_tree.specs.declared.types.Module.{Module}
use Rattle.ir_tree.specs.declared.types.Operand.{Operand}
use Rattle.ir_tree.specs.declared.types.Operand.TheVariants.{Int, Null, Local, Global}
use Rattle.ir_tree.specs.declared.types.Prof.{Prof}
use Rattle.ir_tree.specs.declared.types.Ret.{Ret}
use Rattle.ir_tree.specs.declared.types.Ty.{Ty}
use Rattle.lowering.specs.Asked.{Rise, Note, rise, note, asked_by}
use Rattle.lowering.specs.Lowered.{doing, lowered_instr, runtime_name}

module _ (m : Module) (rs : Registers) (count : ℕ) (memory : MemoryState) where
  abbrev does : Instr → Deed
  does = deed (value_of m rs) count memory

  -- where the arguments are not those of the intrinsic, the call stays
  rise_same : (X : Operand → Operand → Operand → Operand → Instr) (amount : Operand) → ((s : List ℕ) (h n c : ℕ) → does (doing (X (Global s) (Int h) (Int n) (Int c)) (Some (Rise s h n c amount))) ≡ does (X (Global s) (Int h) (Int n) (Int c))) → (u h n c : Operand) → does (doing (X u h n c) (rise u h n c amount)) ≡ does (X u h n c)
  rise_same X amount given (Int u) h n c = refl
  rise_same X amount given Null h n c = refl
  rise_same X amount given (Local u) h n c = refl
  rise_same X amount given (Global u) Null n c = refl
  rise_same X amount given (Global u) (Local h) n c = refl
  rise_same X amount given (Global u) (Global h) n c = refl
  rise_same X amount given (Global u) (Int h) Null c = refl
  rise_same X amount given (Global u) (Int h) (Local n) c = refl
  rise_same X amount given (Global u) (Int h) (Global n) c = refl
  rise_same X amount given (Global u) (Int h) (Int n) Null = refl
  rise_same X amount given (Global u) (Int h) (Int n) (Local c) = refl
  rise_same X amount given (Global u) (Int h) (Int n) (Global c) = refl
  rise_same X amount given (Global u) (Int h) (Int n) (Int c) = given u h n c

  note_same : (X : Operand → Operand → Operand → Instr) (target : Operand) → ((s : List ℕ) (h j : ℕ) → does (doing (X (Global s) (Int h) (Int j)) (Some (Note s h target j))) ≡ does (X (Global s) (Int h) (Int j))) → (u h j : Operand) → does (doing (X u h j) (note u h target j)) ≡ does (X u h j)
  note_same X target given (Int u) h j = refl
  note_same X target given Null h j = refl
  note_same X target given (Local u) h j = refl
  note_same X target given (Global u) Null j = refl
  note_same X target given (Global u) (Local h) j = refl
  note_same X target given (Global u) (Global h) j = refl
  note_same X target given (Global u) (Int h) Null = refl
  note_same X target given (Global u) (Int h) (Local j) = refl
  note_same X target given (Global u) (Int h) (Global j) = refl
  note_same X target given (Global u) (Int h) (Int j) = given u h j

  module _ (dest : Option (List ℕ)) (ret : Ret) (prof : Option Prof) where
    abbrev calls : List ℕ → List Use → Instr
    calls name args = Call dest ret (Global name) args prof

    increment_same : (tu th tn tc : Ty) (u h n c : Operand) → does (doing (calls increment_name ((tu, u) ∷ (th, h) ∷ (tn, n) ∷ (tc, c) ∷ [])) (rise u h n c (Int 1))) ≡ does (calls increment_name ((tu, u) ∷ (th, h) ∷ (tn, n) ∷ (tc, c) ∷ []))
    unfolding increment_name is_profile_name
    increment_same tu th tn tc u h n c = rise_same (λ u h n c. calls increment_name ((tu, u) ∷ (th, h) ∷ (tn, n) ∷ (tc, c) ∷ [])) (Int 1) (λ s h n c. refl) u h n c

    step_same : (tu th tn tc ta : Ty) (u h n c a : Operand) → does (doing (calls step_name ((tu, u) ∷ (th, h) ∷ (tn, n) ∷ (tc, c) ∷ (ta, a) ∷ [])) (rise u h n c a)) ≡ does (calls step_name ((tu, u) ∷ (th, h) ∷ (tn, n) ∷ (tc, c) ∷ (ta, a) ∷ []))
    unfolding step_name is_profile_name
    step_same tu th tn tc ta u h n c a = rise_same (λ u h n c. calls step_name ((tu, u) ∷ (th, h) ∷ (tn, n) ∷ (tc, c) ∷ (ta, a) ∷ [])) a (λ s h n c. refl) u h n c

    noted_same : (tu th tv tk tj : Ty) (u h v k j : Operand) → does (doing (calls value_name ((tu, u) ∷ (th, h) ∷ (tv, v) ∷ (tk, k) ∷ (tj, j) ∷ [])) (note u h v j)) ≡ does (calls value_name ((tu, u) ∷ (th, h) ∷ (tv, v) ∷ (tk, k) ∷ (tj, j) ∷ []))
    unfolding value_name is_profile_name runtime_name
    noted_same tu th tv tk tj u h v k j = note_same (λ u h j. calls value_name ((tu, u) ∷ (th, h) ∷ (tv, v) ∷ (tk, k) ∷ (tj, j) ∷ [])) v (λ s h j. refl) u h j

    -- a call by name, for which the name was tested
    four_same : (name : List ℕ) (tu th tn tc : Ty) (u h n c : Operand) (t : Bool) → same increment_name name ≡ t → does (doing (calls name ((tu, u) ∷ (th, h) ∷ (tn, n) ∷ (tc, c) ∷ [])) (cond t (rise u h n c (Int 1)) None)) ≡ does (calls name ((tu, u) ∷ (th, h) ∷ (tn, n) ∷ (tc, c) ∷ []))
    four_same name tu th tn tc u h n c false e = refl
    four_same name tu th tn tc u h n c true e =
        subst (λ (l : List ℕ). does (doing (calls l ((tu, u) ∷ (th, h) ∷ (tn, n) ∷ (tc, c) ∷ [])) (rise u h n c (Int 1))) ≡ does (calls l ((tu, u) ∷ (th, h) ∷ (tn, n) ∷ (tc, c) ∷ [])))
        ((bytes_decides increment_name name).0 e) (increment_same tu th tn tc u h n c)

    five_same : (name : List ℕ) (tu th tn tc ta : Ty) (u h n c a : Operand) (t s : Bool) → same step_name name ≡ t → same value_name name ≡ s → does (doing (calls name ((tu, u) ∷ (th, h) ∷ (tn, n) ∷ (tc, c) ∷ (ta, a) ∷ [])) (cond t (rise u h n c a) (cond s (note u h n a) None))) ≡ does (calls name ((tu, u) ∷ (th, h) ∷ (tn, n) ∷ (tc, c) ∷ (ta, a) ∷ []))
    five_same name tu th tn tc ta u h n c a false false e f = refl
    five_same name tu th tn tc ta u h n c a true s e f =
        subst (λ (l : List ℕ). does (doing (calls l ((tu, u) ∷ (th, h) ∷ (tn, n) ∷ (tc, c) ∷ (ta, a) ∷ [])) (rise u h n c a)) ≡ does (calls l ((tu, u) ∷ (th, h) ∷ (tn, n) ∷ (tc, c) ∷ (ta, a) ∷ [])))
        ((bytes_decides step_name name).0 e) (step_same tu th tn tc ta u h n c a)
    five_same name tu th tn tc ta u h n c a false true e f =
        subst (λ (l : List ℕ). does (doing (calls l ((tu, u) ∷ (th, h) ∷ (tn, n) ∷ (tc, c) ∷ (ta, a) ∷ [])) (note u h n a)) ≡ does (calls l ((tu, u) ∷ (th, h) ∷ (tn, n) ∷ (tc, c) ∷ (ta, a) ∷ [])))
        ((bytes_decides value_name name).0 f) (noted_same tu th tn tc ta u h n c a)

    by_name : (name : List ℕ) (args : List Use) → does (doing (calls name args) (asked_by name args)) ≡ does (calls name args)
    by_name name [] = refl
    by_name name (a ∷ []) = refl
    by_name name (a ∷ b ∷ []) = refl
    by_name name (a ∷ b ∷ c ∷ []) = refl
    by_name name ((tu, u) ∷ (th, h) ∷ (tn, n) ∷ (tc, c) ∷ []) = four_same name tu th tn tc u h n c (same increment_name name) refl
    by_name name ((tu, u) ∷ (th, h) ∷ (tn, n) ∷ (tc, c) ∷ (ta, a) ∷ []) = five_same name tu th tn tc ta u h n c a (same step_name name) (same value_name name) refl refl
    by_name name (a ∷ b ∷ c ∷ d ∷ e ∷ f ∷ more) = refl

  pub deed_lowered : (x : Instr) → does (lowered_instr x) ≡ does x
  deed_lowered (Binary dest op flags ty left right) = refl
  deed_lowered (Compare dest pred ty left right) = refl
  deed_lowered (Convert dest op flags from value to) = refl
  deed_lowered (Freeze dest ty value) = refl
  deed_lowered (Select dest c ty first second prof) = refl
  deed_lowered (Phi dest ty entries) = refl
  deed_lowered (Alloca dest mem) = refl
  deed_lowered (Load dest ty address) = refl
  deed_lowered (Store ty value address) = refl
  deed_lowered (Gep dest inbounds mem address indices) = refl
  deed_lowered (Call dest ret (Int callee) args prof) = refl
  deed_lowered (Call dest ret Null args prof) = refl
  deed_lowered (Call dest ret (Local callee) args prof) = refl
  deed_lowered (Call dest ret (Global name) args prof) = by_name dest ret prof name args
  deed_lowered (Count symbol size index step) = refl
