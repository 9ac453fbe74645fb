-- Where operands are worth the same, instructions and terminators do the same.
use Rattle.std.proofs.Common.{◌≡◌, ℕ, List, [], ◌∷◌, Option, Some, None, refl, ap, map}
use Rattle.std.specs.Prelude.{◌==◌, cond, codes, drop}
use Rattle.std.specs.Option.{option_map}
use Rattle.ir_tree.specs.Names.{same}
use Rattle.ir_tree.specs.Operands.{Use, operands, term_operand}
use Rattle.ir_tree.specs.declared.types.Instr.{Instr}
use Rattle.ir_tree.specs.declared.types.Instr.TheVariants.{Binary, Compare, Convert, Freeze, Select, Phi, Alloca, Load, Store, Gep, Call, Count}
use Rattle.ir_tree.specs.declared.types.Operand.{Operand}
use Rattle.ir_tree.specs.declared.types.Ret.{Ret as ReturnType}
use Rattle.ir_tree.specs.declared.types.Term.{Term}
use Rattle.ir_tree.specs.declared.types.Term.TheVariants.{Br, CondBr, Switch, Ret, Unreachable}
use Rattle.ir_tree.specs.declared.types.Ty.{Ty}
use Rattle.ir_tree.specs.declared.types.Ty.TheVariants.{I1, I64}
use Rattle.ir_value.specs.Integer.{signed_of}
use Rattle.ir_value.specs.Operators.{binary_of, compare_of}
use Rattle.ir_memory.specs.Memory.{MemoryState}
use Rattle.ir_memory.specs.declared.value.Value.{Value}
use Rattle.ir_memory.specs.declared.value.Value.TheVariants.{Int}
use Rattle.ir_model.specs.Deed.{Gives, Calls, operator, comparison, computed, converted, load, store, moved, distance, unit_of, note, profile_shown, profiled, profile_callee, is_register, result_into, call, deed, Takes, Leaves, case_position, choice}
use Rattle.ir_model.specs.State.{Added, Chose}
use Rattle.ir_model.specs.Values.{as_number, at_type, bits_of, function_at_address, number_at}

module _ (val val' : Operand → Value) where
  -- these operands are worth the same
  abbrev pub AgreeOn : List Use → Type 0
  AgreeOn [] = Unit {0}
  AgreeOn (u ∷ us) = (val u.1 ≡ val' u.1) × AgreeOn us

  abbrev pub AgreeOnOne : Option Use → Type 0
  AgreeOnOne None = Unit {0}
  AgreeOnOne (Some u) = val u.1 ≡ val' u.1

  map_same : {X : Type 0} (f : Ty → Value → X) (us : List Use) → AgreeOn us → map (λ u. f u.0 (val u.1)) us ≡ map (λ u. f u.0 (val' u.1)) us
  map_same f [] h = refl
  map_same f (u ∷ us) h = λ i. f u.0 (h.0 i) ∷ map_same f us h.1 i

  module _ (count : ℕ) where
    profile_same : (name : List ℕ) (args : List Use) → AgreeOn args → profile_shown val count name args ≡ profile_shown val' count name args
    profile_same name [] h = refl
    profile_same name (a ∷ []) h = refl
    profile_same name (a ∷ b ∷ []) h = refl
    profile_same name (target ∷ unit ∷ site ∷ []) h =
        λ i. cond (same (codes "__llvm_profile_instrument_target") name) (Some (note (unit_of unit.1) (as_number (h.1.1.0 i)) (function_at_address count (number_at I64 (h.0 i))))) None
    profile_same name (unit ∷ hash ∷ counters ∷ index ∷ []) h =
        λ i. cond (same (codes "llvm.instrprof.increment") name) (Some (Added (unit_of unit.1) (as_number (h.1.1.1.0 i)) 1 ∷ [])) None
    profile_same name (unit ∷ second ∷ third ∷ fourth ∷ fifth ∷ []) h =
        λ i. cond (same (codes "llvm.instrprof.increment.step") name)
        (Some (Added (unit_of unit.1) (as_number (h.1.1.1.0 i)) (number_at I64 (h.1.1.1.1.0 i)) ∷ []))
        (cond (same (codes "llvm.instrprof.value.profile") name)
        (Some (note (unit_of unit.1) (as_number (h.1.1.1.1.0 i)) (function_at_address count (number_at I64 (h.1.1.0 i))))) None)
    profile_same name (a ∷ b ∷ c ∷ d ∷ e ∷ f ∷ more) h = refl

    module _ (memory : MemoryState) where
      call_same : (into : Option (List ℕ)) (r : ReturnType) (callee : Operand) (args : List Use) (o : Option (List ℕ)) → val callee ≡ val' callee → AgreeOn args → call val count memory into r callee args o ≡ call val' count memory into r callee args o
      call_same into r callee args None e h =
          λ i. Calls (is_register callee) (result_into into r) r (as_number (e i)) (map_same (λ t v. (t, v)) args h i)
      call_same into r callee args (Some name) e h = ap (profiled memory) (profile_same name args h)

      -- an instruction does the same
      pub deed_same : (x : Instr) → AgreeOn (operands x) → deed val count memory x ≡ deed val' count memory x
      deed_same (Binary into o flags ty left right) h =
          λ i. computed (Some into) memory (binary_of (operator o) (bits_of ty) (number_at ty (h.0 i)) (number_at ty (h.1.0 i)))
      deed_same (Compare into p ty left right) h =
          λ i. Gives (Some into) (Int (cond (compare_of (comparison p) (bits_of ty) (number_at ty (h.0 i)) (number_at ty (h.1.0 i))) 1 0)) memory []
      deed_same (Convert into o flags from value to) h =
          λ i. Gives (Some into) (Int (converted o (bits_of from) (bits_of to) (number_at from (h.0 i)))) memory []
      deed_same (Freeze into ty value) h = λ i. Gives (Some into) (at_type ty (h.0 i)) memory []
      deed_same (Select into c ty first second prof) h =
          λ i. Gives (Some into) (at_type ty (cond (number_at I1 (h.0 i) == 0) (h.1.1.0 i) (h.1.0 i))) memory (Chose (number_at I1 (h.0 i)) ∷ [])
      deed_same (Phi into ty entries) h = refl
      deed_same (Alloca into mem) h = refl
      deed_same (Load into ty address) h = λ i. load (Some into) memory ty (h.0 i)
      deed_same (Store ty value address) h = λ i. store memory ty (h.0 i) (h.1.0 i)
      deed_same (Gep into inbounds mem address indices) h =
          λ i. Gives (Some into) (moved (h.0 i) (distance mem (map_same (λ t v. signed_of (bits_of t) (number_at t v)) indices h.1 i))) memory []
      deed_same (Call into r callee args prof) h = call_same into r callee args (profile_callee callee) h.0 h.1
      deed_same (Count symbol size index step) h =
          λ i. Gives None (Int 0) memory (Added (drop 8 symbol) index (number_at I64 (h.0 i)) ∷ [])

  leaves_same : (u : Option Use) → AgreeOnOne u → option_map (λ u. at_type u.0 (val u.1)) u ≡ option_map (λ u. at_type u.0 (val' u.1)) u
  leaves_same None h = refl
  leaves_same (Some u) h = λ i. Some (at_type u.0 (h i))

  -- a terminator chooses the same
  pub choice_same : (t : Term) → AgreeOnOne (term_operand t) → choice val t ≡ choice val' t
  choice_same (Br to) h = refl
  choice_same (CondBr c first second prof) h = λ i. Takes (cond (number_at I1 (h i) == 0) 1 0)
  choice_same (Switch ty v default cases prof) h = λ i. Takes (case_position (number_at ty (h i)) cases)
  choice_same (Ret v) h = ap Leaves (leaves_same v h)
  choice_same Unreachable h = refl
