-- What a machine does where it gives a value to a register.
use Rattle.std.proofs.Common.{◌≡◌, ℕ, suc, ◌+◌, ◌*◌, ◌%◌, ◌<◌, Bool, true, false, cond, List, [], ◌∷◌, length, drop, get_or, Some, refl, sym, ◌∙◌, ap, subst, arith, pos}
use Rattle.std.proofs.Math.Seq.{drop-cons}
use Rattle.std.specs.Prelude.{nat_le, max, ◌+ℤ◌}
use Rattle.std.proofs.lemmas.Bool.Decides.{nat_tests}
use mir.Val.{bool_byte}
use Rattle.ir_value.specs.Integer.{signed_of, wrapped}
use Rattle.ir_memory.specs.Memory.{MemoryState, live_cells, made}
use Rattle.ir_memory.specs.declared.value.Base.TheVariants.{Object}
use Rattle.ir_memory.specs.declared.value.Value.{Value}
use Rattle.ir_memory.specs.declared.value.Value.TheVariants.{Pointer}
use Rattle.ir_model.specs.Deed.{cells_most}
use Rattle.ir_model.specs.Values.{bits_of, number_at}
use Rattle.ir_model.specs.declared.result.TrapKind.TheVariants as trap
use Rattle.ir_code.specs.declared.code.Scaled.{Scaled}
use Rattle.ir_machine.specs.declared.state.Machine.{Machine}
use Rattle.ir_machine.specs.declared.state.Turn.{Turn}
use Rattle.ir_machine.specs.Steps.{CodeDeed, Gives, Fails, Does, DoesAlone, allocated, distance, input_value}
use Rattle.ir_machine.proofs.Wrapping.{rest_step}

-- a test as a number
pub byte_is : (n : ℕ) (b c : Bool) → n ≡ bool_byte b → b ≡ c → n ≡ cond c 1 0
byte_is n b c e q = e ∙ same b ∙ ap (λ d. cond d 1 0) q
  where
    same : (d : Bool) → bool_byte d ≡ cond d 1 0
    same true = refl
    same false = refl

module _ (m n : Machine) (into : ℕ) (t : Turn) where
  -- a value that is another one
  pub gives : (v w : Value) → v ≡ w → DoesAlone m (Gives (Some into) v m.memory []) t n → DoesAlone m (Gives (Some into) w m.memory []) t n
  gives v w e h = λ code. subst (λ x. Does code m (Gives (Some into) x m.memory []) t n) e (h code)

  -- a deed that gives a value
  pub does : (d : CodeDeed) (v : Value) → Gives (Some into) v m.memory [] ≡ d → DoesAlone m (Gives (Some into) v m.memory []) t n → DoesAlone m d t n
  does d v e h = λ code. subst (λ x. Does code m x t n) e (h code)

  within : (k : ℕ) → (cells_most < k → ⊥) → nat_le k cells_most ≡ true
  within k h = grind (arith, nat_tests)

  pub allocates : (size object : ℕ) (memory : MemoryState) → object ≡ m.memory.next → memory ≡ made m.memory size false → (cells_most < live_cells m.memory.live + max 1 size → ⊥) → DoesAlone (record m { memory = memory }) (Gives (Some into) (Pointer (Object object) 0) memory []) t n → DoesAlone m (allocated into m.memory size) t n
  allocates size object memory object_is memory_is room h =
      λ code.
      let given : Does code m (Gives (Some into) (Pointer (Object m.memory.next) 0) (made m.memory size false) []) t n =
      subst (λ (x : MemoryState). Does code m (Gives (Some into) (Pointer (Object m.memory.next) 0) x []) t n) memory_is
      (subst (λ (x : ℕ). Does code m (Gives (Some into) (Pointer (Object x) 0) memory []) t n) object_is (h code)) in
      let P : Bool → Type 0 = λ b. Does code m (cond b (Gives (Some into) (Pointer (Object m.memory.next) 0) (made m.memory size false) []) (Fails trap.Cells)) t n in
      subst P (sym (within (live_cells m.memory.live + max 1 size) room)) given

-- a pointer goes on by one index
pub travels : (regs : List Value) (ss : List Scaled) (i : ℕ) (d : Scaled) (offset index : ℕ) → i < length ss → index ≡ wrapped 64 (signed_of (bits_of (get_or ss i d).ty) (number_at (get_or ss i d).ty (input_value regs (get_or ss i d).index)))
    → wrapped 64 (pos ((offset + (index * (get_or ss i d).size) % 18446744073709551616) % 18446744073709551616) +ℤ distance regs (drop (i + 1) ss)) ≡ wrapped 64 (pos offset +ℤ distance regs (drop i ss))
travels regs ss i d offset index h e =
    let next : suc i ≡ i + 1 = omega arith in
    let here : drop i ss ≡ get_or ss i d ∷ drop (i + 1) ss = drop-cons ss i d h ∙ (λ j. get_or ss i d ∷ drop (next j) ss) in
    rest_step 18446744073709551616 (omega arith) offset index (get_or ss i d).size (signed_of (bits_of (get_or ss i d).ty) (number_at (get_or ss i d).ty (input_value regs (get_or ss i d).index))) (distance regs (drop (i + 1) ss)) e
    ∙ ap (λ l. wrapped 64 (pos offset +ℤ distance regs l)) (sym here)
