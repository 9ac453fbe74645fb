-- What a machine does where a part of it did something.
use Rattle.std.proofs.Common.{◌≡◌, ℕ, zero, suc, ◌+◌, ◌≤◌, arith, List, [], ◌∷◌, length, map, Option, None, refl, sym, ◌∙◌, ap, subst}
use Rattle.std.proofs.lemmas.List.{append-nil}
use Rattle.std.specs.Prelude.{reverse, slice_get, Result, Ok, Err, IfOk, IfSome, Some, OnErr}
use Rattle.ir_tree.specs.declared.types.Ty.{Ty}
use Rattle.ir_memory.specs.declared.value.Value.{Value}
use Rattle.ir_model.specs.Deed.{Takes, behind_default}
use Rattle.ir_model.specs.declared.result.TrapKind.TheVariants as trap
use Rattle.ir_code.specs.declared.code.EdgeCode.{EdgeCode}
use Rattle.ir_code.specs.declared.code.FunctionCode.{FunctionCode}
use Rattle.ir_code.specs.declared.code.Input.{Input}
use Rattle.ir_code.specs.declared.code.Target.{Target}
use Rattle.ir_machine.specs.declared.state.Frame.{Frame}
use Rattle.ir_machine.specs.declared.state.Machine.{Machine}
use Rattle.ir_machine.specs.declared.state.Sight.TheVariants as sight
use Rattle.ir_machine.specs.declared.state.Turn.{Turn}
use Rattle.ir_machine.specs.declared.state.Turn.TheVariants as turn
use Rattle.ir_machine.specs.Steps.{CodeDeed, CodeState, Comes, Does, DoesAlone, enters, exited, first_frame, input_value, valued, waiting_of, walked}

pub on_err : {T E : Type 0} (X : Type 0) (r : Result T E) → X → OnErr r X
on_err X (Ok t) x = tt
on_err X (Err e) x = x

-- what holds of the turn that an answer stands for
pub turn_is : {E : Type 0} (P : Turn → Type 0) (o : Option Turn) (r : Result Turn E) → IfSome o P → IfOk r (λ t. o ≡ Some t) → IfOk r P
turn_is P o (Ok t) h e = subst (λ x. IfSome x P) e h
turn_is P o (Err x) h e = tt

module _ (code : List FunctionCode) (m n : Machine) (d e : CodeDeed) (same : d ≡ e) where
  -- a deed that is another one
  pub acts : (t : Turn) → DoesAlone m d t n → Does code m e t n
  acts t h = subst (λ x. Does code m x t n) same (h code)

  pub acts_if : {E : Type 0} (r : Result Turn E) → IfOk r (λ t. DoesAlone m d t n) → IfOk r (λ t. Does code m e t n)
  acts_if (Ok t) h = acts t h
  acts_if (Err x) h = tt

-- the walk of a case that is another one
pub walks_by : {E : Type 0} (r : Result Turn E) (m n : Machine) (edges : List EdgeCode) (p q : Option ℕ) → p ≡ q → IfOk r (λ t. Comes m (λ fr rest sh. exited fr rest sh edges (Takes (behind_default p))) t n) → IfOk r (λ t. Comes m (λ fr rest sh. exited fr rest sh edges (Takes (behind_default q))) t n)
walks_by r m n edges p q e h =
    subst (λ x. IfOk r (λ t. Comes m (λ fr rest sh. exited fr rest sh edges (Takes (behind_default x))) t n)) e h

none_behind : {A : Type 0} (xs : List A) (i : ℕ) → length xs ≤ i → slice_get xs (i + 1) ≡ None
none_behind [] i h = refl
none_behind (x ∷ xs) zero h = absurd (omega arith)
none_behind (x ∷ xs) (suc i) h =
    let next : suc i + 1 ≡ suc (i + 1) = omega arith in ap (slice_get (x ∷ xs)) next ∙ none_behind xs i (omega arith)

-- no edge is there
pub no_way : (m : Machine) (edges : List EdgeCode) (i : ℕ) → length edges ≤ i → Comes m (λ fr rest sh. exited fr rest sh edges (Takes (i + 1))) (turn.Traps trap.Unreachable) m
no_way m edges i h =
    let P : Option EdgeCode → Type 0 = λ o. Comes m (λ fr rest sh. walked fr rest sh (i + 1) o) (turn.Traps trap.Unreachable) m in
    subst P (sym (none_behind edges i h)) (refl, refl, sym (append-nil m.printed.items))

values_twice : (regs : List Value) (args : List (Ty × Input)) → map (λ a. input_value regs a.1) args ≡ map (λ v. v.1) (map (valued regs) args)
values_twice regs [] = refl
values_twice regs (a ∷ as_) = ap (λ l. input_value regs a.1 ∷ l) (values_twice regs as_)

-- a function begins: a frame is made, and then it runs
module _ (m a n : Machine) (frame : Frame) (k : ℕ) (f : FunctionCode) (args : List (Ty × Input)) (into : Option Target) where
  pub begins : frame ≡ first_frame k f (map (λ a. input_value m.top.registers a.1) args) m.memory.next into → (a.top ≡ m.top) × (a.callers ≡ m.callers) × (a.memory ≡ m.memory) × (a.printed ≡ m.printed) → (n.top ≡ frame) × (waiting_of n ≡ a.top ∷ waiting_of a) → (n.memory ≡ a.memory) × (n.printed ≡ a.printed)
      → Comes m (λ fr rest sh. enters fr rest sh into k f (map (λ v. v.1) (map (valued m.top.registers) args))) (turn.Sees (sight.Entered k)) n
  begins framed same stack rest =
      let top : n.top ≡ first_frame k f (map (λ v. v.1) (map (valued m.top.registers) args)) m.memory.next into =
      stack.0 ∙ framed ∙ ap (λ vs. first_frame k f vs m.memory.next into) (values_twice m.top.registers args) in
      let below : waiting_of n ≡ m.top ∷ waiting_of m = stack.1 ∙ (λ i. same.0 i ∷ reverse (same.1 i).items) in
      let printed : n.printed.items ≡ m.printed.items = (λ i. ((rest.1 ∙ same.3) i).items) in (
        refl,
        refl,
        λ i. let s : CodeState = record { frames = top i ∷ below i; shared = record { memory = (rest.0 ∙ same.2) i; output = length (printed i) } } in s,
        printed ∙ sym (append-nil m.printed.items),
      )
