-- An operation does what its instruction does, and an exit what its terminator does, where the inputs of both have one value.
use Rattle.std.proofs.Common.{◌≡◌, ℕ, ◌+◌, ◌==◌, Bool, true, false, cond, List, [], ◌∷◌, ◌++◌, map, Option, Some, None, refl, sym, ap}
use Rattle.std.specs.Prelude.{position, nat_le, nat_lt, max, not, pos, ℤ, ◌+ℤ◌, ◌*ℤ◌, Result, Ok, Err, codes, drop}
use Rattle.std.specs.Option.{option_map}
use Rattle.std.specs.List.{position_or_len}
use Rattle.std.proofs.lemmas.List.{length-map}
use Rattle.ir_value.specs.Integer.{signed_of}
use Rattle.ir_value.specs.Operators.{binary_of}
use Rattle.ir_value.specs.declared.operators.DivTrap.{DivTrap}
use Rattle.ir_value.specs.declared.operators.DivTrap.TheVariants.{DivZero, DivOverflow}
use Rattle.ir_tree.specs.Names.{same}
use Rattle.ir_tree.specs.Types.{is_pointer_type}
use Rattle.ir_tree.specs.declared.types.Ty.{Ty}
use Rattle.ir_tree.specs.declared.types.Ty.TheVariants.{I64}
use Rattle.ir_tree.specs.declared.types.MemTy.{MemTy}
use Rattle.ir_tree.specs.declared.types.Ret.{Ret}
use Rattle.ir_tree.specs.declared.types.Operand.{Operand}
use Rattle.ir_tree.specs.declared.types.Instr.{Instr}
use Rattle.ir_tree.specs.declared.types.Instr.TheVariants as ir
use Rattle.ir_tree.specs.declared.types.Term.{Term}
use Rattle.ir_tree.specs.declared.types.Term.TheVariants as term
use Rattle.ir_memory.specs.Memory.{MemoryState, live_cells, loaded, made, stored}
use Rattle.ir_memory.specs.declared.error.MemError.{MemError}
use Rattle.ir_memory.specs.declared.value.Base.TheVariants as base
use Rattle.ir_memory.specs.declared.value.Value.{Value}
use Rattle.ir_memory.specs.declared.value.Value.TheVariants as value
use Rattle.ir_model.specs.declared.result.TrapKind.TheVariants as trap
use Rattle.ir_model.specs.declared.probe.Event.{Event}
use Rattle.ir_model.specs.Deed as model
use Rattle.ir_model.specs.Deed.{Deed, Gives, Calls, Fails, Choice, Takes, behind_default, profile_callee, profile_shown, unit_of}
use Rattle.ir_model.specs.Sizes.{bytes_of, element_of, size_of}
use Rattle.ir_model.specs.State.{What, Added}
use Rattle.ir_model.specs.Values.{as_number, at_type, base_of, bits_of, offset_of, function_at_address, number_at}
use Rattle.ir_code.specs.Resolved.{input_of, target_of, typed_input, inner_indices, indices_of, profile_op, call_op, op_of, exit_of}
use Rattle.ir_code.specs.Units.{Unit_, counter_span, site_span, added, noted, all_told}
use Rattle.ir_code.specs.declared.code.Input.{Input}
use Rattle.ir_code.specs.declared.code.Input.TheVariants as inputs
use Rattle.ir_code.specs.declared.code.Op.{Op}
use Rattle.ir_code.specs.declared.code.Op.TheVariants as op
use Rattle.ir_machine.specs.Steps as code
use Rattle.ir_machine.specs.Steps.{CodeDeed, input_value, noted_at}

pub behind_none : (xs : List Event) → xs ++ [] ≡ xs
behind_none [] = refl
behind_none (x ∷ xs) = ap (λ l. x ∷ l) (behind_none xs)

module _ (symbol : List ℕ → Input) (units : List Unit_) (register : List ℕ → ℕ) where
  abbrev pub input : Operand → Input
  input o = input_of symbol (counter_span units) (site_span units) register o

  -- what an instruction does, by numbers
  abbrev pub by_number : Deed → CodeDeed
  by_number (Gives into v memory shown) = code.Gives (option_map register into) v memory (all_told units shown)
  by_number (Calls through into r address values) =
      code.Calls (option_map (target_of symbol (counter_span units) (site_span units) register) into) r address values
  by_number (Fails kind) = code.Fails kind

  module _ (regs : List Value) (count : ℕ) (memory : MemoryState) where
    abbrev pub val : Operand → Value
    val o = input_value regs (input o)

    abbrev operation : Op → CodeDeed
    operation o = code.deed regs count memory o

    computed_is : (into : List ℕ) (r : Result ℕ DivTrap) → by_number (model.computed (Some into) memory r) ≡ code.computed (register into) memory r
    computed_is into (Ok n) = refl
    computed_is into (Err DivZero) = refl
    computed_is into (Err DivOverflow) = refl

    allocated_is : (into : List ℕ) (size : ℕ) (b : Bool) → by_number (cond b (Gives (Some into) (value.Pointer (base.Object memory.next) 0) (made memory size false) []) (Fails trap.Cells)) ≡ cond b (code.Gives (Some (register into)) (value.Pointer (base.Object memory.next) 0) (made memory size false) []) (code.Fails trap.Cells)
    allocated_is into size true = refl
    allocated_is into size false = refl

    read_is : (into : List ℕ) (ty : Ty) (r : Result Value MemError) → by_number (model.read_as (Some into) memory ty r) ≡ code.read_as (register into) memory ty r
    read_is into ty (Ok v) = refl
    read_is into ty (Err e) = refl

    wrote_is : (r : Result MemoryState MemError) → by_number (model.wrote r) ≡ code.wrote r
    wrote_is (Ok m) = refl
    wrote_is (Err e) = refl

    abbrev signed : Ty × Operand → ℤ
    signed u = signed_of (bits_of u.0) (number_at u.0 (val u.1))

    inner_is : (mem : MemTy) (us : List (Ty × Operand)) → model.inner_distance mem (map signed us) ≡ code.distance regs (inner_indices symbol (counter_span units) (site_span units) register mem us)
    inner_is mem [] = refl
    inner_is mem (u ∷ us) =
        ap (λ z. signed u *ℤ pos (size_of (element_of mem)) +ℤ z) (inner_is (element_of mem) us)

    distance_is : (mem : MemTy) (us : List (Ty × Operand)) → model.distance mem (map signed us) ≡ code.distance regs (indices_of symbol (counter_span units) (site_span units) register mem us)
    distance_is mem [] = refl
    distance_is mem (u ∷ us) = ap (λ z. signed u *ℤ pos (size_of mem) +ℤ z) (inner_is mem us)

    abbrev valued : Ty × Operand → Ty × Value
    valued u = (u.0, val u.1)

    abbrev valued_input : Ty × Input → Ty × Value
    valued_input u = (u.0, input_value regs u.1)

    values_are : (us : List (Ty × Operand)) → map valued us ≡ map valued_input (map (typed_input symbol (counter_span units) (site_span units) register) us)
    values_are [] = refl
    values_are (u ∷ us) = ap (λ l. valued u ∷ l) (values_are us)

    note_is : (name : List ℕ) (site : ℕ) (k : Option ℕ) → all_told units (model.note name site k) ≡ noted_at (site_span units name) site k
    note_is name site None = refl
    note_is name site (Some k) = behind_none (noted (site_span units name) site k)

    abbrev gives_marks : List Event → CodeDeed
    gives_marks marks = code.Gives None (value.Int 0) memory marks

    added_is : (name : List ℕ) (counter step : ℕ) → by_number (Gives None (value.Int 0) memory (Added name counter step ∷ [])) ≡ gives_marks (added (counter_span units name) counter step)
    added_is name counter step = ap gives_marks (behind_none (added (counter_span units name) counter step))

    abbrev Profiled : Option (List What) → Op → Type 0
    Profiled shown o = by_number (model.profiled memory shown) ≡ operation o

    chosen : (b : Bool) (shown : Option (List What)) (other : Option (List What)) (o p : Op) → Profiled shown o → Profiled other p → Profiled (cond b shown other) (cond b o p)
    chosen true shown other o p h g = h
    chosen false shown other o p h g = g

    profile_is : (name : List ℕ) (us : List (Ty × Operand)) → Profiled (profile_shown val count name us) (profile_op symbol (counter_span units) (site_span units) register name us)
    profile_is name [] = refl
    profile_is name (a ∷ []) = refl
    profile_is name (a ∷ b ∷ []) = refl
    profile_is name (target ∷ unit ∷ site ∷ []) =
        chosen (same (codes "__llvm_profile_instrument_target") name) (Some (model.note (unit_of unit.1) (as_number (val site.1)) (function_at_address count (number_at I64 (val target.1))))) None (op.Note (site_span units (unit_of unit.1)) (input site.1) (input target.1)) op.Fail
        (ap gives_marks (note_is (unit_of unit.1) (as_number (val site.1)) (function_at_address count (number_at I64 (val target.1))))) refl
    profile_is name (unit ∷ hash ∷ counters ∷ index ∷ []) =
        chosen (same (codes "llvm.instrprof.increment") name) (Some (Added (unit_of unit.1) (as_number (val index.1)) 1 ∷ [])) None (op.Add (counter_span units (unit_of unit.1)) (input index.1) (inputs.Number 1)) op.Fail
        (added_is (unit_of unit.1) (as_number (val index.1)) 1) refl
    profile_is name (unit ∷ second ∷ third ∷ fourth ∷ fifth ∷ []) =
        let noting : Profiled (cond (same (codes "llvm.instrprof.value.profile") name) (Some (model.note (unit_of unit.1) (as_number (val fifth.1)) (function_at_address count (number_at I64 (val third.1))))) None) (cond (same (codes "llvm.instrprof.value.profile") name) (op.Note (site_span units (unit_of unit.1)) (input fifth.1) (input third.1)) op.Fail) =
        chosen (same (codes "llvm.instrprof.value.profile") name) (Some (model.note (unit_of unit.1) (as_number (val fifth.1)) (function_at_address count (number_at I64 (val third.1))))) None (op.Note (site_span units (unit_of unit.1)) (input fifth.1) (input third.1)) op.Fail
        (ap gives_marks (note_is (unit_of unit.1) (as_number (val fifth.1)) (function_at_address count (number_at I64 (val third.1))))) refl in
        chosen (same (codes "llvm.instrprof.increment.step") name) (Some (Added (unit_of unit.1) (as_number (val fourth.1)) (number_at I64 (val fifth.1)) ∷ [])) (cond (same (codes "llvm.instrprof.value.profile") name) (Some (model.note (unit_of unit.1) (as_number (val fifth.1)) (function_at_address count (number_at I64 (val third.1))))) None)
        (op.Add (counter_span units (unit_of unit.1)) (input fourth.1) (input fifth.1)) (cond (same (codes "llvm.instrprof.value.profile") name) (op.Note (site_span units (unit_of unit.1)) (input fifth.1) (input third.1)) op.Fail)
        (added_is (unit_of unit.1) (as_number (val fourth.1)) (number_at I64 (val fifth.1))) noting
    profile_is name (a ∷ b ∷ c ∷ d ∷ e ∷ f ∷ more) = refl

    call_is : (into : Option (List ℕ)) (r : Ret) (callee : Operand) (us : List (Ty × Operand)) (name : Option (List ℕ)) → by_number (model.call val count memory into r callee us name) ≡ operation (call_op symbol (counter_span units) (site_span units) register into r callee us name)
    call_is into r callee us None =
        ap (λ vs. code.Calls (option_map (target_of symbol (counter_span units) (site_span units) register) (model.result_into into r)) r (as_number (val callee)) vs) (values_are us)
    call_is into r callee us (Some name) = profile_is name us

    -- an operation does what its instruction does
    pub deed_is : (i : Instr) → by_number (model.deed val count memory i) ≡ operation (op_of symbol (counter_span units) (site_span units) register i)
    deed_is (ir.Binary into o flags ty left right) =
        computed_is into (binary_of (model.operator o) (bits_of ty) (number_at ty (val left)) (number_at ty (val right)))
    deed_is (ir.Compare into p ty left right) = refl
    deed_is (ir.Convert into o flags from v to) = refl
    deed_is (ir.Freeze into ty v) = refl
    deed_is (ir.Select into ty c first second prof) = refl
    deed_is (ir.Phi into ty entries) = refl
    deed_is (ir.Alloca into mem) =
        allocated_is into (size_of mem) (nat_le (live_cells memory.live + max 1 (size_of mem)) model.cells_most)
    deed_is (ir.Load into ty address) =
        read_is into ty (loaded memory (base_of (val address)) (offset_of (val address)) (bytes_of ty) (is_pointer_type ty))
    deed_is (ir.Store ty v address) =
        wrote_is (stored memory (base_of (val address)) (offset_of (val address)) (bytes_of ty) (at_type ty (val v)))
    deed_is (ir.Gep into inbounds mem address indices) =
        ap (λ z. code.Gives (Some (register into)) (model.moved (val address) z) memory []) (distance_is mem indices)
    deed_is (ir.Call into r callee us prof) = call_is into r callee us (profile_callee callee)
    deed_is (ir.Count name size index step) = added_is (drop 8 name) index (number_at I64 (val step))

    place_map : (p : ℕ → Bool) (cases : List (ℕ × List ℕ)) → position_or_len (λ c. p c.0) cases ≡ position_or_len p (map (λ c. c.0) cases)
    place_map p [] = refl
    place_map p (c ∷ cs) = ap (λ n. cond (not (p c.0)) (1 + n) 0) (place_map p cs)

    position_map : (p : ℕ → Bool) (cases : List (ℕ × List ℕ)) → position (λ c. p c.0) cases ≡ position p (map (λ c. c.0) cases)
    position_map p cases =
        λ i. cond (nat_lt (place_map p cases i) (sym (length-map cases (λ c. c.0)) i)) (Some (place_map p cases i)) None

    returned_is : (v : Option (Ty × Operand)) → option_map (λ u. at_type u.0 (val u.1)) v ≡ option_map (λ u. at_type u.0 (input_value regs u.1)) (option_map (typed_input symbol (counter_span units) (site_span units) register) v)
    returned_is None = refl
    returned_is (Some u) = refl

    -- an exit does what its terminator does
    pub choice_is : (t : Term) → model.choice val t ≡ code.choice regs (exit_of symbol (counter_span units) (site_span units) register t)
    choice_is (term.Br to) = refl
    choice_is (term.CondBr c first second prof) = refl
    choice_is (term.Switch ty v default cases prof) =
        ap (λ o. Takes (behind_default o)) (position_map (λ n. n == number_at ty (val v)) cases)
    choice_is (term.Ret v) = ap (λ o. model.Leaves o) (returned_is v)
    choice_is term.Unreachable = refl
