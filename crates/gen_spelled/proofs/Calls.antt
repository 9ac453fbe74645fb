-- The instructions that count are spellable.
use Rattle.std.proofs.Common.{◌≡◌, ℕ, ◌^◌, true, inl, ◌&&◌, not, nat_lt, nat_le, List, length, Option, Some, None, refl, ap, arith}
use Rattle.std.specs.Char.{is_ascii_digit}
use Rattle.std.specs.List.{list_all}
use Rattle.std.proofs.lemmas.Bool.{and_from, and_parts, leb-true, lt-ltb, ltb-true, ne_eqb}
use Rattle.count_plan.specs.Calls.{condition_of, condition_watched, increment, increment_by, increment_name, increments, no_flags, note_target, step_name, target_of, target_watched, value_name, watched}
use Rattle.count_plan.specs.declared.plan.FunctionPlan.{FunctionPlan}
use Rattle.count_plan.specs.declared.plan.Watch.{Watch}
use Rattle.count_plan.specs.declared.plan.Watch.TheVariants.{Nothing, Condition, Target}
use Rattle.counted_rules.specs.PlanFits.{IsCounter, IsUnit, WatchFits}
use Rattle.gen_plan.specs.Gen.{record_name}
use Rattle.gen_spelled.proofs.Lists.{Name}
use Rattle.ir_rules.specs.Intrinsics.{is_counter_total}
use Rattle.ir_rules.specs.Lists.{Among}
use Rattle.ir_tree.specs.Operands.{result_name}
use Rattle.ir_tree.specs.Spelling.{is_empty, is_global_name, is_local_name, is_quotable}
use Rattle.ir_tree.specs.Types.{is_integer_of}
use Rattle.ir_tree.specs.declared.types.Instr.{Instr}
use Rattle.ir_tree.specs.declared.types.Instr.TheVariants.{Binary, Compare, Convert, Freeze, Select, Phi, Alloca, Load, Store, Gep, Call, Count}
use Rattle.ir_tree.specs.declared.types.ConvOp.TheVariants.{ZExt, PtrToInt}
use Rattle.ir_tree.specs.declared.types.Module.{Module}
use Rattle.ir_tree.specs.declared.types.Operand.{Operand}
use Rattle.ir_tree.specs.declared.types.Operand.TheVariants.{Int, Null, Local, Global}
use Rattle.ir_tree.specs.declared.types.Prof.{Prof}
use Rattle.ir_tree.specs.declared.types.Ty.TheVariants.{I1, I32, I64, Ptr}
use Rattle.spellable.specs.Values.{Each, IsGlobal, IsLocal, IsMaybe, IsOperand}
use Rattle.spellable.specs.Instructions.{AreConversionFlags, IsInstr}

-- ---- names

pub increment_named : IsGlobal increment_name
unfolding increment_name is_global_name is_local_name is_quotable
increment_named = refl

pub step_named : IsGlobal step_name
unfolding step_name is_global_name is_local_name is_quotable
step_named = refl

pub value_named : IsGlobal value_name
unfolding value_name is_global_name is_local_name is_quotable
value_named = refl

front_quotable : (n : Name) → list_all is_quotable n ≡ true → list_all is_quotable (record_name n) ≡ true
unfolding is_quotable
front_quotable n h = h

global_bytes : (n : Name) → IsGlobal n → list_all is_quotable n ≡ true
unfolding is_global_name is_local_name
global_bytes n h = (and_parts (not (is_empty n)) (list_all is_quotable n) (and_parts (not (is_empty n) && list_all is_quotable n) (not (list_all is_ascii_digit n)) h).0).1

pub record_named : (n : Name) → IsGlobal n → IsGlobal (record_name n)
unfolding is_global_name is_local_name
record_named n h =
    and_from (not (is_empty (record_name n)) && list_all is_quotable (record_name n)) (not (list_all is_ascii_digit (record_name n)))
    (and_from (not (is_empty (record_name n))) (list_all is_quotable (record_name n)) (ap not (ne_eqb (length (record_name n)) 0 (omega arith))) (front_quotable n (global_bytes n h))) refl

-- the results of the instructions are spelled
abbrev pub Registers : List Instr → Type 0
Registers xs = (x : Instr) (r : Name) → Among x xs → result_name x ≡ Some r → IsLocal r

-- ---- what an instruction shows is spelled in it

module _ (P : Prof → Type 0) where
  condition_is : (x : Instr) → IsInstr P x → IsMaybe (IsOperand I1) (condition_of x)
  condition_is (Binary dest op flags ty left right) h = tt
  condition_is (Compare dest pred ty left right) h = tt
  condition_is (Convert dest op flags from value to) h = tt
  condition_is (Freeze dest ty value) h = tt
  condition_is (Select dest c ty first second prof) h = h.1
  condition_is (Phi dest ty entries) h = tt
  condition_is (Alloca dest mem) h = tt
  condition_is (Load dest ty address) h = tt
  condition_is (Store ty value address) h = tt
  condition_is (Gep dest inbounds mem address indices) h = tt
  condition_is (Call dest ret callee args prof) h = tt
  condition_is (Count symbol size index step) h = tt

  target_is : (x : Instr) → IsInstr P x → IsMaybe (IsOperand Ptr) (target_of x)
  target_is (Binary dest op flags ty left right) h = tt
  target_is (Compare dest pred ty left right) h = tt
  target_is (Convert dest op flags from value to) h = tt
  target_is (Freeze dest ty value) h = tt
  target_is (Select dest c ty first second prof) h = tt
  target_is (Phi dest ty entries) h = tt
  target_is (Alloca dest mem) h = tt
  target_is (Load dest ty address) h = tt
  target_is (Store ty value address) h = tt
  target_is (Gep dest inbounds mem address indices) h = tt
  target_is (Call dest ret (Int value) args prof) h = tt
  target_is (Call dest ret Null args prof) h = tt
  target_is (Call dest ret (Local name) args prof) h = h.1
  target_is (Call dest ret (Global name) args prof) h = tt
  target_is (Count symbol size index step) h = tt

  -- ---- the calls

  no_flags_set : {op : _} → AreConversionFlags op no_flags
  no_flags_set = record { nuw = tt; nsw = tt; exact = refl }

  module _ (m : Module) (unit : FunctionPlan) (named : IsGlobal unit.symbol) where
    total_is : is_counter_total unit.counters ≡ true → is_integer_of I32 unit.counters ≡ true
    unfolding is_counter_total
    total_is h =
        let most = leb-true unit.counters 1048576 (and_parts (nat_le 1 unit.counters) (nat_le unit.counters 1048576) h).1 in
        lt-ltb unit.counters (2 ^ 32) (omega (arith, most))

    pub increment_is : (c : ℕ) → IsCounter m unit c → IsInstr P (increment unit c)
    increment_is c h = (tt, increment_named, (named, (h.of_unit.hash, (total_is h.total, (h.number, tt)))), tt)

    pub increments_are : (o : Option ℕ) → ((c : ℕ) → o ≡ Some c → IsCounter m unit c) → Each (IsInstr P) (increments unit o)
    increments_are None h = tt
    increments_are (Some c) h = (increment_is c (h c refl), tt)

    increment_by_is : (c : ℕ) (register : Name) → IsCounter m unit c → IsLocal register → IsInstr P (increment_by unit c register)
    increment_by_is c register h local = (tt, step_named, (named, (h.of_unit.hash, (total_is h.total, (h.number, (local, tt))))), tt)

    site_is : (s : ℕ) → nat_lt s 65536 ≡ true → is_integer_of I32 s ≡ true
    site_is s h = (let few = ltb-true s 65536 h in lt-ltb s (2 ^ 32) (omega (arith, few)))

    note_is : (s : ℕ) (register : Name) → IsUnit m unit → nat_lt s 65536 ≡ true → IsLocal register → IsInstr P (note_target unit s register)
    note_is s register h few local = (tt, value_named, (named, (h.hash, (local, (refl, (site_is s few, tt))))), tt)

    -- ---- what is watched

    condition_put : (r : Name) (c : ℕ) (o : Option Operand) → IsMaybe (IsOperand I1) o → IsCounter m unit c → Registers (condition_watched unit r c o) → Each (IsInstr P) (condition_watched unit r c o)
    condition_put r c None h counter local = tt
    condition_put r c (Some q) h counter local =
        let named_local = local (Convert r ZExt no_flags I1 q I64) r (inl refl) refl in
        ((named_local, no_flags_set, tt, h), (increment_by_is c r counter named_local, tt))

    target_put : (r : Name) (s : ℕ) (o : Option Operand) → IsMaybe (IsOperand Ptr) o → IsUnit m unit → nat_lt s 65536 ≡ true → Registers (target_watched unit r s o) → Each (IsInstr P) (target_watched unit r s o)
    target_put r s None h known few local = tt
    target_put r s (Some q) h known few local =
        let named_local = local (Convert r PtrToInt no_flags Ptr q I64) r (inl refl) refl in
        ((named_local, no_flags_set, refl, h), (note_is s r known few named_local, tt))

    pub watched_are : (w : Watch) (x : Instr) → WatchFits m unit w → IsInstr P x → Registers (watched unit w x) → Each (IsInstr P) (watched unit w x)
    watched_are Nothing x fits h local = tt
    watched_are (Condition r c) x fits h local = condition_put r c (condition_of x) (condition_is x h) fits.0 local
    watched_are (Target r s) x fits h local = target_put r s (target_of x) (target_is x h) fits.0 fits.1 local
