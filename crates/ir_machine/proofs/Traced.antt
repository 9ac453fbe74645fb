-- The counts of a traced call have risen by its traversals.
use Rattle.std.proofs.Common.{◌≡◌, ℕ, ◌+◌, ◌^◌, ◌<◌, ◌≤◌, List, ◌∷◌, length, get_or, Option, sym, ◌∙◌, ap, subst, arith}
use Rattle.std.specs.Prelude.{Result, Ok, Err, OnOk}
use Rattle.std.specs.List.{count_by}
use Rattle.ir_tree.specs.Functions.{numbered}
use Rattle.ir_tree.specs.declared.types.Module.{Module}
use Rattle.ir_model.specs.declared.result.Call.{Call}
use Rattle.ir_model.specs.State.{Shown, Entered}
use Rattle.ir_model.specs.Run.{IsValidCall}
use Rattle.ir_model.specs.Log.{log, is_walk_of, traversals}
use Rattle.ir_machine.specs.declared.slots.FunctionSlots.{FunctionSlots}
use Rattle.ir_machine.specs.declared.state.Sight.TheVariants as sight
use Rattle.ir_machine.specs.Counts.{call_counts, counted, raised_by}
use Rattle.ir_machine.specs.Slots.{all_slots, edges_of_all, slot_of, HasEdge}
use Rattle.ir_machine.specs.Steps.{call_run, sights}
use Rattle.ir_machine.proofs.CallRuns.{IsRun, call_is}
use Rattle.ir_machine.proofs.InStep.{view}
use Rattle.ir_machine.proofs.Tracing.{counted_is, counted_most}
use Rattle.ir_machine.proofs.WaysOut.{AreOwn}

module _ (m : Module) (c : Call) (n : ℕ) (before : List ℕ) (valid : IsValidCall m c) where
  abbrev slots : List FunctionSlots
  slots = all_slots 0 (numbered m.functions)

  abbrev is_run : IsRun m c n (call_run m c n)
  is_run = call_is m c n valid

  abbrev walked : List Shown
  walked = Entered c.function ∷ is_run.ran

  -- the counts behind the entry and the run
  abbrev pub counts : List ℕ
  counts = call_counts m c n before

  counts_are : counts ≡ counted slots before (sights (view m walked))
  counts_are = ap (counted slots (raised_by slots before (sight.Entered c.function))) is_run.seen_of

  few_walks : length (log walked) ≤ n + 1
  few_walks = let few = is_run.within.few in omega (arith, few)

  own : AreOwn m walked
  own = (is_run.defined, is_run.within.own)

  pub counts_rise : length before ≡ edges_of_all m → ((s : ℕ) → get_or before s 0 < 2 ^ 60) → n < 2 ^ 60 → (j : ℕ) (block : Option ℕ) (position : ℕ) → HasEdge m j block position → get_or counts (slot_of m j block position) 0 ≡ get_or before (slot_of m j block position) 0 + traversals m j block position c n
  counts_rise all low few j block position edge =
      let most = few_walks in
      let room : (s : ℕ) → get_or before s 0 + length (log walked) < 2 ^ 64 = λ s. omega (arith, low s, most, few) in
      ap (λ l. get_or l (slot_of m j block position) 0) counts_are
      ∙ counted_is m j block position edge walked before own all room
      ∙ ap (λ xs. get_or before (slot_of m j block position) 0 + count_by (is_walk_of m j block position) (log xs)) (sym is_run.shown)

  -- no count rises by more than the steps and one
  pub counts_most : (s : ℕ) → get_or counts s 0 ≤ get_or before s 0 + n + 1
  counts_most s =
      let most = few_walks in
      let e : get_or counts s 0 ≡ get_or (counted slots before (sights (view m walked))) s 0 = ap (λ l. get_or l s 0) counts_are in
      let rise = counted_most m slots walked before s in
      omega (arith, e, rise, most)

module _ {T E : Type 0} (answer : Result T E) (m : Module) (c : Call) (n : ℕ) (before after : List ℕ) (valid : IsValidCall m c) (made : OnOk answer (after ≡ call_counts m c n before)) where
  -- the counts that a traced call leaves have risen by its traversals
  pub traced : length before ≡ edges_of_all m → ((s : ℕ) → get_or before s 0 < 2 ^ 60) → n < 2 ^ 60 → OnOk answer ((j : ℕ) (block : Option ℕ) (position : ℕ) → HasEdge m j block position → get_or after (slot_of m j block position) 0 ≡ get_or before (slot_of m j block position) 0 + traversals m j block position c n)
  traced all low few = elim answer as (λ r. OnOk r (after ≡ call_counts m c n before) → OnOk r ((j : ℕ) (block : Option ℕ) (position : ℕ) → HasEdge m j block position → get_or after (slot_of m j block position) 0 ≡ get_or before (slot_of m j block position) 0 + traversals m j block position c n)) [
    | Ok x ↦ λ h j block position edge. ap (λ l. get_or l (slot_of m j block position) 0) h ∙ counts_rise m c n before valid all low few j block position edge
    | Err e ↦ λ h. tt
  ] made

  pub traced_most : OnOk answer ((s : ℕ) → get_or after s 0 ≤ get_or before s 0 + n + 1)
  traced_most = elim answer as (λ r. OnOk r (after ≡ call_counts m c n before) → OnOk r ((s : ℕ) → get_or after s 0 ≤ get_or before s 0 + n + 1)) [
    | Ok x ↦ λ h s. subst (λ l. get_or l s 0 ≤ get_or before s 0 + n + 1) (sym h) (counts_most m c n before valid s)
    | Err e ↦ λ h. tt
  ] made
