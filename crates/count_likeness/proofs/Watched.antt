-- A select and a call through a register, with what stands before them; any instruction.
use Rattle.std.proofs.Common.{◌≡◌, ℕ, ◌<◌, ◌^◌, ◌%◌, List, [], ◌∷◌, ◌++◌, map, drop, Option, Some, None, refl, sym, ◌∙◌, ap, subst, is_some}
use Rattle.ir_model.specs.Deed.{note}
use Rattle.ir_model.specs.State.{Frame, Registers, Shared, Added, Noted}
use Rattle.ir_model.specs.Step.{step, value_of}
use Rattle.ir_model.specs.Values.{as_number, function_at_address, functions_of, number_at}
use Rattle.ir_tree.specs.Functions.{function_at}
use Rattle.ir_tree.specs.Operands.{listed, operands}
use Rattle.ir_tree.specs.Phis.{behind_phis}
use Rattle.ir_tree.specs.declared.types.Instr.{Instr}
use Rattle.ir_tree.specs.declared.types.Instr.TheVariants.{Select, Call}
use Rattle.ir_tree.specs.declared.types.Operand.{Operand}
use Rattle.ir_tree.specs.declared.types.Operand.TheVariants.{Local}
use Rattle.ir_tree.specs.declared.types.Prof.{Prof}
use Rattle.ir_tree.specs.declared.types.Ret.{Ret}
use Rattle.ir_tree.specs.declared.types.Ty.{Ty}
use Rattle.ir_tree.specs.declared.types.Ty.TheVariants.{I1}
use Rattle.ir_likeness.proofs.Frames.{Twin, state}
use Rattle.ir_likeness.proofs.Registers.{Agree, value_same}
use Rattle.spec_machines.specs.Simulation.{Matched}
use Rattle.count_plan.specs.Calls.{watched}
use Rattle.count_plan.specs.Counted.{watch_at}
use Rattle.count_plan.specs.declared.plan.Watch.{Watch}
use Rattle.count_plan.specs.declared.plan.Watch.TheVariants.{Nothing, Condition, Target}
use Rattle.count_likeness.proofs.Setting.{Setting}
use Rattle.count_likeness.specs.Fits.{InstrFits, IsOld, counter_of, register_of, site_of}
use Rattle.count_likeness.proofs.Instrs.{RowTo, by_row, fits_here, in_front, later, no_row, plain_matched, row, watch}
use Rattle.count_likeness.proofs.Items.{Item, Mark, Owes, imaged, owned}
use Rattle.spec_items.proofs.Items.{Has}
use Rattle.count_likeness.proofs.Modules.{as_many, symbols_same}
use Rattle.count_likeness.proofs.Rows.{Row, address_small, condition_row, is_new, target_row}
use Rattle.count_likeness.proofs.Simulation.{Behind, Kept, Left, Spot, Stands, bases, made, made_block, made_there, owned_view, plan_of, twin, unit_of, unit_of_image}
use Rattle.count_likeness.proofs.Values.{old_operand}

module _ (setting : Setting) where
  open setting use {plan, image, most, late, m, fit}

  module _ (fr : Frame) (s : Spot setting fr.function fr.block) (p : ℕ) (rt : Registers) (x : Option (List ℕ × Ty)) (rest rest' : List Frame) (shared : Shared)
      (ahead : Left setting s fr.place p) (agree : Agree (IsOld (unit_of setting s)) fr.registers rt)
      (below : Behind setting fr.into x rest rest') (twins : (k : ℕ) → Twin (imaged image) owned (Owes image) (owned_view setting) m (made setting) (Stands setting) (bases setting) 1 k (function_at m k) (function_at (made setting) k)) where
    abbrev pub StepMatched : Type 0
    StepMatched = Matched (imaged image) owned (Owes image) (step (made setting)) most (Kept setting) (step m (state (fr ∷ rest) shared)) (state (twin setting fr p rt x ∷ rest') shared)

    -- the register of a watch is new
    new_register : (r : List ℕ) → Has r (register_of (watch_at (plan_of setting s) fr.place)) → IsOld (unit_of setting s) r → ⊥
    new_register r has = is_new (unit_of setting s) s.number fr.place r has

    -- ---- a select

    module _ (into : List ℕ) (c : Operand) (ty : Ty) (a b : Operand) (prof : Option Prof) (ys : List Instr) (e : drop fr.place (behind_phis s.block.instrs) ≡ Select into c ty a b prof ∷ ys) where
      abbrev select : Instr
      select = Select into c ty a b prof

      abbrev select_watch : Watch
      select_watch = watch setting fr s p rt x rest rest' shared ahead agree below twins select ys e

      abbrev SelectRow : List Item → Type 0
      SelectRow = RowTo setting fr s p rt x rest rest' shared ahead agree below twins select ys e

      select_fits : InstrFits (functions_of m) fr.function (unit_of setting s) image most (plan_of setting s) s.block.label fr.place select
      select_fits = fits_here setting fr s p rt x rest rest' shared ahead agree below twins select ys e

      counter_here : image.condition fr.function fr.block fr.place ≡ counter_of select_watch
      counter_here = ap (λ l. image.condition fr.function l fr.place) (sym s.named) ∙ select_fits.condition refl

      abbrev bit : ℕ
      bit = number_at I1 (value_of m fr.registers c)

      select_by : (look : List Item) (r : SelectRow look) → map Mark (map (λ counter. Added (image.unit fr.function) counter bit) (listed (counter_of select_watch))) ≡ look → StepMatched
      select_by look r looks =
          by_row setting fr s p rt x rest rest' shared ahead agree below twins select ys e look r
          (ap (λ o. map Mark (map (λ counter. Added (image.unit fr.function) counter bit) (listed o)) ++ []) counter_here ∙ ap (λ l. l ++ []) looks)

      pub select_matched : StepMatched
      select_matched = by select_watch refl
        where
          unwatched : (w : Watch) → select_watch ≡ w → watched (unit_of setting s) w select ≡ [] → counter_of w ≡ None → StepMatched
          unwatched w q none no_counter =
              select_by [] (no_row setting fr s p rt x rest rest' shared ahead agree below twins select ys e (ap (λ v. watched (unit_of setting s) v select) q ∙ none))
              (ap (λ o. map Mark (map (λ counter. Added (image.unit fr.function) counter bit) (listed o))) (ap counter_of q ∙ no_counter))

          by : (w : Watch) → select_watch ≡ w → StepMatched
          by Nothing q = unwatched Nothing q refl refl
          by (Target register site) q = unwatched (Target register site) q refl refl
          by (Condition register counter) q =
              select_by (Mark (Added (drop 8 (unit_of setting s).symbol) counter (number_at I1 (value_of (made setting) rt c))) ∷ [])
              (subst (λ (w : Watch). Row (made setting) (IsOld (unit_of setting s)) (twin setting fr p rt x) (watched (unit_of setting s) w select) (Mark (Added (drop 8 (unit_of setting s).symbol) counter (number_at I1 (value_of (made setting) rt c))) ∷ [])) (sym q)
              (condition_row (made setting) (IsOld (unit_of setting s)) (twin setting fr p rt x) (made_block setting s)
              (select ∷ later setting fr s p rt x rest rest' shared ahead agree below twins select ys e) (made_there setting s)
              (unit_of setting s) register (new_register register (subst (λ (w : Watch). Has register (register_of w)) (sym q) (0, refl))) counter c
              (in_front setting fr s p rt x rest rest' shared ahead agree below twins select ys e ∙ ap (λ (w : Watch). watched (unit_of setting s) w select ++ (select ∷ later setting fr s p rt x rest rest' shared ahead agree below twins select ys e)) q)))
              (ap (λ o. map Mark (map (λ counter. Added (image.unit fr.function) counter bit) (listed o))) (ap counter_of q)
              ∙ (λ i. Mark (Added (unit_of_image setting s i) counter (number_at I1 (same_condition i))) ∷ []))
            where
              same_condition : value_of m fr.registers c ≡ value_of (made setting) rt c
              same_condition = value_same (IsOld (unit_of setting s)) m (made setting) (symbols_same setting) fr.registers rt agree c
                  (old_operand (unit_of setting s) (operands select) select_fits.reads 0 I1 c refl)

    -- ---- a call through a register

    module _ (into : Option (List ℕ)) (r : Ret) (callee : List ℕ) (args : List (Ty × Operand)) (prof : Option Prof) (ys : List Instr) (e : drop fr.place (behind_phis s.block.instrs) ≡ Call into r (Local callee) args prof ∷ ys) where
      abbrev a_call : Instr
      a_call = Call into r (Local callee) args prof

      abbrev call_watch : Watch
      call_watch = watch setting fr s p rt x rest rest' shared ahead agree below twins a_call ys e

      abbrev CallRow : List Item → Type 0
      CallRow = RowTo setting fr s p rt x rest rest' shared ahead agree below twins a_call ys e

      call_fits : InstrFits (functions_of m) fr.function (unit_of setting s) image most (plan_of setting s) s.block.label fr.place a_call
      call_fits = fits_here setting fr s p rt x rest rest' shared ahead agree below twins a_call ys e

      site_here : image.site fr.function fr.block fr.place ≡ site_of call_watch
      site_here = ap (λ l. image.site fr.function l fr.place) (sym s.named) ∙ call_fits.site refl

      abbrev address : ℕ
      address = as_number (value_of m fr.registers (Local callee))

      call_by : (look : List Item) (row : CallRow look) → ((k : ℕ) → function_at_address (functions_of m) address ≡ Some k → map Mark (map (λ site. Noted (image.unit fr.function) site k) (listed (site_of call_watch))) ≡ look) → StepMatched
      call_by look row looks =
          by_row setting fr s p rt x rest rest' shared ahead agree below twins a_call ys e look row
          (λ k found. ap (λ o. map Mark (map (λ site. Noted (image.unit fr.function) site k) (listed o)) ++ []) site_here ∙ ap (λ l. l ++ []) (looks k found))

      pub call_matched : StepMatched
      call_matched = by call_watch refl
        where
          unwatched : (w : Watch) → call_watch ≡ w → watched (unit_of setting s) w a_call ≡ [] → site_of w ≡ None → StepMatched
          unwatched w q none no_site =
              call_by [] (no_row setting fr s p rt x rest rest' shared ahead agree below twins a_call ys e (ap (λ v. watched (unit_of setting s) v a_call) q ∙ none))
              (λ k found. ap (λ o. map Mark (map (λ site. Noted (image.unit fr.function) site k) (listed o))) (ap site_of q ∙ no_site))

          same_callee : value_of m fr.registers (Local callee) ≡ value_of (made setting) rt (Local callee)
          same_callee = value_same (IsOld (unit_of setting s)) m (made setting) (symbols_same setting) fr.registers rt agree (Local callee)
              (old_operand (unit_of setting s) (operands a_call) call_fits.reads 0 _ (Local callee) refl)

          -- the note is of the function that is called
          noted : (n : ℕ) → n ≡ functions_of m → functions_of m < 2 ^ 60 → (unit : List ℕ) (site k : ℕ) → function_at_address (functions_of m) address ≡ Some k →
              note unit site (function_at_address n (((as_number (value_of (made setting) rt (Local callee)) % 2 ^ 64) % 2 ^ 64) % 2 ^ 64)) ≡ Noted unit site k ∷ []
          noted n same few unit site k found =
              ap (note unit site) ((λ i. function_at_address (same i) (((as_number (sym same_callee i) % 2 ^ 64) % 2 ^ 64) % 2 ^ 64)) ∙ ap (function_at_address (functions_of m)) (address_small (functions_of m) address k few found) ∙ found)

          by : (w : Watch) → call_watch ≡ w → StepMatched
          by Nothing q = unwatched Nothing q refl refl
          by (Condition register counter) q = unwatched (Condition register counter) q refl refl
          by (Target register site) q =
              call_by (map Mark (note (drop 8 (unit_of setting s).symbol) site at_call))
              (subst (λ (w : Watch). Row (made setting) (IsOld (unit_of setting s)) (twin setting fr p rt x) (watched (unit_of setting s) w a_call) (map Mark (note (drop 8 (unit_of setting s).symbol) site at_call))) (sym q)
              (target_row (made setting) (IsOld (unit_of setting s)) (twin setting fr p rt x) (made_block setting s)
              (a_call ∷ later setting fr s p rt x rest rest' shared ahead agree below twins a_call ys e) (made_there setting s)
              (unit_of setting s) register (new_register register (subst (λ (w : Watch). Has register (register_of w)) (sym q) (0, refl))) site (Local callee)
              (in_front setting fr s p rt x rest rest' shared ahead agree below twins a_call ys e ∙ ap (λ (w : Watch). watched (unit_of setting s) w a_call ++ (a_call ∷ later setting fr s p rt x rest rest' shared ahead agree below twins a_call ys e)) q)))
              (λ k found. ap (λ o. map Mark (map (λ site. Noted (image.unit fr.function) site k) (listed o))) (ap site_of q)
              ∙ (λ i. Mark (Noted (unit_of_image setting s i) site k) ∷ [])
              ∙ ap (map Mark) (sym (noted (functions_of (made setting)) (as_many setting) (call_fits.few refl (ap (λ w. is_some (site_of w)) q)) (drop 8 (unit_of setting s).symbol) site k found)))
            where
              at_call : Option ℕ
              at_call = function_at_address (functions_of (made setting)) (((as_number (value_of (made setting) rt (Local callee)) % 2 ^ 64) % 2 ^ 64) % 2 ^ 64)

    -- ---- any instruction

    pub instr_matched : (y : Instr) (ys : List Instr) → drop fr.place (behind_phis s.block.instrs) ≡ y ∷ ys → StepMatched
    instr_matched (Select into c ty a b prof) ys e = select_matched into c ty a b prof ys e
    instr_matched (Call into r (Local callee) args prof) ys e = call_matched into r callee args prof ys e
    instr_matched y ys e = plain_matched setting fr s p rt x rest rest' shared ahead agree below twins y ys e tt
