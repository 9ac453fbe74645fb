-- A step by a terminator, in both modules: an edge with a new block and one without, a return, a trap.
use Rattle.std.proofs.Common.{◌≡◌, ℕ, suc, ◌+◌, ◌≤◌, true, List, [], ◌∷◌, ◌++◌, length, map, drop, option_and_then, Option, Some, None, slice_get, refl, sym, ◌∙◌, ap, subst, subst₂, arith, zero-add}
use Rattle.std.specs.Option.{option_map}
use Rattle.std.proofs.lemmas.List.{append-nil}
use Rattle.ir_memory.specs.declared.value.Value.{Value}
use Rattle.ir_model.specs.declared.result.TrapKind.TheVariants as trap
use Rattle.ir_model.specs.Deed.{Choice, Takes, Leaves, Breaks, choice}
use Rattle.ir_model.specs.State.{Frame, Registers, Shared, Shown, Walked, printed}
use Rattle.ir_model.specs.Step.{Step, done, done_in, entering, goes_to, left, phis_in, returned, sought, step, value_of, walked, with_phis}
use Rattle.ir_tree.specs.Blocks.{block_named, block_with}
use Rattle.ir_tree.specs.Names.{same}
use Rattle.ir_tree.specs.Operands.{Entries, listed, term_operand}
use Rattle.ir_tree.specs.Phis.{behind_phis, entries_of, leading_phis, phi_count}
use Rattle.ir_tree.specs.Successors.{successors}
use Rattle.ir_tree.specs.declared.types.Block.{Block}
use Rattle.ir_tree.specs.declared.types.Function.{Function}
use Rattle.ir_tree.specs.declared.types.Instr.{Instr}
use Rattle.ir_tree.specs.declared.types.Module.{Module}
use Rattle.ir_tree.specs.declared.types.Operand.{Operand}
use Rattle.ir_tree.specs.declared.types.Term.{Term}
use Rattle.ir_tree.specs.declared.types.Term.TheVariants.{Br, CondBr, Switch, Ret, Unreachable}
use Rattle.ir_tree.specs.declared.types.Ty.{Ty}
use Rattle.ir_likeness.proofs.Agree.{choice_same}
use Rattle.ir_likeness.proofs.Frames.{arrive_both, by_many, chain, returned_both, state}
use Rattle.ir_likeness.proofs.Registers.{Agree, PhisAgree, agree_phis, value_same_one}
use Rattle.spec_machines.specs.Machine.{Goes, more_shown, then_go, many}
use Rattle.spec_machines.specs.Simulation.{Matched}
use Rattle.spec_machines.proofs.Many.{many_add, many_one}
use Rattle.count_plan.specs.Calls.{increments}
use Rattle.count_plan.specs.Counted.{counted_from}
use Rattle.count_plan.specs.Ways.{block_plan, led, led_to, new_at, renamed_phi}
use Rattle.count_plan.specs.declared.plan.FunctionPlan.{FunctionPlan}
use Rattle.count_plan.specs.declared.plan.NewBlock.{NewBlock}
use Rattle.count_likeness.proofs.Setting.{Setting}
use Rattle.count_likeness.specs.Fits.{IsOld, WayFits, counters_in, steps_in}
use Rattle.count_likeness.proofs.Items.{Item, Owes, imaged, owned, same_printed}
use Rattle.count_likeness.proofs.Labels.{new_found}
use Rattle.spec_items.proofs.Items.{drop_row, get_taken}
use Rattle.count_likeness.proofs.Modules.{symbols_same}
use Rattle.count_likeness.proofs.Pieces.{led_choice, led_successor, new_behind, new_phis, phis_there}
use Rattle.count_likeness.proofs.Renamed.{same_self}
use Rattle.count_likeness.proofs.Rows.{Row, increments_row, marked, marked-append, placed}
use Rattle.count_likeness.proofs.Simulation.{Behind, Comes, Kept, Left, Spot, Stands, Together, bases, fits_block, found, head_comes, increments_length, made, made_block, made_there, owned_view, plan_of, renames_of, trap_together, twin, unit_of, unit_of_image}
use Rattle.count_likeness.proofs.Values.{TakesOne, new_way, old_way, one_old, phis_agree}

-- a terminator that returns leads nowhere
returns_nowhere : (val : Operand → Value) (t : Term) (v : Option Value) → choice val t ≡ Leaves v → successors t ≡ []
returns_nowhere val (Br to) v e = absurd (cc)
returns_nowhere val (CondBr c one other prof) v e = absurd (cc)
returns_nowhere val (Switch ty w default cases prof) v e = absurd (cc)
returns_nowhere val (Ret w) v e = refl
returns_nowhere val Unreachable v e = absurd (cc)

module _ (setting : Setting) where
  open setting use {plan, image, most, late, m, fit}

  abbrev made_m : Module
  made_m = made setting

  module _ (fr : Frame) (s : Spot setting fr.function fr.block) where
    abbrev unit : FunctionPlan
    unit = unit_of setting s

    abbrev name : List ℕ
    name = drop 8 unit.symbol

    -- ---- the way out by the successor at a position

    module _ (t : Block) (number position : ℕ) (to : List ℕ) (at : slice_get (successors s.block.term) position ≡ Some to) (there : slice_get s.at_home.function.blocks number ≡ Some t) (named : t.label ≡ to) (goes_on : s.at_home.fits.reached number ≡ true) where
      abbrev target : Spot setting fr.function to
      target = record { at_home = s.at_home; number = number; block = t; at = there; named = named; is_reached = goes_on }

      abbrev new : Option NewBlock
      new = new_at (plan_of setting s) position

      abbrev phis : List Instr
      phis = leading_phis t.instrs

      abbrev made_phis : List Instr
      made_phis = map (renamed_phi (renames_of setting target)) phis

      is : same t.label to ≡ true
      is = ap (same t.label) (sym named) ∙ same_self t.label

      -- the frame of the original, in the target
      abbrev entered : Frame
      entered = entering m fr to phis

      entered_is : entering m fr to (phis_in (sought m fr.function to)) ≡ entered
      entered_is = ap (λ o. entering m fr to (phis_in o)) (found setting target)

      made_phis_are : phis_in (sought made_m fr.function to) ≡ made_phis
      made_phis_are = ap phis_in (made_there setting target) ∙ phis_there unit (plan_of setting target) (renames_of setting target) t.instrs

      -- the phis take the same values, from the block's label or another one
      agree_behind : (rt : Registers) → Agree (IsOld unit) fr.registers rt → (from' : List ℕ) →
          ((es : Entries) → (i : ℕ) (y : Instr) → slice_get t.instrs i ≡ Some y → entries_of y ≡ Some es → TakesOne unit m made_m (symbols_same setting) fr.registers fr.registers (λ r old. refl) s.block.label from' (renames_of setting target) es) →
          Agree (IsOld unit) entered.registers (with_phis made_m rt from' made_phis rt)
      agree_behind rt agree from' takes =
          agree_phis (IsOld unit) m made_m fr.registers rt fr.block from' phis made_phis
          (subst (λ (l : List ℕ). PhisAgree (IsOld unit) m made_m fr.registers rt l from' phis made_phis) s.named
          (phis_agree unit m made_m (symbols_same setting) fr.registers rt agree s.block.label from' (renames_of setting target) phis
          (λ i y e. (fits_block setting target).phi_reads i y (get_taken (phi_count t.instrs) t.instrs i y e))
          (λ i y es e f. takes es i y (get_taken (phi_count t.instrs) t.instrs i y e) f)))
          fr.registers rt agree

      abbrev head : Option ℕ
      head = (plan_of setting target).head

      -- without a new block
      old_comes : (p : ℕ) (rt : Registers) (x : Option (List ℕ × Ty)) → Agree (IsOld unit) fr.registers rt → new ≡ None →
          Comes setting (length (listed head)) (marked name (listed head)) entered (entering made_m (twin setting fr p rt x) to (phis_in (sought made_m fr.function to)))
      old_comes p rt x agree none =
          subst (λ (l : List ℕ). Comes setting (length (listed head)) (marked name (listed head)) entered (record { function = fr.function; block = to; place = 0; registers = with_phis made_m rt l (phis_in (sought made_m fr.function to)) rt; base = fr.base; into = x })) s.named
          (subst (λ (ps : List Instr). Comes setting (length (listed head)) (marked name (listed head)) entered (record { function = fr.function; block = to; place = 0; registers = with_phis made_m rt s.block.label ps rt; base = fr.base; into = x })) (sym made_phis_are)
          (head_comes setting entered refl target (with_phis made_m rt s.block.label made_phis rt) x
          (agree_behind rt agree s.block.label (λ es i y e f. old_way unit s.at_home.function.blocks s.at_home.fits.distinct s.number s.block s.at position to t.label at is none es ((fits_block setting target).entries i y es e f)))))

      -- with one
      module _ (one : NewBlock) (here : new ≡ Some one) where
        abbrev new_block : Block
        new_block = block_with one.label (increments unit one.counter) (Br to)

        new_there : sought made_m fr.function one.label ≡ Some new_block
        new_there = ap (λ o. option_and_then (λ (f : Function). block_named f.blocks one.label) o) s.at_home.made_of
            ∙ new_found unit s.at_home.function.blocks s.at_home.fits.distinct t.label s.number s.block position to one s.at at is here

        module _ (rt : Registers) (x : Option (List ℕ × Ty)) (agree : Agree (IsOld unit) fr.registers rt) where
          abbrev inside : Frame
          inside = record { function = fr.function; block = one.label; place = 0; registers = rt; base = fr.base; into = x }

          in_front : drop 0 (behind_phis new_block.instrs) ≡ increments unit one.counter ++ []
          in_front = new_behind unit one.counter ∙ sym (append-nil (increments unit one.counter))

          inner : Row made_m (IsOld unit) inside (increments unit one.counter) (marked name (listed one.counter))
          inner = increments_row made_m (IsOld unit) inside new_block [] new_there unit one.counter in_front

          abbrev counted : Frame
          counted = placed made_m inside (0 + length (increments unit one.counter)) inner.registers

          abbrev behind : Frame
          behind = record { function = fr.function; block = to; place = 0; registers = with_phis made_m inner.registers one.label (phis_in (sought made_m fr.function to)) inner.registers; base = fr.base; into = x }

          branches : (below : List Frame) (shared : Shared) → step made_m (state (counted ∷ below) shared) ≡ goes_to (behind ∷ below) shared (Walked fr.function one.label 0 ∷ [])
          branches below shared =
              ap (done_in made_m counted below shared) new_there
              ∙ ap (λ is. done made_m counted below shared is (Br to)) (drop_row 0 (behind_phis new_block.instrs) (increments unit one.counter) [] in_front)

          through : (below : List Frame) (shared : Shared) → many (step made_m) (length (increments unit one.counter) + 1) (state (inside ∷ below) shared) ≡ Goes (inner.shown ++ (Walked fr.function one.label 0 ∷ [])) (state (behind ∷ below) shared)
          through below shared =
              many_add (step made_m) (length (increments unit one.counter)) 1 (state (inside ∷ below) shared)
              ∙ ap (λ y. then_go y (many (step made_m) 1)) (inner.goes below shared)
              ∙ ap (more_shown inner.shown) (many_one (step made_m) (state (counted ∷ below) shared) ∙ branches below shared)

          behind_comes : Comes setting (length (listed head)) (marked name (listed head)) entered behind
          behind_comes =
              subst (λ (ps : List Instr). Comes setting (length (listed head)) (marked name (listed head)) entered (record { function = fr.function; block = to; place = 0; registers = with_phis made_m inner.registers one.label ps inner.registers; base = fr.base; into = x })) (sym made_phis_are)
              (head_comes setting entered refl target (with_phis made_m inner.registers one.label made_phis inner.registers) x
              (agree_behind inner.registers (inner.keeps fr.registers agree) one.label
              (λ es i y e f. new_way unit s.at_home.function.blocks s.at_home.fits.distinct s.number s.block s.at position to t.label at is one here es ((fits_block setting target).entries i y es e f))))

          inside_comes : Comes setting (suc (length (listed one.counter)) + length (listed head)) (marked name (listed one.counter) ++ marked name (listed head)) entered inside
          inside_comes =
              subst₂ (λ (c : ℕ) (want : List Item). Comes setting c want entered inside)
              (let e = increments_length unit one.counter in omega (arith, e))
              (ap (λ w. w ++ marked name (listed head)) ((owned_view setting).more inner.shown (Walked fr.function one.label 0 ∷ []) ∙ append-nil (owned inner.shown) ∙ inner.looks))
              (chain (imaged image) owned (Owes image) (owned_view setting) m made_m (Stands setting) (bases setting)
              (length (increments unit one.counter) + 1) (length (listed head)) (marked name (listed head)) entered inside behind (inner.shown ++ (Walked fr.function one.label 0 ∷ [])) through refl behind_comes)

        new_comes : (p : ℕ) (rt : Registers) (x : Option (List ℕ × Ty)) → Agree (IsOld unit) fr.registers rt →
            Comes setting (suc (length (listed one.counter)) + length (listed head)) (marked name (listed one.counter) ++ marked name (listed head)) entered (entering made_m (twin setting fr p rt x) one.label (phis_in (sought made_m fr.function one.label)))
        new_comes p rt x agree =
            subst (λ (ps : List Instr). Comes setting (suc (length (listed one.counter)) + length (listed head)) (marked name (listed one.counter) ++ marked name (listed head)) entered (entering made_m (twin setting fr p rt x) one.label ps))
            (sym (ap phis_in new_there ∙ new_phis unit one.counter)) (inside_comes rt x agree)

      -- both, by the new block or none
      comes : (p : ℕ) (rt : Registers) (x : Option (List ℕ × Ty)) → Agree (IsOld unit) fr.registers rt → (o : Option NewBlock) → new ≡ o →
          Comes setting (steps_in o + length (listed head)) (marked name (counters_in o) ++ marked name (listed head)) entered (entering made_m (twin setting fr p rt x) (led_to o to) (phis_in (sought made_m fr.function (led_to o to))))
      comes p rt x agree None e =
          subst (λ (c : ℕ). Comes setting c (marked name (listed head)) entered (entering made_m (twin setting fr p rt x) to (phis_in (sought made_m fr.function to)))) (sym (zero-add (length (listed head)))) (old_comes p rt x agree e)
      comes p rt x agree (Some one) e = new_comes one e p rt x agree

    -- ---- the terminator, behind the counter before it

    module _ (p : ℕ) (rt : Registers) (x : Option (List ℕ × Ty)) (rest rest' : List Frame) (shared : Shared) (agree : Agree (IsOld unit) fr.registers rt) (below : Behind setting fr.into x rest rest')
        (front : List Shown) (looks : owned front ≡ marked name (listed (plan_of setting s).tail)) (quiet : printed (front ++ []) ≡ []) where
      abbrev ft : Frame
      ft = twin setting fr p rt x

      -- it takes a successor
      walked_both : (position : ℕ) (to : List ℕ) → slice_get (successors s.block.term) position ≡ Some to → (w : WayFits fr.function unit image most s.at_home.function s.at_home.fits.reached (plan_of setting s) s.block position to) →
          Together setting (steps_in (new_at (plan_of setting s) position) + length (listed (block_plan unit.blocks w.number).head))
          (walked m fr rest shared position (Some to)) front (walked made_m ft rest' shared position (Some (led_to (new_at (plan_of setting s) position) to)))
      walked_both position to at w =
          let o : Option NewBlock = new_at (plan_of setting s) position in
          let t : Option ℕ = (plan_of setting s).tail in
          let h : Option ℕ = (block_plan unit.blocks w.number).head in
          let same_counters : imaged image (Walked fr.function fr.block position ∷ []) ≡ owned front ++ (marked name (counters_in o) ++ marked name (listed h)) =
          append-nil (marked (image.unit fr.function) (image.way fr.function fr.block position))
          ∙ (λ i. marked (unit_of_image setting s i) (image.way fr.function (sym s.named i) position))
          ∙ ap (marked name) w.counters
          ∙ marked-append name (listed t) (counters_in o ++ listed h)
          ∙ ap (λ l. marked name (listed t) ++ l) (marked-append name (counters_in o) (listed h))
          ∙ ap (λ l. l ++ (marked name (counters_in o) ++ marked name (listed h))) (sym looks) in
          subst (λ (A : Frame). Together setting (steps_in o + length (listed h)) (goes_to (A ∷ rest) shared (Walked fr.function fr.block position ∷ [])) front (walked made_m ft rest' shared position (Some (led_to o to))))
          (sym (entered_is w.block w.number position to at w.at w.named w.goes_on))
          (arrive_both (imaged image) owned (Owes image) (owned_view setting) m made_m (Stands setting) (bases setting)
          (steps_in o + length (listed h)) (marked name (counters_in o) ++ marked name (listed h)) (entered w.block w.number position to at w.at w.named w.goes_on) (entering made_m ft (led_to o to) (phis_in (sought made_m fr.function (led_to o to)))) rest rest' shared shared front
          (Walked fr.function fr.block position ∷ []) (Walked fr.function fr.block position ∷ []) refl same_counters
          (comes w.block w.number position to at w.at w.named w.goes_on p rt x agree o refl) below)

      -- it returns
      returned_alike : (v : Option Value) → successors s.block.term ≡ [] → Together setting 1 (returned fr rest shared v) front (returned ft rest' shared v)
      returned_alike v nowhere =
          let t : Option ℕ = (plan_of setting s).tail in
          let same_counters : imaged image (Walked fr.function fr.block 0 ∷ []) ≡ owned front ++ [] =
          append-nil (marked (image.unit fr.function) (image.way fr.function fr.block 0))
          ∙ (λ i. marked (unit_of_image setting s i) (image.way fr.function (sym s.named i) 0))
          ∙ ap (marked name) ((fits_block setting s).exit nowhere)
          ∙ sym looks ∙ sym (append-nil (owned front)) in
          let whole : imaged image (Walked fr.function fr.block 0 ∷ []) ≡ owned (front ++ (Walked fr.function fr.block 0 ∷ [])) = same_counters ∙ sym ((owned_view setting).more front (Walked fr.function fr.block 0 ∷ [])) in
          returned_both (imaged image) owned (Owes image) (owned_view setting) m made_m (Stands setting) (bases setting)
          fr ft rest rest' shared front v refl below same_counters
          (λ w. (same_printed image (Walked fr.function fr.block 0 ∷ []) (front ++ (Walked fr.function fr.block 0 ∷ [])) whole, λ h. whole))

    module _ (p : ℕ) (rt : Registers) (x : Option (List ℕ × Ty)) (rest rest' : List Frame) (shared : Shared) (ahead : Left setting s fr.place p) (agree : Agree (IsOld unit) fr.registers rt) (below : Behind setting fr.into x rest rest')
        (e : drop fr.place (behind_phis s.block.instrs) ≡ []) where
      abbrev tail : Option ℕ
      tail = (plan_of setting s).tail

      in_row : drop p (behind_phis (made_block setting s).instrs) ≡ increments unit tail ++ []
      in_row = ahead ∙ ap (counted_from unit (plan_of setting s) fr.place) e ∙ sym (append-nil (increments unit tail))

      row : Row made_m (IsOld unit) (twin setting fr p rt x) (increments unit tail) (marked name (listed tail))
      row = increments_row made_m (IsOld unit) (twin setting fr p rt x) (made_block setting s) [] (made_there setting s) unit tail in_row

      abbrev last : Frame
      last = twin setting fr (p + length (increments unit tail)) row.registers x

      abbrev chosen : Choice
      chosen = choice (value_of m fr.registers) s.block.term

      first_step : step m (state (fr ∷ rest) shared) ≡ left m fr rest shared (successors s.block.term) chosen
      first_step = ap (done_in m fr rest shared) (found setting s) ∙ ap (λ is. done m fr rest shared is s.block.term) e

      same_choice : choice (value_of made_m row.registers) (led (plan_of setting s) s.block.term) ≡ chosen
      same_choice =
          led_choice (value_of made_m row.registers) (plan_of setting s) s.block.term
          ∙ sym (choice_same (value_of m fr.registers) (value_of made_m row.registers) s.block.term
          (value_same_one (IsOld unit) m made_m (symbols_same setting) fr.registers row.registers (row.keeps fr.registers agree) (term_operand s.block.term)
          (one_old unit (term_operand s.block.term) (fits_block setting s).term_reads)))

      second_step : step made_m (state (last ∷ rest') shared) ≡ left made_m last rest' shared (successors (led (plan_of setting s) s.block.term)) chosen
      second_step =
          ap (done_in made_m last rest' shared) (made_there setting s)
          ∙ ap (λ is. done made_m last rest' shared is (made_block setting s).term) (drop_row p (behind_phis (made_block setting s).instrs) (increments unit tail) [] in_row)
          ∙ ap (left made_m last rest' shared (successors (led (plan_of setting s) s.block.term))) same_choice

      abbrev IsMatched : Type 0
      IsMatched = Matched (imaged image) owned (Owes image) (step made_m) most (Kept setting) (step m (state (fr ∷ rest) shared)) (state (twin setting fr p rt x ∷ rest') shared)

      by_choice : (c : ℕ) (ch : Choice) → chosen ≡ ch → suc (length (increments unit tail) + c) ≤ most → Together setting c (left m fr rest shared (successors s.block.term) ch) row.shown (left made_m last rest' shared (successors (led (plan_of setting s) s.block.term)) ch) → IsMatched
      by_choice c ch is room both =
          by_many (imaged image) owned (Owes image) (owned_view setting) m made_m (Stands setting) (bases setting)
          most (length (increments unit tail)) c (step m (state (fr ∷ rest) shared)) (state (twin setting fr p rt x ∷ rest') shared) (state (last ∷ rest') shared) row.shown room (row.goes rest' shared)
          (subst (λ (a : Step). Together setting c a row.shown (step made_m (state (last ∷ rest') shared))) (sym (first_step ∙ ap (left m fr rest shared (successors s.block.term)) is))
          (subst (λ (a : Step). Together setting c (left m fr rest shared (successors s.block.term) ch) row.shown a) (sym (second_step ∙ ap (left made_m last rest' shared (successors (led (plan_of setting s) s.block.term))) is)) both))

      exit_room : suc (length (increments unit tail) + 1) ≤ most
      exit_room = (let c = (fits_block setting s).exit_cost in let l = increments_length unit tail in omega (arith, c, l))

      takes : (position : ℕ) → chosen ≡ Takes position → (o : Option (List ℕ)) → slice_get (successors s.block.term) position ≡ o → IsMatched
      takes position is None none =
          by_choice 0 (Takes position) is (omega (arith, exit_room))
          (subst₂ (λ (a b : Option (List ℕ)). Together setting 0 (walked m fr rest shared position a) row.shown (walked made_m last rest' shared position b)) (sym none)
          (sym (led_successor (plan_of setting s) s.block.term position ∙ ap (option_map (led_to (new_at (plan_of setting s) position))) none))
          (trap_together setting 0 row.shown row.quiet trap.Unreachable))
      takes position is (Some to) at =
          let w = (fits_block setting s).ways position to at in
          let cost = w.cost in
          let l = increments_length unit tail in
          by_choice (steps_in (new_at (plan_of setting s) position) + length (listed (block_plan unit.blocks w.number).head)) (Takes position) is (omega (arith, cost, l))
          (subst₂ (λ (a b : Option (List ℕ)). Together setting (steps_in (new_at (plan_of setting s) position) + length (listed (block_plan unit.blocks w.number).head)) (walked m fr rest shared position a) row.shown (walked made_m last rest' shared position b)) (sym at)
          (sym (led_successor (plan_of setting s) s.block.term position ∙ ap (option_map (led_to (new_at (plan_of setting s) position))) at))
          (walked_both (p + length (increments unit tail)) row.registers x rest rest' shared (row.keeps fr.registers agree) below row.shown row.looks row.quiet position to at w))

      pub term_matched : IsMatched
      term_matched = by chosen refl
        where
          by : (ch : Choice) → chosen ≡ ch → IsMatched
          by (Takes position) is = takes position is (slice_get (successors s.block.term) position) refl
          by (Leaves v) is =
              by_choice 1 (Leaves v) is exit_room
              (returned_alike (p + length (increments unit tail)) row.registers x rest rest' shared (row.keeps fr.registers agree) below row.shown row.looks row.quiet v (returns_nowhere (value_of m fr.registers) s.block.term v is))
          by (Breaks kind) is = by_choice 0 (Breaks kind) is (omega (arith, exit_room)) (trap_together setting 0 row.shown row.quiet kind)
