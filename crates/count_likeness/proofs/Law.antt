-- The law: the module that counts behaves as the original, and its marks are the counted marks of what that shows.
use Rattle.std.proofs.Common.{◌≡◌, ℕ, ◌+◌, ◌*◌, ◌≤◌, List, [], ◌∷◌, length, drop, Option, Some, None, slice_get, refl, sym, ◌∙◌, ap, subst, subst₂, arith, inl, inr, ◌⊎◌}
use Rattle.std.proofs.lemmas.List.{append-nil}
use Rattle.spec_lists.specs.Each.{each}
use Rattle.ir_model.specs.declared.result.Call.{Call}
use Rattle.ir_model.specs.Run.{begun, marks, run_of}
use Rattle.ir_model.specs.State.{Frame, Registers, Shared, State, Shown, Stop, Returns, printed}
use Rattle.ir_model.specs.Step.{step}
use Rattle.ir_tree.specs.Functions.{function_at}
use Rattle.ir_tree.specs.Operands.{listed}
use Rattle.ir_tree.specs.Phis.{behind_phis}
use Rattle.ir_tree.specs.declared.types.Block.{Block}
use Rattle.ir_tree.specs.declared.types.Function.{Function}
use Rattle.ir_tree.specs.declared.types.Instr.{Instr}
use Rattle.ir_tree.specs.declared.types.Module.{Module}
use Rattle.ir_tree.specs.declared.types.Ty.{Ty}
use Rattle.ir_likeness.specs.Like.{AreLike}
use Rattle.ir_likeness.proofs.Frames.{FirstBlocks, Twin, begins, begun_both, sooner, state}
use Rattle.ir_likeness.proofs.Like.{Bytes, like_by}
use Rattle.ir_likeness.proofs.Registers.{Agree}
use Rattle.spec_machines.specs.Machine.{Ran, Open, Ended, more_shown, then_go, many, Next, Goes, Stops}
use Rattle.spec_machines.specs.Simulation.{Alike, Matched, Reaches, Simulates}
use Rattle.spec_machines.proofs.Steps.{ahead_from, simulates_to}
use Rattle.count_plan.specs.Counted.{counted_block, counted_function, counted_module, counted_pieces}
use Rattle.count_plan.specs.Ways.{block_plan}
use Rattle.count_likeness.proofs.Setting.{Setting}
use Rattle.count_likeness.specs.Fits.{IsOld}
use Rattle.count_likeness.specs.Image.{MarksAre, counted_marks}
use Rattle.count_likeness.proofs.Items.{Owes, ReturnsSo, imaged, imaged_marks, owned, owned_marks, same_printed, stays_owed, whats}
use Rattle.count_likeness.proofs.Leaving.{term_matched}
use Rattle.count_likeness.proofs.Modules.{home, memory_same, signatures_same}
use Rattle.count_likeness.proofs.Rows.{marked}
use Rattle.count_likeness.proofs.Simulation.{Behind, Homed, Kept, Left, Spot, Stands, bases, head_comes, imaged_view, made, owned_view, twin, unit_of}
use Rattle.count_likeness.proofs.Watched.{instr_matched}

module _ (setting : Setting) where
  open setting use {plan, image, most, late, m, fit}

  abbrev made_m : Module
  made_m = made setting

  -- ---- functions in both

  abbrev TwinsIn : ℕ → ℕ → Option Function → Option Function → Type 0
  TwinsIn c k = Twin (imaged image) owned (Owes image) (owned_view setting) m made_m (Stands setting) (bases setting) c k

  module _ (k : ℕ) (h : Homed setting k) (c : ℕ) (few : length (listed (block_plan h.unit.blocks 0).head) ≤ c) where
    first_blocks : (bs : List Block) → h.function.blocks ≡ bs → FirstBlocks (imaged image) owned (Owes image) (owned_view setting) m made_m (Stands setting) (bases setting) c k h.function (counted_function h.unit h.function) bs (each (counted_pieces h.unit h.function.blocks) 0 bs)
    first_blocks [] e = tt
    first_blocks (b ∷ bs) e = (
      marked (drop 8 h.unit.symbol) (listed (block_plan h.unit.blocks 0).head),
      append-nil (marked (image.unit k) (image.entry k)) ∙ (λ i. marked (h.fits.named i) (h.fits.enters b at i)),
      λ values base into into'.
          sooner (imaged image) owned (Owes image) (owned_view setting) m made_m (Stands setting) (bases setting)
          (length (listed (block_plan h.unit.blocks 0).head)) c (marked (drop 8 h.unit.symbol) (listed (block_plan h.unit.blocks 0).head)) (begins k h.function b values base into)
          (begins k (counted_function h.unit h.function) (counted_block h.unit h.function.blocks (block_plan h.unit.blocks 0) b) values base into') few
          (head_comes setting (begins k h.function b values base into) refl
          (record { at_home = h; number = 0; block = b; at = at; named = refl; is_reached = h.fits.entry }) (begins k h.function b values base into).registers into' (λ r old. refl)),
    )
      where
        at : slice_get h.function.blocks 0 ≡ Some b
        at = ap (λ l. slice_get l 0) e

    home_twins : TwinsIn c k (function_at m k) (function_at made_m k)
    home_twins = subst₂ (λ (a b : Option Function). TwinsIn c k a b) (sym h.original) (sym h.made_of)
        (record { names = refl; rets = refl; params = refl; blocks = first_blocks h.function.blocks refl })

  twins_by : (k c : ℕ) → ((h : Homed setting k) → length (listed (block_plan h.unit.blocks 0).head) ≤ c) → TwinsIn c k (function_at m k) (function_at made_m k)
  twins_by k c few = by (home setting k)
    where
      by : ((function_at m k ≡ None) × (function_at made_m k ≡ None)) ⊎ Homed setting k → TwinsIn c k (function_at m k) (function_at made_m k)
      by (inl (a, b)) = subst₂ (λ (a b : Option Function). TwinsIn c k a b) (sym a) (sym b) tt
      by (inr h) = home_twins k h c (few h)

  one_at_most : (o : Option ℕ) → length (listed o) ≤ 1
  one_at_most None = omega arith
  one_at_most (Some c) = omega arith

  twins : (k : ℕ) → TwinsIn 1 k (function_at m k) (function_at made_m k)
  twins k = twins_by k 1 (λ h. one_at_most (block_plan h.unit.blocks 0).head)

  -- ---- the simulation

  abbrev MatchedAt : List Frame → List Frame → Shared → Type 0
  MatchedAt frames frames' shared = Matched (imaged image) owned (Owes image) (step made_m) most (Kept setting) (step m (state frames shared)) (state frames' shared)

  at_frame : (fr : Frame) (s : Spot setting fr.function fr.block) (p : ℕ) (rt : Registers) (x : Option (List ℕ × Ty)) (rest rest' : List Frame) (shared : Shared) → Left setting s fr.place p → Agree (IsOld (unit_of setting s)) fr.registers rt → Behind setting fr.into x rest rest' →
      MatchedAt (fr ∷ rest) (twin setting fr p rt x ∷ rest') shared
  at_frame fr s p rt x rest rest' shared ahead agree below = by (drop fr.place (behind_phis s.block.instrs)) refl
    where
      by : (is : List Instr) → drop fr.place (behind_phis s.block.instrs) ≡ is → MatchedAt (fr ∷ rest) (twin setting fr p rt x ∷ rest') shared
      by [] e = term_matched setting fr s p rt x rest rest' shared ahead agree below e
      by (y ∷ ys) e = instr_matched setting fr s p rt x rest rest' shared ahead agree below twins y ys e

  at_frames : (frames frames' : List Frame) (shared shared' : Shared) → Kept setting (state frames shared) (state frames' shared') → Matched (imaged image) owned (Owes image) (step made_m) most (Kept setting) (step m (state frames shared)) (state frames' shared')
  at_frames [] [] shared shared' kept = (0, (let h = fit.some in omega (arith, h)), ((refl, λ h. absurd h), refl))
  at_frames [] (ft ∷ rest') shared shared' kept = absurd kept.0
  at_frames (fr ∷ rest) [] shared shared' kept = absurd kept.0
  at_frames (fr ∷ rest) (ft ∷ rest') shared shared' kept =
      subst (λ (sh : Shared). Matched (imaged image) owned (Owes image) (step made_m) most (Kept setting) (step m (state (fr ∷ rest) shared)) (state (ft ∷ rest') sh)) (sym kept.1)
      (subst (λ (f : Frame). MatchedAt (fr ∷ rest) (f ∷ rest') shared) (sym (kept.0.0).same)
      (at_frame fr (kept.0.0).spot ft.place ft.registers ft.into rest rest' shared (kept.0.0).rest (kept.0.0).agree kept.0.1))

  simulates : Simulates (imaged image) owned (Owes image) (step m) (step made_m) most (Kept setting)
  simulates s t kept = at_frames s.frames t.frames s.shared t.shared kept

  starts : (c : Call) → (j : ℕ) × (j ≤ late) × Alike (imaged image) owned (Owes image) (Kept setting) (begun m c.function c.args (function_at m c.function)) (more_shown [] (then_go (begun made_m c.function c.args (function_at made_m c.function)) (many (step made_m) j)))
  starts c =
      begun_both (imaged image) owned (Owes image) (owned_view setting) m made_m (Stands setting) (bases setting)
      late (λ kind. (refl, λ h. absurd h)) (memory_same setting) c.function c.args (function_at m c.function) (function_at made_m c.function)
      (twins_by c.function late (λ h. h.fits.start))

  nothing_first : (x : Next Shown Stop State) → more_shown [] x ≡ x
  nothing_first (Goes o s) = refl
  nothing_first (Stops o e) = refl

  begins_alike : (c : Call) → (j : ℕ) × (j ≤ late) × Alike (imaged image) owned (Owes image) (Kept setting) (begun m c.function c.args (function_at m c.function)) (then_go (begun made_m c.function c.args (function_at made_m c.function)) (many (step made_m) j))
  begins_alike c =
      let s = starts c in (
        s.0,
        s.1,
        subst (λ (y : Next Shown Stop State). Alike (imaged image) owned (Owes image) (Kept setting) (begun m c.function c.args (function_at m c.function)) y)
            (nothing_first (then_go (begun made_m c.function c.args (function_at made_m c.function)) (many (step made_m) s.0))) s.2,
      )

  -- ---- the same behaviour

  alike_bytes : (x : Next Shown Stop State) (y : Next Shown Stop State) → Alike (imaged image) owned (Owes image) (Kept setting) x y → Alike printed printed Bytes (Kept setting) x y
  alike_bytes (Goes o s) (Goes p t) h = (same_printed image o p h.0, h.1)
  alike_bytes (Goes o s) (Stops p e) h = h
  alike_bytes (Stops o d) (Goes p t) h = h
  alike_bytes (Stops o d) (Stops p e) h = (h.0.0, h.1)

  pub counting_is_like : AreLike m (counted_module plan m) most late
  counting_is_like =
      like_by m made_m most late (Kept setting) (signatures_same setting)
      (simulates_to (imaged image) owned (Owes image) printed printed Bytes (Kept setting) (λ p q e. same_printed image p q e) (λ p q e owed. owed.0) (step m) (step made_m) most simulates)
      (λ c valid. (let s = begins_alike c in (s.0, s.1, alike_bytes _ _ s.2)))

  -- ---- the marks

  reaches : (c : Call) (n : ℕ) → Reaches (imaged image) owned (Owes image) (run_of m c n) (run_of made_m c (most * n + late))
  reaches c n =
      let s = begins_alike c in
      ahead_from (imaged image) owned (Owes image) (step m) (step made_m) most (Kept setting) (imaged_view setting) (owned_view setting) (stays_owed image) simulates
      late s.0 s.1 (begun m c.function c.args (function_at m c.function)) (begun made_m c.function c.args (function_at made_m c.function)) s.2 n

  marks_by : (x y : Ran Shown Stop) → Reaches (imaged image) owned (Owes image) x y → (shown : List Shown) (value : Option ℕ) → x ≡ Ended shown (Returns value) → (shown' : List Shown) × (y ≡ Ended shown' (Returns value)) × (marks shown' ≡ counted_marks image shown)
  marks_by (Open p) y w shown value e = absurd (cc)
  marks_by (Ended p d) (Open q) w shown value e = absurd w
  marks_by (Ended p d) (Ended q f) w shown value e =
      let is : d ≡ Returns value = cc in
      let same_shown : p ≡ shown = cc in (
        q,
        ap (Ended q) (sym w.1 ∙ is),
        sym (owned_marks q) ∙ ap whats (sym (w.0.1 (subst ReturnsSo (sym is) tt))) ∙ imaged_marks image p ∙ ap (counted_marks image) same_shown,
      )

  pub marks_are : MarksAre image m (counted_module plan m) most late
  marks_are c n valid shown value e = marks_by (run_of m c n) (run_of made_m c (most * n + late)) (reaches c n) shown value e
