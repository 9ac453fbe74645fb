-- The simulation: a frame of the module that counts stands for one of the original, in the same block, behind the counter of its
-- head; each step of the original is matched.
use Rattle.std.proofs.Common.{◌≡◌, ℕ, ◌+◌, true, List, [], ◌++◌, length, drop, option_and_then, Option, Some, None, slice_get, refl, sym, ◌∙◌, ap, arith}
use Rattle.ir_model.specs.declared.result.TrapKind.{TrapKind}
use Rattle.ir_model.specs.State.{Frame, Registers, State, Shown, Traps, printed}
use Rattle.ir_model.specs.Step.{Step, fails, sought}
use Rattle.ir_model.specs.Values.{functions_of}
use Rattle.ir_tree.specs.Blocks.{block_named}
use Rattle.ir_tree.specs.Operands.{listed}
use Rattle.ir_tree.specs.Phis.{behind_phis}
use Rattle.ir_tree.specs.declared.types.Block.{Block}
use Rattle.ir_tree.specs.declared.types.Function.{Function}
use Rattle.ir_tree.specs.declared.types.Instr.{Instr}
use Rattle.ir_tree.specs.declared.types.Module.{Module}
use Rattle.ir_tree.specs.declared.types.Ty.{Ty}
use Rattle.ir_likeness.proofs.Frames.{Arrives, Below, Both, Related, more_both, trap_both}
use Rattle.ir_likeness.proofs.Registers.{Agree}
use Rattle.spec_machines.specs.Simulation.{IsView}
use Rattle.count_plan.specs.Calls.{increments}
use Rattle.count_plan.specs.Counted.{counted_block, counted_blocks, counted_from, counted_module}
use Rattle.count_plan.specs.Ways.{block_plan, renamings}
use Rattle.count_plan.specs.declared.plan.BlockPlan.{BlockPlan}
use Rattle.count_plan.specs.declared.plan.FunctionPlan.{FunctionPlan}
use Rattle.count_likeness.proofs.Setting.{Setting}
use Rattle.count_likeness.specs.Fits.{BlockFits, IsOld}
use Rattle.count_likeness.proofs.Items.{Item, Owes, imaged, image_one, looked_view, own_one, owned}
use Rattle.count_likeness.proofs.Labels.{made_found, old_found}
use Rattle.spec_items.proofs.Items.{drop_row}
use Rattle.count_likeness.proofs.Modules.{Home}
use Rattle.count_likeness.proofs.Pieces.{behind_there}
use Rattle.count_likeness.proofs.Rows.{increments_row, marked}

pub increments_length : (unit : FunctionPlan) (c : Option ℕ) → length (increments unit c) ≡ length (listed c)
increments_length unit None = refl
increments_length unit (Some c) = refl

module _ (setting : Setting) where
  open setting use {plan, image, most, late, m, fit}

  abbrev pub made : Module
  made = counted_module plan m

  abbrev pub Homed : ℕ → Type 0
  Homed k = Home setting k

  -- ---- a reached block of function k, under its label

  pub record Spot (k : ℕ) (l : List ℕ) : Type 0 where
    pub at_home : Homed k
    pub number : ℕ
    pub block : Block
    pub at : slice_get at_home.function.blocks number ≡ Some block
    pub named : block.label ≡ l
    pub is_reached : at_home.fits.reached number ≡ true

  module _ {k : ℕ} {l : List ℕ} (s : Spot k l) where
    abbrev pub unit_of : FunctionPlan
    unit_of = s.at_home.unit

    abbrev pub plan_of : BlockPlan
    plan_of = block_plan s.at_home.unit.blocks s.number

    abbrev pub renames_of : List (List ℕ × List ℕ)
    renames_of = renamings s.at_home.unit.blocks s.at_home.function.blocks s.block.label

    abbrev pub made_block : Block
    made_block = counted_block s.at_home.unit s.at_home.function.blocks (block_plan s.at_home.unit.blocks s.number) s.block

    pub fits_block : BlockFits (functions_of m) k s.at_home.unit image most s.at_home.function s.at_home.fits.reached (block_plan s.at_home.unit.blocks s.number) s.block
    fits_block = s.at_home.fits.block s.number s.block s.at s.is_reached

    pub found : sought m k l ≡ Some s.block
    found = ap (λ o. option_and_then (λ (f : Function). block_named f.blocks l) o) s.at_home.original
        ∙ ap (block_named s.at_home.function.blocks) (sym s.named)
        ∙ old_found s.at_home.unit s.at_home.function.blocks s.at_home.fits.distinct s.number s.block s.at

    pub made_there : sought made k l ≡ Some made_block
    made_there = ap (λ o. option_and_then (λ (f : Function). block_named f.blocks l) o) s.at_home.made_of
        ∙ ap (block_named (counted_blocks s.at_home.unit s.at_home.function.blocks)) (sym s.named)
        ∙ made_found s.at_home.unit s.at_home.function.blocks s.at_home.fits.distinct s.number s.block s.at made_block (0, refl)

  -- ---- frames

  -- the same frame, at another place and with other registers
  abbrev pub twin : Frame → ℕ → Registers → Option (List ℕ × Ty) → Frame
  twin fr p rt x = record { function = fr.function; block = fr.block; place = p; registers = rt; base = fr.base; into = x }

  -- what is left of a block in both, from the place of a frame of the original and from place p of one of the module that counts
  abbrev pub Left : {k : ℕ} {l : List ℕ} → Spot k l → ℕ → ℕ → Type 0
  Left s i p = drop p (behind_phis (made_block s).instrs) ≡ counted_from (unit_of s) (plan_of s) i (drop i (behind_phis s.block.instrs))

  pub record Stands (fr ft : Frame) : Type 0 where
    pub spot : Spot fr.function fr.block
    pub same : ft ≡ twin fr ft.place ft.registers ft.into
    pub rest : Left spot fr.place ft.place
    pub agree : Agree (IsOld (unit_of spot)) fr.registers ft.registers

  pub bases : (fr ft : Frame) → Stands fr ft → ft.base ≡ fr.base
  bases fr ft stands = ap (λ (x : Frame). x.base) stands.same

  pub stands_at : (fr : Frame) (p : ℕ) (rt : Registers) (x : Option (List ℕ × Ty)) (s : Spot fr.function fr.block) → Left s fr.place p → Agree (IsOld (unit_of s)) fr.registers rt → Stands fr (twin fr p rt x)
  stands_at fr p rt x s rest agree = record { spot = s; same = refl; rest = rest; agree = agree }

  pub imaged_view : IsView (imaged image)
  imaged_view = looked_view (image_one image)

  pub owned_view : IsView owned
  owned_view = looked_view own_one

  abbrev pub Comes : ℕ → List Item → Frame → Frame → Type 0
  Comes = Arrives (imaged image) owned (Owes image) owned_view m made Stands bases

  abbrev pub Behind : Option (List ℕ × Ty) → Option (List ℕ × Ty) → List Frame → List Frame → Type 0
  Behind = Below (imaged image) owned (Owes image) owned_view m made Stands bases

  abbrev pub Together : ℕ → Step → List Shown → Step → Type 0
  Together = Both (imaged image) owned (Owes image) owned_view m made Stands bases

  abbrev pub Kept : State → State → Type 0
  Kept = Related (imaged image) owned (Owes image) owned_view m made Stands bases

  -- a trap owes nothing but what was printed
  pub traps_owed : (front : List Shown) → printed (front ++ []) ≡ [] → (kind : TrapKind) → Owes image [] (front ++ []) (Traps kind)
  traps_owed front quiet kind = (sym quiet, λ h. absurd h)

  pub trap_together : (c : ℕ) (front : List Shown) → printed (front ++ []) ≡ [] → (kind : TrapKind) → Together c (fails kind) front (fails kind)
  trap_together c front quiet kind =
      more_both (imaged image) owned (Owes image) owned_view m made Stands bases 0 c (fails kind) front (fails kind) (omega arith)
      (trap_both (imaged image) owned (Owes image) owned_view m made Stands bases front kind (traps_owed front quiet kind))

  -- ---- the head of a block

  pub unit_of_image : {k : ℕ} {l : List ℕ} (s : Spot k l) → image.unit k ≡ drop 8 (unit_of s).symbol
  unit_of_image s = s.at_home.fits.named

  -- a frame in front of the counter of its block's head comes to stand behind it
  pub head_comes : (A : Frame) → A.place ≡ 0 → (s : Spot A.function A.block) (rt : Registers) (x : Option (List ℕ × Ty)) → Agree (IsOld (unit_of s)) A.registers rt →
      Comes (length (listed (plan_of s).head)) (marked (drop 8 (unit_of s).symbol) (listed (plan_of s).head)) A (twin A 0 rt x)
  head_comes A start s rt x agree =
      let instrs : List Instr = behind_phis s.block.instrs in
      let row = increments_row made (IsOld (unit_of s)) (twin A 0 rt x) (made_block s) (counted_from (unit_of s) (plan_of s) 0 instrs) (made_there s) (unit_of s) (plan_of s).head
      (behind_there (unit_of s) (plan_of s) (renames_of s) s.block.instrs) in
      let rest : Left s A.place (0 + length (increments (unit_of s) (plan_of s).head)) =
      drop_row 0 (behind_phis (made_block s).instrs) (increments (unit_of s) (plan_of s).head) (counted_from (unit_of s) (plan_of s) 0 instrs) (behind_there (unit_of s) (plan_of s) (renames_of s) s.block.instrs)
      ∙ ap (λ i. counted_from (unit_of s) (plan_of s) i (drop i instrs)) (sym start) in
      λ below shared. record {
        steps = length (increments (unit_of s) (plan_of s).head);
        few = (let e = increments_length (unit_of s) (plan_of s).head in omega (arith, e));
        frame = twin A (0 + length (increments (unit_of s) (plan_of s).head)) row.registers x;
        shown = row.shown;
        looks = row.looks;
        goes = row.goes below shared;
        stands = stands_at A (0 + length (increments (unit_of s) (plan_of s).head)) row.registers x s rest (row.keeps A.registers agree);
        same_into = refl;
      }
