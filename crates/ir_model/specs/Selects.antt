-- What a select sees, and when it stands in a block.
use Rattle.std.specs.Prelude.{◌≡◌, ℕ, ◌==◌, List, Some, Bool, true, false, not, ◌&&◌, slice_get}
use Rattle.std.specs.List.{count_by}
use Rattle.ir_tree.specs.Graphs.{is_select}
use Rattle.ir_tree.specs.Names.{same}
use Rattle.ir_tree.specs.Phis.{behind_phis}
use Rattle.ir_tree.specs.declared.types.Block.{Block}
use Rattle.ir_tree.specs.declared.types.Instr.{Instr}
use Rattle.ir_tree.specs.declared.types.Module.{Module}
use Rattle.ir_model.specs.State.{What, Added, Noted, Chose, Shown, Did, Targeted, Printed, Entered, Walked}
use Rattle.ir_model.specs.Step.{sought}

-- a condition that was seen, and is true, or is false
abbrev pub is_true : What → Bool
is_true (Added unit counter amount) = false
is_true (Noted unit site callee) = false
is_true (Chose v) = not (v == 0)

abbrev pub is_false : What → Bool
is_false (Added unit counter amount) = false
is_false (Noted unit site callee) = false
is_false (Chose v) = v == 0

-- the instruction at place i of the block of label l in function k shows something of this kind
abbrev pub shows_there : ℕ → List ℕ → ℕ → (What → Bool) → Shown → Bool
shows_there k l i kind (Did g x place what) = ((g == k && same l x) && place == i) && kind what
shows_there k l i kind (Targeted g x place callee) = false
shows_there k l i kind (Printed byte) = false
shows_there k l i kind (Entered g) = false
shows_there k l i kind (Walked g x position) = false

-- how often the select there sees a true condition, and how often a false one
abbrev pub trues : ℕ → List ℕ → ℕ → List Shown → ℕ
trues k l i shown = count_by (shows_there k l i is_true) shown

abbrev pub falses : ℕ → List ℕ → ℕ → List Shown → ℕ
falses k l i shown = count_by (shows_there k l i is_false) shown

-- the instruction at place i behind the phis of the block of label l in function k is a select
abbrev pub IsSelectAt : Module → ℕ → List ℕ → ℕ → Type 0
IsSelectAt m k l i =
    (b : Block) × (x : Instr) × (sought m k l ≡ Some b) × (slice_get (behind_phis b.instrs) i ≡ Some x) × (is_select x ≡ true)
