-- New blocks on the ways out of blocks: where terminators lead then, and which blocks the phis behind them name.
use Rattle.std.specs.Prelude.{ℕ, ◌+◌, Bool, true, false, List, [], ◌∷◌, Option, None, Some, slice_index_or}
use Rattle.count_plan.specs.declared.plan.BlockPlan.{BlockPlan}
use Rattle.count_plan.specs.declared.plan.NewBlock.{NewBlock}
use Rattle.ir_tree.specs.Names.{same}
use Rattle.ir_tree.specs.Operands.{Entries}
use Rattle.ir_tree.specs.Phis.{rename_first}
use Rattle.ir_tree.specs.Successors.{successors}
use Rattle.ir_tree.specs.declared.types.Block.{Block}
use Rattle.ir_tree.specs.declared.types.Instr.{Instr}
use Rattle.ir_tree.specs.declared.types.Instr.TheVariants.{Binary, Compare, Convert, Freeze, Select, Phi, Alloca, Load, Store, Gep, Call, Count}
use Rattle.ir_tree.specs.declared.types.Term.{Term}
use Rattle.ir_tree.specs.declared.types.Term.TheVariants.{Br, CondBr, Switch, Ret, Unreachable}
use Rattle.spec_lists.specs.Each.{each}

-- the plan that puts nothing into a block
abbrev pub no_block_plan : BlockPlan
no_block_plan = record { head = None; watches = []; tail = None; edges = [] }

-- the plan of the block of this number
abbrev pub block_plan : List BlockPlan → ℕ → BlockPlan
block_plan plans j = slice_index_or plans j no_block_plan

-- the new block on the way out by the successor at this position
abbrev pub new_at : BlockPlan → ℕ → Option NewBlock
new_at plan p = slice_index_or plan.edges p None

-- ---- terminators

-- where a way out leads that led to this label
abbrev pub led_to : Option NewBlock → List ℕ → List ℕ
led_to None to = to
led_to (Some new) to = new.label

-- the cases of a switch, the first of them at successor position p
abbrev pub led_cases : BlockPlan → ℕ → List (ℕ × List ℕ) → List (ℕ × List ℕ)
led_cases plan p [] = []
led_cases plan p (c ∷ cs) = (c.0, led_to (new_at plan p) c.1) ∷ led_cases plan (p + 1) cs

abbrev pub led : BlockPlan → Term → Term
led plan (Br to) = Br (led_to (new_at plan 0) to)
led plan (CondBr c first second prof) = CondBr c (led_to (new_at plan 0) first) (led_to (new_at plan 1) second) prof
led plan (Switch ty v default cases prof) = Switch ty v (led_to (new_at plan 0) default) (led_cases plan 1 cases) prof
led plan (Ret v) = Ret v
led plan Unreachable = Unreachable

-- ---- phis

-- the label of a block, and that of the new block on a way out of it, where there is one and the way leads to the label looked for
abbrev pub renaming : Bool → List ℕ → Option NewBlock → List (List ℕ × List ℕ)
renaming false tail new = []
renaming true tail None = []
renaming true tail (Some new) = (tail, new.label) ∷ []

-- the same for all ways from a block to the block labelled l, in order of position
abbrev pub renamings_from : List ℕ → BlockPlan → Block → List (List ℕ × List ℕ)
renamings_from l plan b = each (λ p to. renaming (same l to) b.label (new_at plan p)) 0 (successors b.term)

-- and for all ways to the block labelled l, in text order
abbrev pub renamings : List BlockPlan → List Block → List ℕ → List (List ℕ × List ℕ)
renamings plans bs l = each (λ j b. renamings_from l (block_plan plans j) b) 0 bs

-- for each new block in turn the first entry for the block before it names the new one
abbrev pub renamed : List (List ℕ × List ℕ) → Entries → Entries
renamed [] es = es
renamed (r ∷ rs) es = renamed rs (rename_first r.0 r.1 es)

abbrev pub renamed_phi : List (List ℕ × List ℕ) → Instr → Instr
renamed_phi rs (Binary into op flags ty left right) = Binary into op flags ty left right
renamed_phi rs (Compare into pred ty left right) = Compare into pred ty left right
renamed_phi rs (Convert into op flags from value to) = Convert into op flags from value to
renamed_phi rs (Freeze into ty value) = Freeze into ty value
renamed_phi rs (Select into c ty first second prof) = Select into c ty first second prof
renamed_phi rs (Phi into ty entries) = Phi into ty (renamed rs entries)
renamed_phi rs (Alloca into mem) = Alloca into mem
renamed_phi rs (Load into ty address) = Load into ty address
renamed_phi rs (Store ty value address) = Store ty value address
renamed_phi rs (Gep into inbounds mem address indices) = Gep into inbounds mem address indices
renamed_phi rs (Call into ret callee values prof) = Call into ret callee values prof
renamed_phi rs (Count symbol size index step) = Count symbol size index step
