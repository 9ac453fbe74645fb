-- The items of a function that read a register which isn't assigned on every walk to them.
use Rattle.std.specs.Prelude.{◌≡◌, ℕ, not, List, ◌++◌, length, map}
use Rattle.ir_rules.specs.Assigned.{assigned, is_ready, is_ready_term}
use Rattle.ir_rules.specs.Parts.{function_places, place}
use Rattle.ir_tree.specs.declared.types.Block.{Block}
use Rattle.ir_tree.specs.declared.types.Function.{Function}
use Rattle.spec_lists.specs.Each.{each, only_if}

-- each as its block and its item in it, the terminator behind all instructions
abbrev pub unready_in : Function → ℕ → Block → List (ℕ × ℕ)
unready_in f b block = each (λ i x. only_if (not (is_ready f b block i x)) (b, i)) 0 block.instrs ++ only_if (not (is_ready_term f b block)) (b, length block.instrs)

abbrev pub unready : Function → List (ℕ × ℕ)
unready f = each (unready_in f) 0 f.blocks

-- they are the places that break rule 16 in the function
abbrev pub UnreadyArePlaces : Type 0
UnreadyArePlaces = (k : ℕ) (f : Function) → function_places assigned k f ≡ map (λ at. place k at.0 at.1) (unready f)
