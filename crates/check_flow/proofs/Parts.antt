-- The places that break a rule which speaks of one kind of part.
use Rattle.std.proofs.Common.{◌≡◌, ℕ, ◌+◌, Bool, true, List, [], ◌∷◌, ◌++◌, length, refl, append-nil}
use Rattle.ir_rules.specs.Parts.{function_places, place, silent, unless}
use Rattle.ir_tree.specs.declared.types.Block.{Block}
use Rattle.ir_tree.specs.declared.types.Function.{Function}
use Rattle.ir_tree.specs.declared.types.Instr.{Instr}
use Rattle.spec_lists.specs.Each.{each}

silent_items : (k b n : ℕ) (xs : List Instr) → each (λ i x. unless true (place k b i)) n xs ≡ []
silent_items k b n [] = refl
silent_items k b n (x ∷ xs) = silent_items k b (n + 1) xs

pub exit_rule : (keeps : Function → ℕ → Block → Bool) (k : ℕ) (f : Function) → function_places (record silent { exit = keeps }) k f ≡ each (λ b block. unless (keeps f b block) (place k b (length block.instrs))) 0 f.blocks
exit_rule keeps k f = λ i. each (λ b block. silent_items k b 0 block.instrs i ++ unless (keeps f b block) (place k b (length block.instrs))) 0 f.blocks

pub item_rule : (keeps : Function → ℕ → Block → ℕ → Instr → Bool) (k : ℕ) (f : Function) → function_places (record silent { item = keeps }) k f ≡ each (λ b block. each (λ i x. unless (keeps f b block i x) (place k b i)) 0 block.instrs) 0 f.blocks
item_rule keeps k f = λ j. each (λ b block. append-nil (each (λ i x. unless (keeps f b block i x) (place k b i)) 0 block.instrs) j) 0 f.blocks
