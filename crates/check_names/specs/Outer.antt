-- The places of rules on globals, on heads of functions, and on the names in functions.
use Rattle.std.specs.Prelude.{ℕ, Bool, List, [], ◌++◌}
use Rattle.ir_rules.specs.Distinct.{is_new_if_any, names_before_item}
use Rattle.ir_rules.specs.Naming.{has_result_name}
use Rattle.ir_rules.specs.Parts.{place, unless}
use Rattle.ir_rules.specs.declared.place.Place.{Place}
use Rattle.ir_tree.specs.Operands.{result_name}
use Rattle.ir_tree.specs.Spelling.{is_local_name}
use Rattle.ir_tree.specs.declared.types.Block.{Block}
use Rattle.ir_tree.specs.declared.types.Function.{Function}
use Rattle.ir_tree.specs.declared.types.Global1.{Global1}
use Rattle.ir_tree.specs.declared.types.Instr.{Instr}
use Rattle.spec_lists.specs.Each.{each}

abbrev pub global_places : (ℕ → Global1 → Bool) → List Global1 → List Place
global_places test globals = each (λ n g. unless (test n g) (place 0 0 n)) 0 globals

abbrev pub head_places : (ℕ → Function → Bool) → List Function → List Place
head_places test functions = each (λ k f. unless (test k f) (place k 0 0)) 0 functions

-- the results of a block, and with its label before them, that are not named as locals may be
abbrev pub result_places : ℕ → ℕ → List Instr → List Place
result_places k b instrs = each (λ i x. unless (has_result_name x) (place k b i)) 0 instrs

abbrev pub misspelled_block : ℕ → ℕ → Block → List Place
misspelled_block k b block = unless (is_local_name block.label) (place k b 0) ++ (result_places k b block.instrs ++ [])

abbrev pub misspelled : ℕ → List Block → List Place
misspelled k blocks = each (misspelled_block k) 0 blocks

-- the results of a block, from instruction n on, whose names stand before them
abbrev pub repeated_items : ℕ → Function → ℕ → Block → ℕ → List Instr → List Place
repeated_items k f b block n instrs = each (λ i x. unless (is_new_if_any (result_name x) (names_before_item f b block i)) (place k b i)) n instrs
