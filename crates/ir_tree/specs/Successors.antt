-- Where a block leads (LLVM Language Reference, "Terminator Instructions").
use Rattle.std.specs.Prelude.{ℕ, zero, suc, List, [], ◌∷◌, map, max, length}
use Rattle.ir_tree.specs.declared.types.Block.{Block}
use Rattle.ir_tree.specs.declared.types.Term.{Term}
use Rattle.ir_tree.specs.declared.types.Term.TheVariants.{Br, CondBr, Switch, Ret, Unreachable}

-- The labels that a terminator names, in order. A successor is named by its position, counted from 0: the default of a
-- switch comes first, then its cases
abbrev pub successors : Term → List (List ℕ)
successors (Br to) = to ∷ []
successors (CondBr c first second prof) = first ∷ second ∷ []
successors (Switch ty v default cases prof) = default ∷ map (λ c. c.1) cases
successors (Ret v) = []
successors Unreachable = []

-- the values of a switch's cases, in order
abbrev pub case_values : Term → List ℕ
case_values (Br to) = []
case_values (CondBr c first second prof) = []
case_values (Switch ty v default cases prof) = map (λ c. c.0) cases
case_values (Ret v) = []
case_values Unreachable = []

-- how many ways lead out of a block: its successor positions, or one exit where it has none
abbrev pub ways_out : Block → ℕ
ways_out block = max 1 (length (successors block.term))
