-- The literals of a list of initialisers, of which a unit's data have four.
use Rattle.std.specs.Prelude.{ℕ, List, [], ◌∷◌, Option, None, Some}
use Rattle.ir_rules.specs.Units.{in_front, literal_of}
use Rattle.ir_tree.specs.declared.types.Init.{Init}

abbrev pub literals_in_list : List Init → Option (List ℕ)
literals_in_list [] = Some []
literals_in_list (i ∷ is) = in_front (literal_of i) (literals_in_list is)

-- the fourth of four literals, where each is one
abbrev pub fourth : Option ℕ → Option ℕ → Option ℕ → Option ℕ → ℕ
fourth None b c d = 0
fourth (Some x) None c d = 0
fourth (Some x) (Some y) None d = 0
fourth (Some x) (Some y) (Some z) None = 0
fourth (Some x) (Some y) (Some z) (Some sites) = sites
