-- Worked examples of reachable blocks.
use Rattle.std.specs.Prelude.{ℕ, List, [], ◌∷◌, refl}
use Rattle.ir_tree.specs.Reach.{Leads, IsReachable}

-- block 0 goes to 1; 1 goes to 2 twice and to 4; 2 goes back to 1; 3 goes to 4; 4 is left
unfoldable pub looping : List (List ℕ)
looping = (1 ∷ []) ∷ (2 ∷ 4 ∷ 2 ∷ []) ∷ (1 ∷ []) ∷ (4 ∷ []) ∷ [] ∷ []

-- round the loop once, and out
pub out : Leads looping (0 ∷ 0 ∷ 0 ∷ 1 ∷ []) 0 4
unfolding looping
out = (1, refl, (2, refl, (1, refl, (4, refl, refl))))

-- the entry is reachable by the walk of no step
pub entry : IsReachable looping 0
entry = ([], refl)
