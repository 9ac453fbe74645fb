-- The edges that keep a counter.
use Rattle.std.specs.Prelude.{ℕ, zero, suc, ◌==◌, Bool, ◌&&◌, ◌||◌, not, if◌then◌else◌, List, [], ◌∷◌, ◌++◌}
use Rattle.spanning_order.specs.Lists.{among}

-- an edge outside the order, and the entry edge where the entry is counted first
abbrev pub is_counted : List ℕ → Bool → ℕ → Bool
is_counted order entry_first k = not (among k order) || (entry_first && k == 0)

-- of the first n edges, by rising number
abbrev pub counted_of : ℕ → List ℕ → Bool → List ℕ
counted_of zero order entry_first = []
counted_of (suc n) order entry_first = counted_of n order entry_first ++ (if is_counted order entry_first n then n ∷ [] else [])
