-- What holds of every memory: numbers rise, and the live cells are counted and within their limit.
use Rattle.std.specs.Prelude.{◌≡◌, ℕ, suc, ◌≤◌, List, [], ◌∷◌}
use Rattle.ir_memory.specs.Memory.{Allocation, live_cells}

-- the numbers rise from `low` on, and all are below `next`
abbrev pub Rises : ℕ → List Allocation → ℕ → Type 0
Rises low [] next = low ≤ next
Rises low (a ∷ live) next = (low ≤ a.number) × Rises (suc a.number) live next

pub record IsSound (next : ℕ) (live : List Allocation) (cells : ℕ) : Type 0 where
  pub rising : Rises 0 live next
  pub cells_counted : cells ≡ live_cells live
  pub within_limit : live_cells live ≤ 1048576
