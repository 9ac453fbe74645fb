-- The hash of a function's edge graph.
use Rattle.std.specs.Prelude.{ℕ, Bool, if◌then◌else◌, List, [], ◌∷◌, ◌++◌, flat_map, length, decimal}
use Rattle.ir_tree.specs.Graphs.{FlowGraph, nodes}
use Rattle.ir_tree.specs.declared.edge.Edge.{Edge}

-- numbers in decimal, each behind a space
abbrev pub spaced : List ℕ → List ℕ
spaced numbers = flat_map (λ n. 32 ∷ decimal n) numbers

-- from where to where each edge leads
abbrev pub ends : List Edge → List ℕ
ends edges = flat_map (λ e. e.from ∷ e.to ∷ []) edges

-- what the mode adds where the entry is counted first
abbrev pub mode_numbers : Bool → List ℕ
mode_numbers entry_first = if entry_first then 1 ∷ [] else []

-- The text that is hashed: in decimal, parted by single spaces, the number of nodes, the number of edges, the two ends of
-- each edge, and the numbers of counters, of sites and of selects; then 1 where the entry is counted first
unfoldable pub hash_text : FlowGraph → ℕ → Bool → List ℕ
hash_text g counters entry_first =
    decimal (nodes g) ++ spaced (length g.edges ∷ []) ++ spaced (ends g.edges) ++ spaced (counters ∷ length g.sites ∷ length g.selects ∷ []) ++ spaced (mode_numbers entry_first)
