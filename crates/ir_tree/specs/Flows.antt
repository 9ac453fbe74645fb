-- Flows on a list of edges: a whole number for each edge, so that at every node as much flows in as out.
use Rattle.std.specs.Prelude.{◌≡◌, ℕ, ◌+◌, ◌==◌, ℤ, pos, ◌+ℤ◌, ◌-ℤ◌, if◌then◌else◌, List, [], ◌∷◌}
use Rattle.ir_tree.specs.declared.edge.Edge.{Edge}

-- What an edge brings to a node when z flows along it: z where it leads there, less z where it comes from there
abbrev pub brought : Edge → ℕ → ℤ → ℤ
brought e v z = (if e.to == v then z else pos 0) -ℤ (if e.from == v then z else pos 0)

-- what edges bring to a node in all, the first of them having the number k
abbrev pub net_from : ℕ → List Edge → (ℕ → ℤ) → ℕ → ℤ
net_from k [] x v = pos 0
net_from k (e ∷ es) x v = brought e v (x k) +ℤ net_from (k + 1) es x v

abbrev pub net : List Edge → (ℕ → ℤ) → ℕ → ℤ
net edges x v = net_from 0 edges x v

-- the numbers, by the edges' numbers, balance at every node
abbrev pub IsFlow : List Edge → (ℕ → ℤ) → Type 0
IsFlow edges x = (v : ℕ) → net edges x v ≡ pos 0
