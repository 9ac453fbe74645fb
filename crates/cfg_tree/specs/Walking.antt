-- The state of the depth-first walk in the code: a stack of nodes, each with the place of the edge that is next looked at.
use Rattle.std.specs.Prelude.{◌≡◌, ℕ, zero, suc, ◌+◌, ◌<◌, ◌≤◌, Bool, true, false, List, [], ◌∷◌, ◌++◌, length, sum_by}
use Rattle.std.specs.List.{All}
use Rattle.ir_tree.specs.declared.edge.Edge.{Edge}
use Rattle.cfg_tree.specs.Chains.{IsPlace, from_place}
use Rattle.cfg_tree.specs.Walk.{Seen, enters, finishes, goes_back, looks_at, visits, walked}
use Rattle.cfg_tree.specs.declared.chains.End.TheVariants.{Tail}

abbrev pub frame : ℕ → ℕ → ℕ × ℕ
frame v place = (v, place)

abbrev pub state : Seen → List (ℕ × ℕ) → Seen × List (ℕ × ℕ)
state s stack = (s, stack)

-- what a look at edge k to a node makes of a walk and its stack
abbrev pub after_look : ℕ → ℕ → Bool → Bool → ℕ → Seen → List (ℕ × ℕ) → Seen × List (ℕ × ℕ)
after_look k to false finished first s stack = state (enters to s) (stack ++ frame to first ∷ [])
after_look k to true false first s stack = state (goes_back k s) stack
after_look k to true true first s stack = state s stack

-- what the walk comes to when the nodes of a stack are done, the last first; the first has depth n
abbrev pub done : ℕ → List Edge → List (ℕ × ℕ) → Seen → Seen
done n edges [] s = s
done zero edges (f ∷ fs) s = s
done (suc n) edges (f ∷ fs) s = finishes f.0 (looks_at (visits n edges) edges (from_place Tail edges f.0 f.1) (done n edges fs s))

abbrev pub one_unless : Bool → ℕ
one_unless true = 0
one_unless false = 1

-- how many nodes are not entered
abbrev pub unentered : List Bool → ℕ
unentered marks = sum_by one_unless marks

abbrev pub IsFrame : List Edge → ℕ → ℕ × ℕ → Type 0
IsFrame edges nodes f = (f.0 < nodes) × IsPlace Tail edges f.0 f.1

pub record Walking (edges : List Edge) (nodes : ℕ) (s : Seen) (stack : List (ℕ × ℕ)) : Type 0 where
  pub entered : length s.entered ≡ nodes
  pub finished : length s.finished ≡ nodes
  pub back : length s.back ≡ length edges
  pub frames : All (IsFrame edges nodes) stack
  pub deep : unentered s.entered + length stack ≤ nodes
  pub comes_to : done nodes edges stack s ≡ walked nodes edges
