-- What a table of the nodes of a text has.
use Rattle.std.specs.Prelude.{◌≡◌, ℕ, List, [], ◌∷◌, map, filter, nat_eq, Option, Some, None}
use Rattle.indexmap.specs.IndexMap.{get_by}
use Rattle.ir_tree.specs.declared.types.Prof.{Prof}
use Rattle.ir_lex.specs.Cut.{tokens_of}
use Rattle.ir_grammar.specs.Notes.{Nodes, nodes_of}
use Rattle.ir_read.specs.declared.nodes.Table.{Table}

-- the notes of all definitions of a number, in order
abbrev pub notes_at : ℕ → Nodes → List (Option Prof)
notes_at n nodes = map (λ d. d.1) (filter (λ d. nat_eq d.0 n) nodes)

-- what is known of a number behind further definitions of it: nothing, the note of its only definition, or that it has
-- no note since it is defined again
abbrev pub joined : Option (Option Prof) → List (Option Prof) → Option (Option Prof)
joined known [] = known
joined None (x ∷ xs) = joined (Some x) xs
joined (Some known) (x ∷ xs) = joined (Some None) xs

abbrev pub listed_node : Option (ℕ × Option Prof) → Nodes
listed_node None = []
listed_node (Some node) = node ∷ []

-- the note that is known
abbrev pub note_known : Option (Option Prof) → Option Prof
note_known None = None
note_known (Some note) = note

-- what the table knows of a number
abbrev pub known_at : Table → ℕ → Option (Option Prof)
known_at table n = get_by (nat_eq n) table.notes

-- the table knows of each number what the nodes say
abbrev pub Holds : Table → Nodes → Type 0
Holds table nodes = (n : ℕ) → known_at table n ≡ joined None (notes_at n nodes)

-- the same of a table that is made once it is wanted
abbrev pub HoldsOnce : Option Table → List ℕ → Type 0
HoldsOnce None text = Unit {0}
HoldsOnce (Some table) text = Holds table (nodes_of (tokens_of text))
