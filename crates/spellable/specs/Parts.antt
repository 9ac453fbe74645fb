-- Which parts of a module some text spells.
use Rattle.ir_tree.specs.declared.types.Prof.{Prof}
use Rattle.ir_grammar.specs.declared.parts.Part.{Part}
use Rattle.ir_grammar.specs.declared.parts.Part.TheVariants as parts
use Rattle.ir_grammar.specs.Notes.{Nodes, note_of}
use Rattle.std.specs.Prelude.{◌≡◌, ℕ, Some}
use Rattle.spellable.specs.Values.{IsCount}
use Rattle.spellable.specs.Modules.{IsVariable, IsFunction}

abbrev pub IsPart : (Prof → Type 0) → Part → Type 0
IsPart P (parts.Variable g) = IsVariable g
IsPart P (parts.Function f) = IsFunction P f
IsPart P parts.Nothing = Unit {0}

-- each note of a node with a number below 2^64 is such
abbrev pub IsTable : Nodes → (Prof → Type 0) → Type 0
IsTable nodes P = (n : ℕ) (note : Prof) → IsCount n → note_of nodes n ≡ Some note → P note

-- the note is that of a node with a number below 2^64
abbrev pub HasNode : Nodes → Prof → Type 0
HasNode nodes note = (n : ℕ) × IsCount n × (note_of nodes n ≡ Some note)
