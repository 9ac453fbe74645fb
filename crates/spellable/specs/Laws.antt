-- What the text of each part spells, and which parts some text spells.
use Rattle.std.specs.Prelude.{◌≡◌, ℕ, true, false, List, ◌∷◌, is_some, Some}
use Rattle.ir_tree.specs.declared.types.Prof.{Prof}
use Rattle.ir_tree.specs.declared.types.Instr.{Instr}
use Rattle.ir_tree.specs.declared.types.Term.{Term}
use Rattle.ir_tree.specs.declared.types.Block.{Block}
use Rattle.ir_tree.specs.declared.types.Function.{Function}
use Rattle.ir_tree.specs.declared.types.Global1.{Global1}
use Rattle.ir_tree.specs.declared.types.Module.{Module}
use Rattle.ir_grammar.specs.Words.{Tokens, first_is}
use Rattle.ir_grammar.specs.Past.{past_meaning}
use Rattle.ir_grammar.specs.Notes.{Nodes, note, nodes_from, nodes_of}
use Rattle.ir_grammar.specs.Instructions.{instr}
use Rattle.ir_grammar.specs.Terminators.{terminator}
use Rattle.ir_grammar.specs.Functions.{block}
use Rattle.ir_grammar.specs.Grammar.{Spells, part}
use Rattle.ir_grammar.specs.declared.words.Place.TheVariants as places
use Rattle.ir_grammar.specs.declared.parts.Part.TheVariants as parts
use Rattle.text_pieces.specs.Pieces.{Piece, tokens_before}
use Rattle.text_cuts.specs.Cut.{can_write_all}
use Rattle.canonical_text.specs.Notes.{note_pieces}
use Rattle.canonical_text.specs.Instructions.{instr_pieces, term_pieces}
use Rattle.canonical_text.specs.Canonical.{variable_pieces, block_pieces, function_pieces, node_pieces}
use Rattle.spellable.specs.Values.{Each, IsCount}
use Rattle.spellable.specs.Instructions.{IsNote, IsInstr, IsTerm}
use Rattle.spellable.specs.Modules.{IsBlock, IsFunction, IsVariable}
use Rattle.spellable.specs.Lines.{NoComma, Follows, IsKept, AllRead}
use Rattle.spellable.specs.Parts.{HasNode}

-- The line of an instruction or terminator spells it, and the lines of a block spell the block.
pub record LinesAreSpelled : Type 0 where
  pub instr : (nodes : Nodes) (list : List Prof) (i : Instr) (others : Tokens) → IsInstr (IsKept nodes list) i → Follows others → (instr nodes).Spells (tokens_before (instr_pieces list i) others) i others
  pub term : (nodes : Nodes) (list : List Prof) (t : Term) (others : Tokens) → IsTerm (IsKept nodes list) t → NoComma others → (terminator nodes).Spells (tokens_before (term_pieces list t) others) t others
  pub block : (nodes : Nodes) (list : List Prof) (b : Block) (others : Tokens) → IsBlock (IsKept nodes list) b → NoComma others → (block nodes).Spells (tokens_before (block_pieces list b) others) b others

-- What some tokens spell is spellable: its notes are those of nodes of the table.
pub record SpelledLines : Type 0 where
  pub instr : (nodes : Nodes) (ts : Tokens) (i : Instr) (rest : Tokens) → AllRead ts → (instr nodes).Spells ts i rest → IsInstr (HasNode nodes) i
  pub term : (nodes : Nodes) (ts : Tokens) (t : Term) (rest : Tokens) → AllRead ts → (terminator nodes).Spells ts t rest → IsTerm (HasNode nodes) t
  pub block : (nodes : Nodes) (ts : Tokens) (b : Block) (rest : Tokens) → AllRead ts → (block nodes).Spells ts b rest → IsBlock (HasNode nodes) b

-- no node is defined in the pieces
abbrev pub IsQuiet : List Piece → Type 0
IsQuiet ps = (others : Tokens) → nodes_from 0 (tokens_before ps others) ≡ nodes_from 0 others

-- The text of a function, a global variable or a node spells the part, can be written, and defines no node but itself.
pub record PartsAreSpelled : Type 0 where
  pub function : (nodes : Nodes) (list : List Prof) (f : Function) (others : Tokens) → IsFunction (IsKept nodes list) f → first_is (λ t. is_some (past_meaning places.Function t)) others ≡ false → (part nodes).Spells (tokens_before (function_pieces list f) others) (parts.Function f) others
  pub function_writes : (nodes : Nodes) (list : List Prof) (f : Function) → IsFunction (IsKept nodes list) f → can_write_all (function_pieces list f) ≡ true
  pub function_quiet : (nodes : Nodes) (list : List Prof) (f : Function) → IsFunction (IsKept nodes list) f → IsQuiet (function_pieces list f)
  pub variable : (nodes : Nodes) (g : Global1) (others : Tokens) → IsVariable g → NoComma others → (part nodes).Spells (tokens_before (variable_pieces g) others) (parts.Variable g) others
  pub variable_writes : (g : Global1) → IsVariable g → can_write_all (variable_pieces g) ≡ true
  pub variable_quiet : (g : Global1) → IsVariable g → IsQuiet (variable_pieces g)
  pub note : (p : Prof) (others : Tokens) → IsNote p → note.Spells (tokens_before (note_pieces p) others) p others
  pub note_writes : (p : Prof) → IsNote p → can_write_all (note_pieces p) ≡ true
  pub node : (nodes : Nodes) (k : ℕ) (p : Prof) (others : Tokens) → IsCount k → IsNote p → (part nodes).Spells (tokens_before (node_pieces k p) others) parts.Nothing others
  pub node_writes : (k : ℕ) (p : Prof) → IsCount k → IsNote p → can_write_all (node_pieces k p) ≡ true
  pub node_found : (k : ℕ) (p : Prof) (others : Tokens) → IsCount k → IsNote p → nodes_from 0 (tokens_before (node_pieces k p) others) ≡ (k, Some p) ∷ nodes_from 0 others

-- The parts of a module that some tokens spell are spellable: its notes are those of nodes, and such as nodes can say.
pub record SpelledParts : Type 0 where
  pub variables : (ts : Tokens) (m : Module) → AllRead ts → Spells ts m → Each IsVariable m.globals
  pub functions : (ts : Tokens) (m : Module) → AllRead ts → Spells ts m → Each (IsFunction IsNote) m.functions
  pub nodes : (ts : Tokens) (m : Module) → AllRead ts → Spells ts m → Each (IsFunction (HasNode (nodes_of ts))) m.functions
