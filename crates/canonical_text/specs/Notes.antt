-- Profile notes as nodes (LLVM Language Reference, "'prof' Metadata"): equal notes are one node, and nodes are numbered by
-- their first appearance.
use Rattle.std.specs.Prelude.{ℕ, false, cond, is_some, List, [], ◌∷◌, ◌++◌, map, fold, length, position, unwrap_or, Option, Some, None, codes}
use Rattle.ir_lex.specs.Tokens.{Number, Str}
use Rattle.ir_tree.specs.Names.{same}
use Rattle.ir_tree.specs.declared.types.Ty.TheVariants.{I32, I64}
use Rattle.ir_tree.specs.declared.types.Prof.{Prof}
use Rattle.ir_tree.specs.declared.types.Prof.TheVariants.{Entry, Weights, Targets}
use Rattle.ir_tree.specs.declared.types.Instr.{Instr}
use Rattle.ir_tree.specs.declared.types.Instr.TheVariants.{Binary, Compare, Convert, Freeze, Select, Phi, Alloca, Load, Store, Gep, Call, Count}
use Rattle.ir_tree.specs.declared.types.Term.{Term}
use Rattle.ir_tree.specs.declared.types.Term.TheVariants as terms
use Rattle.ir_tree.specs.declared.types.Block.{Block}
use Rattle.ir_tree.specs.declared.types.Function.{Function}
use Rattle.ir_tree.specs.declared.types.Module.{Module}
use Rattle.text_pieces.specs.declared.stop.Stop.{Stop}
use Rattle.text_pieces.specs.declared.stop.Stop.TheVariants as stops
use Rattle.text_pieces.specs.Written.{stop_text}
use Rattle.text_pieces.specs.Pieces.{Piece, Closed, Alone, Bang, text_of}
use Rattle.text_pieces.specs.Lists.{items, parted, stop_behind}
use Rattle.canonical_text.specs.Values.{spaced, literal_token}

-- # The nodes' text

-- `i32 w`
abbrev pub weight_pieces : ℕ → Stop → List Piece
weight_pieces w stop = spaced (codes "i32") (Closed (literal_token I32 w) stop ∷ [])

-- `i64 n`
abbrev pub wide : ℕ → Stop → List Piece → List Piece
wide n stop ps = spaced (codes "i64") (Closed (literal_token I64 n) stop ∷ ps)

-- `i64 target, i64 count`
abbrev pub pair_pieces : ℕ × ℕ → Stop → List Piece
pair_pieces p stop = wide p.0 stops.Comma (wide p.1 stop [])

-- `!{!"name", ..`
abbrev pub note_named : List ℕ → List Piece → List Piece
note_named name ps = Bang ∷ Alone stops.OpenBrace ∷ Bang ∷ Closed (Str name) stops.Comma ∷ ps

abbrev pub note_pieces : Prof → List Piece
note_pieces (Entry n) = note_named (codes "function_entry_count") (wide n stops.CloseBrace [])
note_pieces (Weights list) = note_named (codes "branch_weights") (parted weight_pieces stops.CloseBrace list)
note_pieces (Targets total list) = note_named (codes "VP") (spaced (codes "i32") (Closed (Number false 0) stops.Comma ∷ wide total (stop_behind stops.CloseBrace list) (items pair_pieces stops.CloseBrace list)))

-- no two notes have one text
unfoldable pub note_text : Prof → List ℕ
note_text note = text_of (note_pieces note)

-- # The nodes of a module

-- the place of a note among the nodes, none where it is not among them
abbrev pub place_of : List Prof → Prof → Option ℕ
place_of nodes note = position (same (note_text note)) (map note_text nodes)

-- a note is a node more where it is not among them
unfoldable pub with_note : List Prof → Prof → List Prof
with_note nodes note = cond (is_some (place_of nodes note)) nodes (nodes ++ note ∷ [])

unfoldable pub with_noted : List Prof → Option Prof → List Prof
with_noted nodes None = nodes
with_noted nodes (Some note) = with_note nodes note

abbrev pub instr_note : Instr → Option Prof
instr_note (Binary dest op flags ty left right) = None
instr_note (Compare dest pred ty left right) = None
instr_note (Convert dest op flags from value to) = None
instr_note (Freeze dest ty value) = None
instr_note (Select dest condition ty first second prof) = prof
instr_note (Phi dest ty entries) = None
instr_note (Alloca dest mem) = None
instr_note (Load dest ty address) = None
instr_note (Store ty value address) = None
instr_note (Gep dest inbounds mem address indices) = None
instr_note (Call dest ret callee args prof) = prof
instr_note (Count symbol size index step) = None

abbrev pub term_note : Term → Option Prof
term_note (terms.Br to) = None
term_note (terms.CondBr condition first second prof) = prof
term_note (terms.Switch ty value default cases prof) = prof
term_note (terms.Ret value) = None
term_note terms.Unreachable = None

abbrev pub with_instr : List Prof → Instr → List Prof
with_instr nodes i = with_noted nodes (instr_note i)

unfoldable pub with_block : List Prof → Block → List Prof
with_block nodes b = with_noted (fold with_instr nodes b.instrs) (term_note b.term)

-- a declaration has no note
abbrev pub with_body : List Prof → Option Prof → List Block → List Prof
with_body nodes prof [] = nodes
with_body nodes prof (b ∷ bs) = fold with_block (with_noted nodes prof) (b ∷ bs)

unfoldable pub with_function : List Prof → Function → List Prof
with_function nodes f = with_body nodes f.prof f.blocks

-- the nodes of a module, in order of first appearance
unfoldable pub nodes_of : Module → List Prof
nodes_of m = fold with_function [] m.functions

-- # What names a node

-- the number of a note's node
unfoldable pub number_of : List Prof → Prof → ℕ
number_of nodes note = unwrap_or (place_of nodes note) (length nodes)

-- `!prof !N`
abbrev pub attached : List Prof → Prof → Stop → List Piece → List Piece
attached nodes note stop ps = Bang ∷ spaced (codes "prof") (Bang ∷ Closed (Number false (number_of nodes note)) stop ∷ ps)

-- what stands behind the last token of a line that may have a note
abbrev pub line_stop : Option Prof → Stop
line_stop None = stops.Line
line_stop (Some note) = stops.Comma

abbrev pub line_note : List Prof → Option Prof → List Piece
line_note nodes None = []
line_note nodes (Some note) = attached nodes note stops.Line []

-- the end of a line that may have a note
unfoldable pub line_end : List Prof → Option Prof → List ℕ
line_end nodes prof = stop_text (line_stop prof) ++ text_of (line_note nodes prof)
