-- The one canonical text of a module: its global variables, its functions with an empty line before each where anything
-- precedes, and behind an empty line the nodes of its profile notes.
use Rattle.std.specs.Prelude.{◌≡◌, ℕ, suc, Bool, true, false, cond, List, [], ◌∷◌, ◌++◌, Option, Some, None, codes, decimal}
use Rattle.std.specs.List.{flat_map}
use Rattle.std.proofs.Common.{refl, sym, ◌∙◌, ap, append_assoc}
use Rattle.ir_lex.specs.Tokens.{Word, Number, Global, Local, Label}
use Rattle.ir_tree.specs.declared.types.Ty.{Ty}
use Rattle.ir_tree.specs.declared.types.Prof.{Prof}
use Rattle.ir_tree.specs.declared.types.Init.{Init}
use Rattle.ir_tree.specs.declared.types.MemTy.{MemTy}
use Rattle.ir_tree.specs.declared.types.Block.{Block}
use Rattle.ir_tree.specs.declared.types.Function.{Function}
use Rattle.ir_tree.specs.declared.types.Global1.{Global1}
use Rattle.ir_tree.specs.declared.types.Module.{Module}
use Rattle.text_pieces.specs.declared.stop.Stop.{Stop}
use Rattle.text_pieces.specs.declared.stop.Stop.TheVariants as stops
use Rattle.text_pieces.specs.Written.{written}
use Rattle.text_pieces.specs.Pieces.{Piece, Closed, Alone, Bang, text_of, text_append, text_each, four_parts}
use Rattle.text_pieces.specs.Lists.{parted}
use Rattle.canonical_text.specs.Words.{type_word, return_word, variable_word}
use Rattle.canonical_text.specs.Values.{spaced, memory_pieces, init_pieces, is_external}
use Rattle.canonical_text.specs.Notes.{attached, note_pieces, nodes_of, number_of}
use Rattle.canonical_text.specs.Instructions.{instr_pieces, term_pieces}

-- # Global variables

-- `MT INIT`; an external variable has a type alone
abbrev pub initial_pieces : Bool → MemTy → Init → List Piece
initial_pieces true mem init = memory_pieces mem stops.Line
initial_pieces false mem init = memory_pieces mem stops.Space ++ init_pieces mem init stops.Line

abbrev pub variable_head : Bool → Bool → List Piece → List Piece
variable_head true constant ps = spaced (codes "external") (spaced (variable_word constant) ps)
variable_head false constant ps = spaced (variable_word constant) ps

abbrev pub variable_pieces : Global1 → List Piece
variable_pieces g = Closed (Global g.name) stops.Space ∷ Alone stops.Equals ∷ variable_head (is_external g.init) g.constant (initial_pieces (is_external g.init) g.mem g.init)

-- # Functions

-- the label, and a line for each instruction and the terminator
abbrev pub block_pieces : List Prof → Block → List Piece
block_pieces nodes b = Closed (Label b.label) stops.Line ∷ (flat_map (instr_pieces nodes) b.instrs ++ term_pieces nodes b.term)

-- `T`
abbrev pub type_pieces : Ty × List ℕ → Stop → List Piece
type_pieces p stop = Closed (Word (type_word p.0)) stop ∷ []

-- `T %a`
abbrev pub param_pieces : Ty × List ℕ → Stop → List Piece
param_pieces p stop = spaced (type_word p.0) (Closed (Local p.1) stop ∷ [])

-- `RT @f(`
abbrev pub signature : Function → List Piece → List Piece
signature f ps = spaced (return_word f.ret) (Closed (Global f.name) stops.OpenParen ∷ ps)

abbrev pub head_note : List Prof → Option Prof → List Piece → List Piece
head_note nodes None ps = ps
head_note nodes (Some note) ps = attached nodes note stops.Space ps

-- `{`, the blocks, and `}`
abbrev pub braced_pieces : List Prof → List Block → List Piece
braced_pieces nodes blocks = Alone stops.OpenBrace ∷ Alone stops.Line ∷ (flat_map (block_pieces nodes) blocks ++ Alone stops.CloseBrace ∷ Alone stops.Line ∷ [])

-- the note, where there is one, before the brace
abbrev pub body_pieces : List Prof → Option Prof → List Block → List Piece
body_pieces nodes prof blocks = Alone stops.Space ∷ head_note nodes prof (braced_pieces nodes blocks)

abbrev pub declaration_pieces : Function → List Piece
declaration_pieces f = spaced (codes "declare") (signature f (parted type_pieces stops.CloseParen f.params ++ Alone stops.Line ∷ []))

abbrev pub head_pieces : Function → List Piece
head_pieces f = spaced (codes "define") (signature f (parted param_pieces stops.CloseParen f.params))

abbrev pub definition_pieces : List Prof → Function → List Piece
definition_pieces nodes f = head_pieces f ++ body_pieces nodes f.prof f.blocks

abbrev pub has_body : List Block → Bool
has_body [] = false
has_body (b ∷ bs) = true

-- a function without blocks is declared
abbrev pub function_pieces : List Prof → Function → List Piece
function_pieces nodes f = cond (has_body f.blocks) (definition_pieces nodes f) (declaration_pieces f)

-- # Modules

-- behind an empty line
abbrev pub parted_line : Bool → List Piece → List Piece
parted_line true ps = Alone stops.Line ∷ ps
parted_line false ps = ps

abbrev pub later_function : List Prof → Function → List Piece
later_function nodes f = Alone stops.Line ∷ function_pieces nodes f

-- the functions; whether anything precedes them
abbrev pub functions_pieces : List Prof → Bool → List Function → List Piece
functions_pieces nodes preceded [] = []
functions_pieces nodes preceded (f ∷ fs) = parted_line preceded (function_pieces nodes f) ++ flat_map (later_function nodes) fs

-- `!N = !{..}`
abbrev pub node_pieces : ℕ → Prof → List Piece
node_pieces k note = Bang ∷ Closed (Number false k) stops.Space ∷ Alone stops.Equals ∷ (note_pieces note ++ Alone stops.Line ∷ [])

-- the nodes from this number on
abbrev pub node_lines : ℕ → List Prof → List Piece
node_lines k [] = []
node_lines k (note ∷ notes) = node_pieces k note ++ node_lines (suc k) notes

abbrev pub nodes_pieces : List Prof → List Piece
nodes_pieces [] = []
nodes_pieces (note ∷ notes) = Alone stops.Line ∷ node_lines 0 (note ∷ notes)

abbrev pub has_any : {A : Type 0} → List A → Bool
has_any [] = false
has_any (x ∷ xs) = true

unfoldable pub module_pieces : List Prof → Module → List Piece
module_pieces nodes m = flat_map variable_pieces m.globals ++ functions_pieces nodes (has_any m.globals) m.functions ++ nodes_pieces nodes

-- the one canonical text of a module
unfoldable pub canonical : Module → List ℕ
canonical m = text_of (module_pieces (nodes_of m) m)

-- # The texts of parts

head_before : (external constant : Bool) (ps : List Piece) → text_of (variable_head external constant ps) ≡ text_of (variable_head external constant []) ++ text_of ps
head_before true constant ps = ap (λ us. codes "external " ++ us) (sym (append_assoc (variable_word constant) (32 ∷ []) (text_of ps)))
head_before false constant ps = sym (append_assoc (variable_word constant) (32 ∷ []) (text_of ps))

pub variable_text : (g : Global1) → text_of (variable_pieces g) ≡ (written (Global g.name) ++ codes " = ") ++ text_of (variable_head (is_external g.init) g.constant []) ++ text_of (initial_pieces (is_external g.init) g.mem g.init)
variable_text g =
    let value = text_of (initial_pieces (is_external g.init) g.mem g.init) in
    ap (λ us. written (Global g.name) ++ (codes " = " ++ us)) (head_before (is_external g.init) g.constant (initial_pieces (is_external g.init) g.mem g.init))
    ∙ four_parts (written (Global g.name)) (codes " = ") (text_of (variable_head (is_external g.init) g.constant [])) value

pub block_text : (nodes : List Prof) (b : Block) → text_of (block_pieces nodes b) ≡ written (Label b.label) ++ codes "\n" ++ flat_map (λ i. text_of (instr_pieces nodes i)) b.instrs ++ text_of (term_pieces nodes b.term)
block_text nodes b =
    ap (λ us. written (Label b.label) ++ (codes "\n" ++ us))
    (text_append (flat_map (instr_pieces nodes) b.instrs) (term_pieces nodes b.term)
    ∙ ap (λ us. us ++ text_of (term_pieces nodes b.term)) (text_each (instr_pieces nodes) b.instrs))
    ∙ four_parts (written (Label b.label)) (codes "\n") (flat_map (λ i. text_of (instr_pieces nodes i)) b.instrs) (text_of (term_pieces nodes b.term))

pub braced_text : (nodes : List Prof) (blocks : List Block) → text_of (braced_pieces nodes blocks) ≡ codes "{\n" ++ flat_map (λ b. text_of (block_pieces nodes b)) blocks ++ codes "}\n"
braced_text nodes blocks =
    ap (λ us. codes "{\n" ++ us)
    (text_append (flat_map (block_pieces nodes) blocks) (Alone stops.CloseBrace ∷ Alone stops.Line ∷ [])
    ∙ ap (λ us. us ++ codes "}\n") (text_each (block_pieces nodes) blocks))

pub body_text : (nodes : List Prof) (prof : Option Prof) (blocks : List Block) → text_of (body_pieces nodes prof blocks) ≡ codes " " ++ text_of (head_note nodes prof []) ++ text_of (braced_pieces nodes blocks)
body_text nodes None blocks = refl
body_text nodes (Some note) blocks =
    ap (λ us. codes " !prof !" ++ us) (sym (append_assoc (decimal (number_of nodes note)) (32 ∷ []) (text_of (braced_pieces nodes blocks))))

pub declaration_text : (f : Function) → text_of (declaration_pieces f) ≡ codes "declare " ++ (return_word f.ret ++ 32 ∷ written (Global f.name) ++ codes "(") ++ text_of (parted type_pieces stops.CloseParen f.params) ++ codes "\n"
declaration_text f =
    let name = written (Global f.name) in
    let list = text_of (parted type_pieces stops.CloseParen f.params) in
    ap (λ us. codes "declare " ++ (return_word f.ret ++ (32 ∷ (name ++ (40 ∷ us))))) (text_append (parted type_pieces stops.CloseParen f.params) (Alone stops.Line ∷ []))
    ∙ ap (λ us. codes "declare " ++ us)
    (four_parts (return_word f.ret) (32 ∷ name) (40 ∷ []) (list ++ codes "\n")
    ∙ sym (append_assoc (return_word f.ret ++ 32 ∷ name ++ codes "(") list (codes "\n")))

pub definition_text : (nodes : List Prof) (f : Function) → text_of (definition_pieces nodes f) ≡ text_of (head_pieces f) ++ text_of (body_pieces nodes f.prof f.blocks)
definition_text nodes f = text_append (head_pieces f) (body_pieces nodes f.prof f.blocks)

pub functions_text : (nodes : List Prof) (preceded : Bool) (f : Function) (fs : List Function) → text_of (functions_pieces nodes preceded (f ∷ fs)) ≡ text_of (parted_line preceded (function_pieces nodes f)) ++ flat_map (λ g. text_of (later_function nodes g)) fs
functions_text nodes preceded f fs =
    text_append (parted_line preceded (function_pieces nodes f)) (flat_map (later_function nodes) fs)
    ∙ ap (λ us. text_of (parted_line preceded (function_pieces nodes f)) ++ us) (text_each (later_function nodes) fs)

pub node_text : (k : ℕ) (note : Prof) → text_of (node_pieces k note) ≡ (33 ∷ decimal k ++ codes " = ") ++ text_of (note_pieces note) ++ codes "\n"
node_text k note =
    ap (λ us. 33 ∷ (decimal k ++ (codes " = " ++ us))) (text_append (note_pieces note) (Alone stops.Line ∷ []))
    ∙ ap (λ us. 33 ∷ us) (four_parts (decimal k) (codes " = ") (text_of (note_pieces note)) (codes "\n"))

pub module_text : (nodes : List Prof) (m : Module) → text_of (module_pieces nodes m) ≡ flat_map (λ g. text_of (variable_pieces g)) m.globals ++ text_of (functions_pieces nodes (has_any m.globals) m.functions) ++ text_of (nodes_pieces nodes)
unfolding module_pieces
module_text nodes m =
    text_append (flat_map variable_pieces m.globals ++ functions_pieces nodes (has_any m.globals) m.functions) (nodes_pieces nodes)
    ∙ ap (λ us. us ++ text_of (nodes_pieces nodes))
    (text_append (flat_map variable_pieces m.globals) (functions_pieces nodes (has_any m.globals) m.functions)
    ∙ ap (λ us. us ++ text_of (functions_pieces nodes (has_any m.globals) m.functions)) (text_each variable_pieces m.globals))
