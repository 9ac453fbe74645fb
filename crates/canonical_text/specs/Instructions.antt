-- How instructions and terminators are written (LLVM Language Reference, "Instruction Reference"), each in a line of its own.
use Rattle.std.specs.Prelude.{◌≡◌, ℕ, Bool, true, false, List, [], ◌∷◌, ◌++◌, Option, Some, None, codes}
use Rattle.std.specs.List.{flat_map}
use Rattle.std.proofs.Common.{refl, sym, ◌∙◌, ap, append_assoc}
use Rattle.ir_lex.specs.Tokens.{Word, Number, Global, Local}
use Rattle.ir_tree.specs.declared.types.Ty.{Ty}
use Rattle.ir_tree.specs.declared.types.Ty.TheVariants.{I1, I64, Ptr}
use Rattle.ir_tree.specs.declared.types.Ret.{Ret}
use Rattle.ir_tree.specs.declared.types.MemTy.{MemTy}
use Rattle.ir_tree.specs.declared.types.Operand.{Operand}
use Rattle.ir_tree.specs.declared.types.Prof.{Prof}
use Rattle.ir_tree.specs.declared.types.Flags.{Flags}
use Rattle.ir_tree.specs.declared.types.Instr.{Instr}
use Rattle.ir_tree.specs.declared.types.Instr.TheVariants.{Binary, Compare, Convert, Freeze, Select, Phi, Alloca, Load, Store, Gep, Call, Count}
use Rattle.ir_tree.specs.declared.types.Term.{Term}
use Rattle.ir_tree.specs.declared.types.Term.TheVariants as terms
use Rattle.text_pieces.specs.declared.stop.Stop.{Stop}
use Rattle.text_pieces.specs.declared.stop.Stop.TheVariants as stops
use Rattle.text_pieces.specs.Written.{written}
use Rattle.text_pieces.specs.Pieces.{Piece, Closed, Alone, text_of, text_append, text_each, four_parts}
use Rattle.text_pieces.specs.Lists.{parted}
use Rattle.canonical_text.specs.Words.{type_word, return_word, operator_word, predicate_word, conversion_word}
use Rattle.canonical_text.specs.Values.{spaced, literal_token, operand_token, typed, typed_pieces, memory_pieces}
use Rattle.canonical_text.specs.Notes.{line_stop, line_note, line_end}

-- two blanks before an instruction
abbrev pub indented : List Piece → List Piece
indented ps = Alone stops.Space ∷ Alone stops.Space ∷ ps

-- `%d = `
abbrev pub named : List ℕ → List Piece → List Piece
named dest ps = indented (Closed (Local dest) stops.Space ∷ Alone stops.Equals ∷ ps)

-- the name of a result, where there is one
abbrev pub maybe_named : Option (List ℕ) → List Piece → List Piece
maybe_named None ps = indented ps
maybe_named (Some dest) ps = named dest ps

-- a word that stands there where a flag is set
abbrev pub flagged : Bool → List ℕ → List Piece → List Piece
flagged true text ps = spaced text ps
flagged false text ps = ps

unfoldable pub all_flags : Flags → List Piece → List Piece
all_flags flags ps = flagged flags.nuw (codes "nuw") (flagged flags.nsw (codes "nsw") (flagged flags.exact (codes "exact") ps))

-- the text of one flag
abbrev pub flag_text : Bool → List ℕ → List ℕ
flag_text true text = text ++ 32 ∷ []
flag_text false text = []

pub flag_before : (set : Bool) (text : List ℕ) (ps : List Piece) → text_of (flagged set text ps) ≡ flag_text set text ++ text_of ps
flag_before true text ps = sym (append_assoc text (32 ∷ []) (text_of ps))
flag_before false text ps = refl

pub flags_before : (flags : Flags) (ps : List Piece) → text_of (all_flags flags ps) ≡ flag_text flags.nuw (codes "nuw") ++ flag_text flags.nsw (codes "nsw") ++ flag_text flags.exact (codes "exact") ++ text_of ps
unfolding all_flags
flags_before flags ps =
    flag_before flags.nuw (codes "nuw") (flagged flags.nsw (codes "nsw") (flagged flags.exact (codes "exact") ps))
    ∙ ap (λ us. flag_text flags.nuw (codes "nuw") ++ us) (flag_before flags.nsw (codes "nsw") (flagged flags.exact (codes "exact") ps))
    ∙ sym (append_assoc (flag_text flags.nuw (codes "nuw")) (flag_text flags.nsw (codes "nsw")) (text_of (flagged flags.exact (codes "exact") ps)))
    ∙ ap (λ us. flag_text flags.nuw (codes "nuw") ++ flag_text flags.nsw (codes "nsw") ++ us) (flag_before flags.exact (codes "exact") ps)
    ∙ sym (append_assoc (flag_text flags.nuw (codes "nuw") ++ flag_text flags.nsw (codes "nsw")) (flag_text flags.exact (codes "exact")) (text_of ps))

-- `T V, V`
abbrev pub two_pieces : Ty → Operand → Operand → List Piece
two_pieces ty left right = typed ty left stops.Comma (Closed (operand_token ty right) stops.Line ∷ [])

-- `T V to T`
abbrev pub conversion_pieces : Ty → Operand → Ty → List Piece
conversion_pieces from value to = typed from value stops.Space (spaced (codes "to") (Closed (Word (type_word to)) stops.Line ∷ []))

-- `T V, T V`
abbrev pub choice_pieces : List Prof → Ty → Operand → Operand → Option Prof → List Piece
choice_pieces nodes ty first second prof = typed ty first stops.Comma (typed ty second (line_stop prof) (line_note nodes prof))

-- `[ V, %b ]`
abbrev pub entry_pieces : Ty → Operand × List ℕ → Stop → List Piece
entry_pieces ty e stop = Alone stops.OpenBracket ∷ Alone stops.Space ∷ Closed (operand_token ty e.0) stops.Comma ∷ Closed (Local e.1) stops.Space ∷ Alone stops.CloseBracket ∷ Alone stop ∷ []

-- `ptr V, T V, ..`
abbrev pub address_pieces : Operand → List (Ty × Operand) → List Piece
address_pieces address indices = typed Ptr address stops.Comma (parted typed_pieces stops.Line indices)

-- `MT, ptr V, T V, ..`
abbrev pub gep_pieces : MemTy → Operand → List (Ty × Operand) → List Piece
gep_pieces mem address indices = memory_pieces mem stops.Comma ++ address_pieces address indices

-- `RT CALLEE(T V, ..)`
abbrev pub call_pieces : List Prof → Ret → Operand → List (Ty × Operand) → Option Prof → List Piece
call_pieces nodes ret callee args prof = spaced (codes "call") (spaced (return_word ret) (Closed (operand_token Ptr callee) stops.OpenParen ∷ (parted typed_pieces stops.CloseParen args ++ Alone (line_stop prof) ∷ line_note nodes prof)))

-- `ptr getelementptr inbounds ([N x i64], ptr @s, i64 0, i64 I)`
abbrev pub counter_pieces : List ℕ → ℕ → ℕ → List Piece → List Piece
counter_pieces symbol size index ps =
    spaced (codes "ptr") (spaced (codes "getelementptr") (spaced (codes "inbounds")
    (Alone stops.OpenParen ∷ Alone stops.OpenBracket ∷ Closed (Number false size) stops.Space ∷ spaced (codes "x")
    (Closed (Word (codes "i64")) stops.CloseBracket ∷ Alone stops.Comma ∷ spaced (codes "ptr")
    (Closed (Global symbol) stops.Comma ∷ spaced (codes "i64") (Closed (Number false 0) stops.Comma ∷ spaced (codes "i64")
    (Closed (literal_token I64 index) stops.CloseParen ∷ Alone stops.Comma ∷ ps)))))))

abbrev pub instr_pieces : List Prof → Instr → List Piece
instr_pieces nodes (Binary dest op flags ty left right) = named dest (spaced (operator_word op) (all_flags flags (two_pieces ty left right)))
instr_pieces nodes (Compare dest pred ty left right) = named dest (spaced (codes "icmp") (spaced (predicate_word pred) (two_pieces ty left right)))
instr_pieces nodes (Convert dest op flags from value to) = named dest (spaced (conversion_word op) (all_flags flags (conversion_pieces from value to)))
instr_pieces nodes (Freeze dest ty value) = named dest (spaced (codes "freeze") (typed ty value stops.Line []))
instr_pieces nodes (Select dest condition ty first second prof) = named dest (spaced (codes "select") (typed I1 condition stops.Comma (choice_pieces nodes ty first second prof)))
instr_pieces nodes (Phi dest ty entries) = named dest (spaced (codes "phi") (spaced (type_word ty) (parted (entry_pieces ty) stops.Line entries)))
instr_pieces nodes (Alloca dest mem) = named dest (spaced (codes "alloca") (memory_pieces mem stops.Line))
instr_pieces nodes (Load dest ty address) = named dest (spaced (codes "load") (Closed (Word (type_word ty)) stops.Comma ∷ typed Ptr address stops.Line []))
instr_pieces nodes (Store ty value address) = indented (spaced (codes "store") (typed ty value stops.Comma (typed Ptr address stops.Line [])))
instr_pieces nodes (Gep dest inbounds mem address indices) = named dest (spaced (codes "getelementptr") (flagged inbounds (codes "inbounds") (gep_pieces mem address indices)))
instr_pieces nodes (Call dest ret callee args prof) = maybe_named dest (call_pieces nodes ret callee args prof)
instr_pieces nodes (Count symbol size index step) = indented (spaced (codes "atomicrmw") (spaced (codes "add") (counter_pieces symbol size index (typed I64 step stops.Space (Closed (Word (codes "monotonic")) stops.Line ∷ [])))))

-- # Terminators

-- `label %b`
abbrev pub target : List ℕ → Stop → List Piece → List Piece
target name stop ps = spaced (codes "label") (Closed (Local name) stop ∷ ps)

-- `    T N, label %b`
abbrev pub case_pieces : Ty → ℕ × List ℕ → List Piece
case_pieces ty c = indented (indented (spaced (type_word ty) (Closed (literal_token ty c.0) stops.Comma ∷ target c.1 stops.Line [])))

-- `label %b, label %b`
abbrev pub ways_pieces : List Prof → List ℕ → List ℕ → Option Prof → List Piece
ways_pieces nodes first second prof = target first stops.Comma (target second (line_stop prof) (line_note nodes prof))

-- the cases, each in a line, and the bracket behind them
abbrev pub cases_pieces : List Prof → Ty → List (ℕ × List ℕ) → Option Prof → List Piece
cases_pieces nodes ty cases prof = flat_map (case_pieces ty) cases ++ indented (Alone stops.CloseBracket ∷ Alone (line_stop prof) ∷ line_note nodes prof)

abbrev pub returned_pieces : Option (Ty × Operand) → List Piece
returned_pieces None = Closed (Word (codes "void")) stops.Line ∷ []
returned_pieces (Some p) = typed p.0 p.1 stops.Line []

abbrev pub term_pieces : List Prof → Term → List Piece
term_pieces nodes (terms.Br to) = indented (spaced (codes "br") (target to stops.Line []))
term_pieces nodes (terms.CondBr condition first second prof) = indented (spaced (codes "br") (typed I1 condition stops.Comma (ways_pieces nodes first second prof)))
term_pieces nodes (terms.Switch ty value default cases prof) = indented (spaced (codes "switch") (typed ty value stops.Comma (target default stops.Space (Alone stops.OpenBracket ∷ Alone stops.Line ∷ cases_pieces nodes ty cases prof))))
term_pieces nodes (terms.Ret value) = indented (spaced (codes "ret") (returned_pieces value))
term_pieces nodes terms.Unreachable = indented (Closed (Word (codes "unreachable")) stops.Line ∷ [])

-- # The texts of parts

pub gep_text : (nodes : List Prof) (dest : List ℕ) (inbounds : Bool) (mem : MemTy) (address : Operand) (indices : List (Ty × Operand)) → text_of (instr_pieces nodes (Gep dest inbounds mem address indices)) ≡ text_of (named dest (spaced (codes "getelementptr") [])) ++ flag_text inbounds (codes "inbounds") ++ text_of (gep_pieces mem address indices)
gep_text nodes dest inbounds mem address indices =
    ap (λ us. 32 ∷ 32 ∷ (written (Local dest) ++ (codes " = getelementptr " ++ us))) (flag_before inbounds (codes "inbounds") (gep_pieces mem address indices))
    ∙ ap (λ us. 32 ∷ 32 ∷ us) (four_parts (written (Local dest)) (codes " = getelementptr ") (flag_text inbounds (codes "inbounds")) (text_of (gep_pieces mem address indices)))

maybe_named_before : (dest : Option (List ℕ)) (ps : List Piece) → text_of (maybe_named dest ps) ≡ text_of (maybe_named dest []) ++ text_of ps
maybe_named_before None ps = refl
maybe_named_before (Some dest) ps = ap (λ us. 32 ∷ 32 ∷ us) (sym (append_assoc (written (Local dest)) (codes " = ") (text_of ps)))

-- `call RT CALLEE(`
abbrev pub callee_text : Ret → Operand → List ℕ
callee_text ret callee = codes "call " ++ return_word ret ++ 32 ∷ written (operand_token Ptr callee) ++ codes "("

pub call_text : (nodes : List Prof) (dest : Option (List ℕ)) (ret : Ret) (callee : Operand) (args : List (Ty × Operand)) (prof : Option Prof) → text_of (instr_pieces nodes (Call dest ret callee args prof)) ≡ text_of (maybe_named dest []) ++ callee_text ret callee ++ (text_of (parted typed_pieces stops.CloseParen args) ++ line_end nodes prof)
unfolding line_end
call_text nodes dest ret callee args prof =
    let list = text_of (parted typed_pieces stops.CloseParen args) ++ line_end nodes prof in
    let whom = written (operand_token Ptr callee) in
    let parts : text_of (call_pieces nodes ret callee args prof) ≡ callee_text ret callee ++ list =
    ap (λ us. codes "call " ++ (return_word ret ++ (32 ∷ (whom ++ (40 ∷ us))))) (text_append (parted typed_pieces stops.CloseParen args) (Alone (line_stop prof) ∷ line_note nodes prof))
    ∙ ap (λ us. codes "call " ++ us) (four_parts (return_word ret) (32 ∷ whom) (40 ∷ []) list) in
    maybe_named_before dest (call_pieces nodes ret callee args prof)
    ∙ ap (λ us. text_of (maybe_named dest []) ++ us) parts
    ∙ sym (append_assoc (text_of (maybe_named dest [])) (callee_text ret callee) list)

pub cases_text : (nodes : List Prof) (ty : Ty) (cases : List (ℕ × List ℕ)) (prof : Option Prof) → text_of (cases_pieces nodes ty cases prof) ≡ flat_map (λ c. text_of (case_pieces ty c)) cases ++ codes "  ]" ++ line_end nodes prof
unfolding line_end
cases_text nodes ty cases prof =
    text_append (flat_map (case_pieces ty) cases) (indented (Alone stops.CloseBracket ∷ Alone (line_stop prof) ∷ line_note nodes prof))
    ∙ ap (λ us. us ++ (codes "  ]" ++ line_end nodes prof)) (text_each (case_pieces ty) cases)
    ∙ sym (append_assoc (flat_map (λ c. text_of (case_pieces ty c)) cases) (codes "  ]") (line_end nodes prof))
