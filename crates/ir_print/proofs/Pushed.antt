-- Pieces that are put behind a text one after the other.
use Rattle.std.proofs.Common.{◌≡◌, ℕ, suc, ◌+◌, ◌<◌, Bool, true, false, eqb, length, drop, get_or, add-one, arith, List, [], ◌∷◌, ◌++◌, refl, sym, ap, ◌∙◌, append_assoc}
use Rattle.std.specs.Prelude.{codes, decimal, Option}
use Rattle.std.specs.Fmt.{digits}
use Rattle.std.specs.List.{flat_map}
use Rattle.std.specs.Prelude.{fold}
use Rattle.std.proofs.lemmas.List.{drop_more}
use Rattle.ir_lex.specs.Tokens.{Global, Local, Label}
use Rattle.ir_tree.specs.declared.types.Ty.{Ty}
use Rattle.ir_tree.specs.declared.types.Ty.TheVariants.{I1, I64}
use Rattle.ir_tree.specs.declared.types.Flags.{Flags}
use Rattle.ir_tree.specs.declared.types.Operand.{Operand}
use Rattle.ir_tree.specs.declared.types.Instr.{Instr}
use Rattle.ir_tree.specs.declared.types.Instr.TheVariants.{Select, Call, Count}
use Rattle.ir_tree.specs.declared.types.MemTy.{MemTy}
use Rattle.ir_tree.specs.declared.types.Ret.{Ret}
use Rattle.ir_tree.specs.declared.types.Prof.{Prof}
use Rattle.ir_tree.specs.declared.types.Prof.TheVariants.{Entry, Targets}
use Rattle.ir_tree.specs.declared.types.Block.{Block}
use Rattle.ir_tree.specs.declared.types.Function.{Function}
use Rattle.ir_tree.specs.declared.types.Global1.{Global1}
use Rattle.ir_tree.specs.declared.types.Module.{Module}
use Rattle.text_pieces.specs.declared.stop.Stop.TheVariants as stops
use Rattle.text_pieces.specs.Written.{written, stop_text}
use Rattle.text_pieces.specs.Pieces.{Piece, text_of, text_append}
use Rattle.text_pieces.specs.Lists.{items, parted, stop_behind}
use Rattle.canonical_text.specs.Words.{type_word, return_word, variable_word}
use Rattle.canonical_text.specs.Values.{literal_token, operand_token, typed_pieces, memory_pieces}
use Rattle.canonical_text.specs.Notes.{note_pieces, pair_pieces, line_end, with_noted, with_block, with_body, with_function}
use Rattle.ir_print.proofs.Trees.{not_none}
use Rattle.std.proofs.lemmas.Bool.{true≢false, false≢true}
use Rattle.canonical_text.specs.Instructions.{instr_pieces, term_pieces, gep_pieces, address_pieces, case_pieces, cases_pieces, cases_text, choice_pieces, maybe_named, callee_text, call_text, flag_text, all_flags, flags_before}
use Rattle.canonical_text.specs.Canonical.{variable_pieces, functions_pieces, functions_text, function_pieces, later_function, parted_line, nodes_pieces, has_any, module_pieces, module_text, variable_head, type_pieces, declaration_pieces, declaration_text, head_pieces, body_pieces, definition_pieces, definition_text, block_pieces, block_text, braced_pieces, braced_text, node_pieces, node_lines, node_text}

three : (o a b c : List ℕ) → o ++ a ++ b ++ c ≡ o ++ (a ++ b ++ c)
three o a b c = simp append_assoc

four : (o a b c d : List ℕ) → o ++ a ++ b ++ c ++ d ≡ o ++ (a ++ b ++ c ++ d)
four o a b c d = simp append_assoc

head : (o d w g p t n : List ℕ) → o ++ d ++ w ++ g ++ p ++ t ++ n ≡ o ++ (d ++ (w ++ g ++ p) ++ t ++ n)
head o d w g p t n = simp append_assoc

long : (o p q d x g y l r s w v m : List ℕ) → o ++ p ++ q ++ d ++ x ++ g ++ y ++ l ++ r ++ s ++ w ++ v ++ m ≡ o ++ (p ++ (q ++ (d ++ (x ++ (g ++ (y ++ (l ++ (r ++ (s ++ (w ++ (v ++ m)))))))))))
long o p q d x g y l r s w v m = simp append_assoc

pub flagged_pushed : (flags : Flags) (ps : List Piece) (o a z : List ℕ) → a ≡ o ++ flag_text flags.nuw (codes "nuw") ++ flag_text flags.nsw (codes "nsw") ++ flag_text flags.exact (codes "exact") → z ≡ a ++ text_of ps → z ≡ o ++ text_of (all_flags flags ps)
flagged_pushed flags ps o a z first second =
    second ∙ ap (λ us. us ++ text_of ps) first
    ∙ four o (flag_text flags.nuw (codes "nuw")) (flag_text flags.nsw (codes "nsw")) (flag_text flags.exact (codes "exact")) (text_of ps)
    ∙ ap (λ us. o ++ us) (sym (flags_before flags ps))

head_text : (external constant : Bool) → text_of (variable_head external constant []) ≡ flag_text external (codes "external") ++ variable_word constant ++ codes " "
head_text true constant = refl
head_text false constant = refl

pub kind_pushed : (external constant : Bool) (o a z : List ℕ) → a ≡ o ++ flag_text external (codes "external") → z ≡ a ++ variable_word constant ++ codes " " → z ≡ o ++ text_of (variable_head external constant [])
kind_pushed external constant o a z first second =
    second ∙ ap (λ us. us ++ variable_word constant ++ codes " ") first
    ∙ three o (flag_text external (codes "external")) (variable_word constant) (codes " ")
    ∙ ap (λ us. o ++ us) (sym (head_text external constant))

pub declaration_pushed : (f : Function) (params : List (Ty × List ℕ)) (o a b z : List ℕ) → params ≡ f.params → a ≡ o ++ codes "declare " → b ≡ a ++ return_word f.ret ++ 32 ∷ written (Global f.name) ++ codes "(" → z ≡ b ++ text_of (parted type_pieces stops.CloseParen params) ++ codes "\n" → z ≡ o ++ text_of (declaration_pieces f)
declaration_pushed f params o a b z same first second third =
    let list = text_of (parted type_pieces stops.CloseParen f.params) in
    third ∙ ap (λ ps. b ++ text_of (parted type_pieces stops.CloseParen ps) ++ codes "\n") same
    ∙ ap (λ us. us ++ list ++ codes "\n") (second ∙ ap (λ us. us ++ return_word f.ret ++ 32 ∷ written (Global f.name) ++ codes "(") first)
    ∙ head o (codes "declare ") (return_word f.ret) (32 ∷ written (Global f.name)) (codes "(") list (codes "\n")
    ∙ ap (λ us. o ++ us) (sym (declaration_text f))

pub count_pushed : (symbol : List ℕ) (size index : ℕ) (step : Operand) (o a b c z : List ℕ) → a ≡ o ++ codes "  atomicrmw add ptr getelementptr inbounds " → b ≡ a ++ codes "([" ++ decimal size ++ codes " x i64], ptr " ++ written (Global symbol) ++ codes ", i64 0, i64 " ++ written (literal_token I64 index) ++ codes ")" → c ≡ b ++ codes ", " → z ≡ c ++ type_word I64 ++ 32 ∷ written (operand_token I64 step) ++ codes " monotonic\n" → z ≡ o ++ text_of (instr_pieces [] (Count symbol size index step))
unfolding digits
count_pushed symbol size index step o a b c z first second third fourth =
    let name = written (Global symbol) in
    let place = written (literal_token I64 index) in
    let by = 32 ∷ written (operand_token I64 step) in
    fourth
    ∙ ap (λ us. us ++ type_word I64 ++ by ++ codes " monotonic\n") (third ∙ ap (λ us. us ++ codes ", ") (second ∙ ap (λ us. us ++ codes "([" ++ decimal size ++ codes " x i64], ptr " ++ name ++ codes ", i64 0, i64 " ++ place ++ codes ")") first))
    ∙ long o (codes "  atomicrmw add ptr getelementptr inbounds ") (codes "([") (decimal size) (codes " x i64], ptr ") name (codes ", i64 0, i64 ") place (codes ")") (codes ", ") (type_word I64) by (codes " monotonic\n")

two_right : (o a b : List ℕ) → o ++ a ++ b ≡ o ++ (a ++ b)
two_right o a b = append_assoc o a b

three_right : (o a b c : List ℕ) → o ++ a ++ b ++ c ≡ o ++ (a ++ (b ++ c))
three_right o a b c = simp append_assoc

four_right : (o a b c d : List ℕ) → o ++ a ++ b ++ c ++ d ≡ o ++ (a ++ (b ++ (c ++ d)))
four_right o a b c d = simp append_assoc

seven_right : (o a b c d e f g : List ℕ) → o ++ a ++ b ++ c ++ d ++ e ++ f ++ g ≡ o ++ (a ++ (b ++ (c ++ (d ++ (e ++ (f ++ g))))))
seven_right o a b c d e f g = simp append_assoc

pairs : (o d c p l : List ℕ) → o ++ d ++ c ++ p ++ l ≡ o ++ (d ++ c ++ (p ++ l))
pairs o d c p l = simp append_assoc

pub entry_pushed : (n : ℕ) (o a b z : List ℕ) → a ≡ o ++ codes "!{!\"function_entry_count\", i64 " → b ≡ a ++ written (literal_token I64 n) → z ≡ b ++ codes "}" → z ≡ o ++ text_of (note_pieces (Entry n))
entry_pushed n o a b z first second third =
    third ∙ ap (λ us. us ++ codes "}") (second ∙ ap (λ us. us ++ written (literal_token I64 n)) first)
    ∙ three_right o (codes "!{!\"function_entry_count\", i64 ") (written (literal_token I64 n)) (codes "}")

pub targets_pushed : (total : ℕ) (list : List (ℕ × ℕ)) (o a b c z : List ℕ) → a ≡ o ++ codes "!{!\"VP\", i32 0, i64 " → b ≡ a ++ written (literal_token I64 total) → c ≡ b ++ stop_text (stop_behind stops.CloseBrace list) → z ≡ c ++ text_of (items pair_pieces stops.CloseBrace list) → z ≡ o ++ text_of (note_pieces (Targets total list))
unfolding digits
targets_pushed total list o a b c z first second third fourth =
    fourth ∙ ap (λ us. us ++ text_of (items pair_pieces stops.CloseBrace list)) (third ∙ ap (λ us. us ++ stop_text (stop_behind stops.CloseBrace list)) (second ∙ ap (λ us. us ++ written (literal_token I64 total)) first))
    ∙ four_right o (codes "!{!\"VP\", i32 0, i64 ") (written (literal_token I64 total)) (stop_text (stop_behind stops.CloseBrace list)) (text_of (items pair_pieces stops.CloseBrace list))

pub node_put : (k : ℕ) (note : Prof) (o a b z : List ℕ) → a ≡ o ++ 33 ∷ decimal k ++ codes " = " → b ≡ a ++ text_of (note_pieces note) → z ≡ b ++ codes "\n" → z ≡ o ++ text_of (node_pieces k note)
node_put k note o a b z first second third =
    third ∙ ap (λ us. us ++ codes "\n") (second ∙ ap (λ us. us ++ text_of (note_pieces note)) first)
    ∙ four o (33 ∷ decimal k) (codes " = ") (text_of (note_pieces note)) (codes "\n")
    ∙ ap (λ us. o ++ us) (sym (node_text k note))

pub node_pushed : (notes : List Prof) (i : ℕ) (x d : Prof) (o a t : List ℕ) → i < length notes → x ≡ get_or notes i d → a ≡ o ++ text_of (node_pieces i x) → o ++ text_of (node_lines i (drop i notes)) ≡ t → a ++ text_of (node_lines (i + 1) (drop (i + 1) notes)) ≡ t
node_pushed notes i x d o a t below at pushed e =
    let left = drop (i + 1) notes in
    let parts : drop i notes ≡ x ∷ left = drop_more notes i d below ∙ ap (λ y. y ∷ left) (sym at) in
    let put : text_of (node_lines i (drop i notes)) ≡ text_of (node_pieces i x) ++ text_of (node_lines (i + 1) left) =
    ap (λ ys. text_of (node_lines i ys)) parts
    ∙ text_append (node_pieces i x) (node_lines (suc i) left)
    ∙ ap (λ k. text_of (node_pieces i x) ++ text_of (node_lines k left)) (sym (add-one i)) in
    ap (λ us. us ++ text_of (node_lines (i + 1) left)) pushed
    ∙ append_assoc o (text_of (node_pieces i x)) (text_of (node_lines (i + 1) left))
    ∙ ap (λ us. o ++ us) (sym put) ∙ e

pub bare_body : (nodes : List Prof) (prof : Option Prof) (bs : List Block) → eqb (length bs) 0 ≡ true → nodes ≡ with_body nodes prof bs
bare_body nodes prof [] e = refl
bare_body nodes prof (b ∷ bs) e = absurd (false≢true (sym (not_none (length bs)) ∙ e))

pub some_body : (nodes : List Prof) (prof : Option Prof) (bs : List Block) → eqb (length bs) 0 ≡ false → fold with_block (with_noted nodes prof) bs ≡ with_body nodes prof bs
some_body nodes prof [] e = absurd (true≢false e)
some_body nodes prof (b ∷ bs) e = refl

pub cases_pushed : (nodes : List Prof) (ty : Ty) (cases : List (ℕ × List ℕ)) (prof : Option Prof) (o a b z : List ℕ) → a ≡ o ++ flat_map (λ c. text_of (case_pieces ty c)) cases → b ≡ a ++ codes "  ]" → z ≡ b ++ line_end nodes prof → z ≡ o ++ text_of (cases_pieces nodes ty cases prof)
cases_pushed nodes ty cases prof o a b z first second third =
    third ∙ ap (λ us. us ++ line_end nodes prof) (second ∙ ap (λ us. us ++ codes "  ]") first)
    ∙ three o (flat_map (λ c. text_of (case_pieces ty c)) cases) (codes "  ]") (line_end nodes prof)
    ∙ ap (λ us. o ++ us) (sym (cases_text nodes ty cases prof))

pub select_pushed : (nodes : List Prof) (dest : List ℕ) (condition : Operand) (ty : Ty) (yes_value no_value : Operand) (prof : Option Prof) (o a b c d z : List ℕ) → a ≡ o ++ codes "  " ++ written (Local dest) ++ codes " = " → b ≡ a ++ codes "select i1 " → c ≡ b ++ written (operand_token I1 condition) → d ≡ c ++ codes ", " → z ≡ d ++ text_of (choice_pieces nodes ty yes_value no_value prof) → z ≡ o ++ text_of (instr_pieces nodes (Select dest condition ty yes_value no_value prof))
select_pushed nodes dest condition ty yes_value no_value prof o a b c d z first second third fourth fifth =
    let value = written (operand_token I1 condition) in
    let rest = text_of (choice_pieces nodes ty yes_value no_value prof) in
    fifth ∙ ap (λ us. us ++ rest) (fourth ∙ ap (λ us. us ++ codes ", ") (third ∙ ap (λ us. us ++ value) (second ∙ ap (λ us. us ++ codes "select i1 ") first)))
    ∙ seven_right o (codes "  ") (written (Local dest)) (codes " = ") (codes "select i1 ") value (codes ", ") rest

pub call_pushed : (nodes : List Prof) (dest : Option (List ℕ)) (ret : Ret) (callee : Operand) (args : List (Ty × Operand)) (prof : Option Prof) (o a b z : List ℕ) → a ≡ o ++ text_of (maybe_named dest []) → b ≡ a ++ callee_text ret callee → z ≡ b ++ text_of (parted typed_pieces stops.CloseParen args) ++ line_end nodes prof → z ≡ o ++ text_of (instr_pieces nodes (Call dest ret callee args prof))
call_pushed nodes dest ret callee args prof o a b z first second third =
    let list = text_of (parted typed_pieces stops.CloseParen args) in
    third ∙ ap (λ us. us ++ list ++ line_end nodes prof) (second ∙ ap (λ us. us ++ callee_text ret callee) first)
    ∙ pairs o (text_of (maybe_named dest [])) (callee_text ret callee) list (line_end nodes prof)
    ∙ ap (λ us. o ++ us) (sym (call_text nodes dest ret callee args prof))

pub block_pushed : (nodes : List Prof) (block : Block) (instrs : List Instr) (o a b z : List ℕ) → instrs ≡ block.instrs → a ≡ o ++ written (Label block.label) ++ codes "\n" → b ≡ a ++ flat_map (λ i. text_of (instr_pieces nodes i)) instrs → z ≡ b ++ text_of (term_pieces nodes block.term) → z ≡ o ++ text_of (block_pieces nodes block)
block_pushed nodes block instrs o a b z same first second third =
    let list = flat_map (λ i. text_of (instr_pieces nodes i)) block.instrs in
    third ∙ ap (λ us. us ++ text_of (term_pieces nodes block.term)) (second ∙ ap (λ is. a ++ flat_map (λ i. text_of (instr_pieces nodes i)) is) same ∙ ap (λ us. us ++ list) first)
    ∙ four o (written (Label block.label)) (codes "\n") list (text_of (term_pieces nodes block.term))
    ∙ ap (λ us. o ++ us) (sym (block_text nodes block))

pub braced_pushed : (nodes : List Prof) (blocks : List Block) (o a b z : List ℕ) → a ≡ o ++ codes "{\n" → b ≡ a ++ flat_map (λ b. text_of (block_pieces nodes b)) blocks → z ≡ b ++ codes "}\n" → z ≡ o ++ text_of (braced_pieces nodes blocks)
braced_pushed nodes blocks o a b z first second third =
    let list = flat_map (λ b. text_of (block_pieces nodes b)) blocks in
    third ∙ ap (λ us. us ++ codes "}\n") (second ∙ ap (λ us. us ++ list) first)
    ∙ three o (codes "{\n") list (codes "}\n") ∙ ap (λ us. o ++ us) (sym (braced_text nodes blocks))

pub definition_pushed : (nodes : List Prof) (f : Function) (blocks : List Block) (o a z : List ℕ) → blocks ≡ f.blocks → a ≡ o ++ text_of (head_pieces f) → z ≡ a ++ text_of (body_pieces nodes f.prof blocks) → z ≡ o ++ text_of (definition_pieces nodes f)
definition_pushed nodes f blocks o a z same first second =
    let inside = text_of (body_pieces nodes f.prof f.blocks) in
    second ∙ ap (λ bs. a ++ text_of (body_pieces nodes f.prof bs)) same
    ∙ ap (λ us. us ++ inside) first ∙ two_right o (text_of (head_pieces f)) inside
    ∙ ap (λ us. o ++ us) (sym (definition_text nodes f))

pub functions_pushed : (nodes : List Prof) (preceded : Bool) (f : Function) (fs : List Function) (o a z : List ℕ) → a ≡ o ++ text_of (parted_line preceded (function_pieces nodes f)) → z ≡ a ++ flat_map (λ g. text_of (later_function nodes g)) fs → z ≡ o ++ text_of (functions_pieces nodes preceded (f ∷ fs))
functions_pushed nodes preceded f fs o a z first second =
    let others = flat_map (λ g. text_of (later_function nodes g)) fs in
    second ∙ ap (λ us. us ++ others) first ∙ two_right o (text_of (parted_line preceded (function_pieces nodes f))) others
    ∙ ap (λ us. o ++ us) (sym (functions_text nodes preceded f fs))

pub module_pushed : (nodes : List Prof) (m : Module) (gs : List Global1) (fs : List Function) (preceded : Bool) (o a b z : List ℕ) → gs ≡ m.globals → fs ≡ m.functions → preceded ≡ has_any gs → a ≡ o ++ flat_map (λ g. text_of (variable_pieces g)) gs → b ≡ a ++ text_of (functions_pieces nodes preceded fs) → z ≡ b ++ text_of (nodes_pieces nodes) → z ≡ o ++ text_of (module_pieces nodes m)
module_pushed nodes m gs fs preceded o a b z globals functions before first second third =
    let end = text_of (nodes_pieces nodes) in
    third ∙ ap (λ us. us ++ end) (second ∙ ap (λ us. us ++ text_of (functions_pieces nodes preceded fs)) first)
    ∙ ap (λ p. o ++ flat_map (λ g. text_of (variable_pieces g)) gs ++ text_of (functions_pieces nodes p fs) ++ end) before
    ∙ ap (λ hs. o ++ flat_map (λ g. text_of (variable_pieces g)) gs ++ text_of (functions_pieces nodes (has_any gs) hs) ++ end) functions
    ∙ ap (λ hs. o ++ flat_map (λ g. text_of (variable_pieces g)) hs ++ text_of (functions_pieces nodes (has_any hs) m.functions) ++ end) globals
    ∙ three o (flat_map (λ g. text_of (variable_pieces g)) m.globals) (text_of (functions_pieces nodes (has_any m.globals) m.functions)) end
    ∙ ap (λ us. o ++ us) (sym (module_text nodes m))

pub body_noted : (nodes : List Prof) (prof given : Option Prof) (bs : List Block) (a z : List Prof) → eqb (length bs) 0 ≡ false → given ≡ prof → a ≡ with_noted nodes given → z ≡ fold with_block a bs → z ≡ with_body nodes prof bs
body_noted nodes prof given bs a z some same first second =
    second ∙ ap (λ ns. fold with_block ns bs) (first ∙ ap (λ p. with_noted nodes p) same) ∙ some_body nodes prof bs some

pub indexed_pushed : (mem : MemTy) (address : Operand) (indices : List (Ty × Operand)) (o a z : List ℕ) → a ≡ o ++ text_of (memory_pieces mem stops.Comma) → z ≡ a ++ text_of (address_pieces address indices) → z ≡ o ++ text_of (gep_pieces mem address indices)
indexed_pushed mem address indices o a z first second =
    let place = text_of (address_pieces address indices) in
    second ∙ ap (λ us. us ++ place) first ∙ two_right o (text_of (memory_pieces mem stops.Comma)) place
    ∙ ap (λ us. o ++ us) (sym (text_append (memory_pieces mem stops.Comma) (address_pieces address indices)))

pub count_printed : (nodes : List Prof) (instr : Instr) (symbol : List ℕ) (size index : ℕ) (step : Operand) (o z : List ℕ) → instr ≡ Count symbol size index step → z ≡ o ++ text_of (instr_pieces [] (Count symbol size index step)) → z ≡ o ++ text_of (instr_pieces nodes instr)
count_printed nodes instr symbol size index step o z is pushed =
    pushed ∙ ap (λ i. o ++ text_of (instr_pieces nodes i)) (sym is)
