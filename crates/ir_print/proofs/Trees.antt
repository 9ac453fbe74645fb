-- Types and initialisers with parts of their own, as lists.
use Rattle.std.proofs.Common.{◌≡◌, ℕ, suc, Bool, true, false, cond, eqb, List, [], ◌++◌, ◌∷◌, length, refl, sym, ap, ◌∙◌, append_assoc, append-nil, arith}
use Rattle.std.specs.Prelude.{codes, decimal}
use Rattle.std.proofs.lemmas.Bool.Decides.{nat_tests}
use Rattle.ir_lex.specs.Tokens.{Number}
use Rattle.ir_tree.specs.Sizes.{element_of}
use Rattle.ir_tree.specs.declared.types.MemTy.{MemTy}
use Rattle.ir_tree.specs.declared.types.MemTy.TheVariants as mem
use Rattle.ir_tree.specs.declared.types.MemTy.TheBlock.{shape-the_row-MemTy-0, hidden-the_row-MemTy-0}
use Rattle.ir_tree.specs.declared.types.Init.{Init, Row_of-Init, end_of-Init, more_of-Init, items-the_row-Init, items_hidden-the_row-Init-0}
use Rattle.ir_tree.specs.declared.types.Init.TheVariants as init
use Rattle.ir_tree.specs.declared.types.Init.TheBlock.{hidden-the_row-Init-0}
use Rattle.text_pieces.specs.declared.stop.Stop.{Stop}
use Rattle.text_pieces.specs.declared.stop.Stop.TheVariants as stops
use Rattle.text_pieces.specs.Written.{stop_text}
use Rattle.text_pieces.specs.Pieces.{Piece, Closed, Alone, text_of, text_append, four_parts}
use Rattle.text_pieces.specs.Lists.{items, stop_behind, items_pushed}
use Rattle.canonical_text.specs.Values.{spaced, memory_pieces, init_pieces, row_pieces, row_stop, is_bare, list_end}
use Rattle.canonical_text.specs.Canonical.{initial_pieces}
use denote.Hole.Carrier

-- # Types

pub element_array : (n : ℕ) (e : MemTy) → element_of (mem.Array n e) ≡ e
unfolding shape-the_row-MemTy-0 hidden-the_row-MemTy-0 Carrier.hidden
element_array n e = refl

memory_array : (n : ℕ) (e : MemTy) (stop : Stop) → memory_pieces (mem.Array n e) stop ≡ Alone stops.OpenBracket ∷ Closed (Number false n) stops.Space ∷ spaced (codes "x") (memory_pieces e stops.CloseBracket ++ Alone stop ∷ [])
unfolding shape-the_row-MemTy-0 hidden-the_row-MemTy-0 Carrier.hidden
memory_array n e stop = refl

memory_text : (n : ℕ) (e : MemTy) (stop : Stop) → text_of (memory_pieces (mem.Array n e) stop) ≡ 91 ∷ (decimal n ++ (codes " x " ++ (text_of (memory_pieces e stops.CloseBracket) ++ stop_text stop)))
memory_text n e stop =
    ap text_of (memory_array n e stop)
    ∙ ap (λ us. 91 ∷ (decimal n ++ (codes " x " ++ us)))
    (text_append (memory_pieces e stops.CloseBracket) (Alone stop ∷ []) ∙ ap (λ us. text_of (memory_pieces e stops.CloseBracket) ++ us) (append-nil (stop_text stop)))

five_parts : (o a b c d : List ℕ) → o ++ (a ++ (b ++ (c ++ d))) ≡ o ++ a ++ b ++ c ++ d
five_parts o a b c d = sym (append_assoc o a (b ++ (c ++ d))) ∙ four_parts (o ++ a) b c d

pub array_pushed : (m : MemTy) (n : ℕ) (e inner : MemTy) (stop : Stop) (o a b z : List ℕ) → m ≡ mem.Array n e → inner ≡ e → a ≡ o ++ 91 ∷ decimal n ++ codes " x " → b ≡ a ++ text_of (memory_pieces inner stops.CloseBracket) → z ≡ b ++ stop_text stop → z ≡ o ++ text_of (memory_pieces m stop)
array_pushed m n e inner stop o a b z is same first second third =
    let inside : text_of (memory_pieces inner stops.CloseBracket) ≡ text_of (memory_pieces e stops.CloseBracket) = ap (λ t. text_of (memory_pieces t stops.CloseBracket)) same in
    third ∙ ap (λ us. us ++ stop_text stop) (second ∙ ap (λ us. us ++ text_of (memory_pieces inner stops.CloseBracket)) first)
    ∙ ap (λ us. o ++ 91 ∷ decimal n ++ codes " x " ++ us ++ stop_text stop) inside
    ∙ sym (five_parts o (91 ∷ decimal n) (codes " x ") (text_of (memory_pieces e stops.CloseBracket)) (stop_text stop))
    ∙ ap (λ us. o ++ us) (sym (ap (λ t. text_of (memory_pieces t stop)) is ∙ memory_text n e stop))

-- # Initialisers

-- an item of a list, behind the type of the elements
abbrev pub init_item : MemTy → Init → Stop → List Piece
init_item element value stop = memory_pieces element stops.Space ++ init_pieces element value stop

stop_same : (n : _) (r : Row_of-Init n) → row_stop r ≡ stop_behind stops.CloseBracket (items-the_row-Init n r)
stop_same n end_of-Init = refl
stop_same n (more_of-Init i r) = refl

row_items : (element : MemTy) (n : _) (r : Row_of-Init n) → row_pieces element r ≡ items (init_item element) stops.CloseBracket (items-the_row-Init n r)
row_items element n end_of-Init = refl
row_items element n (more_of-Init i r) =
    ap (λ s. memory_pieces element stops.Space ++ init_pieces element i s ++ row_pieces element r) (stop_same _ r)
    ∙ ap (λ ps. init_item element i (stop_behind stops.CloseBracket (items-the_row-Init _ r)) ++ ps) (row_items element _ r)

pub not_none : (n : ℕ) → eqb (suc n) 0 ≡ false
not_none n = grind (arith, nat_tests)

bare_same : (n : _) (r : Row_of-Init n) → is_bare r ≡ eqb (length (items-the_row-Init n r)) 0
bare_same n end_of-Init = refl
bare_same n (more_of-Init i r) = sym (not_none (length (items-the_row-Init _ r)))

init_list : (m : MemTy) (is : List Init) (stop : Stop) → init_pieces m (init.List is) stop ≡ Alone stops.OpenBracket ∷ (items (init_item (element_of m)) stops.CloseBracket is ++ list_end (eqb (length is) 0) stop)
init_list m is stop =
    ap (λ ps. Alone stops.OpenBracket ∷ (ps ++ list_end (is_bare (hidden-the_row-Init-0 is)) stop)) (row_items (element_of m) _ (hidden-the_row-Init-0 is))
    ∙ ap (λ b. Alone stops.OpenBracket ∷ (items (init_item (element_of m)) stops.CloseBracket (items-the_row-Init _ (hidden-the_row-Init-0 is)) ++ list_end b stop)) (bare_same _ (hidden-the_row-Init-0 is))
    ∙ ap (λ xs. Alone stops.OpenBracket ∷ (items (init_item (element_of m)) stops.CloseBracket xs ++ list_end (eqb (length xs) 0) stop)) (items_hidden-the_row-Init-0 is)

-- one item, in two steps
pub item_joined : (element : MemTy) (value : Init) (stop : Stop) (o a z : List ℕ) → a ≡ o ++ text_of (memory_pieces element stops.Space) → z ≡ a ++ text_of (init_pieces element value stop) → z ≡ o ++ text_of (init_item element value stop)
item_joined element value stop o a z first second =
    second ∙ ap (λ us. us ++ text_of (init_pieces element value stop)) first
    ∙ append_assoc o (text_of (memory_pieces element stops.Space)) (text_of (init_pieces element value stop))
    ∙ ap (λ us. o ++ us) (sym (text_append (memory_pieces element stops.Space) (init_pieces element value stop)))

-- the whole list, behind its bracket
pub list_pushed : (m : MemTy) (value : Init) (is : List Init) (element : MemTy) (empty : Bool) (stop : Stop) (o a b z : List ℕ) → value ≡ init.List is → element ≡ element_of m → empty ≡ eqb (length is) 0 → a ≡ o ++ codes "[" → b ≡ a ++ text_of (items (init_item element) stops.CloseBracket is) → z ≡ b ++ text_of (list_end empty stop) → z ≡ o ++ text_of (init_pieces m value stop)
list_pushed m value is element empty stop o a b z same of none first second third =
    let list = items (init_item (element_of m)) stops.CloseBracket is in
    let end = list_end (eqb (length is) 0) stop in
    third ∙ ap (λ us. us ++ text_of (list_end empty stop)) (second ∙ ap (λ us. us ++ text_of (items (init_item element) stops.CloseBracket is)) first)
    ∙ ap (λ t. o ++ codes "[" ++ text_of (items (init_item t) stops.CloseBracket is) ++ text_of (list_end empty stop)) of
    ∙ ap (λ e. o ++ codes "[" ++ text_of list ++ text_of (list_end e stop)) none
    ∙ append_assoc (o ++ codes "[") (text_of list) (text_of end)
    ∙ append_assoc o (codes "[") (text_of list ++ text_of end)
    ∙ ap (λ us. o ++ (codes "[" ++ us)) (sym (text_append list end))
    ∙ ap (λ us. o ++ us) (sym (ap (λ v. text_of (init_pieces m v stop)) same ∙ ap text_of (init_list m is stop)))

pub initial_pushed : (external : Bool) (m : MemTy) (value : Init) (o a z : List ℕ) → external ≡ false → a ≡ o ++ text_of (memory_pieces m stops.Space) → z ≡ a ++ text_of (init_pieces m value stops.Line) → z ≡ o ++ text_of (initial_pieces external m value)
initial_pushed external m value o a z is first second =
    item_joined m value stops.Line o a z first second ∙ ap (λ b. o ++ text_of (initial_pieces b m value)) (sym is)

pub zero_pushed : (m : MemTy) (value : Init) (stop : Stop) (o z : List ℕ) → value ≡ init.Zero → z ≡ o ++ codes "zeroinitializer" ++ stop_text stop → z ≡ o ++ text_of (init_pieces m value stop)
zero_pushed m value stop o z is pushed =
    pushed ∙ append_assoc o (codes "zeroinitializer") (stop_text stop)
    ∙ ap (λ us. o ++ (codes "zeroinitializer" ++ us)) (sym (append-nil (stop_text stop)))
    ∙ ap (λ us. o ++ us) (sym (ap (λ v. text_of (init_pieces m v stop)) is))
