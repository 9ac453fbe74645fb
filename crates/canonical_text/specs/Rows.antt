-- Types and initialisers with parts of their own, as lists: the pieces of an array's type, and of a list of initialisers.
use Rattle.std.specs.Prelude.{◌≡◌, ℕ, suc, false, eqb, List, [], ◌++◌, ◌∷◌, length, codes}
use Rattle.std.proofs.Common.{refl, sym, ap, ◌∙◌, arith}
use Rattle.std.proofs.lemmas.Bool.Decides.{nat_tests}
use Rattle.ir_lex.specs.Tokens.{Number}
use Rattle.ir_tree.specs.Sizes.{element_of}
use Rattle.ir_tree.specs.declared.types.MemTy.{MemTy}
use Rattle.ir_tree.specs.declared.types.MemTy.TheVariants as mem
use Rattle.ir_tree.specs.declared.types.MemTy.TheBlock.{shape-the_row-MemTy-0, hidden-the_row-MemTy-0}
use Rattle.ir_tree.specs.declared.types.Init.{Init, Row_of-Init, end_of-Init, more_of-Init, items-the_row-Init, items_hidden-the_row-Init-0}
use Rattle.ir_tree.specs.declared.types.Init.TheVariants as inits
use Rattle.ir_tree.specs.declared.types.Init.TheBlock.{hidden-the_row-Init-0}
use Rattle.text_pieces.specs.declared.stop.Stop.{Stop}
use Rattle.text_pieces.specs.declared.stop.Stop.TheVariants as stops
use Rattle.text_pieces.specs.Pieces.{Piece, Closed, Alone}
use Rattle.text_pieces.specs.Lists.{stop_behind, items, parted}
use Rattle.canonical_text.specs.Values.{spaced, memory_pieces, init_pieces, row_pieces, row_stop, is_bare, list_end}
use denote.Hole.Carrier

-- # Types

pub array_pieces : (n : ℕ) (e : MemTy) (stop : Stop) → memory_pieces (mem.Array n e) stop ≡ Alone stops.OpenBracket ∷ Closed (Number false n) stops.Space ∷ spaced (codes "x") (memory_pieces e stops.CloseBracket ++ Alone stop ∷ [])
unfolding shape-the_row-MemTy-0 hidden-the_row-MemTy-0 Carrier.hidden
array_pieces n e stop = refl

pub element_array : (n : ℕ) (e : MemTy) → element_of (mem.Array n e) ≡ e
unfolding shape-the_row-MemTy-0 hidden-the_row-MemTy-0 Carrier.hidden
element_array n e = refl

-- # Initialisers

-- an item of a list, behind the type of the elements
abbrev pub item_pieces : MemTy → Init → Stop → List Piece
item_pieces element value stop = memory_pieces element stops.Space ++ init_pieces element value stop

stop_same : (n : _) (r : Row_of-Init n) → row_stop r ≡ stop_behind stops.CloseBracket (items-the_row-Init n r)
stop_same n end_of-Init = refl
stop_same n (more_of-Init i r) = refl

row_items : (element : MemTy) (n : _) (r : Row_of-Init n) → row_pieces element r ≡ items (item_pieces element) stops.CloseBracket (items-the_row-Init n r)
row_items element n end_of-Init = refl
row_items element n (more_of-Init i r) =
    ap (λ s. memory_pieces element stops.Space ++ init_pieces element i s ++ row_pieces element r) (stop_same _ r)
    ∙ ap (λ ps. item_pieces element i (stop_behind stops.CloseBracket (items-the_row-Init _ r)) ++ ps) (row_items element _ r)

not_none : (n : ℕ) → eqb (suc n) 0 ≡ false
not_none n = grind (arith, nat_tests)

bare_same : (n : _) (r : Row_of-Init n) → is_bare r ≡ eqb (length (items-the_row-Init n r)) 0
bare_same n end_of-Init = refl
bare_same n (more_of-Init i r) = sym (not_none (length (items-the_row-Init _ r)))

-- the pieces of a list at a type of memory
pub init_list : (m : MemTy) (is : List Init) (stop : Stop) → init_pieces m (inits.List is) stop ≡ Alone stops.OpenBracket ∷ (items (item_pieces (element_of m)) stops.CloseBracket is ++ list_end (eqb (length is) 0) stop)
init_list m is stop =
    ap (λ ps. Alone stops.OpenBracket ∷ (ps ++ list_end (is_bare (hidden-the_row-Init-0 is)) stop)) (row_items (element_of m) _ (hidden-the_row-Init-0 is))
    ∙ ap (λ b. Alone stops.OpenBracket ∷ (items (item_pieces (element_of m)) stops.CloseBracket (items-the_row-Init _ (hidden-the_row-Init-0 is)) ++ list_end b stop)) (bare_same _ (hidden-the_row-Init-0 is))
    ∙ ap (λ xs. Alone stops.OpenBracket ∷ (items (item_pieces (element_of m)) stops.CloseBracket xs ++ list_end (eqb (length xs) 0) stop)) (items_hidden-the_row-Init-0 is)

list_parted : (e : MemTy) (is : List Init) (stop : Stop) → items (item_pieces e) stops.CloseBracket is ++ list_end (eqb (length is) 0) stop ≡ parted (item_pieces e) stops.CloseBracket is ++ Alone stop ∷ []
list_parted e [] stop = refl
list_parted e (i ∷ is) stop = ap (λ b. items (item_pieces e) stops.CloseBracket (i ∷ is) ++ list_end b stop) (not_none (length is))

-- the pieces of a list at the type of an array
pub list_pieces : (n : ℕ) (e : MemTy) (is : List Init) (stop : Stop) → init_pieces (mem.Array n e) (inits.List is) stop ≡ Alone stops.OpenBracket ∷ (parted (item_pieces e) stops.CloseBracket is ++ Alone stop ∷ [])
list_pieces n e is stop =
    init_list (mem.Array n e) is stop
    ∙ ap (λ t. Alone stops.OpenBracket ∷ (items (item_pieces t) stops.CloseBracket is ++ list_end (eqb (length is) 0) stop)) (element_array n e)
    ∙ ap (λ ps. Alone stops.OpenBracket ∷ ps) (list_parted e is stop)
