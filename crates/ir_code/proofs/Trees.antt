-- What sizes, initial values and numbers of profile data are, of a type or an initialiser with parts of its own.
use Rattle.std.proofs.Common.{◌≡◌, ℕ, ◌*◌, ◌+◌, List, ◌++◌, ◌∷◌, map, refl, ap, ◌∙◌, arith}
use Rattle.std.specs.Prelude.{flat_map}
use Rattle.ir_tree.specs.declared.types.MemTy.{MemTy}
use Rattle.ir_tree.specs.declared.types.MemTy.TheVariants as mem
use Rattle.ir_tree.specs.declared.types.MemTy.TheBlock.{shape-the_row-MemTy-0, hidden-the_row-MemTy-0}
use Rattle.ir_tree.specs.declared.types.Init.{Init, Row_of-Init, end_of-Init, more_of-Init, items-the_row-Init, items_hidden-the_row-Init-0}
use Rattle.ir_tree.specs.declared.types.Init.TheVariants as init
use Rattle.ir_tree.specs.declared.types.Init.TheBlock.{hidden-the_row-Init-0}
use Rattle.ir_memory.specs.Cell.{Cell}
use Rattle.ir_memory.specs.declared.value.Value.{Value}
use Rattle.ir_model.specs.Initial.{init_cells, list_cells}
use Rattle.ir_model.specs.Sizes.{size_of, element_of}
use Rattle.ir_code.specs.Units.{number_of, numbers_of, numbers_of_row}
use denote.Hole.Carrier

-- ---- types

one_times : (n s : ℕ) → n * (s + 0) ≡ n * s
one_times n s = ap (λ (x : ℕ). n * x) (omega arith)

pub size_array : (n : ℕ) (e : MemTy) → size_of (mem.Array n e) ≡ n * size_of e
unfolding shape-the_row-MemTy-0 hidden-the_row-MemTy-0 Carrier.hidden
size_array n e = one_times n (size_of e)

pub element_array : (n : ℕ) (e : MemTy) → element_of (mem.Array n e) ≡ e
unfolding shape-the_row-MemTy-0 hidden-the_row-MemTy-0 Carrier.hidden
element_array n e = refl

-- ---- initialisers

row_cells : (symbol : List ℕ → Value) (m : MemTy) (n : _) (r : Row_of-Init n) → list_cells symbol m r ≡ flat_map (init_cells symbol m) (items-the_row-Init n r)
row_cells symbol m n end_of-Init = refl
row_cells symbol m n (more_of-Init i r) =
    ap (λ (cells : List Cell). init_cells symbol m i ++ cells) (row_cells symbol m _ r)

pub cells_list : (symbol : List ℕ → Value) (m : MemTy) (is : List Init) → init_cells symbol m (init.List is) ≡ flat_map (init_cells symbol (element_of m)) is
cells_list symbol m is =
    row_cells symbol (element_of m) _ (hidden-the_row-Init-0 is)
    ∙ ap (λ (xs : List Init). flat_map (init_cells symbol (element_of m)) xs) (items_hidden-the_row-Init-0 is)

row_numbers : (n : _) (r : Row_of-Init n) → numbers_of_row r ≡ map number_of (items-the_row-Init n r)
row_numbers n end_of-Init = refl
row_numbers n (more_of-Init i r) = ap (λ (ns : List ℕ). number_of i ∷ ns) (row_numbers _ r)

pub numbers_list : (is : List Init) → numbers_of (init.List is) ≡ map number_of is
numbers_list is =
    row_numbers _ (hidden-the_row-Init-0 is)
    ∙ ap (λ (xs : List Init). map number_of xs) (items_hidden-the_row-Init-0 is)
