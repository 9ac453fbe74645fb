-- Lists of initialisers, item by item.
use Rattle.std.proofs.Common.{◌≡◌, ℕ, Bool, true, false, ◌&&◌, List, [], ◌∷◌, ◌++◌, ◌<◌, ◌≤◌, length, take, get_or, flat_map, refl, sym, ap, ◌∙◌, arith}
use Rattle.std.specs.List.{list_all}
use Rattle.std.proofs.lemmas.List.Folds.{list_all-append, list_all_at}
use Rattle.std.proofs.Math.Seq.{take-length}
use Rattle.ir_rules.specs.Initialisers.{has_length, initialise, initialises, names_in, names_in_row, row_length}
use Rattle.ir_rules.specs.Sizes.{element_of}
use Rattle.ir_tree.specs.declared.types.Init.{Init, Row_of-Init, end_of-Init, more_of-Init, items-the_row-Init, items_hidden-the_row-Init-0}
use Rattle.ir_tree.specs.declared.types.Init.TheVariants as init
use Rattle.ir_tree.specs.declared.types.Init.TheBlock.{hidden-the_row-Init-0}
use Rattle.ir_tree.specs.declared.types.MemTy.{MemTy}

row_counts : (n : _) (r : Row_of-Init n) → row_length r ≡ length (items-the_row-Init n r)
row_counts n end_of-Init = refl
row_counts n (more_of-Init i r) = omega (arith, row_counts _ r)

row_initialises : (mem : MemTy) (n : _) (r : Row_of-Init n) → initialise mem r ≡ list_all (initialises mem) (items-the_row-Init n r)
row_initialises mem n end_of-Init = refl
row_initialises mem n (more_of-Init i r) = ap (λ (b : Bool). initialises mem i && b) (row_initialises mem _ r)

row_names : (n : _) (r : Row_of-Init n) → names_in_row r ≡ flat_map names_in (items-the_row-Init n r)
row_names n end_of-Init = refl
row_names n (more_of-Init i r) = ap (λ (ns : List (List ℕ)). names_in i ++ ns) (row_names _ r)

pub list_initialises : (mem : MemTy) (is : List Init) → initialises mem (init.List is) ≡ (has_length (length is) mem && list_all (initialises (element_of mem)) is)
list_initialises mem is =
    let row = hidden-the_row-Init-0 is in
    let same_items = items_hidden-the_row-Init-0 is in
    (λ j. has_length (row_counts _ row j) mem && row_initialises (element_of mem) _ row j)
    ∙ (λ j. has_length (length (same_items j)) mem && list_all (initialises (element_of mem)) (same_items j))

all_flat : {X Y : Type 0} (test : Y → Bool) (make : X → List Y) (xs : List X) → list_all test (flat_map make xs) ≡ list_all (λ (x : X). list_all test (make x)) xs
all_flat test make [] = refl
all_flat test make (x ∷ xs) = list_all-append test (make x) (flat_map make xs) ∙ ap (λ (b : Bool). list_all test (make x) && b) (all_flat test make xs)

pub list_names : (test : List ℕ → Bool) (is : List Init) → list_all test (names_in (init.List is)) ≡ list_all (λ (i : Init). list_all test (names_in i)) is
list_names test is =
    ap (λ (ns : List (List ℕ)). list_all test ns) (row_names _ (hidden-the_row-Init-0 is) ∙ ap (λ (ys : List Init). flat_map names_in ys) (items_hidden-the_row-Init-0 is))
    ∙ all_flat test names_in is

-- ---- a loop over items that are tested

pub all_ended : {X : Type 0} (test : X → Bool) (xs : List X) (i : ℕ) → list_all test (take i xs) ≡ true → length xs ≤ i → i ≤ length xs → list_all test xs ≡ true
all_ended test xs i so_far past within =
    let done : length xs ≡ i = omega (arith, past, within) in
    ap (λ ys. list_all test ys) (sym (take-length xs)) ∙ ap (λ (k : ℕ). list_all test (take k xs)) done ∙ so_far

pub all_broken : {X : Type 0} (test : X → Bool) (xs : List X) (i : ℕ) (x : X) → i < length xs → x ≡ get_or xs i x → test x ≡ false → list_all test xs ≡ false
all_broken test xs i x within is fails = list_all_at test xs i x within (ap test (sym is) ∙ fails)
