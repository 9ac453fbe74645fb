-- What a look-up tells of the labels that a terminator names.
use Rattle.std.proofs.Common.{◌≡◌, ℕ, zero, suc, Bool, true, false, ◌||◌, ◌↔◌, List, [], ◌∷◌, drop, map, Option, None, Some, slice_get, refl, sym, ap, ◌∙◌, arith}
use Rattle.std.specs.List.{list_all}
use Rattle.std.specs.Cmp.Lexicographic.{bytes_decides}
use Rattle.std.specs.Cmp.{both_ways}
use Rattle.std.proofs.lemmas.Bool.{or_right}
use Rattle.std.proofs.lemmas.Bool.Decides.{nat_tests}
use Rattle.std.proofs.lemmas.List.Folds.{list_all-map}
use Rattle.std.proofs.lemmas.Option.{none-some, same_Some}
use Rattle.check_flow.specs.LookUps.{LabelOf, are_inner, block_of, is_inner}
use Rattle.ir_rules.specs.Finding.{FindsNames, label_found}
use Rattle.ir_rules.specs.Lists.{is_among}
use Rattle.ir_rules.specs.Targets.{names_targets}
use Rattle.ir_tree.specs.Blocks.{labels}
use Rattle.ir_tree.specs.FunctionNames.{IsIndexOf}
use Rattle.ir_tree.specs.Locals.{first_local}
use Rattle.ir_tree.specs.Names.{same}
use Rattle.ir_tree.specs.Successors.{successors}
use Rattle.ir_tree.specs.declared.function_index.FunctionIndex.{FunctionIndex}
use Rattle.ir_tree.specs.declared.locals.Local.{Local}
use Rattle.ir_tree.specs.declared.types.Block.{Block}
use Rattle.ir_tree.specs.declared.types.Function.{Function}
use Rattle.ir_tree.specs.declared.types.Term.{Term}

-- block v of the list has the label
abbrev pub HasLabel : List Block → List ℕ → ℕ → Type 0
HasLabel bs n v = (block : Block) × (slice_get bs v ≡ Some block) × (block.label ≡ n)

pub same_is : (x y : List ℕ) → same x y ≡ true → x ≡ y
same_is x y h = (bytes_decides x y).0 h

pub is_same : (x y : List ℕ) → x ≡ y → same x y ≡ true
is_same x y h = (bytes_decides x y).1 h

among_has : (n : List ℕ) (bs : List Block) → is_among n (labels bs) ≡ true → (v : ℕ) × HasLabel bs n v
among_has n [] h = absurd (cc)
among_has n (x ∷ xs) h = by (same n x.label) refl h (λ k. among_has n xs k)
  where
    by : (t : Bool) → same n x.label ≡ t → (t || is_among n (labels xs)) ≡ true → (is_among n (labels xs) ≡ true → (v : ℕ) × HasLabel xs n v) → (v : ℕ) × HasLabel (x ∷ xs) n v
    by true e k rest = (0, (x, refl, sym (same_is n x.label e)))
    by false e k rest = let found = rest k in (suc found.0, found.1)

has_among : (n : List ℕ) (bs : List Block) (v : ℕ) → HasLabel bs n v → is_among n (labels bs) ≡ true
has_among n [] v h = absurd (none-some h.0 h.1)
has_among n (x ∷ xs) zero h =
    let is : x ≡ h.0 = same_Some x h.0 h.1 in
    let here : same n x.label ≡ true = is_same n x.label (sym (ap (λ (b : Block). b.label) is ∙ h.2)) in
    ap (λ (t : Bool). t || is_among n (labels xs)) here
has_among n (x ∷ xs) (suc v) h = or_right (same n x.label) (is_among n (labels xs)) (has_among n xs v h)

inner_suc : (v : ℕ) → is_inner (Some (suc v)) ≡ true
inner_suc v = grind (arith, nat_tests)

inner_is : (n : List ℕ) (bs : List Block) (o : Option ℕ) → ((v : ℕ) → HasLabel bs n v ↔ (o ≡ Some v)) → is_inner o ≡ is_among n (labels (drop 1 bs))
inner_is n bs o tells = both_ways (is_inner o) (is_among n (labels (drop 1 bs))) (there o bs tells) (back o bs tells)
  where
    there : (p : Option ℕ) (xs : List Block) → ((v : ℕ) → HasLabel xs n v ↔ (p ≡ Some v)) → is_inner p ≡ true → is_among n (labels (drop 1 xs)) ≡ true
    there None xs t h = absurd (cc)
    there (Some zero) xs t h = absurd (cc)
    there (Some (suc v)) [] t h = let has = (t (suc v)).1 refl in absurd (none-some has.0 has.1)
    there (Some (suc v)) (x ∷ xs) t h = let has = (t (suc v)).1 refl in has_among n xs v has

    back : (p : Option ℕ) (xs : List Block) → ((v : ℕ) → HasLabel xs n v ↔ (p ≡ Some v)) → is_among n (labels (drop 1 xs)) ≡ true → is_inner p ≡ true
    back p [] t h = absurd (cc)
    back p (x ∷ xs) t h = let found = among_has n xs h in ap is_inner ((t (suc found.0)).0 found.1) ∙ inner_suc found.0

-- what the cases of a switch name
pub cases_inner : (known : LabelOf) (cases : List (ℕ × List ℕ)) → list_all (λ c. is_inner (known c.1)) cases ≡ list_all (λ to. is_inner (known to)) (map (λ c. c.1) cases)
cases_inner known cases = sym (list_all-map (λ to. is_inner (known to)) (λ (c : ℕ × List ℕ). c.1) cases)

pub found_as : (f : Function) (index : FunctionIndex) → IsIndexOf index f → (n : List ℕ) → block_of index n ≡ label_found (first_local f n)
found_as f index is n = ap (λ (o : Option Local). label_found o) (is n)

pub targets_found : (f : Function) → FindsNames f → (index : FunctionIndex) → IsIndexOf index f → (t : Term) → are_inner (block_of index) t ≡ names_targets f t
targets_found f finds index is t = λ i. list_all (λ to. one to i) (successors t)
  where
    one : (to : List ℕ) → is_inner (block_of index to) ≡ is_among to (labels (drop 1 f.blocks))
    one to = ap is_inner (found_as f index is to) ∙ inner_is to f.blocks (label_found (first_local f to)) (λ v. finds.label to v)

-- the blocks that an index of the function's names finds are those with the label
pub tells_blocks : (f : Function) → FindsNames f → (index : FunctionIndex) → IsIndexOf index f → (n : List ℕ) (v : ℕ) → HasLabel f.blocks n v ↔ (block_of index n ≡ Some v)
tells_blocks f finds index is n v = (λ h. found_as f index is n ∙ (finds.label n v).0 h, λ e. (finds.label n v).1 (sym (found_as f index is n) ∙ e))
