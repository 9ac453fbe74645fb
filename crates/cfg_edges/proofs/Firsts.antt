-- Labels of which each is the first of its kind.
use Rattle.std.proofs.Common.{◌≡◌, ℕ, ◌<◌, Bool, true, false, if◌then◌else◌, nat_eq, List, [], length, map, get_or, position, Option, None, Some, IfSome, slice_get, refl, sym, ap, subst, ◌∙◌, arith}
use Rattle.std.proofs.lemmas.Grind.{common_steps}
use Rattle.std.proofs.lemmas.List.{length-map, get_or-map}
use Rattle.std.proofs.lemmas.List.Kept.{AllPairs-from_increasing}
use Rattle.std.proofs.lemmas.List.Quantifiers.{position-Some}
use Rattle.std.proofs.lemmas.List.Sorted.{IsPermutation-sym}
use Rattle.std.proofs.lemmas.List.Sums.{position_or_len_is}
use Rattle.std.proofs.lemmas.Map.Keys.{IsDistinct-IsPermutation, IsDistinct-from_apart, apart_from_distinct}
use Rattle.std.proofs.lemmas.Option.{none-some, slice_get-map, slice_get_within, get_or_from_slice_get}
use Rattle.std.specs.Cmp.Lexicographic.{nat_list_eq_equiv, same_text}
use Rattle.std.specs.List.{IsDistinct}
use Rattle.std.specs.List.Sorted.{IsPermutation, IsStrictlyIncreasing}
use Rattle.std.specs.Option.{option_map}
use Rattle.ir_tree.specs.Edges.{block_place, labels}
use Rattle.ir_tree.specs.Names.{same, Indexes}
use Rattle.ir_tree.specs.declared.index.Index.{Index}
use Rattle.ir_tree.specs.declared.types.Block.{Block}
use Rattle.cfg_edges.specs.Blocks.{HasPlaces, label_hash}

flips : (x y : ℕ) → nat_eq x y ≡ nat_eq y x
flips x y = grind arith

clash : (x y : ℕ) → nat_eq x y ≡ false → x ≡ y → ⊥
clash x y e is = grind arith

rising_apart : (xs : List ℕ) → IsStrictlyIncreasing xs → IsDistinct nat_eq xs
rising_apart xs up = IsDistinct-from_apart nat_eq xs (λ i j d less within. let below : get_or xs i d < get_or xs j d = AllPairs-from_increasing xs up i j d less within in grind arith)

-- numbers in any order, of which no two are one where they rise once they are sorted
apart : (xs ys : List ℕ) → IsPermutation xs ys → IsStrictlyIncreasing ys → IsDistinct nat_eq xs
apart xs ys moved up = IsDistinct-IsPermutation nat_eq flips ys xs (IsPermutation-sym xs ys moved) (rising_apart ys up)

-- a name is not among those before it where no two have one hash
other : (names : List (List ℕ)) (i : ℕ) (k : ℕ) → IsDistinct nat_eq (map label_hash names) → i < length names → k < i → (b : Bool) → same (get_or names i []) (get_or names k []) ≡ b → b ≡ false
other names i k distinct within before false e = refl
other names i k distinct within before true e =
    let one : get_or names i [] ≡ get_or names k [] = same_text (get_or names i []) (get_or names k []) (sym e) in
    let long = length-map names label_hash in
    let differ : nat_eq (get_or (map label_hash names) k 0) (get_or (map label_hash names) i 0) ≡ false = apart_from_distinct nat_eq (map label_hash names) k i 0 distinct before (omega arith) in
    let at_k : get_or (map label_hash names) k 0 ≡ label_hash (get_or names k []) = get_or-map label_hash names k [] 0 (omega arith) in
    let at_i : get_or (map label_hash names) i 0 ≡ label_hash (get_or names i []) = get_or-map label_hash names i [] 0 within in
    absurd (clash (get_or (map label_hash names) k 0) (get_or (map label_hash names) i 0) differ (at_k ∙ ap label_hash (sym one) ∙ sym at_i))

first : (names : List (List ℕ)) (i : ℕ) → IsDistinct nat_eq (map label_hash names) → i < length names → position (same (get_or names i [])) names ≡ Some i
first names i distinct within =
    let p = same (get_or names i []) in
    let at : p (get_or names i []) ≡ true = nat_list_eq_equiv.refl (get_or names i []) in
    let is = position_or_len_is p names i [] (omega arith) (λ k before. other names i k distinct within before (p (get_or names k [])) refl) (λ _. at) in
    grind (arith, common_steps)

pub have_places : (blocks : List Block) (hashes sorted read : List ℕ) → hashes ≡ map label_hash (labels blocks) → IsPermutation hashes sorted → read ≡ sorted → IsStrictlyIncreasing read → HasPlaces blocks blocks
have_places blocks hashes sorted read made moved sees up place label (block, at, is) =
    let distinct : IsDistinct nat_eq (map label_hash (labels blocks)) = subst (λ (hs : List ℕ). IsDistinct nat_eq hs) made (apart hashes sorted moved (subst (λ (ns : List ℕ). IsStrictlyIncreasing ns) sees up)) in
    let named : slice_get (labels blocks) place ≡ Some label = slice_get-map (λ (y : Block). y.label) blocks place ∙ ap (λ o. option_map (λ (y : Block). y.label) o) at ∙ ap (λ (m : List ℕ). Some m) is in
    let name : get_or (labels blocks) place [] ≡ label = get_or_from_slice_get (labels blocks) place label [] named in
    subst (λ (m : List ℕ). position (same m) (labels blocks) ≡ Some place) name (first (labels blocks) place distinct (slice_get_within (labels blocks) place label named))

pub known_places : (blocks known : List Block) (apart : Bool) → (apart ≡ true → HasPlaces blocks blocks) → known ≡ (if apart then blocks else []) → HasPlaces blocks known
known_places blocks known true has e = subst (λ (bs : List Block). HasPlaces blocks bs) (sym e) (has refl)
known_places blocks known false has e = subst (λ (bs : List Block). HasPlaces blocks bs) (sym e) (λ place label h. absurd (none-some h.0 h.1))

pub place_below : (blocks : List Block) (label : List ℕ) (place : ℕ) → block_place blocks label ≡ Some place → length blocks < 4294967296 → place < 4294967296
place_below blocks label place at few =
    let within : place < length (labels blocks) = (position-Some (same label) (labels blocks) place [] at).0 in
    omega (arith, within, few, length-map blocks (λ (y : Block). y.label))

pub if_indexed : (blocks : List Block) (o : Option Index) → ((i : Index) → o ≡ Some i → Indexes i (labels blocks)) → IfSome o (λ i. Indexes i (labels blocks))
if_indexed blocks None h = tt
if_indexed blocks (Some i) h = h i refl
