-- Indices that enter arrays, one further.
use Rattle.std.proofs.Common.{◌≡◌, ℕ, zero, suc, ◌+◌, ◌<◌, Bool, true, false, ◌&&◌, List, [], ◌∷◌, length, drop, refl, sym, ap, ◌∙◌, arith, add-one}
use Rattle.ir_rules.specs.Typing.{enter, is_array}
use Rattle.ir_rules.specs.Sizes.{element_of}
use Rattle.ir_tree.specs.Operands.{Use}
use Rattle.ir_tree.specs.declared.types.MemTy.{MemTy}
use Rattle.ir_tree.specs.declared.types.MemTy.TheVariants as mem
use Rattle.ir_tree.specs.declared.types.MemTy.TheBlock.{shape-the_row-MemTy-0, hidden-the_row-MemTy-0}
use Rattle.ir_tree.specs.declared.types.Ty.{Ty}
use denote.Hole.Carrier

array : (n : ℕ) (e : MemTy) → is_array (mem.Array n e) ≡ true
unfolding shape-the_row-MemTy-0 hidden-the_row-MemTy-0 Carrier.hidden
array n e = refl

element : (n : ℕ) (e : MemTy) → element_of (mem.Array n e) ≡ e
unfolding shape-the_row-MemTy-0 hidden-the_row-MemTy-0 Carrier.hidden
element n e = refl

stops : (m : MemTy) → is_array m ≡ false → (is : List Use) (i : ℕ) → i < length is → enter m (drop i is) ≡ false
stops m flat [] i h = absurd (omega (arith, h))
stops m flat (x ∷ xs) zero h = ap (λ (b : Bool). b && enter (element_of m) xs) flat
stops m flat (x ∷ xs) (suc i) h = stops m flat xs i (omega (arith, h))

enters : (m : MemTy) → is_array m ≡ true → (is : List Use) (i : ℕ) → i < length is → enter m (drop i is) ≡ enter (element_of m) (drop (suc i) is)
enters m deep [] i h = absurd (omega (arith, h))
enters m deep (x ∷ xs) zero h = ap (λ (b : Bool). b && enter (element_of m) xs) deep
enters m deep (x ∷ xs) (suc i) h = enters m deep xs i (omega (arith, h))

-- no index enters a value
pub at_scalar : (m whole : MemTy) (t : Ty) (is : List Use) (i : ℕ) → m ≡ mem.Scalar t → i < length is → enter m (drop i is) ≡ enter whole is → false ≡ enter whole is
at_scalar m whole t is i e h now = sym (stops m (ap is_array e) is i h) ∙ now

-- an index that enters an array leaves the others to its element
pub at_array : (m whole next : MemTy) (n : ℕ) (e : MemTy) (is : List Use) (i : ℕ) → m ≡ mem.Array n e → next ≡ e → i < length is → enter m (drop i is) ≡ enter whole is → enter next (drop (i + 1) is) ≡ enter whole is
at_array m whole next n e is i at into h now =
    let inner : next ≡ element_of m = into ∙ (sym (element n e) ∙ sym (ap element_of at)) in
    (λ j. enter (inner j) (drop (add-one i j) is)) ∙ (sym (enters m (ap is_array at ∙ array n e) is i h) ∙ now)
