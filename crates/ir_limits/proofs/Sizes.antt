-- Sizes of array types.
use Rattle.std.proofs.Common.{◌≡◌, ℕ, zero, suc, ◌*◌, ◌+◌, ◌<◌, ◌≤◌, ◌⊎◌, inl, inr, min, cond, nat_lt, Bool, true, false, Option, Some, None, List, [], ◌∷◌, ◌++◌, refl, sym, ap, ◌∙◌, arith}
use Rattle.std.specs.Option.{option_map}
use Rattle.std.proofs.lemmas.Bool.{le-ltb}
use Rattle.ir_rules.specs.Limits.{array_sizes, each_above, reported}
use Rattle.ir_rules.specs.Sizes.{size_of}
use Rattle.ir_rules.specs.Units.{is_i64, is_scalar, length_of}
use Rattle.ir_tree.specs.Types.{when}
use Rattle.ir_rules.specs.declared.place.LimitKind.{LimitKind}
use Rattle.ir_rules.specs.declared.place.LimitKind.TheVariants.{Object}
use Rattle.spec_lists.specs.Each.{first_of}
use Rattle.ir_tree.specs.declared.types.MemTy.{MemTy}
use Rattle.ir_tree.specs.declared.types.MemTy.TheVariants as mem
use Rattle.ir_tree.specs.declared.types.MemTy.TheBlock.{shape-the_row-MemTy-0, hidden-the_row-MemTy-0}
use Rattle.std.proofs.lemmas.List.{append-nil}
use denote.Hole.Carrier

one_times : (n s : ℕ) → n * (s + 0) ≡ n * s
one_times n s = ap (λ (x : ℕ). n * x) (omega arith)

pub size_array : (n : ℕ) (e : MemTy) → size_of (mem.Array n e) ≡ n * size_of e
unfolding shape-the_row-MemTy-0 hidden-the_row-MemTy-0 Carrier.hidden
size_array n e = one_times n (size_of e)

pub arrays_array : (n : ℕ) (e : MemTy) → array_sizes (mem.Array n e) ≡ size_of (mem.Array n e) ∷ array_sizes e
unfolding shape-the_row-MemTy-0 hidden-the_row-MemTy-0 Carrier.hidden
arrays_array n e = ap (λ (xs : List ℕ). (n * (size_of e + 0)) ∷ xs) (append-nil (array_sizes e))

-- a product that stands still at the end of its type
pub product : (n s : ℕ) → min (n * min s 18446744073709551615) 18446744073709551615 ≡ min (n * s) 18446744073709551615
product zero s = (λ j. min (none (min s 18446744073709551615) j) 18446744073709551615) ∙ ap (λ (k : ℕ). min k 18446744073709551615) (sym (none s))
  where
    none : (k : ℕ) → zero * k ≡ zero
    none k = omega arith
product (suc n) s = by (below_or_not s)
  where
    below_or_not : (k : ℕ) → (k ≤ 18446744073709551615) ⊎ (18446744073709551615 < k)
    below_or_not k = grind arith

    first : (k m : ℕ) → suc k * m ≡ m + k * m
    first k m = omega arith

    by : (s ≤ 18446744073709551615) ⊎ (18446744073709551615 < s) → min (suc n * min s 18446744073709551615) 18446744073709551615 ≡ min (suc n * s) 18446744073709551615
    by (inl h) = ap (λ (k : ℕ). min (suc n * k) 18446744073709551615) (let e : min s 18446744073709551615 ≡ s = omega (arith, h) in e)
    by (inr h) =
        let top : min s 18446744073709551615 ≡ 18446744073709551615 = omega (arith, h) in
        let left : min (suc n * 18446744073709551615) 18446744073709551615 ≡ 18446744073709551615 = omega (arith, first n 18446744073709551615) in
        let right : min (suc n * s) 18446744073709551615 ≡ 18446744073709551615 = omega (arith, h, first n s) in
        ap (λ (k : ℕ). min (suc n * k) 18446744073709551615) top ∙ (left ∙ sym right)

-- an array type that is not too large leaves it to its element
pub within_array : (m : MemTy) (n : ℕ) (e : MemTy) (size : ℕ) (inner : MemTy) (o : Option ℕ) → m ≡ mem.Array n e → size ≡ reported (size_of m) → size ≤ 1048576 → inner ≡ e → option_map (λ (found : ℕ). (Object, found)) o ≡ first_of (each_above Object 1048576 (λ (s : ℕ). s) (array_sizes inner)) → option_map (λ (found : ℕ). (Object, found)) o ≡ first_of (each_above Object 1048576 (λ (s : ℕ). s) (array_sizes m))
within_array m n e size inner o is sized small same_element found =
    let parts : array_sizes m ≡ size_of m ∷ array_sizes e = ap array_sizes is ∙ (arrays_array n e ∙ ap (λ (t : MemTy). size_of t ∷ array_sizes e) (sym is)) in
    let below : size_of m ≤ 1048576 = omega (arith, sized, small) in
    let no_more : nat_lt 1048576 (size_of m) ≡ false = le-ltb 1048576 (size_of m) below in
    found ∙ (ap (λ (t : MemTy). first_of (each_above Object 1048576 (λ (s : ℕ). s) (array_sizes t))) same_element ∙ ((λ j. first_of (cond (sym no_more j) ((Object, reported (size_of m)) ∷ []) [] ++ each_above Object 1048576 (λ (s : ℕ). s) (array_sizes e))) ∙ ap (λ (xs : List ℕ). first_of (each_above Object 1048576 (λ (s : ℕ). s) xs)) (sym parts)))

-- the length of an array of 64-bit integers
pub length_i64 : (m : MemTy) (n : ℕ) (e inner : MemTy) (t : Bool) → m ≡ mem.Array n e → inner ≡ e → t ≡ is_scalar is_i64 inner → when t n ≡ length_of is_i64 m
unfolding shape-the_row-MemTy-0 hidden-the_row-MemTy-0 Carrier.hidden
length_i64 m n e inner t is same_element test = (λ j. when (test j) n) ∙ (ap (λ (k : MemTy). when (is_scalar is_i64 k) n) same_element ∙ ap (length_of is_i64) (sym is))
