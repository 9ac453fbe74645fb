-- Objects whose cells lie one after the other.
use Rattle.std.proofs.Common.{◌≡◌, ◌≢◌, ℕ, zero, suc, ◌+◌, ◌-◌, ◌<◌, ◌≤◌, true, false, max, List, [], ◌∷◌, ◌++◌, length, get_or, set, take, drop, None, Result, Ok, Err, inl, inr, refl, sym, ap, ◌∙◌, arith, rules}
use Rattle.std.specs.Prelude.{nat_lt, sum_by, ◌==◌, ◌⊎◌, IfOk, IfErr}
use Rattle.std.specs.List.Sorted.{IsNonDecreasingBy, IsPartitionPoint, IsBinarySearchResult, IsSearchInRange}
use Rattle.std.specs.Ordering.{nat_cmp, ordering_index}
use Rattle.std.proofs.lemmas.Bool.{ne_eqb, cases_lt}
use Rattle.std.proofs.lemmas.Bool.Decides.{nat_tests}
use Rattle.std.proofs.lemmas.Cmp.{ranked}
use Rattle.std.proofs.lemmas.List.{length-take-le, length-drop, take-take, take_all, take-append-le, drop-append-le, drop-drop, drop-take, get_or_default, nil_from_length, same_lists, places}
use Rattle.std.proofs.lemmas.List.Sums.{sum_by-cons}
use Rattle.std.proofs.lemmas.Slice.{take-put_mid_below, drop-put_mid}
use borrow.Rule.Slice.PartMut.{put_mid}
use Rattle.ir_memory.specs.declared.live_object.LiveObject.{LiveObject}
use Rattle.ir_memory.specs.Cell.{Cell}
use Rattle.ir_memory.specs.Contents.{overwritten}
use Rattle.ir_memory.specs.Memory.{Allocation, counted, found, live_cells}
use Rattle.ir_memory.specs.Objects.{allocations_of, IsLaidOut, AreRising, HasNone, IsCut, IsPlace, counted_size}
use Rattle.ir_memory.specs.Sound.{Rises}
use Rattle.ir_memory.proofs.AllocationLemmas.{if_false}

abbrev pub allocation_of : LiveObject → List Cell → Allocation
allocation_of o cells = record { number = o.number; constant = o.constant; cells = cells }

-- ---- one by one

pub length_allocations : (os : List LiveObject) (cs : List Cell) → length (allocations_of os cs) ≡ length os
length_allocations [] cs = refl
length_allocations (o ∷ os) cs = ap suc (length_allocations os (drop o.size cs))

pub number_at : (os : List LiveObject) (cs : List Cell) (i : ℕ) (d : LiveObject) (a : Allocation) → i < length os
    → (get_or (allocations_of os cs) i a).number ≡ (get_or os i d).number
number_at [] cs i d a h = absurd (omega arith)
number_at (o ∷ os) cs zero d a h = refl
number_at (o ∷ os) cs (suc i) d a h = number_at os (drop o.size cs) i d a (omega arith)

pub none_found : (os : List LiveObject) (cs : List Cell) (number : ℕ) → HasNone os number → found (allocations_of os cs) number ≡ None
none_found [] cs number none = refl
none_found (o ∷ os) cs number none =
    if_false (o.number == number) _ _ (ne_eqb o.number number (none 0 o (omega arith)))
    ∙ none_found os (drop o.size cs) number (λ i d h. none (suc i) d (omega arith))

objects_above : (low : ℕ) (os : List LiveObject) (cs : List Cell) (next : ℕ) → Rises low (allocations_of os cs) next
    → (i : ℕ) (d : LiveObject) → i < length os → low ≤ (get_or os i d).number
objects_above low [] cs next r i d h = absurd (omega arith)
objects_above low (o ∷ os) cs next r zero d h = r.0
objects_above low (o ∷ os) cs next r (suc i) d h =
    let t = objects_above (suc o.number) os (drop o.size cs) next r.1 i d (omega arith) in omega (arith, r.0, t)

pub objects_rise : (low : ℕ) (os : List LiveObject) (cs : List Cell) (next : ℕ) → Rises low (allocations_of os cs) next
    → (i j : ℕ) (d : LiveObject) → i < j → j < length os → (get_or os i d).number < (get_or os j d).number
objects_rise low [] cs next r i j d h k = absurd (omega arith)
objects_rise low (o ∷ os) cs next r i zero d h k = absurd (omega arith)
objects_rise low (o ∷ os) cs next r zero (suc j) d h k = objects_above (suc o.number) os (drop o.size cs) next r.1 j d (omega arith)
objects_rise low (o ∷ os) cs next r (suc i) (suc j) d h k = objects_rise (suc o.number) os (drop o.size cs) next r.1 i j d (omega arith) (omega arith)

-- ---- where they lie

pub laid_out_end : (at end : ℕ) (os : List LiveObject) → IsLaidOut at os end → at ≤ end
laid_out_end at end [] l = omega arith
laid_out_end at end (o ∷ os) l = let t = laid_out_end (at + o.size) end os l.1 in omega (arith, t)

pub start_above : (at end : ℕ) (os : List LiveObject) (i : ℕ) (d : LiveObject) → IsLaidOut at os end → i < length os → at ≤ (get_or os i d).start
start_above at end [] i d l h = absurd (omega arith)
start_above at end (o ∷ os) zero d l h = omega (arith, l.0)
start_above at end (o ∷ os) (suc i) d l h = let t = start_above (at + o.size) end os i d l.1 (omega arith) in omega (arith, t)

pub object_fits : (at end : ℕ) (os : List LiveObject) (i : ℕ) (d : LiveObject) → IsLaidOut at os end → i < length os
    → (get_or os i d).start + (get_or os i d).size ≤ end
object_fits at end [] i d l h = absurd (omega arith)
object_fits at end (o ∷ os) zero d l h = let t = laid_out_end (at + o.size) end os l.1 in omega (arith, l.0, t)
object_fits at end (o ∷ os) (suc i) d l h = object_fits (at + o.size) end os i d l.1 (omega arith)

pub laid_out_push : (at end : ℕ) (os : List LiveObject) (o : LiveObject) → IsLaidOut at os end → o.start ≡ end → IsLaidOut at (os ++ o ∷ []) (end + o.size)
laid_out_push at end [] o l e = (omega arith, omega arith)
laid_out_push at end (p ∷ os) o l e = (l.0, laid_out_push (at + p.size) end os o l.1 e)

pub laid_out_take : (at end : ℕ) (os : List LiveObject) (k : ℕ) (d : LiveObject) → IsLaidOut at os end → k < length os
    → IsLaidOut at (take k os) (get_or os k d).start
laid_out_take at end [] k d l h = absurd (omega arith)
laid_out_take at end (o ∷ os) zero d l h = sym l.0
laid_out_take at end (o ∷ os) (suc k) d l h = (l.0, laid_out_take (at + o.size) end os k d l.1 (omega arith))

-- ---- an allocation by its place

pub get_allocation : (at end : ℕ) (os : List LiveObject) (cs : List Cell) (i s : ℕ) (d : LiveObject) (a : Allocation) → IsLaidOut at os end → i < length os
    → at + s ≡ (get_or os i d).start
    → get_or (allocations_of os cs) i a ≡ allocation_of (get_or os i d) (take (get_or os i d).size (drop s cs))
get_allocation at end [] cs i s d a l h e = absurd (omega arith)
get_allocation at end (o ∷ os) cs zero s d a l h e =
    let f : zero ≡ s = omega (arith, l.0, e) in ap (λ n. allocation_of o (take o.size (drop n cs))) f
get_allocation at end (o ∷ os) cs (suc i) s d a l h e =
    let p = get_or os i d in
    let t = start_above (at + o.size) end os i d l.1 (omega arith) in
    let f : o.size + (s - o.size) ≡ s = omega (arith, t, e) in
    get_allocation (at + o.size) end os (drop o.size cs) i (s - o.size) d a l.1 (omega arith) (omega (arith, t, e))
    ∙ ap (λ c. allocation_of p (take p.size c)) (drop-drop (s - o.size) o.size cs ∙ ap (λ n. drop n cs) f)

-- ---- to make

pub allocations-push : (at end : ℕ) (os : List LiveObject) (cs new : List Cell) (o : LiveObject) → IsLaidOut at os end → at + length cs ≡ end
    → o.size ≡ length new → allocations_of (os ++ o ∷ []) (cs ++ new) ≡ allocations_of os cs ++ allocation_of o new ∷ []
allocations-push at end [] cs new o l e f =
    let n : cs ≡ [] = nil_from_length cs (omega arith) in
    ap (λ c. allocation_of o (take o.size (c ++ new)) ∷ []) n ∙ ap (λ c. allocation_of o c ∷ []) (take_all o.size new (omega arith))
allocations-push at end (p ∷ os) cs new o l e f =
    let t = laid_out_end (at + p.size) end os l.1 in
    let h : p.size ≤ length cs = omega (arith, t, e) in
    let front = take-append-le p.size cs new h in
    let back = drop-append-le p.size cs new h in
    let g : at + p.size + length (drop p.size cs) ≡ end = omega (arith, length-drop p.size cs, t, e) in
    let rest = ap (allocations_of (os ++ o ∷ [])) back ∙ allocations-push (at + p.size) end os (drop p.size cs) new o l.1 g f in
    λ x. allocation_of p (front x) ∷ rest x

-- ---- to end

pub allocations-take : (at end : ℕ) (os : List LiveObject) (cs : List Cell) (k n : ℕ) (d : LiveObject) → IsLaidOut at os end → k < length os
    → at + n ≡ (get_or os k d).start → allocations_of (take k os) (take n cs) ≡ take k (allocations_of os cs)
allocations-take at end [] cs k n d l h e = absurd (omega arith)
allocations-take at end (o ∷ os) cs zero n d l h e = refl
allocations-take at end (o ∷ os) cs (suc k) n d l h e =
    let t = start_above (at + o.size) end os k d l.1 (omega arith) in
    let f : n ≡ o.size + (n - o.size) = omega (arith, t, e) in
    let front = take-take o.size n cs (omega (arith, t, e)) in
    let back : drop o.size (take n cs) ≡ take (n - o.size) (drop o.size cs) = ap (λ m. drop o.size (take m cs)) f ∙ drop-take o.size (n - o.size) cs in
    let rest = ap (allocations_of (take k os)) back
    ∙ allocations-take (at + o.size) end os (drop o.size cs) k (n - o.size) d l.1 (omega arith) (omega (arith, t, e)) in
    λ x. allocation_of o (front x) ∷ rest x

pub live_cells-objects : (at end : ℕ) (os : List LiveObject) (cs : List Cell) → IsLaidOut at os end → at + length cs ≡ end
    → live_cells (allocations_of os cs) ≡ sum_by counted_size os
live_cells-objects at end [] cs l e = refl
live_cells-objects at end (o ∷ os) cs l e =
    let t = laid_out_end (at + o.size) end os l.1 in
    let g : at + o.size + length (drop o.size cs) ≡ end = omega (arith, length-drop o.size cs, t, e) in
    let one = ap (λ n. max 1 n) (length-take-le o.size cs (omega (arith, t, e))) in
    let rest = live_cells-objects (at + o.size) end os (drop o.size cs) l.1 g in
    sum_by-cons counted (allocation_of o (take o.size cs)) (allocations_of os (drop o.size cs)) ∙ (λ x. one x + rest x) ∙ sym (sum_by-cons counted_size o os)

-- the cells are no more than they count as
pub laid_out_le : (at end : ℕ) (os : List LiveObject) → IsLaidOut at os end → end ≤ at + sum_by counted_size os
laid_out_le at end [] l = omega arith
laid_out_le at end (o ∷ os) l =
    let t = laid_out_le (at + o.size) end os l.1 in
    let s = sum_by-cons counted_size o os in
    omega (arith, t, s)

-- ---- to write

overwritten_mid : (cs new : List Cell) (at : ℕ) → overwritten cs at new ≡ put_mid at (length new) cs new
overwritten_mid cs new at = ap (λ rest. take at cs ++ (new ++ rest)) (sym (drop-drop (length new) at cs))

take_over : (n at : ℕ) (cs new : List Cell) → at + length new ≤ n → n ≤ length cs → take n (overwritten cs at new) ≡ overwritten (take n cs) at new
take_over n at cs new h k = same_lists _ _ (search (rules, places)) (λ i d j. grind (arith, places))

take_under : (n at : ℕ) (cs new : List Cell) → n ≤ at → at ≤ length cs → take n (overwritten cs at new) ≡ take n cs
take_under n at cs new h k = ap (take n) (overwritten_mid cs new at) ∙ take-put_mid_below at (length new) cs new n h k

drop_over : (n at : ℕ) (cs new : List Cell) → at + length new ≤ n → at ≤ length cs → drop n (overwritten cs at new) ≡ drop n cs
drop_over n at cs new h k = ap (drop n) (overwritten_mid cs new at) ∙ drop-put_mid at (length new) cs new n h k refl

drop_under : (n at m : ℕ) (cs new : List Cell) → at ≡ n + m → at + length new ≤ length cs → drop n (overwritten cs at new) ≡ overwritten (drop n cs) m new
drop_under n at m cs new e h = same_lists _ _ (search (rules, places)) (λ i d j. grind (arith, places))

pub allocations-set : (at end : ℕ) (os : List LiveObject) (cs : List Cell) (i s offset : ℕ) (new : List Cell) (d : LiveObject) → IsLaidOut at os end
    → at + length cs ≡ end → i < length os → at + s ≡ (get_or os i d).start → offset + length new ≤ (get_or os i d).size
    → allocations_of os (overwritten cs (s + offset) new)
    ≡ set (allocations_of os cs) i (allocation_of (get_or os i d) (overwritten (take (get_or os i d).size (drop s cs)) offset new))
allocations-set at end [] cs i s offset new d l e h f g = absurd (omega arith)
allocations-set at end (o ∷ os) cs zero s offset new d l e h f g =
    let t = laid_out_end (at + o.size) end os l.1 in
    let z : zero ≡ s = omega (arith, l.0, f) in
    let y : s + offset ≡ offset = omega (arith, l.0, f) in
    let front = ap (λ n. take o.size (overwritten cs n new)) y ∙ take_over o.size offset cs new g (omega (arith, t, e))
    ∙ ap (λ n. overwritten (take o.size (drop n cs)) offset new) z in
    let back = ap (λ n. drop o.size (overwritten cs n new)) y ∙ drop_over o.size offset cs new g (omega (arith, t, e)) in
    λ x. allocation_of o (front x) ∷ allocations_of os (back x)
allocations-set at end (o ∷ os) cs (suc i) s offset new d l e h f g =
    let p = get_or os i d in
    let t = start_above (at + o.size) end os i d l.1 (omega arith) in
    let u = object_fits (at + o.size) end os i d l.1 (omega arith) in
    let v : at + o.size + length (drop o.size cs) ≡ end = omega (arith, length-drop o.size cs, t, e, u) in
    let front = take_under o.size (s + offset) cs new (omega (arith, t, f)) (omega (arith, t, e, f, u, g)) in
    let back = drop_under o.size (s + offset) (s - o.size + offset) cs new (omega (arith, t, f)) (omega (arith, t, e, f, u, g)) in
    let w : o.size + (s - o.size) ≡ s = omega (arith, t, f) in
    let same = drop-drop (s - o.size) o.size cs ∙ ap (λ n. drop n cs) w in
    let rest = ap (allocations_of os) back
    ∙ allocations-set (at + o.size) end os (drop o.size cs) i (s - o.size) offset new d l.1 v (omega arith) (omega (arith, t, f)) g
    ∙ ap (λ c. set (allocations_of os (drop o.size cs)) i (allocation_of p (overwritten (take p.size c) offset new))) same in
    λ x. allocation_of o (front x) ∷ rest x

-- ---- places by number

pub not_falling : (os : List LiveObject) → AreRising os → IsNonDecreasingBy (λ (o : LiveObject). o.number) os
not_falling os rise i j d h k = elim (cases_lt i j) [
  | inl below ↦ let t = rise i j d below k in omega (arith, t)
  | inr above ↦ let e : i ≡ j = omega arith in let f = ap (λ n. (get_or os n d).number) e in omega (arith, f)
]

lt_from : (a b : ℕ) → nat_lt a b ≡ true → a < b
lt_from a b e = grind (arith, nat_tests)

ge_from : (a b : ℕ) → nat_lt a b ≡ false → b ≤ a
ge_from a b e = grind (arith, nat_tests)

-- where the last number is below, all are
pub all_cut : (os : List LiveObject) (number : ℕ) (e : LiveObject) → AreRising os → 0 < length os
    → nat_lt (get_or os (length os - 1) e).number number ≡ true → IsCut os number (length os)
all_cut os number e rise some last = record { within = omega arith; below = below; above = λ i d h k. absurd (omega arith) }
  where
    last_below : (d : LiveObject) → (get_or os (length os - 1) d).number < number
    last_below d =
        let t = lt_from (get_or os (length os - 1) e).number number last in
        let s = ap (λ (o : LiveObject). o.number) (get_or_default os (length os - 1) d e (omega arith)) in
        omega (arith, t, s)

    below : (i : ℕ) (d : LiveObject) → i < length os → (get_or os i d).number < number
    below i d h = elim (cases_lt i (length os - 1)) [
      | inl front ↦ let t = rise i (length os - 1) d front (omega arith) in let s = last_below d in omega (arith, t, s)
      | inr back ↦ let f : i ≡ length os - 1 = omega arith in let s = last_below d in let g = ap (λ n. (get_or os n d).number) f in omega (arith, s, g)
    ]

-- what stands before the object with a number is below it
pub place_cut : (os : List LiveObject) (number at : ℕ) → AreRising os → IsPlace os number at → IsCut os number at
place_cut os number at rise place = record {
  within = (let h = place.in_range in omega (arith, h));
  below = λ i d h. let t = rise i at d h place.in_range in let e = place.here d in omega (arith, t, e);
  above = above;
}
  where
    above : (i : ℕ) (d : LiveObject) → at ≤ i → i < length os → number ≤ (get_or os i d).number
    above i d h k = elim (cases_lt at i) [
      | inl more ↦ let t = rise at i d more k in let e = place.here d in omega (arith, t, e)
      | inr same ↦ let f : at ≡ i = omega arith in let e = place.here d in let g = ap (λ n. (get_or os n d).number) f in omega (arith, e, g)
    ]

-- a partition point by number
pub parted_cut : (os : List LiveObject) (number keep : ℕ) → keep ≤ length os
    → IsPartitionPoint (λ (o : LiveObject). nat_lt o.number number ≡ true) (λ (o : LiveObject). nat_lt o.number number ≡ false) os keep → IsCut os number keep
parted_cut os number keep h parts = record {
  within = h;
  below = λ i d k. lt_from (get_or os i d).number number (parts.0 i d (omega arith) k);
  above = λ i d k l. ge_from (get_or os i d).number number (parts.1 i d k l);
}

-- a binary search by number ends at the object, or at none
comparisons_rise : (os : List LiveObject) (number : ℕ) → AreRising os → IsNonDecreasingBy (λ (o : LiveObject). ordering_index (nat_cmp o.number number)) os
comparisons_rise os number rise i j d h k = indexes_rise (get_or os i d).number (get_or os j d).number number (not_falling os rise i j d h k)
  where
    indexes_rise : (x y z : ℕ) → x ≤ y → ordering_index (nat_cmp x z) ≤ ordering_index (nat_cmp y z)
    indexes_rise x y z h = grind (arith, nat_tests)

pub searched : (os : List LiveObject) (number : ℕ) → AreRising os → (r : Result ℕ ℕ) → IsSearchInRange r (length os)
    → IsBinarySearchResult (λ (o : LiveObject). nat_cmp o.number number) os r
    → record { here : IfOk r (λ at. IsPlace os number at); none : IfErr r (λ _. HasNone os number) }
searched os number rise (Ok at) within equal =
    record { here = record { in_range = within; here = λ d. ranked (get_or os at d).number number _ (sym (equal d)) }; none = tt }
searched os number rise (Err at) within parted = record { here = tt; none = λ i d h. elsewhere i d h (cases_lt i at) }
  where
    elsewhere : (i : ℕ) (d : LiveObject) → i < length os → (i < at) ⊎ (at ≤ i) → (get_or os i d).number ≢ number
    elsewhere i d h (inl below) e =
        let t : (get_or os i d).number < number = ranked _ number _ (sym ((parted (comparisons_rise os number rise)).0 i d (omega arith) below)) in
        omega (arith, e, t)
    elsewhere i d h (inr above) e =
        let t : number < (get_or os i d).number = ranked _ number _ (sym ((parted (comparisons_rise os number rise)).1 i d above h)) in
        omega (arith, e, t)
