-- What the calls of a memory do to its objects and cells.
use Rattle.std.proofs.Common.{◌≡◌, ℕ, ◌+◌, ◌-◌, ◌<◌, ◌≤◌, Bool, true, false, max, List, [], ◌∷◌, ◌++◌, length, get_or, set, take, drop, filter, Option, Some, None, Ok, Err, refl, sym, ap, ◌∙◌, arith, subst}
use Rattle.std.specs.Prelude.{nat_lt, nat_le, not, ◌&&◌, sum_by}
use Rattle.std.proofs.lemmas.Bool.{and_parts}
use Rattle.std.proofs.lemmas.Bool.Decides.{nat_tests}
use Rattle.std.proofs.lemmas.List.{length-append, length-take-le, length-drop, take-take, drop-drop, drop-take, take_rest}
use Rattle.std.proofs.lemmas.List.Sums.{sum_by-take-drop}
use Rattle.std.proofs.lemmas.Option.{slice_get-get_or}
use Rattle.ir_memory.specs.declared.live_object.LiveObject.{LiveObject}
use Rattle.ir_memory.specs.declared.value.Base.TheVariants.{Object}
use Rattle.ir_memory.specs.declared.value.Value.{Value}
use Rattle.ir_memory.specs.declared.error.MemError.TheVariants.{Access}
use Rattle.ir_memory.specs.Cell.{Cell}
use Rattle.ir_memory.specs.Contents.{FitsIn, cells_of, overwritten, is_pointer}
use Rattle.ir_memory.specs.Laws.{ChangesOnlyRange, ReadsPointer}
use Rattle.ir_memory.specs.Memory.{Allocation, MemoryState, found, live_cells, range_found, cells_at, loaded, written, written_in, accepts}
use Rattle.ir_memory.specs.Objects.{allocations_of, IsLaidOut, IsWhole, AreRising, IsPlace, HasNone, IsCut, counted_size, has_range, may_write}
use Rattle.ir_memory.specs.Sound.{IsSound}
use Rattle.ir_memory.proofs.AllocationLemmas.{if_true, if_false, Rises-take, found_here, filter_front}
use Rattle.ir_memory.proofs.ContentsLemmas.{length-cells_of}
use Rattle.ir_memory.proofs.LawLemmas.{laws_here}
use Rattle.ir_memory.proofs.MemoryLemmas.{IsAt, sound_push, sound_set, written_here, length-overwritten}
use Rattle.ir_memory.proofs.ObjectLemmas.{allocation_of, length_allocations, number_at, none_found, objects_rise, object_fits, laid_out_le, laid_out_push, laid_out_take, get_allocation, allocations-push, allocations-take, live_cells-objects, allocations-set}

abbrev pub state_of : ℕ → List LiveObject → List Cell → MemoryState
state_of next os cs = record { next = next; live = allocations_of os cs }

pub no_object : LiveObject
no_object = record { number = 0; start = 0; size = 0; constant = false }

-- ---- to make

pub whole_push : (next : ℕ) (os : List LiveObject) (cs : List Cell) (live : ℕ) (o : LiveObject) (new : List Cell) → IsWhole next os cs live → o.number ≡ next
    → o.start ≡ length cs → o.size ≡ length new → live + max 1 o.size ≤ 1048576 → IsWhole (next + 1) (os ++ o ∷ []) (cs ++ new) (live + max 1 o.size)
whole_push next os cs live o new w e f g h =
    let a = allocation_of o new in
    let s = sound_push next (allocations_of os cs) live a o.size w.sound e (sym g) h in
    let p = allocations-push 0 (length cs) os cs new o w.laid_out (omega arith) g in
    let l = laid_out_push 0 (length cs) os o w.laid_out f in
    let m : length cs + o.size ≡ length (cs ++ new) = omega (arith, length-append cs new, g) in
    let P : List Allocation → Type 0 = λ x. IsSound (next + 1) x (live + max 1 o.size) in
    let Q : ℕ → Type 0 = λ n. IsLaidOut 0 (os ++ o ∷ []) n in
    record { sound = subst P (sym p) s; laid_out = subst Q m l }

pub made_is : (next : ℕ) (os : List LiveObject) (cs : List Cell) (live : ℕ) (o : LiveObject) (new : List Cell) → IsWhole next os cs live → o.number ≡ next
    → o.size ≡ length new
    → state_of (next + 1) (os ++ o ∷ []) (cs ++ new)
    ≡ record { next = next + 1; live = allocations_of os cs ++ (record { number = next; constant = o.constant; cells = new }) ∷ [] }
made_is next os cs live o new w e g =
    let p = allocations-push 0 (length cs) os cs new o w.laid_out (omega arith) g in
    let state : List Allocation → MemoryState = λ l. record { next = next + 1; live = l } in
    ap state p ∙ ap (λ n. state (allocations_of os cs ++ (record { number = n; constant = o.constant; cells = new }) ∷ [])) e

-- ---- to end

pub whole_take : (next : ℕ) (os : List LiveObject) (cs : List Cell) (live ended k : ℕ) (d : LiveObject) → IsWhole next os cs live → k < length os
    → ended ≡ sum_by counted_size (drop k os) → IsWhole next (take k os) (take (get_or os k d).start cs) (live - ended)
whole_take next os cs live ended k d w h e =
    let n = (get_or os k d).start in
    let fit = object_fits 0 (length cs) os k d w.laid_out h in
    let len : length (take n cs) ≡ n = length-take-le n cs (omega (arith, fit)) in
    let p = allocations-take 0 (length cs) os cs k n d w.laid_out h (omega arith) in
    let l = laid_out_take 0 (length cs) os k d w.laid_out h in
    let all : live_cells (allocations_of os cs) ≡ sum_by counted_size os = live_cells-objects 0 (length cs) os cs w.laid_out (omega arith) in
    let some : live_cells (allocations_of (take k os) (take n cs)) ≡ sum_by counted_size (take k os) =
    live_cells-objects 0 n (take k os) (take n cs) l (omega (arith, len)) in
    let both : sum_by counted_size (take k os) + sum_by counted_size (drop k os) ≡ sum_by counted_size os = sum_by-take-drop counted_size os k in
    let r = Rises-take 0 (allocations_of os cs) next k w.sound.rising in
    let P : List Allocation → Type 0 = λ x. IsSound next x (live - ended) in
    let Q : ℕ → Type 0 = λ m. IsLaidOut 0 (take k os) m in
    let some_live : live_cells (take k (allocations_of os cs)) ≡ sum_by counted_size (take k os) = ap live_cells (sym p) ∙ some in
    let count = w.sound.cells_counted in
    let limit = w.sound.within_limit in
    let s : IsSound next (take k (allocations_of os cs)) (live - ended) = record {
      rising = r;
      cells_counted = omega (arith, some_live, all, both, e, count);
      within_limit = omega (arith, some_live, all, both, limit);
    } in
    record { sound = subst P (sym p) s; laid_out = subst Q (sym len) l }

pub ended_le : (next : ℕ) (os : List LiveObject) (cs : List Cell) (live k : ℕ) → IsWhole next os cs live → sum_by counted_size (drop k os) ≤ live
ended_le next os cs live k w =
    let all : live_cells (allocations_of os cs) ≡ sum_by counted_size os = live_cells-objects 0 (length cs) os cs w.laid_out (omega arith) in
    let both : sum_by counted_size (take k os) + sum_by counted_size (drop k os) ≡ sum_by counted_size os = sum_by-take-drop counted_size os k in
    let count = w.sound.cells_counted in
    omega (arith, all, both, count)

pub live_le : (next : ℕ) (os : List LiveObject) (cs : List Cell) (live : ℕ) → IsWhole next os cs live → live ≤ 1048576
live_le next os cs live w = let count = w.sound.cells_counted in let limit = w.sound.within_limit in omega (arith, count, limit)

pub cells_le : (next : ℕ) (os : List LiveObject) (cs : List Cell) (live : ℕ) → IsWhole next os cs live → length cs ≤ 1048576
cells_le next os cs live w =
    let all : live_cells (allocations_of os cs) ≡ sum_by counted_size os = live_cells-objects 0 (length cs) os cs w.laid_out (omega arith) in
    let l = laid_out_le 0 (length cs) os w.laid_out in
    let limit = w.sound.within_limit in
    omega (arith, all, l, limit)

lt-true : (a b : ℕ) → a < b → nat_lt a b ≡ true
lt-true a b h = grind (arith, nat_tests)

le-false : (a b : ℕ) → b ≤ a → nat_lt a b ≡ false
le-false a b h = grind (arith, nat_tests)

-- the allocations below a number are those of the first objects
pub kept_are : (os : List LiveObject) (cs : List Cell) (k number : ℕ) (e : LiveObject) → IsCut os number k
    → take k (allocations_of os cs) ≡ filter (λ (a : Allocation). nat_lt a.number number) (allocations_of os cs)
kept_are os cs k number e cut =
    let l = length_allocations os cs in
    sym (filter_front (λ (a : Allocation). nat_lt a.number number) (allocations_of os cs) k
    (λ i a h j.
    let n = number_at os cs i e a (omega (arith, cut.within)) in
    let b = cut.below i e j in
    lt-true (get_or (allocations_of os cs) i a).number number (omega (arith, n, b)))
    (λ i a h j.
    let n = number_at os cs i e a (omega (arith, l)) in
    let b = cut.above i e h (omega (arith, l)) in
    le-false (get_or (allocations_of os cs) i a).number number (omega (arith, n, b))))

-- ---- to look up

pub place_found : (next : ℕ) (os : List LiveObject) (cs : List Cell) (live number at : ℕ) (o : LiveObject) → IsWhole next os cs live → IsPlace os number at
    → o ≡ get_or os at o → found (allocations_of os cs) number ≡ Some (allocation_of o (take o.size (drop o.start cs)))
place_found next os cs live number at o w place e =
    let all = allocations_of os cs in
    let a : Allocation = allocation_of o [] in
    let in_range = place.in_range in
    let l = length_allocations os cs in
    let n : (get_or all at a).number ≡ number = number_at os cs at o a in_range ∙ place.here o in
    let f = found_here 0 all next w.sound.rising at a (omega (arith, l)) in
    let g = get_allocation 0 (length cs) os cs at (get_or os at o).start o a w.laid_out in_range (omega arith) in
    ap (found all) (sym n) ∙ f ∙ ap (λ (x : Allocation). Some x) (g ∙ ap (λ (p : LiveObject). allocation_of p (take p.size (drop p.start cs))) (sym e))

pub object_within : (next : ℕ) (os : List LiveObject) (cs : List Cell) (live number at : ℕ) (o : LiveObject) → IsWhole next os cs live → IsPlace os number at
    → o ≡ get_or os at o → o.start + o.size ≤ length cs
object_within next os cs live number at o w place e =
    let fit = object_fits 0 (length cs) os at o w.laid_out place.in_range in
    let P : LiveObject → Type 0 = λ p. p.start + p.size ≤ length cs in
    subst P (sym e) fit

length_object : (cs : List Cell) (o : LiveObject) → o.start + o.size ≤ length cs → length (take o.size (drop o.start cs)) ≡ o.size
length_object cs o h = length-take-le o.size (drop o.start cs) (omega (arith, length-drop o.start cs))

range_within : (cs : List Cell) (start size offset width : ℕ) → offset + width ≤ size
    → take width (drop offset (take size (drop start cs))) ≡ take width (drop (start + offset) cs)
range_within cs start size offset width h =
    let e : size ≡ offset + (size - offset) = omega arith in
    ap (take width) (ap (λ n. drop offset (take n (drop start cs))) e ∙ drop-take offset (size - offset) (drop start cs))
    ∙ take-take width (size - offset) (drop offset (drop start cs)) (omega arith)
    ∙ ap (take width) (drop-drop offset start cs)

pub range_le : (offset width : ℕ) (o : LiveObject) → has_range offset width o ≡ true → offset + width ≤ o.size
range_le offset width o e = grind (arith, nat_tests)

pub cells_found : (next : ℕ) (os : List LiveObject) (cs : List Cell) (live number at offset width : ℕ) (o : LiveObject) → IsWhole next os cs live
    → IsPlace os number at → o ≡ get_or os at o → has_range offset width o ≡ true
    → cells_at (state_of next os cs) (Object number) offset width ≡ Some (take width (drop (o.start + offset) cs))
cells_found next os cs live number at offset width o w place e h =
    let within = object_within next os cs live number at o w place e in
    let l = length_object cs o within in
    let t : nat_le (offset + width) (length (take o.size (drop o.start cs))) ≡ true = ap (nat_le (offset + width)) l ∙ h in
    let some : List Cell → Option (List Cell) = λ c. Some c in
    ap (range_found offset width) (place_found next os cs live number at o w place e)
    ∙ if_true (nat_le (offset + width) (length (take o.size (drop o.start cs)))) _ None t
    ∙ ap some (range_within cs o.start o.size offset width (range_le offset width o h))

pub cells_refused : (next : ℕ) (os : List LiveObject) (cs : List Cell) (live number at offset width : ℕ) (o : LiveObject) → IsWhole next os cs live
    → IsPlace os number at → o ≡ get_or os at o → has_range offset width o ≡ false
    → cells_at (state_of next os cs) (Object number) offset width ≡ None
cells_refused next os cs live number at offset width o w place e h =
    let within = object_within next os cs live number at o w place e in
    let l = length_object cs o within in
    let t : nat_le (offset + width) (length (take o.size (drop o.start cs))) ≡ false = ap (nat_le (offset + width)) l ∙ h in
    ap (range_found offset width) (place_found next os cs live number at o w place e)
    ∙ if_false (nat_le (offset + width) (length (take o.size (drop o.start cs)))) _ None t

pub cells_none : (next : ℕ) (os : List LiveObject) (cs : List Cell) (number offset width : ℕ) → HasNone os number
    → cells_at (state_of next os cs) (Object number) offset width ≡ None
cells_none next os cs number offset width none = ap (range_found offset width) (none_found os cs number none)

pub length_range : (cs : List Cell) (at width : ℕ) → at + width ≤ length cs → length (take width (drop at cs)) ≡ width
length_range cs at width h = length-take-le width (drop at cs) (omega (arith, length-drop at cs))

pub refused_pointer : (cells : Option (List Cell)) → cells ≡ None → ReadsPointer cells (Err Access)
refused_pointer cells e = let P : Option (List Cell) → Type 0 = λ o. ReadsPointer o (Err Access) in subst P (sym e) refl

-- ---- to write

accepts_is : (protect : Bool) (cs : List Cell) (o : LiveObject) (offset width : ℕ) → o.start + o.size ≤ length cs
    → accepts protect offset width (allocation_of o (take o.size (drop o.start cs))) ≡ may_write protect offset width o
accepts_is protect cs o offset width h = ap (λ n. not (protect && o.constant) && nat_le (offset + width) n) (length_object cs o h)

pub write_refused : (protect : Bool) (next : ℕ) (os : List LiveObject) (cs : List Cell) (live number at offset width : ℕ) (value : Value) (o : LiveObject)
    → IsWhole next os cs live → IsPlace os number at → o ≡ get_or os at o → may_write protect offset width o ≡ false
    → written protect (state_of next os cs) number offset width value ≡ Err Access
write_refused protect next os cs live number at offset width value o w place e h =
    let within = object_within next os cs live number at o w place e in
    let a = allocation_of o (take o.size (drop o.start cs)) in
    ap (written_in protect (state_of next os cs) offset width value) (place_found next os cs live number at o w place e)
    ∙ if_false (accepts protect offset width a) _ _ (accepts_is protect cs o offset width within ∙ h)

pub write_none : (protect : Bool) (next : ℕ) (os : List LiveObject) (cs : List Cell) (number offset width : ℕ) (value : Value) → HasNone os number
    → written protect (state_of next os cs) number offset width value ≡ Err Access
write_none protect next os cs number offset width value none =
    ap (written_in protect (state_of next os cs) offset width value) (none_found os cs number none)

pub write_within : (protect : Bool) (offset width : ℕ) (o : LiveObject) → may_write protect offset width o ≡ true → offset + width ≤ o.size
write_within protect offset width o h = range_le offset width o (and_parts (not (protect && o.constant)) (has_range offset width o) h).1

-- all that a write owes
pub record WroteObject (protect : Bool) (next : ℕ) (os : List LiveObject) (cs now : List Cell) (live number offset width : ℕ) (value : Value) : Type 0 where
  pub whole : IsWhole next os now live
  pub ok : written protect (state_of next os cs) number offset width value ≡ Ok (state_of next os now)
  pub loads_back : loaded (state_of next os now) (Object number) offset width (is_pointer value) ≡ Ok value
  pub elsewhere : ChangesOnlyRange (state_of next os cs) (state_of next os now) (Object number) offset width

pub wrote_object : (protect : Bool) (next : ℕ) (os : List LiveObject) (cs now : List Cell) (live number at offset width : ℕ) (value : Value) (o : LiveObject)
    → IsWhole next os cs live → IsPlace os number at → o ≡ get_or os at o → may_write protect offset width o ≡ true → FitsIn width value
    → now ≡ overwritten cs (o.start + offset) (cells_of width value) → WroteObject protect next os cs now live number offset width value
wrote_object protect next os cs now live number at offset width value o w place e may fits is =
    let all = allocations_of os cs in
    let m = state_of next os cs in
    let new = cells_of width value in
    let within = object_within next os cs live number at o w place e in
    let a : Allocation = allocation_of o (take o.size (drop o.start cs)) in
    let in_range : at < length all = (let l = length_allocations os cs in let h = place.in_range in omega (arith, l, h)) in
    let found_a = place_found next os cs live number at o w place e in
    let here : a ≡ get_or all at a = (let g = get_allocation 0 (length cs) os cs at (get_or os at o).start o a w.laid_out place.in_range (omega arith) in
    sym (g ∙ ap (λ (p : LiveObject). allocation_of p (take p.size (drop p.start cs))) (sym e))) in
    let is_at : IsAt all number at = record {
      in_range = in_range;
      here = found_a ∙ ap (λ (x : Allocation). Some x) here ∙ sym (slice_get-get_or all at a in_range);
    } in
    let accept = accepts_is protect cs o offset width within ∙ may in
    let lw = length-cells_of width value fits in
    let fit = write_within protect offset width o may in
    let start_is : 0 + o.start ≡ (get_or os at o).start = ap (λ (p : LiveObject). 0 + p.start) e ∙ omega arith in
    let size_is : o.size ≡ (get_or os at o).size = ap (λ (p : LiveObject). p.size) e in
    let after : allocations_of os now ≡ set all at (allocation_of o (overwritten a.cells offset new)) =
    ap (allocations_of os) is
    ∙ allocations-set 0 (length cs) os cs at o.start offset new o w.laid_out (omega arith) place.in_range start_is (omega (arith, lw, fit, size_is))
    ∙ ap (λ (p : LiveObject). set all at (allocation_of p (overwritten (take p.size (drop o.start cs)) offset new))) (sym e) in
    let r = w.sound.rising in
    let ok = written_here protect m number offset width value at a (overwritten a.cells offset new) r is_at here accept refl in
    let laws = laws_here protect m number offset width value at a (overwritten a.cells offset new) r is_at here accept refl fits in
    let state : List Allocation → MemoryState = λ l. record { next = next; live = l } in
    let same : state_of next os now ≡ state (set all at (allocation_of o (overwritten a.cells offset new))) = ap state after in
    let len_a : length a.cells ≡ o.size = length_object cs o within in
    let len_o : length (overwritten a.cells offset new) ≡ length a.cells = length-overwritten a.cells new offset (omega (arith, lw, fit, len_a)) in
    let sound = sound_set next all live at (allocation_of o (overwritten a.cells offset new)) a w.sound in_range
    (ap (λ (x : Allocation). x.number) here) (len_o ∙ ap (λ (x : Allocation). length x.cells) here) in
    let len_now : length now ≡ length cs = ap length is ∙ length-overwritten cs new (o.start + offset) (omega (arith, lw, fit, within)) in
    let P : List Allocation → Type 0 = λ l. IsSound next l live in
    let Q : ℕ → Type 0 = λ n. IsLaidOut 0 os n in
    let R : MemoryState → Type 0 = λ n. loaded n (Object number) offset width (is_pointer value) ≡ Ok value in
    let S : MemoryState → Type 0 = λ n. ChangesOnlyRange m n (Object number) offset width in
    record {
      whole = record { sound = subst P (sym after) sound; laid_out = subst Q (sym len_now) w.laid_out };
      ok = ok ∙ ap (λ (n : MemoryState). Ok n) (sym same);
      loads_back = subst R (sym same) laws.0;
      elsewhere = subst S (sym same) laws.1;
    }

-- ---- the same where a call saw the objects as a slice

pub objects_are : (next : ℕ) (os seen : List LiveObject) (cs : List Cell) (live : ℕ) → seen ≡ os → IsWhole next os cs live → AreRising seen
objects_are next os seen cs live e w =
    let P : List LiveObject → Type 0 = λ x. AreRising x in
    subst P (sym e) (objects_rise 0 os cs next w.sound.rising)

pub place_is : (os seen : List LiveObject) (number at : ℕ) → seen ≡ os → IsPlace seen number at → IsPlace os number at
place_is os seen number at e place = let P : List LiveObject → Type 0 = λ x. IsPlace x number at in subst P e place

pub none_is : (os seen : List LiveObject) (number : ℕ) → seen ≡ os → HasNone seen number → HasNone os number
none_is os seen number e none = let P : List LiveObject → Type 0 = λ x. HasNone x number in subst P e none

pub cut_is : (os seen : List LiveObject) (number keep : ℕ) → seen ≡ os → IsCut seen number keep → IsCut os number keep
cut_is os seen number keep e cut = let P : List LiveObject → Type 0 = λ x. IsCut x number keep in subst P e cut

-- the objects from a place on, as a slice
pub end_is : (os seen : List LiveObject) (k : ℕ) → seen ≡ os → take (length seen - k) (drop k seen) ≡ drop k os
end_is os seen k e = take_rest seen k ∙ ap (drop k) e
