-- What the calls of a memory do to its allocations.
use Rattle.std.proofs.Common.{◌≡◌, ℕ, ◌+◌, ◌<◌, ◌≤◌, Bool, true, max, List, [], ◌∷◌, ◌++◌, length, get_or, set, Option, Some, Result, Ok, Err, sym, ap, ◌∙◌, arith}
use Rattle.std.specs.Prelude.{nat_le, not, ◌&&◌, slice_get}
use Rattle.std.proofs.lemmas.Bool.{and_parts}
use Rattle.std.proofs.lemmas.Bool.Decides.{nat_tests}
use Rattle.std.proofs.lemmas.List.Sums.{sum_by_push, sum_by-set}
use Rattle.std.proofs.lemmas.List.{length-append, length-take, length-drop}
use Rattle.std.proofs.lemmas.Option.{slice_get-get_or}
use Rattle.ir_memory.specs.declared.value.Value.{Value}
use Rattle.ir_memory.specs.declared.error.MemError.{MemError}
use Rattle.ir_memory.specs.declared.error.MemError.TheVariants.{Access}
use Rattle.ir_memory.specs.Cell.{Cell}
use Rattle.ir_memory.specs.Contents.{cells_of, overwritten}
use Rattle.ir_memory.specs.Memory.{Allocation, MemoryState, found, with_cells, counted, live_cells, written, written_in, accepts}
use Rattle.ir_memory.specs.Sound.{Rises, IsSound}
use Rattle.ir_memory.proofs.AllocationLemmas.{if_true, Rises-push, Rises-set, with_cells_here}

-- the live allocation with a number stands at a place of the list
pub record IsAt (live : List Allocation) (number at : ℕ) : Type 0 where
  pub in_range : at < length live
  pub here : found live number ≡ slice_get live at

-- ---- to make

pub sound_push : (next : ℕ) (live : List Allocation) (cells : ℕ) (a : Allocation) (size : ℕ) → IsSound next live cells
    → a.number ≡ next → length a.cells ≡ size → cells + max 1 size ≤ 1048576
    → IsSound (next + 1) (live ++ a ∷ []) (cells + max 1 size)
sound_push next live cells a size s e f h =
    let g : live_cells (live ++ a ∷ []) ≡ live_cells live + counted a = sum_by_push counted live a in
    let i : counted a ≡ max 1 size = ap (λ n. max 1 n) f in
    record {
      rising = Rises-push 0 live next a s.rising e;
      cells_counted = omega (arith, g, i, s.cells_counted);
      within_limit = omega (arith, g, i, s.cells_counted);
    }

-- ---- to write

pub room : (protect : Bool) (offset width : ℕ) (a : Allocation) → accepts protect offset width a ≡ true → offset + width ≤ length a.cells
room protect offset width a e = let t = (and_parts (not (protect && a.constant)) (nat_le (offset + width) (length a.cells)) e).1 in grind (arith, nat_tests)

pub length-overwritten : (cells new : List Cell) (at : ℕ) → at + length new ≤ length cells → length (overwritten cells at new) ≡ length cells
length-overwritten cells new at h = simp (length-append, length-take, length-drop) (omega arith)

pub sound_set : (next : ℕ) (live : List Allocation) (cells : ℕ) (i : ℕ) (a d : Allocation) → IsSound next live cells → i < length live
    → a.number ≡ (get_or live i d).number → length a.cells ≡ length (get_or live i d).cells → IsSound next (set live i a) cells
sound_set next live cells i a d s h e f =
    let g = sum_by-set counted live i a d h in
    let c : counted a ≡ counted (get_or live i d) = ap (λ n. max 1 n) f in
    record {
      rising = Rises-set 0 live next s.rising i a d h e;
      cells_counted = omega (arith, g, c, s.cells_counted);
      within_limit = omega (arith, g, c, s.within_limit);
    }

pub written_here : (protect : Bool) (m : MemoryState) (number offset width : ℕ) (value : Value) (at : ℕ) (a : Allocation) (cells : List Cell)
    → Rises 0 m.live m.next → IsAt m.live number at → a ≡ get_or m.live at a → accepts protect offset width a ≡ true
    → cells ≡ overwritten a.cells offset (cells_of width value)
    → written protect m number offset width value
    ≡ Ok (record { next = m.next; live = set m.live at (record { number = a.number; constant = a.constant; cells = cells }) })
written_here protect m number offset width value at a cells r i e p c =
    let some : Allocation → Option Allocation = λ x. Some x in
    let f : found m.live number ≡ Some a = i.here ∙ slice_get-get_or m.live at a i.in_range ∙ ap some (sym e) in
    let result : List Allocation → Result MemoryState MemError = λ l. Ok (record { next = m.next; live = l }) in
    ap (written_in protect m offset width value) f
    ∙ if_true (accepts protect offset width a) (result (with_cells m.live a.number (overwritten a.cells offset (cells_of width value)))) (Err Access) p
    ∙ ap (λ cs. result (with_cells m.live a.number cs)) (sym c)
    ∙ ap (λ (x : Allocation). result (with_cells m.live x.number cells)) e
    ∙ ap result (with_cells_here 0 m.live m.next r at a cells i.in_range)
    ∙ ap (λ (x : Allocation). result (set m.live at (record x { cells = cells }))) (sym e)
