-- What a value that was written does to the loads after it.
use Rattle.std.proofs.Common.{◌≡◌, ◌≢◌, ℕ, ◌+◌, ◌-◌, ◌≤◌, Bool, true, false, List, ◌++◌, length, get_or, set, take, drop, Option, Some, None, Result, Ok, Err, refl, sym, ap, ◌∙◌, arith, inl, inr, subst}
use Rattle.std.specs.Prelude.{nat_le, ◌⊎◌, if◌then◌else◌}
use Rattle.std.proofs.lemmas.Bool.{cases_eq}
use Rattle.std.proofs.lemmas.Bool.Decides.{nat_tests}
use Rattle.std.proofs.lemmas.List.{drop-drop}
use Rattle.std.proofs.lemmas.Slice.{take-put_mid_below, drop-put_mid, between-put_mid, between_is}
use borrow.Rule.Slice.PartMut.{put_mid}
use Rattle.ir_memory.specs.declared.value.Value.{Value}
use Rattle.ir_memory.specs.declared.value.Base.TheVariants.{Null, Function, Object}
use Rattle.ir_memory.specs.declared.error.MemError.{MemError}
use Rattle.ir_memory.specs.declared.error.MemError.TheVariants.{Access}
use Rattle.ir_memory.specs.Cell.{Cell}
use Rattle.ir_memory.specs.Contents.{FitsIn, cells_of, overwritten, is_pointer}
use Rattle.ir_memory.specs.Laws.{ChangesOnlyRange}
use Rattle.ir_memory.specs.Memory.{Allocation, MemoryState, found, with_cells, range_of, range_found, cells_at, read, loaded, accepts, written, written_in}
use Rattle.ir_memory.specs.Sound.{Rises}
use Rattle.ir_memory.proofs.AllocationLemmas.{if_true, if_false, found_number, found-with_cells_same, found-with_cells_other}
use Rattle.ir_memory.proofs.ContentsLemmas.{value_in-cells_of, length-cells_of}
use Rattle.ir_memory.proofs.MemoryLemmas.{IsAt, room, length-overwritten, written_here}

-- a value was written in this allocation
pub record Wrote (m n : MemoryState) (number offset width : ℕ) (value : Value) : Type 0 where
  pub a : Allocation
  pub was : found m.live number ≡ Some a
  pub has_room : offset + width ≤ length a.cells
  pub now : n.live ≡ with_cells m.live number (overwritten a.cells offset (cells_of width value))

same_ok : (x y : MemoryState) → ◌≡◌ {A = Result MemoryState MemError} (Ok x) (Ok y) → x ≡ y
same_ok x y e = cc

wrote_in : (protect : Bool) (m n : MemoryState) (number offset width : ℕ) (value : Value) (a : Allocation) → found m.live number ≡ Some a
    → (b : Bool) → accepts protect offset width a ≡ b → written_in protect m offset width value (Some a) ≡ Ok n → Wrote m n number offset width value
wrote_in protect m n number offset width value a f true e w =
    let r : MemoryState = record m { live = with_cells m.live a.number (overwritten a.cells offset (cells_of width value)) } in
    let t : ◌≡◌ {A = Result MemoryState MemError} (Ok r) (Ok n) = sym (if_true (accepts protect offset width a) (Ok r) (Err Access) e) ∙ w in
    let s : r ≡ n = same_ok r n t in
    let i : a.number ≡ number = found_number m.live number a f in
    record {
      a = a;
      was = f;
      has_room = room protect offset width a e;
      now = ap (λ (x : MemoryState). x.live) (sym s) ∙ ap (λ k. with_cells m.live k (overwritten a.cells offset (cells_of width value))) i;
    }
wrote_in protect m n number offset width value a f false e w =
    let r : MemoryState = record m { live = with_cells m.live a.number (overwritten a.cells offset (cells_of width value)) } in
    let t : ◌≡◌ {A = Result MemoryState MemError} (Err Access) (Ok n) = sym (if_false (accepts protect offset width a) (Ok r) (Err Access) e) ∙ w in
    cc

wrote_by : (protect : Bool) (m n : MemoryState) (number offset width : ℕ) (value : Value) (o : Option Allocation) → found m.live number ≡ o
    → written_in protect m offset width value o ≡ Ok n → Wrote m n number offset width value
wrote_by protect m n number offset width value None f w = cc
wrote_by protect m n number offset width value (Some a) f w =
    wrote_in protect m n number offset width value a f (accepts protect offset width a) refl w

pub wrote : (protect : Bool) (m n : MemoryState) (number offset width : ℕ) (value : Value)
    → written protect m number offset width value ≡ Ok n → Wrote m n number offset width value
wrote protect m n number offset width value w = wrote_by protect m n number offset width value (found m.live number) refl w

-- ---- ranges of cells that were overwritten

overwritten_mid : (cells new : List Cell) (at : ℕ) → overwritten cells at new ≡ put_mid at (length new) cells new
overwritten_mid cells new at = ap (λ rest. take at cells ++ (new ++ rest)) (sym (drop-drop (length new) at cells))

take_of_drop : (cells : List Cell) (o w : ℕ) → take w (drop o cells) ≡ drop o (take (o + w) cells)
take_of_drop cells o w = let e : o + w - o ≡ w = omega arith in ap (λ k. take k (drop o cells)) (sym e) ∙ between_is cells o (o + w)

range_back : (cells new : List Cell) (at w : ℕ) → length new ≡ w → at + w ≤ length cells → range_of at w (overwritten cells at new) ≡ Some new
range_back cells new at w e h =
    let l : length (overwritten cells at new) ≡ length cells = length-overwritten cells new at (omega arith) in
    let t : nat_le (at + w) (length (overwritten cells at new)) ≡ true = grind (arith, nat_tests) in
    let d : w ≡ at + w - at = omega arith in
    let s : take w (drop at (overwritten cells at new)) ≡ new =
    ap (λ k. take k (drop at (overwritten cells at new))) d ∙ ap (λ (c : List Cell). take (at + w - at) (drop at c)) (overwritten_mid cells new at)
    ∙ between-put_mid at (length new) cells new (at + w) (omega arith) (omega arith) in
    let some : List Cell → Option (List Cell) = λ c. Some c in
    if_true (nat_le (at + w) (length (overwritten cells at new))) _ None t ∙ ap some s

range_apart : (cells new : List Cell) (at o w : ℕ) → at + length new ≤ length cells → (o + w ≤ at) ⊎ (at + length new ≤ o)
    → range_of o w (overwritten cells at new) ≡ range_of o w cells
range_apart cells new at o w h side =
    let l : length (overwritten cells at new) ≡ length cells = length-overwritten cells new at h in
    ap (λ n. if nat_le (o + w) n then Some (take w (drop o (overwritten cells at new))) else None) l
    ∙ ap (λ (c : List Cell). if nat_le (o + w) (length cells) then Some c else None) (same_part side)
  where
    same_part : (o + w ≤ at) ⊎ (at + length new ≤ o) → take w (drop o (overwritten cells at new)) ≡ take w (drop o cells)
    same_part (inl below) =
        take_of_drop (overwritten cells at new) o w ∙ ap (λ (c : List Cell). drop o (take (o + w) c)) (overwritten_mid cells new at)
        ∙ ap (drop o) (take-put_mid_below at (length new) cells new (o + w) below (omega arith)) ∙ sym (take_of_drop cells o w)
    same_part (inr above) =
        ap (λ (c : List Cell). take w (drop o c)) (overwritten_mid cells new at)
        ∙ ap (take w) (drop-put_mid at (length new) cells new o above (omega arith) refl)

-- ---- the laws

pub loads_back : (m n : MemoryState) (number offset width : ℕ) (value : Value) → FitsIn width value → Wrote m n number offset width value
    → loaded n (Object number) offset width (is_pointer value) ≡ Ok value
loads_back m n number offset width value fits w =
    let cells = overwritten w.a.cells offset (cells_of width value) in
    let f : found n.live number ≡ Some (record w.a { cells = cells }) =
    ap (λ l. found l number) w.now ∙ found-with_cells_same m.live number cells w.a w.was in
    ap (λ o. read (is_pointer value) (range_found offset width o)) f
    ∙ ap (read (is_pointer value)) (range_back w.a.cells (cells_of width value) offset width (length-cells_of width value fits) w.has_room)
    ∙ value_in-cells_of width value fits

other_object : (m n : MemoryState) (number offset width : ℕ) (value : Value) → Wrote m n number offset width value
    → (i o k : ℕ) → i ≢ number → cells_at n (Object i) o k ≡ cells_at m (Object i) o k
other_object m n number offset width value w i o k ne =
    let cells = overwritten w.a.cells offset (cells_of width value) in
    ap (range_found o k) (ap (λ l. found l i) w.now ∙ found-with_cells_other m.live number cells i ne)

same_object : (m n : MemoryState) (number offset width : ℕ) (value : Value) → FitsIn width value → Wrote m n number offset width value
    → (o k : ℕ) → (o + k ≤ offset) ⊎ (offset + width ≤ o) → cells_at n (Object number) o k ≡ cells_at m (Object number) o k
same_object m n number offset width value fits w o k side =
    let new = cells_of width value in
    let cells = overwritten w.a.cells offset new in
    let e : length new ≡ width = length-cells_of width value fits in
    let f : found n.live number ≡ Some (record w.a { cells = cells }) =
    ap (λ l. found l number) w.now ∙ found-with_cells_same m.live number cells w.a w.was in
    let P : ℕ → Type 0 = λ v. (o + k ≤ offset) ⊎ (offset + v ≤ o) in
    ap (range_found o k) f ∙ range_apart w.a.cells new offset o k (let h = w.has_room in omega arith) (subst P (sym e) side)
    ∙ ap (range_found o k) (sym w.was)

pub changes_only : (m n : MemoryState) (number offset width : ℕ) (value : Value) → FitsIn width value → Wrote m n number offset width value
    → ChangesOnlyRange m n (Object number) offset width
changes_only m n number offset width value fits w Null o k apart = refl
changes_only m n number offset width value fits w (Function f) o k apart = refl
changes_only m n number offset width value fits w (Object i) o k (inl ne) =
    other_object m n number offset width value w i o k (λ e. ne (ap Object e))
changes_only m n number offset width value fits w (Object i) o k (inr side) = elim (cases_eq i number) [
  | inl p ↦
      let Q : ℕ → Type 0 = λ j. cells_at n (Object j) o k ≡ cells_at m (Object j) o k in
      subst Q (sym p) (same_object m n number offset width value fits w o k side)
  | inr ne ↦ other_object m n number offset width value w i o k ne
]

-- the laws where a value is written at its place in the list
pub laws_here : (protect : Bool) (m : MemoryState) (number offset width : ℕ) (value : Value) (at : ℕ) (a : Allocation) (cells : List Cell)
    → Rises 0 m.live m.next → IsAt m.live number at → a ≡ get_or m.live at a → accepts protect offset width a ≡ true
    → cells ≡ overwritten a.cells offset (cells_of width value) → FitsIn width value
    → let n : MemoryState = record { next = m.next; live = set m.live at (record { number = a.number; constant = a.constant; cells = cells }) } in
    (loaded n (Object number) offset width (is_pointer value) ≡ Ok value) × ChangesOnlyRange m n (Object number) offset width
laws_here protect m number offset width value at a cells r i e p c fits =
    let n : MemoryState = record { next = m.next; live = set m.live at (record { number = a.number; constant = a.constant; cells = cells }) } in
    let w = wrote protect m n number offset width value (written_here protect m number offset width value at a cells r i e p c) in
    (loads_back m n number offset width value fits w, changes_only m n number offset width value fits w)
