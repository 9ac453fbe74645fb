-- What eight cells read as, by their tags and values.
use Rattle.std.proofs.Common.{◌≡◌, ◌≢◌, ℕ, zero, suc, ◌+◌, ◌-◌, ◌<◌, ◌≤◌, Bool, true, false, List, [], ◌∷◌, length, get_or, map, take, drop, replicate, Option, Some, None, Ok, Err, refl, sym, ap, ◌∙◌, arith}
use Rattle.std.specs.Prelude.{◌&&◌, ◌==◌}
use Rattle.std.proofs.lemmas.Bool.{false≢true, and_parts, eqb-true}
use Rattle.std.proofs.lemmas.List.{length-drop, length-take-le}
use Rattle.ir_memory.specs.declared.stored_pointer.StoredPointer.{StoredPointer}
use Rattle.ir_memory.specs.declared.value.Base.{Base}
use Rattle.ir_memory.specs.declared.value.Base.TheVariants.{Null}
use Rattle.ir_memory.specs.declared.value.Value.TheVariants.{Pointer}
use Rattle.ir_memory.specs.declared.error.MemError.TheVariants.{BadPointer}
use Rattle.ir_memory.specs.Address.{same_base}
use Rattle.ir_memory.specs.Bytes.{number_of}
use Rattle.ir_memory.specs.Cell.{Cell, Byte, byte_of, is_zero, is_piece}
use Rattle.ir_memory.specs.Contents.{pieces, are_zero, are_pieces, value_in, whole_pointer, first_pointer}
use Rattle.ir_memory.specs.Packed.{no_pointer, cell_of, cells_from, IsKept, AreKept, ArePacked}
use Rattle.ir_memory.proofs.AllocationLemmas.{if_true, if_false}
use Rattle.ir_memory.proofs.ContentsLemmas.{value_in-cells_of}
use Rattle.ir_memory.proofs.PackedLemmas.{length_tags, bytes_are, cells_between, kept_between, cells_zero, cells_tagged, piece_tags}

-- tags of the same number are the same
tag_below : (ps : List StoredPointer) (i v t : ℕ) → IsKept ps i v t → t < 256
tag_below ps i v zero kept = omega arith
tag_below ps i v (suc k) kept = omega (arith, kept.0)

tags_are : (ps : List StoredPointer) (i k n : ℕ) (vs ts : List ℕ) → AreKept ps i vs ts → length ts ≡ n → k + n ≤ 8
    → number_of ts ≡ number_of (piece_tags k n) → ts ≡ piece_tags k n
tags_are ps i k zero vs [] kept l h e = refl
tags_are ps i k zero vs (t ∷ ts) kept l h e = absurd (omega arith)
tags_are ps i k (suc n) vs [] kept l h e = absurd (omega arith)
tags_are ps i k (suc n) [] (t ∷ ts) kept l h e = absurd kept
tags_are ps i k (suc n) (v ∷ vs) (t ∷ ts) kept l h e =
    let b = tag_below ps i v t kept.0 in
    let x : t ≡ suc k = omega (arith, b, e) in
    let y : number_of ts ≡ number_of (piece_tags (suc k) n) = omega (arith, b, e) in
    let r = tags_are ps (suc i) (suc k) n vs ts kept.1 (omega arith) (omega arith) y in
    λ z. x z ∷ r z

zeros_are : (n : ℕ) (bs : List ℕ) → length bs ≡ n → number_of bs ≡ 0 → bs ≡ replicate n 0
zeros_are zero [] l e = refl
zeros_are zero (b ∷ bs) l e = absurd (omega arith)
zeros_are (suc n) [] l e = absurd (omega arith)
zeros_are (suc n) (b ∷ bs) l e =
    let x : b ≡ 0 = omega arith in
    let r = zeros_are n bs (omega arith) (omega arith) in
    λ z. x z ∷ r z

-- what the tests of the definition say of tags and values
zero_cell : (ps : List StoredPointer) (i v t : ℕ) → is_zero (cell_of ps i v t) ≡ true → record { tag : t ≡ 0; value : v ≡ 0 }
zero_cell ps i v zero e = record { tag = refl; value = eqb-true v 0 e }
zero_cell ps i v (suc k) e = absurd (false≢true e)

zero_cells : (ps : List StoredPointer) (i : ℕ) (vs ts : List ℕ) → length vs ≡ length ts → are_zero (cells_from ps i vs ts) ≡ true
    → record { tags : number_of ts ≡ 0; values : number_of vs ≡ 0 }
zero_cells ps i [] [] l e = record { tags = refl; values = refl }
zero_cells ps i [] (t ∷ ts) l e = absurd (omega arith)
zero_cells ps i (v ∷ vs) [] l e = absurd (omega arith)
zero_cells ps i (v ∷ vs) (t ∷ ts) l e =
    let p = and_parts (is_zero (cell_of ps i v t)) (are_zero (cells_from ps (suc i) vs ts)) e in
    let c = zero_cell ps i v t p.0 in
    let r = zero_cells ps (suc i) vs ts (omega arith) p.1 in
    record { tags = omega (arith, c.tag, r.tags); values = omega (arith, c.value, r.values) }

piece_tag : (ps : List StoredPointer) (b : Base) (o k i v t : ℕ) → is_piece b o k (cell_of ps i v t) ≡ true → t ≡ suc k
piece_tag ps b o k i v zero e = absurd (false≢true e)
piece_tag ps b o k i v (suc j) e =
    let p = get_or ps (i - j) no_pointer in
    let q = and_parts (same_base b p.base && (o == p.offset)) (k == j) e in
    ap suc (sym (eqb-true k j q.1))

piece_tags_are : (ps : List StoredPointer) (b : Base) (o k i n : ℕ) (vs ts : List ℕ) → length vs ≡ n → length ts ≡ n
    → are_pieces b o k (cells_from ps i vs ts) ≡ true → ts ≡ piece_tags k n
piece_tags_are ps b o k i zero [] [] l m e = refl
piece_tags_are ps b o k i zero (v ∷ vs) ts l m e = absurd (omega arith)
piece_tags_are ps b o k i zero [] (t ∷ ts) l m e = absurd (omega arith)
piece_tags_are ps b o k i (suc n) [] ts l m e = absurd (omega arith)
piece_tags_are ps b o k i (suc n) (v ∷ vs) [] l m e = absurd (omega arith)
piece_tags_are ps b o k i (suc n) (v ∷ vs) (t ∷ ts) l m e =
    let p = and_parts (is_piece b o k (cell_of ps i v t)) (are_pieces b o (suc k) (cells_from ps (suc i) vs ts)) e in
    let x = piece_tag ps b o k i v t p.0 in
    let r = piece_tags_are ps b o (suc k) (suc i) n vs ts (omega arith) (omega arith) p.1 in
    λ z. x z ∷ r z

-- ---- the three answers

pub reads_pieces : (ps : List StoredPointer) (at : ℕ) (vs ts : List ℕ) → AreKept ps at vs ts → length ts ≡ 8 → number_of ts ≡ 0x0807060504030201
    → (p : StoredPointer) → get_or ps at no_pointer ≡ p → value_in true (cells_from ps at vs ts) ≡ Ok (Pointer p.base p.offset)
reads_pieces ps at vs ts kept l e p f =
    let t : ts ≡ piece_tags 0 8 = tags_are ps at 0 8 vs ts kept l (omega arith) e in
    let c : cells_from ps at vs (piece_tags 0 8) ≡ pieces p.base p.offset = cells_tagged ps p at at 0 8 vs (length_tags ps at vs ts kept ∙ l) (omega arith) f in
    ap (λ us. value_in true (cells_from ps at vs us)) t ∙ ap (value_in true) c ∙ value_in-cells_of 8 (Pointer p.base p.offset) refl

zeros_value : (n : ℕ) → value_in true (map Byte (replicate n 0)) ≡ Ok (Pointer Null 0)
zeros_value n = if_true (are_zero (map Byte (replicate n 0))) _ _ (all_zero n)
  where
    all_zero : (n : ℕ) → are_zero (map Byte (replicate n 0)) ≡ true
    all_zero zero = refl
    all_zero (suc n) = all_zero n

pub reads_zeros : (ps : List StoredPointer) (at : ℕ) (vs ts : List ℕ) → AreKept ps at vs ts → length ts ≡ 8 → number_of ts ≡ 0 → number_of vs ≡ 0
    → value_in true (cells_from ps at vs ts) ≡ Ok (Pointer Null 0)
reads_zeros ps at vs ts kept l e f =
    let m : length vs ≡ 8 = length_tags ps at vs ts kept ∙ l in
    ap (λ us. value_in true (cells_from ps at vs us)) (zeros_are 8 ts l e)
    ∙ ap (value_in true) (cells_zero ps at 8 vs m ∙ ap (map Byte) (zeros_are 8 vs m f))
    ∙ zeros_value 8

bad_whole : (cells : List Cell) (first : Option (Base × ℕ)) → ((b : Base) (o : ℕ) → are_pieces b o 0 cells ≡ true → ⊥) → whole_pointer cells first ≡ Err BadPointer
bad_whole cells None none = refl
bad_whole cells (Some p) none = at_test (are_pieces p.0 p.1 0 cells) refl
  where
    at_test : (b : Bool) → are_pieces p.0 p.1 0 cells ≡ b → whole_pointer cells (Some p) ≡ Err BadPointer
    at_test true e = absurd (none p.0 p.1 e)
    at_test false e = if_false (are_pieces p.0 p.1 0 cells) _ _ e

pub reads_bad : (ps : List StoredPointer) (at : ℕ) (vs ts : List ℕ) → AreKept ps at vs ts → length ts ≡ 8 → number_of ts ≢ 0x0807060504030201
    → (number_of ts ≡ 0 → number_of vs ≢ 0) → value_in true (cells_from ps at vs ts) ≡ Err BadPointer
reads_bad ps at vs ts kept l ne nz = at_zero (are_zero (cells_from ps at vs ts)) refl
  where
    cells : List Cell
    cells = cells_from ps at vs ts

    same : length vs ≡ length ts
    same = length_tags ps at vs ts kept

    none : (b : Base) (o : ℕ) → are_pieces b o 0 (cells_from ps at vs ts) ≡ true → ⊥
    none b o e = ne (ap number_of (piece_tags_are ps b o 0 at 8 vs ts (same ∙ l) l e))

    at_zero : (b : Bool) → are_zero (cells_from ps at vs ts) ≡ b → value_in true (cells_from ps at vs ts) ≡ Err BadPointer
    at_zero true e = let z = zero_cells ps at vs ts same e in absurd (nz z.tags z.values)
    at_zero false e = if_false (are_zero (cells_from ps at vs ts)) _ _ e ∙ bad_whole (cells_from ps at vs ts) (first_pointer (cells_from ps at vs ts)) none

-- the number of a range is that of its values
pub number_in : (ps : List StoredPointer) (vs ts bs : List ℕ) (at w n : ℕ) → ArePacked vs ts ps → bs ≡ take w (drop at vs) → n ≡ number_of bs
    → n ≡ number_of (map byte_of (take w (drop at (cells_from ps 0 vs ts))))
number_in ps vs ts bs at w n packed e f =
    let b = bytes_are ps at (take w (drop at vs)) (take w (drop at ts)) (kept_between ps at w vs ts packed.kept) in
    f ∙ ap number_of (e ∙ sym b ∙ ap (map byte_of) (cells_between ps at w vs ts))

pub eight_at : (ts : List ℕ) (at : ℕ) → at + 8 ≤ length ts → length (take 8 (drop at ts)) ≡ 8
eight_at ts at h = length-take-le 8 (drop at ts) (omega (arith, length-drop at ts))

pub view_at : (ps : List StoredPointer) (at : ℕ) (vs ts : List ℕ) (cells : List Cell) → cells_from ps 0 vs ts ≡ cells
    → cells_from ps at (take 8 (drop at vs)) (take 8 (drop at ts)) ≡ take 8 (drop at cells)
view_at ps at vs ts cells e = cells_between ps at 8 vs ts ∙ ap (λ (cs : List Cell). take 8 (drop at cs)) e
