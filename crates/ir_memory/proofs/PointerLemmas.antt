-- A pointer is read from exactly the cells that hold it.
use Rattle.std.proofs.Common.{◌≡◌, ℕ, zero, suc, Bool, true, false, List, [], ◌∷◌, length, replicate, Option, Some, Result, Ok, Err, refl, sym, ap, ◌∙◌, arith, inl, inr, subst}
use Rattle.std.specs.Prelude.{◌&&◌, ◌==◌, if◌then◌else◌}
use Rattle.std.proofs.lemmas.Bool.{false≢true, and_parts, eqb-true}
use Rattle.ir_memory.specs.declared.value.Base.{Base}
use Rattle.ir_memory.specs.declared.value.Base.TheVariants.{Null, Function, Object}
use Rattle.ir_memory.specs.declared.value.Value.{Value}
use Rattle.ir_memory.specs.declared.value.Value.TheVariants.{Pointer}
use Rattle.ir_memory.specs.declared.error.MemError.{MemError}
use Rattle.ir_memory.specs.declared.error.MemError.TheVariants.{BadPointer}
use Rattle.ir_memory.specs.Address.{same_base}
use Rattle.ir_memory.specs.Cell.{Cell, Byte, Piece, is_zero, is_piece}
use Rattle.ir_memory.specs.Contents.{pieces, are_zero, are_pieces, value_in, whole_pointer, first_pointer}
use Rattle.ir_memory.specs.Laws.{HoldsPointer, ReadsPointer}
use Rattle.ir_memory.proofs.ContentsLemmas.{pieces_are}

same_base_true : (b c : Base) → same_base b c ≡ true → b ≡ c
same_base_true Null Null e = refl
same_base_true Null (Function l) e = absurd (false≢true e)
same_base_true Null (Object j) e = absurd (false≢true e)
same_base_true (Function k) Null e = absurd (false≢true e)
same_base_true (Function k) (Function l) e = ap Function (eqb-true k l e)
same_base_true (Function k) (Object j) e = absurd (false≢true e)
same_base_true (Object i) Null e = absurd (false≢true e)
same_base_true (Object i) (Function l) e = absurd (false≢true e)
same_base_true (Object i) (Object j) e = ap Object (eqb-true i j e)

-- the pieces of a pointer from the k-th on
abbrev pub pieces_from : Base → ℕ → ℕ → ℕ → List Cell
pieces_from b o k zero = []
pieces_from b o k (suc n) = Piece b o k ∷ pieces_from b o (suc k) n

piece_is : (b : Base) (o k : ℕ) (c : Cell) → is_piece b o k c ≡ true → c ≡ Piece b o k
piece_is b o k (Byte n) e = absurd (false≢true e)
piece_is b o k (Piece c p i) e =
    let t = and_parts (same_base b c && (o == p)) (k == i) e in
    let u = and_parts (same_base b c) (o == p) t.0 in
    let x : b ≡ c = same_base_true b c u.0 in
    let y : o ≡ p = eqb-true o p u.1 in
    let z : k ≡ i = eqb-true k i t.1 in
    cc

pieces_are_from : (b : Base) (o k : ℕ) (cells : List Cell) → are_pieces b o k cells ≡ true → cells ≡ pieces_from b o k (length cells)
pieces_are_from b o k [] e = refl
pieces_are_from b o k (c ∷ cells) e =
    let t = and_parts (is_piece b o k c) (are_pieces b o (suc k) cells) e in
    let x : c ≡ Piece b o k = piece_is b o k c t.0 in
    let y = pieces_are_from b o (suc k) cells t.1 in
    ap (λ (d : Cell). d ∷ cells) x ∙ ap (λ (l : List Cell). Piece b o k ∷ l) y

zero_is : (c : Cell) → is_zero c ≡ true → c ≡ Byte 0
zero_is (Byte n) e = ap Byte (eqb-true n 0 e)
zero_is (Piece b o i) e = absurd (false≢true e)

zeros_are : (cells : List Cell) → are_zero cells ≡ true → cells ≡ replicate (length cells) (Byte 0)
zeros_are [] e = refl
zeros_are (c ∷ cells) e =
    let t = and_parts (is_zero c) (are_zero cells) e in
    let x : c ≡ Byte 0 = zero_is c t.0 in
    let y = zeros_are cells t.1 in
    ap (λ (d : Cell). d ∷ cells) x ∙ ap (λ (l : List Cell). Byte 0 ∷ l) y

-- no pointer is held by cells that begin with a byte and are not all zero
no_bytes : (n : ℕ) (cells : List Cell) → are_zero (Byte n ∷ cells) ≡ false → (b : Base) (o : ℕ) → ¬ (HoldsPointer (Byte n ∷ cells) b o)
no_bytes n cells z b o (inl e) = cc
no_bytes n cells z b o (inr (e, f, g)) = false≢true (sym z ∙ ap are_zero e)

-- nor by cells that begin with a piece and are not the pieces of its pointer
no_pieces : (c : Base) (p i : ℕ) (cells : List Cell) → are_pieces c p 0 (Piece c p i ∷ cells) ≡ false
    → (b : Base) (o : ℕ) → ¬ (HoldsPointer (Piece c p i ∷ cells) b o)
no_pieces c p i cells z b o (inl e) =
    let x : c ≡ b = cc in
    let y : p ≡ o = cc in
    let same : pieces c p ≡ pieces b o = ap (λ (d : Base). pieces d p) x ∙ ap (pieces b) y in
    false≢true (sym z ∙ ap (are_pieces c p 0) (e ∙ sym same) ∙ pieces_are c p)
no_pieces c p i cells z b o (inr (e, f, g)) = cc

reads_piece : (c : Base) (p i : ℕ) (cells : List Cell) → length (Piece c p i ∷ cells) ≡ 8 → (whole : Bool)
    → are_pieces c p 0 (Piece c p i ∷ cells) ≡ whole → ReadsPointer (Some (Piece c p i ∷ cells)) (if whole then Ok (Pointer c p) else Err BadPointer)
reads_piece c p i cells l true e = inl (pieces_are_from c p 0 (Piece c p i ∷ cells) e ∙ ap (pieces_from c p 0) l)
reads_piece c p i cells l false e = no_pieces c p i cells e

reads_other : (cells : List Cell) → length cells ≡ 8 → are_zero cells ≡ false → ReadsPointer (Some cells) (whole_pointer cells (first_pointer cells))
reads_other [] l z = absurd (omega arith)
reads_other (Byte n ∷ cells) l z = no_bytes n cells z
reads_other (Piece c p i ∷ cells) l z = reads_piece c p i cells l (are_pieces c p 0 (Piece c p i ∷ cells)) refl

reads_cases : (cells : List Cell) → length cells ≡ 8 → (zeros : Bool) → are_zero cells ≡ zeros
    → ReadsPointer (Some cells) (if zeros then Ok (Pointer Null 0) else whole_pointer cells (first_pointer cells))
reads_cases cells l true z = inr (zeros_are cells z ∙ ap (λ n. replicate n (Byte 0)) l, refl, refl)
reads_cases cells l false z = reads_other cells l z

pub reads_pointer : (cells : List Cell) → length cells ≡ 8 → ReadsPointer (Some cells) (value_in true cells)
reads_pointer cells l = reads_cases cells l (are_zero cells) refl

-- the same at what a look-up gave
pub reads_pointer_at : (at : Option (List Cell)) (cells : List Cell) (r : Result Value MemError) (pointer : Bool) → Some cells ≡ at
    → length cells ≡ 8 → pointer ≡ true → r ≡ value_in pointer cells → ReadsPointer at r
reads_pointer_at at cells r pointer e l p f =
    let g : r ≡ value_in true cells = f ∙ ap (λ (b : Bool). value_in b cells) p in
    let P : Result Value MemError → Type 0 = λ x. ReadsPointer (Some cells) x in
    let Q : Option (List Cell) → Type 0 = λ o. ReadsPointer o r in
    subst Q e (subst P (sym g) (reads_pointer cells l))
