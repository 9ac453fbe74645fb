-- What a value leaves in cells reads as that value again.
use Rattle.std.proofs.Common.{◌≡◌, ℕ, suc, ◌≤◌, true, List, [], ◌∷◌, length, take, map, Result, Ok, refl, sym, ap, ◌∙◌, eq-eqb}
use Rattle.std.specs.Int.{w64, to_le_bytes}
use Rattle.ir_memory.specs.declared.value.Base.{Base}
use Rattle.ir_memory.specs.declared.value.Base.TheVariants.{Null, Function, Object}
use Rattle.ir_memory.specs.declared.value.Value.{Value}
use Rattle.ir_memory.specs.declared.value.Value.TheVariants.{Int, Pointer}
use Rattle.ir_memory.specs.declared.error.MemError.{MemError}
use Rattle.ir_memory.specs.Address.{same_base}
use Rattle.ir_memory.specs.Bytes.{low_bytes, number_of}
use Rattle.ir_memory.specs.Cell.{Byte, byte_of}
use Rattle.ir_memory.specs.Contents.{FitsIn, cells_of, pieces, is_pointer, are_pieces, value_in}
use Rattle.ir_memory.proofs.ByteLemmas.{le_bytes-low, take-low_bytes, length-low_bytes, number_of-low_bytes}

same_base_refl : (b : Base) → same_base b b ≡ true
same_base_refl Null = refl
same_base_refl (Function k) = eq-eqb k k refl
same_base_refl (Object i) = eq-eqb i i refl

-- the pieces of a pointer are its pieces
pub pieces_are : (b : Base) (o : ℕ) → are_pieces b o 0 (pieces b o) ≡ true
pieces_are b o = rw (same_base_refl b, eq-eqb o o refl) refl

bytes_back : (ns : List ℕ) → map byte_of (map Byte ns) ≡ ns
bytes_back [] = refl
bytes_back (n ∷ ns) = ap (λ ms. n ∷ ms) (bytes_back ns)

pub value_in-cells_of : (w : ℕ) (v : Value) → FitsIn w v → value_in (is_pointer v) (cells_of w v) ≡ Ok v
value_in-cells_of w (Int n) h =
    let int : ℕ → Result Value MemError = λ m. Ok (Int m) in
    ap int (ap number_of (bytes_back (low_bytes w n)) ∙ number_of-low_bytes w n h)
value_in-cells_of w (Pointer b o) h = rw (pieces_are b o) refl

length-map_Byte : (ns : List ℕ) → length (map Byte ns) ≡ length ns
length-map_Byte [] = refl
length-map_Byte (n ∷ ns) = ap suc (length-map_Byte ns)

pub length-cells_of : (w : ℕ) (v : Value) → FitsIn w v → length (cells_of w v) ≡ w
length-cells_of w (Int n) h = length-map_Byte (low_bytes w n) ∙ length-low_bytes w n
length-cells_of w (Pointer b o) h = sym h

-- an integer leaves the first of the bytes of its word
pub low_cells : (w n : ℕ) (bytes : List ℕ) → w ≤ 8 → bytes ≡ to_le_bytes w64 n → map Byte (take w bytes) ≡ cells_of w (Int n)
low_cells w n bytes h e = ap (map Byte) (ap (take w) (e ∙ le_bytes-low n) ∙ take-low_bytes w 8 n h)
