-- A cell of memory is a byte, or one of the eight pieces of a pointer.
use Rattle.std.specs.Prelude.{ℕ, ◌*◌, ◌/◌, ◌%◌, ◌^◌, Bool, false, ◌&&◌, ◌==◌, Option, Some, None}
use Rattle.ir_memory.specs.declared.value.Base.{Base}
use Rattle.ir_memory.specs.Address.{address_of, same_base}

pub data Cell : Type 0 where
  Byte : (value : ℕ) → Cell
  Piece : (base : Base) (offset index : ℕ) → Cell

-- what a cell reads as in an integer: a piece is a byte of the pointer's address, the lowest first
abbrev pub byte_of : Cell → ℕ
byte_of (Byte value) = value
byte_of (Piece base offset index) = address_of base offset / 2 ^ (8 * index) % 256

-- whether a cell is a zero byte
abbrev pub is_zero : Cell → Bool
is_zero (Byte value) = value == 0
is_zero (Piece base offset index) = false

-- the pointer that a piece belongs to
abbrev pub pointer_of : Cell → Option (Base × ℕ)
pointer_of (Byte value) = None
pointer_of (Piece base offset index) = Some (base, offset)

-- whether a cell is the piece `k` of a pointer
abbrev pub is_piece : Base → ℕ → ℕ → Cell → Bool
is_piece base offset k (Byte value) = false
is_piece base offset k (Piece b o index) = same_base base b && (offset == o) && (k == index)
