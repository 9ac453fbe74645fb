-- The sizes of types in memory, in bytes (LLVM Language Reference, "Data Layout"): an integer has its width in whole bytes,
-- a pointer 8, an array those of its elements.
use Rattle.std.specs.Prelude.{ℕ, ◌+◌, ◌*◌, Option, Some, None}
use Rattle.ir_tree.specs.declared.types.MemTy.{MemTy, Array', Row_of-MemTy, end_of-MemTy, more_of-MemTy}
use Rattle.ir_tree.specs.declared.types.MemTy.TheVariants.{Scalar}
use Rattle.ir_tree.specs.declared.types.Ty.{Ty}
use Rattle.ir_tree.specs.declared.types.Ty.TheVariants.{I1, I8, I16, I32, I64, Ptr}

abbrev pub bytes_of : Ty → ℕ
bytes_of I1 = 1
bytes_of I8 = 1
bytes_of I16 = 2
bytes_of I32 = 4
bytes_of I64 = 8
bytes_of Ptr = 8

-- an array holds the type of its elements as a row of one
abbrev mutual
  pub size_of : MemTy → ℕ
  size_of (Scalar ty) = bytes_of ty
  size_of (Array' count shape element) = count * row_size element

  pub row_size : {m : _} → Row_of-MemTy m → ℕ
  row_size end_of-MemTy = 0
  row_size (more_of-MemTy mem rest) = size_of mem + row_size rest

-- the type of an array's elements; what is no array is its own
abbrev pub first_in : {m : _} → MemTy → Row_of-MemTy m → MemTy
first_in mem end_of-MemTy = mem
first_in mem (more_of-MemTy first rest) = first

abbrev pub element_of : MemTy → MemTy
element_of (Scalar ty) = Scalar ty
element_of (Array' count shape element) = first_in (Scalar I1) element

abbrev pub scalar_of : MemTy → Option Ty
scalar_of (Scalar ty) = Some ty
scalar_of (Array' count shape element) = None
