-- Which names, values and types some text spells.
use Rattle.std.specs.Prelude.{◌≡◌, ℕ, ◌<◌, ◌≤◌, ◌^◌, true, List, [], ◌∷◌, length, Option, None, Some}
use Rattle.ir_tree.specs.Types.{is_integer_of}
use Rattle.ir_tree.specs.Spelling.{is_local_name, is_global_name}
use Rattle.ir_tree.specs.declared.types.Ty.{Ty}
use Rattle.ir_tree.specs.declared.types.MemTy.{MemTy}
use Rattle.ir_tree.specs.declared.types.Operand.{Operand}
use Rattle.ir_tree.specs.declared.types.Operand.TheVariants as operands
use Rattle.ir_grammar.specs.Types.{memory_of, depth_most}

-- each item of a list, by recursion
abbrev pub Each : {A : Type 0} → (A → Type 0) → List A → Type 0
Each P [] = Unit {0}
Each P (x ∷ xs) = P x × Each P xs

-- one item at least
abbrev pub IsSome : {A : Type 0} → List A → Type 0
IsSome [] = ⊥
IsSome (x ∷ xs) = Unit {0}

-- the name of a parameter, label or result
abbrev pub IsLocal : List ℕ → Type 0
IsLocal name = is_local_name name ≡ true

-- the name of a global variable or function
abbrev pub IsGlobal : List ℕ → Type 0
IsGlobal name = is_global_name name ≡ true

-- a number without a sign
abbrev pub IsCount : ℕ → Type 0
IsCount n = n < 2 ^ 64

-- an integer of the type
abbrev pub IsLiteral : Ty → ℕ → Type 0
IsLiteral ty value = is_integer_of ty value ≡ true

abbrev pub IsOperand : Ty → Operand → Type 0
IsOperand ty (operands.Int value) = IsLiteral ty value
IsOperand ty operands.Null = Unit {0}
IsOperand ty (operands.Local name) = IsLocal name
IsOperand ty (operands.Global name) = IsGlobal name

abbrev pub IsTyped : Ty × Operand → Type 0
IsTyped p = IsOperand p.0 p.1

-- what is called: a local or a global
abbrev pub IsCallee : Operand → Type 0
IsCallee (operands.Int value) = ⊥
IsCallee operands.Null = ⊥
IsCallee (operands.Local name) = IsLocal name
IsCallee (operands.Global name) = IsGlobal name

-- the dimensions of a type of memory
abbrev pub AreDimensions : List ℕ → Type 0
AreDimensions ns = (length ns ≤ depth_most) × Each IsCount ns

-- a type of memory, by its dimensions and the type inside
abbrev pub IsMemory : MemTy → Type 0
IsMemory mem = (ns : List ℕ) × (ty : Ty) × (mem ≡ memory_of ns ty) × AreDimensions ns

abbrev pub IsMaybe : {A : Type 0} → (A → Type 0) → Option A → Type 0
IsMaybe P None = Unit {0}
IsMaybe P (Some x) = P x
