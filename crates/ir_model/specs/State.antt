-- The state of a module that runs, what a step of it shows, and how it ends.
use Rattle.std.specs.Prelude.{ℕ, List, [], ◌∷◌, ◌++◌, Option, cond}
use Rattle.ir_tree.specs.Names.{same}
use Rattle.ir_tree.specs.declared.types.Ty.{Ty}
use Rattle.ir_memory.specs.Memory.{MemoryState}
use Rattle.ir_memory.specs.declared.value.Value.{Value}
use Rattle.ir_memory.specs.declared.value.Value.TheVariants.{Int}
use Rattle.ir_model.specs.Values.{at_type}
use Rattle.ir_model.specs.declared.result.TrapKind.{TrapKind}

-- The values of the registers, by their names, the latest assignment first. A register is assigned values of its type alone
abbrev pub Registers : Type 0
Registers = List (List ℕ × Value)

-- what a register holds, and 0 where it was not assigned
abbrev pub held : Registers → List ℕ → Value
held [] x = Int 0
held (r ∷ rs) x = cond (same x r.0) r.1 (held rs x)

-- the registers of a function that begins: its parameters with the arguments of the call, at their types
abbrev pub arguments : List (Ty × List ℕ) → List Value → Registers
arguments [] values = []
arguments (p ∷ ps) [] = []
arguments (p ∷ ps) (v ∷ vs) = (p.1, at_type p.0 v) ∷ arguments ps vs

-- A function that runs: its number, the label of its block, how many instructions behind the block's phis are done, its
-- registers, and the number of the first object that it allocates. `into` is the register of the caller that takes the
-- result, with its type.
pub record Frame : Type 0 where
  pub function : ℕ
  pub block : List ℕ
  pub place : ℕ
  pub registers : Registers
  pub base : ℕ
  pub into : Option (List ℕ × Ty)

-- What all functions that run share: the memory, and the number of bytes that were printed
pub record Shared : Type 0 where
  pub memory : MemoryState
  pub output : ℕ

-- The functions that run, the latest call first, and what they share
pub record State : Type 0 where
  pub frames : List Frame
  pub shared : Shared

-- What an instruction shows of itself: a counter of a unit (a function's name in the profile) rises, a call target is noted
-- at a site of a unit, or a select sees its condition
pub data What : Type 0 where
  Added : (unit : List ℕ) (counter step : ℕ) → What
  Noted : (unit : List ℕ) (site callee : ℕ) → What
  Chose : (value : ℕ) → What

-- What a step shows, and where: the instruction at a place behind the phis of a block; a call through a register there went to
-- a function; a printed byte; a function was entered; a block was left by the successor at this position, counted from 0. A
-- return leaves its block by position 0.
pub data Shown : Type 0 where
  Did : (function : ℕ) (block : List ℕ) (place : ℕ) (what : What) → Shown
  Targeted : (function : ℕ) (block : List ℕ) (place : ℕ) (callee : ℕ) → Shown
  Printed : (byte : ℕ) → Shown
  Entered : (function : ℕ) → Shown
  Walked : (function : ℕ) (block : List ℕ) (position : ℕ) → Shown

-- the bytes that were printed
abbrev pub printed_one : Shown → List ℕ
printed_one (Did k l i what) = []
printed_one (Targeted k l i callee) = []
printed_one (Printed b) = b ∷ []
printed_one (Entered k) = []
printed_one (Walked k l p) = []

abbrev pub printed : List Shown → List ℕ
printed [] = []
printed (x ∷ xs) = printed_one x ++ printed xs

-- How a run ends: it returns a value or none, or it traps
pub data Stop : Type 0 where
  Returns : (value : Option ℕ) → Stop
  Traps : (kind : TrapKind) → Stop
