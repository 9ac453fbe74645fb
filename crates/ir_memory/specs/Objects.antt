-- The allocations of a memory whose cells lie one object after the other.
use Rattle.std.specs.Prelude.{◌≡◌, ◌≢◌, ℕ, ◌+◌, ◌<◌, ◌≤◌, Bool, not, ◌&&◌, nat_le, max, List, [], ◌∷◌, length, take, drop, get_or}
use Rattle.ir_memory.specs.declared.live_object.LiveObject.{LiveObject}
use Rattle.ir_memory.specs.Cell.{Cell}
use Rattle.ir_memory.specs.Memory.{Allocation}
use Rattle.ir_memory.specs.Sound.{IsSound}

-- the cells are cut in order by the objects' sizes
abbrev pub allocations_of : List LiveObject → List Cell → List Allocation
allocations_of [] cells = []
allocations_of (o ∷ objects) cells =
    let a : Allocation = record { number = o.number; constant = o.constant; cells = take o.size cells } in
    a ∷ allocations_of objects (drop o.size cells)

-- each object begins where the one before it ends, from `at` to `end`
abbrev pub IsLaidOut : ℕ → List LiveObject → ℕ → Type 0
IsLaidOut at [] end = at ≡ end
IsLaidOut at (o ∷ objects) end = (o.start ≡ at) × IsLaidOut (at + o.size) objects end

abbrev pub counted_size : LiveObject → ℕ
counted_size o = max 1 o.size

-- what holds between calls of a memory
pub record IsWhole (next : ℕ) (objects : List LiveObject) (cells : List Cell) (live : ℕ) : Type 0 where
  pub sound : IsSound next (allocations_of objects cells) live
  pub laid_out : IsLaidOut 0 objects (length cells)

-- objects stand by rising number
abbrev pub AreRising : List LiveObject → Type 0
AreRising objects = (i j : ℕ) (d : LiveObject) → i < j → j < length objects → (get_or objects i d).number < (get_or objects j d).number

-- the object with a number stands at a place of the list, or none does
pub record IsPlace (objects : List LiveObject) (number at : ℕ) : Type 0 where
  pub in_range : at < length objects
  pub here : (d : LiveObject) → (get_or objects at d).number ≡ number

abbrev pub HasNone : List LiveObject → ℕ → Type 0
HasNone objects number = (i : ℕ) (d : LiveObject) → i < length objects → (get_or objects i d).number ≢ number

-- so many objects at the front have numbers below a number, and no other has
pub record IsCut (objects : List LiveObject) (number keep : ℕ) : Type 0 where
  pub within : keep ≤ length objects
  pub below : (i : ℕ) (d : LiveObject) → i < keep → (get_or objects i d).number < number
  pub above : (i : ℕ) (d : LiveObject) → keep ≤ i → i < length objects → number ≤ (get_or objects i d).number

-- whether a range lies in an object, and whether a value may be written there
abbrev pub has_range : ℕ → ℕ → LiveObject → Bool
has_range offset width o = nat_le (offset + width) o.size

abbrev pub may_write : Bool → ℕ → ℕ → LiveObject → Bool
may_write protect offset width o = not (protect && o.constant) && has_range offset width o
