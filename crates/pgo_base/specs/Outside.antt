-- What the calls of a store and of a sink do: to the files and bytes that they tell, and to their faults.
use Rattle.std.specs.Prelude.{◌≡◌, ◌≢◌, ℕ, ◌+◌, ◌-◌, ◌^◌, ◌≤◌, Bool, List, ◌++◌, take, min, Contains, Option, Some, Result, Ok, Err}
use Rattle.pgo_base.specs.declared.errors.OutsideError.{OutsideError}
use Rattle.pgo_base.specs.declared.errors.OutsideError.TheVariants.{Failed, NoMemory}

-- the files of a store: the bytes under each name
abbrev pub Files : Type 0
Files = List ℕ → Option (List ℕ)

-- a call that failed: the file's name, and whether it was a write
abbrev pub Call : Type 0
Call = List ℕ × Bool

-- what is said of content where content is told, and that it is then told afterwards too
abbrev pub Tells : Type 0 → Type 0 → Type 0 → Type 0
Tells before after P = before → after × P

-- no file changed
abbrev pub SameFiles : Files → Files → Type 0
SameFiles old new = (name : List ℕ) → new name ≡ old name

-- no file but the named one changed
abbrev pub SameOthers : List ℕ → Files → Files → Type 0
SameOthers name old new = (other : List ℕ) → other ≢ name → new other ≡ old other

-- the named file has exactly these bytes, and no other file changed
abbrev pub Puts : List ℕ → List ℕ → Files → Files → Type 0
Puts name bytes old new = (new name ≡ Some bytes) × SameOthers name old new

-- the list of failed calls grew, and this call is among the new ones
abbrev pub Gained : List Call → List Call → Call → Type 0
Gained before now call = (more : List Call) × (now ≡ before ++ more) × Contains more call

-- the count of faults rose, or stands at its end
abbrev pub Rose : ℕ → ℕ → Type 0
Rose before now = min (before + 1) (2 ^ 64 - 1) ≤ now

-- a read of the named file: it gives the first bytes, at most so many, and changes no file whatever it answers
abbrev pub ReadGives : {V : Type 0} → (V → List ℕ) → ℕ → List ℕ → Files → Files → Result V OutsideError → Type 0
ReadGives items most name old new (Ok v) =
    ((bytes : List ℕ) × (old name ≡ Some bytes) × (items v ≡ take most bytes)) × SameFiles old new
ReadGives items most name old new (Err e) = SameFiles old new

-- a write of the named file: it holds the bytes then; after a failure its content is open
abbrev pub WriteLeaves : List ℕ → List ℕ → Files → Files → Result (Unit {0}) OutsideError → Type 0
WriteLeaves name bytes old new (Ok _) = Puts name bytes old new
WriteLeaves name bytes old new (Err Failed) = SameOthers name old new
WriteLeaves name bytes old new (Err NoMemory) = SameFiles old new

-- the list of failed calls grows by a failed call of this name and kind, and else stays
abbrev pub FailsBy : {V : Type 0} → List Call → List Call → Call → Result V OutsideError → Type 0
FailsBy before now call (Ok _) = now ≡ before
FailsBy before now call (Err Failed) = Gained before now call
FailsBy before now call (Err NoMemory) = now ≡ before

-- a put: the whole piece is appended, after a failure a front of it, for want of memory nothing
abbrev pub PutLeaves : List ℕ → List ℕ → List ℕ → Result (Unit {0}) OutsideError → Type 0
PutLeaves piece old new (Ok _) = new ≡ old ++ piece
PutLeaves piece old new (Err Failed) = (n : ℕ) × (new ≡ old ++ take n piece)
PutLeaves piece old new (Err NoMemory) = new ≡ old

-- the count of faults never falls, and rises where the call failed
abbrev pub RisesBy : ℕ → ℕ → Result (Unit {0}) OutsideError → Type 0
RisesBy before now (Ok _) = before ≤ now
RisesBy before now (Err Failed) = (before ≤ now) × Rose before now
RisesBy before now (Err NoMemory) = before ≤ now
