-- What the functions that read a text answer.
use Rattle.std.specs.Prelude.{◌≡◌, ℕ, List, [], ◌∷◌, Option, None, Some, Result, Ok, Err, Vec}
use Rattle.std.specs.Borrow.{Bor}
use Rattle.prof_view.specs.Lines.{Line, Lines, content}
use Rattle.prof_view.specs.declared.fault.Fault.{Fault}
use Rattle.prof_view.specs.declared.fault.Stop.{Stop}
use Rattle.prof_view.specs.declared.fault.Stop.TheVariants.{Syntax, NoMemory}

abbrev pub Bytes : Type 0
Bytes = Bor (List ℕ)

-- the first of the lines, and a text whose lines are the others; none where there are no lines
abbrev pub NextLine : Option (Bytes × Bytes) → Lines → Type 0
NextLine None lines = lines ≡ []
NextLine (Some p) lines = lines ≡ p.0.now ∷ content p.1.now

abbrev pub FirstLine : Result (Bytes × Bytes) Fault → Lines → Type 0
FirstLine (Err fault) lines = lines ≡ []
FirstLine (Ok p) lines = lines ≡ p.0.now ∷ content p.1.now

-- The result is what a rule reads from the lines of the text, and a text whose lines are those behind it. There is a fault
-- exactly where the rule reads nothing.
abbrev pub Reads : {A B : Type 0} → (A → B) → Result (A × Bytes) Fault → List ℕ → (Lines → Option (B × Lines)) → Type 0
Reads view (Ok p) text read = read (content text) ≡ Some (view p.0, content p.1.now)
Reads view (Err fault) text read = read (content text) ≡ None

-- The result is a text whose lines stand behind so many values, and a fault where one of them can't be read.
abbrev pub Skips : Result Bytes Fault → Option Lines → Type 0
Skips (Ok rest) lines = lines ≡ Some (content rest.now)
Skips (Err fault) lines = lines ≡ None

-- The same of a rule that reads up to the end
abbrev pub ReadsAll : {A : Type 0} → Result A Stop → List ℕ → (Lines → Option (A × Lines)) → Type 0
ReadsAll (Ok x) text read = read (content text) ≡ Some (x, [])
ReadsAll (Err (Syntax left)) text read = read (content text) ≡ None
ReadsAll (Err NoMemory) text read = Unit {0}

-- what a vector lists
abbrev pub items_of : {A Z : Type 0} → Result (Vec A Z) Stop → Result (List A) Stop
items_of (Ok v) = Ok v.items
items_of (Err e) = Err e

-- the first line begins with this byte
abbrev pub BeginsWith : ℕ → Lines → Type 0
BeginsWith byte lines = (more : Line) × (rest : Lines) × (lines ≡ (byte ∷ more) ∷ rest)
