-- What stands and what failed after each step of a command: one read, all reads, one write, the delivery.
use Rattle.std.specs.Prelude.{◌≡◌, ℕ, ◌≤◌, true, false, List, ◌++◌, length, take, Some, Result, Ok, Err, slice_get}
use Rattle.std.specs.List.{zip}
use Rattle.pgo_base.specs.Outside.{Call, Files, Rose, SameFiles, SameOthers}
use Rattle.pgo_shell.specs.World.{World}
use Rattle.pgo_shell.specs.Shell.{FailedAt, after}
use Rattle.pgo_shell.specs.declared.stop.Stop.{Stop}
use Rattle.pgo_shell.specs.declared.stop.Stop.TheVariants as stop

-- a step that reads the file at this place of a list of names: it stops only where the read failed, or without memory
abbrev pub StopsReading : {V : Type 0} → List (List ℕ) → List Call → List Call → Result V Stop → Type 0
StopsReading names before now (Ok v) = now ≡ before
StopsReading names before now (Err (stop.Refused line)) = ⊥
StopsReading names before now (Err (stop.Halted line)) = ⊥
StopsReading names before now (Err (stop.Read index)) = FailedAt names index false before now
StopsReading names before now (Err stop.Output) = ⊥
StopsReading names before now (Err (stop.Write index)) = ⊥
StopsReading names before now (Err stop.NoMemory) = now ≡ before

-- a step that writes files: it stops only where a write failed, or without memory
abbrev pub StopsWriting : List (List ℕ) → List Call → List Call → Result (Unit {0}) Stop → Type 0
StopsWriting names before now (Ok v) = now ≡ before
StopsWriting names before now (Err (stop.Refused line)) = ⊥
StopsWriting names before now (Err (stop.Halted line)) = ⊥
StopsWriting names before now (Err (stop.Read index)) = ⊥
StopsWriting names before now (Err stop.Output) = ⊥
StopsWriting names before now (Err (stop.Write index)) = FailedAt names index true before now
StopsWriting names before now (Err stop.NoMemory) = now ≡ before

-- the files after the first k writes of these contents
abbrev pub after_first : ℕ → List (List ℕ) → List (List ℕ) → Files → Files
after_first k names contents files = after (take k (zip names contents)) files

-- what the writes of these contents left, by their end
abbrev pub FilesLeft : List (List ℕ) → List (List ℕ) → Files → Files → Result (Unit {0}) Stop → Type 0
FilesLeft names contents old new (Ok v) = SameFiles (after_first (length names) names contents old) new
FilesLeft names contents old new (Err (stop.Refused line)) = ⊥
FilesLeft names contents old new (Err (stop.Halted line)) = ⊥
FilesLeft names contents old new (Err (stop.Read index)) = ⊥
FilesLeft names contents old new (Err stop.Output) = ⊥
FilesLeft names contents old new (Err (stop.Write index)) =
    (name : List ℕ) × (slice_get names index ≡ Some name) × SameOthers name (after_first index names contents old) new
FilesLeft names contents old new (Err stop.NoMemory) = (k : ℕ) × SameFiles (after_first k names contents old) new

-- what a put of the output left, by its end
abbrev pub OutputLeft : List ℕ → List ℕ → List ℕ → Result (Unit {0}) Stop → Type 0
OutputLeft bytes old new (Ok v) = new ≡ old ++ bytes
OutputLeft bytes old new (Err (stop.Refused line)) = ⊥
OutputLeft bytes old new (Err (stop.Halted line)) = ⊥
OutputLeft bytes old new (Err (stop.Read index)) = ⊥
OutputLeft bytes old new (Err stop.Output) = (n : ℕ) × (new ≡ old ++ take n bytes)
OutputLeft bytes old new (Err (stop.Write index)) = ⊥
OutputLeft bytes old new (Err stop.NoMemory) = new ≡ old ++ take 0 bytes

-- a put of the output: it stops only where the count of faults rose, or without memory
abbrev pub OutputRises : ℕ → ℕ → Result (Unit {0}) Stop → Type 0
OutputRises before now (Ok v) = before ≤ now
OutputRises before now (Err (stop.Refused line)) = ⊥
OutputRises before now (Err (stop.Halted line)) = ⊥
OutputRises before now (Err (stop.Read index)) = ⊥
OutputRises before now (Err stop.Output) = Rose before now
OutputRises before now (Err (stop.Write index)) = ⊥
OutputRises before now (Err stop.NoMemory) = before ≤ now

-- the delivery stops for a halt, at a failed output or write, or without memory
abbrev pub DeliveryCauses : List (List ℕ) → World → World → Result (Unit {0}) Stop → Type 0
DeliveryCauses names old new (Ok v) = new.failures ≡ old.failures
DeliveryCauses names old new (Err (stop.Refused line)) = ⊥
DeliveryCauses names old new (Err (stop.Halted line)) = new.failures ≡ old.failures
DeliveryCauses names old new (Err (stop.Read index)) = ⊥
DeliveryCauses names old new (Err stop.Output) = (new.failures ≡ old.failures) × Rose old.faults new.faults
DeliveryCauses names old new (Err (stop.Write index)) = FailedAt names index true old.failures new.failures
DeliveryCauses names old new (Err stop.NoMemory) = new.failures ≡ old.failures
