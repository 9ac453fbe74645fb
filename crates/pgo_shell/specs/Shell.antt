-- What stands after a command, what caused its end, and its line on the error output.
use Rattle.std.specs.Prelude.{◌≡◌, ◌⊎◌, ℕ, Bool, true, false, List, [], ◌∷◌, ◌++◌, map, take, length, zip, nat_eq, slice_get, unwrap_or, if◌then◌else◌, Option, Some, None, Result, Ok, Err, Contains, codes}
use Rattle.std.specs.Option.{option_map}
use Rattle.std.specs.Cmp.Lexicographic.{pointwise}
use Rattle.pgo_base.specs.Outside.{Files, Call, SameFiles, SameOthers, Gained, Rose}
use Rattle.pgo_shell.specs.Judgement.{Made, Whole}
use Rattle.pgo_shell.specs.World.{World}
use Rattle.pgo_shell.specs.declared.stop.Stop.{Stop}
use Rattle.pgo_shell.specs.declared.stop.Stop.TheVariants as stop
use Rattle.pgo_shell.specs.declared.status.Status.{Status}
use Rattle.pgo_shell.specs.declared.status.Status.TheVariants as status

-- nothing was touched
abbrev pub Untouched : World → World → Type 0
Untouched old new = (old.shows → new.put ≡ old.put) × (old.tells → SameFiles old.files new.files)

-- the text of a file: its bytes as far as a read gives them
unfoldable pub text_of : Files → List ℕ → Option (List ℕ)
text_of files name = option_map (take 16_777_217) (files name)

-- these are the texts of the named files, in order
abbrev pub AreRead : Files → List (List ℕ) → List (List ℕ) → Type 0
AreRead files names texts = map (text_of files) names ≡ map Some texts

-- the files with these bytes under this name
abbrev pub with_file : Files → List ℕ × List ℕ → Files
with_file files entry other = if pointwise nat_eq other entry.0 then Some entry.1 else files other

-- the files after these writes, one after another
abbrev pub after : List (List ℕ × List ℕ) → Files → Files
after [] files = files
after (entry ∷ entries) files = after entries (with_file files entry)

-- ---- one command: the files that it reads, those that it writes, and what its texts come to

pub record Task : Type 1 where
  pub reads : List (List ℕ)
  pub writes : List (List ℕ)
  pub judges : List (List ℕ) → Whole

-- the command made this of the texts of its files
pub record Worked (task : Task) (files : Files) : Type 0 where
  pub texts : List (List ℕ)
  pub made : Made
  pub read : AreRead files task.reads texts
  pub judged : (task.judges texts).finds made

-- ---- what stands

-- the whole output was put
abbrev pub PutWhole : Made → World → World → Type 0
PutWhole made old new = old.shows → new.put ≡ old.put ++ made.output

-- a front of the output was put
abbrev pub PutFront : Made → World → World → Type 0
PutFront made old new = old.shows → (n : ℕ) × (new.put ≡ old.put ++ take n made.output)

-- the first k files are written, and no other file changed
abbrev pub Written : Made → List (List ℕ) → ℕ → World → World → Type 0
Written made names k old new = old.tells → SameFiles (after (take k (zip names made.written)) old.files) new.files

-- the first k files are written, the file after them is open, and no other file changed
abbrev pub OpenAt : Made → List (List ℕ) → ℕ → World → World → Type 0
OpenAt made names k old new =
    old.tells → (name : List ℕ) × (slice_get names k ≡ Some name)
    × SameOthers name (after (take k (zip names made.written)) old.files) new.files

-- the first files are written, and no other file changed
abbrev pub SomeWritten : Made → List (List ℕ) → World → World → Type 0
SomeWritten made names old new = old.tells → (k : ℕ) × SameFiles (after (take k (zip names made.written)) old.files) new.files

-- no file changed
abbrev pub NoneWritten : World → World → Type 0
NoneWritten old new = old.tells → SameFiles old.files new.files

-- what stands once something was made, by the end: the output is put first, then the files are written in order
abbrev pub Delivered : Made → List (List ℕ) → World → World → Result (Unit {0}) Stop → Type 0
Delivered made names old new (Ok _) =
    (made.halted ≡ None) × PutWhole made old new × Written made names (length names) old new
Delivered made names old new (Err (stop.Refused line)) = ⊥
Delivered made names old new (Err (stop.Halted line)) =
    (made.halted ≡ Some line.items) × PutWhole made old new × NoneWritten old new
Delivered made names old new (Err (stop.Read index)) = ⊥
Delivered made names old new (Err stop.Output) = PutFront made old new × NoneWritten old new
Delivered made names old new (Err (stop.Write index)) =
    (made.halted ≡ None) × PutWhole made old new × OpenAt made names index old new
Delivered made names old new (Err stop.NoMemory) =
    (PutFront made old new × NoneWritten old new)
    ⊎ ((made.halted ≡ None) × PutWhole made old new × SomeWritten made names old new)

abbrev pub Delivers : Task → World → World → Result (Unit {0}) Stop → Type 0
Delivers task old new result = (worked : Worked task old.files) × Delivered worked.made task.writes old new result

-- the texts of the files are refused with this line
abbrev pub RefusedTexts : Task → World → List ℕ → Type 0
RefusedTexts task old line = (texts : List (List ℕ)) × AreRead old.files task.reads texts × (task.judges texts).refuses line

-- what stands after a command, by its end
abbrev pub Ran : Task → World → World → Result (Unit {0}) Stop → Type 0
Ran task old new (Ok _) = old.tells → Delivers task old new (Ok tt)
Ran task old new (Err (stop.Refused line)) = (old.tells → RefusedTexts task old line.items) × Untouched old new
Ran task old new (Err (stop.Halted line)) = old.tells → Delivers task old new (Err (stop.Halted line))
Ran task old new (Err (stop.Read index)) = Untouched old new
Ran task old new (Err stop.Output) = old.tells → Delivers task old new (Err stop.Output)
Ran task old new (Err (stop.Write index)) = old.tells → Delivers task old new (Err (stop.Write index))
Ran task old new (Err stop.NoMemory) = Untouched old new ⊎ (old.tells → Delivers task old new (Err stop.NoMemory))

-- ---- what caused the end

-- the failed calls gained a call of this kind on the file at this place of a list of names
abbrev pub FailedAt : List (List ℕ) → ℕ → Bool → List Call → List Call → Type 0
FailedAt names index was_write before now =
    (name : List ℕ) × (slice_get names index ≡ Some name) × Gained before now (name, was_write)

abbrev pub Causes : Task → World → World → Result (Unit {0}) Stop → Type 0
Causes task old new (Ok _) = new.failures ≡ old.failures
Causes task old new (Err (stop.Refused line)) = new.failures ≡ old.failures
Causes task old new (Err (stop.Halted line)) = new.failures ≡ old.failures
Causes task old new (Err (stop.Read index)) = FailedAt task.reads index false old.failures new.failures
Causes task old new (Err stop.Output) = (new.failures ≡ old.failures) × Rose old.faults new.faults
Causes task old new (Err (stop.Write index)) = FailedAt task.writes index true old.failures new.failures
Causes task old new (Err stop.NoMemory) = new.failures ≡ old.failures

-- a read of a file that the command reads failed
abbrev pub ReadFailed : Task → World → World → Type 0
ReadFailed task old new =
    (name : List ℕ) × Contains task.reads name × Gained old.failures new.failures (name, false)

-- a write of a file that the command writes failed
abbrev pub WriteFailed : Task → World → World → Type 0
WriteFailed task old new =
    (name : List ℕ) × Contains task.writes name × Gained old.failures new.failures (name, true)

-- a fault of the files or of the output: on a file that the command reads or writes, or a rise of the output's count
abbrev pub FaultsRose : Task → World → World → Type 0
FaultsRose task old new = ReadFailed task old new ⊎ (WriteFailed task old new ⊎ Rose old.faults new.faults)

-- ---- status and line

abbrev pub status_of : Result (Unit {0}) Stop → Status
status_of (Ok _) = status.Done
status_of (Err (stop.Refused line)) = status.Refused
status_of (Err (stop.Halted line)) = status.NotReturned
status_of (Err (stop.Read index)) = status.Outside
status_of (Err stop.Output) = status.Outside
status_of (Err (stop.Write index)) = status.Outside
status_of (Err stop.NoMemory) = status.Memory

-- the name at a place, or no bytes
abbrev pub name_at : List (List ℕ) → ℕ → List ℕ
name_at names index = unwrap_or (slice_get names index) []

-- what the line of an end says
abbrev pub said : Task → Stop → List ℕ
said task (stop.Refused line) = line.items
said task (stop.Halted line) = line.items
said task (stop.Read index) = codes "cannot read " ++ name_at task.reads index
said task stop.Output = codes "cannot write output"
said task (stop.Write index) = codes "cannot write " ++ name_at task.writes index
said task stop.NoMemory = codes "out of memory"

-- a line on the error output
abbrev pub error_line : List ℕ → List ℕ
error_line words = codes "pgo: " ++ words ++ 10 ∷ []

abbrev pub line_of : Task → Result (Unit {0}) Stop → List ℕ
line_of task (Ok _) = []
line_of task (Err end) = error_line (said task end)

-- a front of these bytes was appended
abbrev pub Front : List ℕ → List ℕ → List ℕ → Type 0
Front bytes old new = (n : ℕ) × (new ≡ old ++ take n bytes)
