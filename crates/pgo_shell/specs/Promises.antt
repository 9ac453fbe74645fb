-- What each status of a command promises, and which status comes.
use Rattle.std.specs.Prelude.{◌≡◌, ◌⊎◌, ℕ, List, IsSome, Option, None, Some, Ok}
use Rattle.pgo_shell.specs.Judgement.{Made}
use Rattle.pgo_shell.specs.World.{World}
use Rattle.pgo_shell.specs.Shell.{Task, Worked, Untouched, AreRead, PutWhole, PutFront, NoneWritten, Written, OpenAt, Delivers, ReadFailed, FaultsRose, RefusedTexts}
use Rattle.pgo_shell.specs.declared.status.Status.{Status}
use Rattle.pgo_shell.specs.declared.status.Status.TheVariants as status

-- after `NotReturned`: what was made halts, its output was put whole, and no file changed
abbrev pub HaltStands : Task → World → World → Type 0
HaltStands task old new =
    (worked : Worked task old.files) × IsSome worked.made.halted × PutWhole worked.made old new × NoneWritten old new

-- the command stopped before its end for a fault or for want of memory
abbrev pub IsStopped : Status → Type 0
IsStopped s = (s ≡ status.Outside) ⊎ (s ≡ status.Memory)

-- what stands where a command stopped half way: nothing was touched; or a front of the output was put and no file changed;
-- or the output was put whole, the files before the one where it stopped are written, that one is open, and no other changed
abbrev pub StoppedStands : Task → World → World → Type 0
StoppedStands task old new =
    Untouched old new
    ⊎ ((worked : Worked task old.files)
    × ((PutFront worked.made old new × NoneWritten old new)
    ⊎ (PutWhole worked.made old new
    × ((k : ℕ) × (Written worked.made task.writes k old new ⊎ OpenAt worked.made task.writes k old new)))))

-- the status of what was made
abbrev pub status_for : Option (List ℕ) → Status
status_for None = status.Done
status_for (Some line) = status.NotReturned

pub record Promises (task : Task) (old new : World) (s : Status) : Type 0 where
  -- after `Done`: something was made of the texts, its output was put whole, its files are written, all others are as before
  pub done : s ≡ status.Done → old.tells → Delivers task old new (Ok tt)
  -- after `Refused`: the texts are refused, and nothing was touched
  pub refused : s ≡ status.Refused → old.tells → (line : List ℕ) × RefusedTexts task old line
  pub untouched : s ≡ status.Refused → Untouched old new
  pub not_returned : s ≡ status.NotReturned → old.tells → HaltStands task old new
  pub stopped : IsStopped s → old.tells → StoppedStands task old new
  -- the words were right
  pub words : s ≡ status.Words → ⊥
  -- `Outside` comes only where a fault rose: on a file that the command reads or writes, or of the output
  pub outside : s ≡ status.Outside → FaultsRose task old new
  -- texts that are refused are refused wherever no read failed
  pub refuses : (texts : List (List ℕ)) (line : List ℕ) → old.tells → AreRead old.files task.reads texts → (task.judges texts).refuses line →
      (ReadFailed task old new → ⊥) → (s ≡ status.Refused) ⊎ (s ≡ status.Memory)
  -- texts of which something is made end as it does wherever no fault rose
  pub finishes : (texts : List (List ℕ)) (made : Made) → old.tells → AreRead old.files task.reads texts → (task.judges texts).finds made →
      (FaultsRose task old new → ⊥) → (s ≡ status_for made.halted) ⊎ (s ≡ status.Memory)
