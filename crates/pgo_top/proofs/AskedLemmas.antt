-- What holds of the command that was found holds of the one that the words ask for; and what `Memory` promises.
use Rattle.std.proofs.Common.{◌≡◌, Option, Some, refl, sym, ◌∙◌, subst, inl, inr}
use Rattle.pgo_shell.specs.Promises.{Promises}
use Rattle.pgo_shell.specs.Shell.{Task}
use Rattle.pgo_shell.specs.World.{World}
use Rattle.pgo_shell.specs.declared.status.Status.TheVariants as status
use Rattle.pgo_top.specs.Asked.{Asked}

some_same : (a b : Asked) → Some a ≡ Some b → a ≡ b
some_same a b e = cc

pub by_asked : (P : Asked → Type 0) (o : Option Asked) (a b : Asked) → o ≡ Some a → o ≡ Some b → P a → P b
by_asked P o a b found is holds = subst P (some_same a b (sym found ∙ is)) holds

-- before any file is read
pub memory_promises : (task : Task) (w : World) → Promises task w w status.Memory
memory_promises task w = record {
  done = λ e told. cc;
  refused = λ e told. cc;
  untouched = λ e. cc;
  not_returned = λ e told. cc;
  stopped = λ is told. inl ((λ shown. refl), (λ tells name. refl));
  words = λ e. cc;
  outside = λ e. cc;
  refuses = λ texts line told read refuses quiet. inr refl;
  finishes = λ texts made told read finds quiet. inr refl;
}
