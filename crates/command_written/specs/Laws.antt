-- What stands once a module was written, in words of the files and of the output.
use Rattle.std.proofs.Common.{◌≡◌, ℕ, List, [], ◌∷◌, ◌++◌, Ok, take, ap, ◌∙◌, subst, append-nil}
use Rattle.std.specs.Prelude.{zip}
use Rattle.canonical_text.specs.Canonical.{canonical}
use Rattle.ir_tree.specs.declared.types.Module.{Module}
use Rattle.pgo_base.specs.Outside.{SameFiles}
use Rattle.pgo_shell.specs.Judgement.{Made}
use Rattle.pgo_shell.specs.Shell.{Delivered, after, with_file}
use Rattle.pgo_shell.specs.World.{World}
use Rattle.command_written.specs.Written.{ModuleMakes}

-- the file holds the canonical text of the module, no other file changed, and nothing was put
pub record ModuleStands (out : List ℕ) (m : Module) (old new : World) : Type 0 where
  pub written : SameFiles (with_file old.files (out, canonical m)) new.files
  pub put : old.shows → new.put ≡ old.put

pub module_stands : (out : List ℕ) (m : Module) (made : Made) (old new : World) → old.tells → ModuleMakes m made →
    Delivered made (out ∷ []) old new (Ok tt) → ModuleStands out m old new
module_stands out m made old new told makes delivered = record {
  written = subst (λ (x : Made). SameFiles (after (take 1 (zip (out ∷ []) x.written)) old.files) new.files) makes (delivered.2 told);
  put = λ shown. delivered.1 shown ∙ (ap (λ (x : Made). old.put ++ x.output) makes ∙ append-nil old.put);
}
