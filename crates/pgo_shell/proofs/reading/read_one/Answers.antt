-- What a read gives is the file's text.
use Rattle.std.proofs.Common.{Some, ap, sym}
use Rattle.pgo_shell.specs.Shell.{text_of}
use Rattle.pgo_shell.proofs.reading.read_one.Goals as goal

pub returns-in-Ok-clause-text : goal.returns-in-Ok-clause-text
unfolding text_of
returns-in-Ok-clause-text g c told = let given = c.in-Ok.ensures.gives told in rw given.1.0.1 (ap Some (sym given.1.0.2))
