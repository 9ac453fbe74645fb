-- The files so far are read, and nothing failed.
use Rattle.std.proofs.Common.{◌≡◌, ◌-◌, ◌≤◌, Some, length, map, take, vec_len}
use Rattle.pgo_base.specs.Outside.{SameFiles}
use Rattle.pgo_shell.specs.Product.{bytes_of_all}
use Rattle.pgo_shell.specs.Shell.{text_of}
use Rattle.pgo_shell.proofs.reading.read_all.Given as goal

abbrev pub invariant-files : goal.invariant-files
invariant-files g l = record {
  within : vec_len l.texts ≤ length (g.C.Command.task l.command).reads;
  tells : g.S.Store.tells l.initial.store → g.S.Store.tells l.store;
  same : g.S.Store.tells l.initial.store → SameFiles (g.S.Store.files l.initial.store) (g.S.Store.files l.store);
  read : g.S.Store.tells l.initial.store → map (text_of (g.S.Store.files l.initial.store)) (take (vec_len l.texts) (g.C.Command.task l.command).reads) ≡ map Some (bytes_of_all l.texts.items);
  quiet : g.S.Store.failures l.store ≡ g.S.Store.failures l.initial.store;
}

abbrev pub decreases-files : goal.decreases-files
decreases-files g l = length (g.C.Command.task l.command).reads - vec_len l.texts
