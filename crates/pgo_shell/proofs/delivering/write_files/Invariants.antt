-- The files so far are written, and nothing failed.
use Rattle.std.proofs.Common.{◌≡◌, ◌-◌, ◌≤◌, length}
use Rattle.pgo_base.specs.Outside.{SameFiles}
use Rattle.pgo_shell.specs.Product.{bytes_of_all}
use Rattle.pgo_shell.specs.Steps.{after_first}
use Rattle.pgo_shell.proofs.delivering.write_files.Given as goal

abbrev pub invariant-files : goal.invariant-files
invariant-files g l = record {
  within : l.index ≤ length (g.C.Command.task l.command).writes;
  tells : g.S.Store.tells l.initial.store → g.S.Store.tells l.store;
  written : g.S.Store.tells l.initial.store → SameFiles (after_first l.index (g.C.Command.task l.command).writes (bytes_of_all l.files) (g.S.Store.files l.initial.store)) (g.S.Store.files l.store);
  quiet : g.S.Store.failures l.store ≡ g.S.Store.failures l.initial.store;
}

abbrev pub decreases-files : goal.decreases-files
decreases-files g l = length (g.C.Command.task l.command).writes - l.index
