-- What a command finds outside and leaves there: the files with their failed calls, and the output with its faults.
use Rattle.std.specs.Prelude.{ℕ, List}
use Rattle.pgo_base.specs.Outside.{Call, Files}
use Rattle.pgo_base.specs.declared.store.Store as stores
use Rattle.pgo_base.specs.declared.sink.Sink as sinks

pub record World : Type 1 where
  -- the files are told
  pub tells : Type 0
  pub files : Files
  -- the failed calls of the files
  pub failures : List Call
  -- the output's bytes are told
  pub shows : Type 0
  pub put : List ℕ
  -- how often the output failed
  pub faults : ℕ

abbrev pub world : {S O : Type 0} → stores.Ghosts S → sinks.Ghosts O → S → O → World
world stores sinks store out = record {
  tells = stores.tells store;
  files = stores.files store;
  failures = stores.failures store;
  shows = sinks.tells out;
  put = sinks.bytes out;
  faults = sinks.faults out;
}
