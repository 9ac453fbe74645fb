-- The words of a `run` of the code.
use Rattle.std.specs.Option.{option_map}
use Rattle.std.specs.String.{string_bytes}
use Rattle.command_run.specs.Run as spec
use Rattle.command_run.specs.declared.run.Run.{Run}

abbrev pub files_of : Run → spec.RunFiles
files_of run = record {
  «module» = string_bytes run.«module»;
  calls = string_bytes run.calls;
  steps = run.steps;
  places = run.places;
  profile = option_map string_bytes run.profile;
  entry_first = run.entry_first;
}
