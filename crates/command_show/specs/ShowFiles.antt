-- The words of a `show` of the code.
use Rattle.std.specs.String.{string_bytes}
use Rattle.command_show.specs.Show as spec
use Rattle.command_show.specs.declared.showing.Show.{Show}

abbrev pub files_of : Show → spec.ShowFiles
files_of show = record { input = string_bytes show.input }
