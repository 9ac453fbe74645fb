-- The words of a `merge` of the code.
use Rattle.std.specs.Prelude.{map}
use Rattle.std.specs.String.{string_bytes}
use Rattle.command_merge.specs.Merge as spec
use Rattle.command_merge.specs.declared.merging.Merge.{Merge}

abbrev pub files_of : Merge → spec.MergeFiles
files_of merge = record { out = string_bytes merge.out; inputs = map string_bytes merge.inputs.items }
