-- The words of a `check` of the code.
use Rattle.std.specs.String.{string_bytes}
use Rattle.command_check.specs.Check as spec
use Rattle.command_check.specs.declared.checking.Check.{Check}

abbrev pub files_of : Check → spec.CheckFiles
files_of check = record { «module» = string_bytes check.«module» }
