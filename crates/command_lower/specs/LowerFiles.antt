-- The words of a `lower` of the code.
use Rattle.std.specs.String.{string_bytes}
use Rattle.command_lower.specs.Lower as spec
use Rattle.command_lower.specs.declared.writing.Lower.{Lower}

abbrev pub files_of : Lower → spec.LowerFiles
files_of command = record { «module» = string_bytes command.«module»; out = string_bytes command.out }
