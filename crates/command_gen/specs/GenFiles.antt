-- The words of a `gen` of the code.
use Rattle.std.specs.String.{string_bytes}
use Rattle.command_gen.specs.Gen as spec
use Rattle.command_gen.specs.declared.generating.Gen.{Gen}

abbrev pub files_of : Gen → spec.GenFiles
files_of command = record { «module» = string_bytes command.«module»; out = string_bytes command.out; entry_first = command.entry_first }
