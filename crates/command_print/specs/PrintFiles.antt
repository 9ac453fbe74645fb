-- The words of a `print` of the code.
use Rattle.std.specs.String.{string_bytes}
use Rattle.command_print.specs.Print as spec
use Rattle.command_print.specs.declared.printing.Print.{Print}

abbrev pub files_of : Print → spec.PrintFiles
files_of command = record { «module» = string_bytes command.«module» }
