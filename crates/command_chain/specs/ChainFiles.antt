-- The words of a `chain` of the code.
use Rattle.std.specs.String.{string_bytes}
use Rattle.command_run.specs.OnCalls.{CallFiles}
use Rattle.command_chain.specs.declared.command.Chain.{Chain}

abbrev pub files_of : Chain → CallFiles
files_of chain = record { «module» = string_bytes chain.«module»; calls = string_bytes chain.calls; steps = chain.steps }
