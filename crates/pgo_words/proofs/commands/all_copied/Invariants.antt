-- The files so far are copied.
use Rattle.std.proofs.Common.{◌≡◌, take}
use Rattle.pgo_words.specs.Plan.{words_of}
use Rattle.pgo_words.specs.Values.{texts_of}
use Rattle.pgo_words.proofs.commands.all_copied.Given as goal

abbrev pub invariant-loop-file : goal.invariant-loop-file
invariant-loop-file l = words_of l.copies.items ≡ texts_of (take l.file-index l.files)
