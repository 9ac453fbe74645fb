-- What a command of the code is asked for.
use Rattle.command_check.specs.CheckFiles as check
use Rattle.command_print.specs.PrintFiles as print
use Rattle.command_gen.specs.GenFiles as gen_files
use Rattle.command_lower.specs.LowerFiles as lower
use Rattle.command_run.specs.RunFiles as run
use Rattle.command_chain.specs.ChainFiles as chain
use Rattle.command_merge.specs.MergeFiles as merge
use Rattle.command_show.specs.ShowFiles as show
use Rattle.pgo_top.specs.Asked as asked
use Rattle.pgo_top.specs.declared.built.Built.{Built}
use Rattle.pgo_top.specs.declared.built.Built.TheVariants as built

abbrev pub asked_value : Built → asked.Asked
asked_value (built.Check c) = asked.AsksCheck (check.files_of c)
asked_value (built.Print c) = asked.AsksPrint (print.files_of c)
asked_value (built.Gen c) = asked.AsksGen (gen_files.files_of c)
asked_value (built.Lower c) = asked.AsksLower (lower.files_of c)
asked_value (built.Run c) = asked.AsksRun (run.files_of c)
asked_value (built.Chain c) = asked.AsksChain (chain.files_of c)
asked_value (built.Merge c) = asked.AsksMerge (merge.files_of c)
asked_value (built.Show c) = asked.AsksShow (show.files_of c)
