use Rattle.std.proofs.Common.{◌≡◌, ◌+◌, ◌++◌, drop}
use Rattle.ir_grammar.specs.Functions.{named, numbered}
use Rattle.ir_read.proofs.params.name_parameters.Given as goal

abbrev pub invariant-loop-typed : goal.invariant-loop-typed
invariant-loop-typed l = record {
  names : named 0 l.list ≡ l.named.items ++ named l.numbered (drop l.typed-index l.list);
  numbers : numbered l.list ≡ l.numbered + numbered (drop l.typed-index l.list);
}
