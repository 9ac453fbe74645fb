use Rattle.std.proofs.Common.{[]}
use Rattle.ir_grammar.specs.Rules.{spelled_once}
use Rattle.ir_grammar.specs.Notes.{nodes_of}
use Rattle.ir_grammar.specs.Grammar.{«module»}
use Rattle.ir_grammar.proofs.one_module.Goals as goal

pub returns : goal.returns
returns c = λ ts m n h k. (spelled_once («module» (nodes_of ts)) ts m n [] [] h k).0
