use Rattle.std.proofs.Common.{[]}
use Rattle.ir_grammar.specs.Notes.{nodes_of}
use Rattle.ir_grammar.specs.Grammar.{«module»}
use Rattle.ir_grammar.proofs.read_is_spelled.Goals as goal

pub returns : goal.returns
returns c = λ ts m. ((«module» (nodes_of ts)).sound ts m [], («module» (nodes_of ts)).complete ts m [])
