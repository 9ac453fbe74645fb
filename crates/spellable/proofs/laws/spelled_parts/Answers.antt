use Rattle.std.proofs.Common.{[]}
use Rattle.ir_grammar.specs.Notes.{nodes_of}
use Rattle.spellable.specs.Instructions.{IsNote}
use Rattle.spellable.specs.Parts.{HasNode}
use Rattle.spellable.proofs.GivesModule.{table_is, module_gives, own_table}
use Rattle.spellable.proofs.laws.spelled_parts.Goals as goal

pub returns : goal.returns
returns c = record {
  variables = λ ts m all h. ((module_gives (nodes_of ts) IsNote (table_is ts all)).at ts m [] all h).0.0;
  functions = λ ts m all h. ((module_gives (nodes_of ts) IsNote (table_is ts all)).at ts m [] all h).0.1;
  nodes = λ ts m all h. ((module_gives (nodes_of ts) (HasNode (nodes_of ts)) (own_table (nodes_of ts))).at ts m [] all h).0.1;
}
