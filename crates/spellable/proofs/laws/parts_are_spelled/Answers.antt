use Rattle.spellable.proofs.Nodes.{note_spells, note_writes, node_spells, node_fine, node_found}
use Rattle.spellable.proofs.Parts.{function_spells, function_writes, function_quiet, variable_part_spells, variable_writes, variable_quiet}
use Rattle.spellable.proofs.laws.parts_are_spelled.Goals as goal

pub returns : goal.returns
returns c = record {
  function = function_spells;
  function_writes = function_writes;
  function_quiet = function_quiet;
  variable = variable_part_spells;
  variable_writes = variable_writes;
  variable_quiet = variable_quiet;
  note = note_spells;
  note_writes = note_writes;
  node = node_spells;
  node_writes = node_fine;
  node_found = node_found;
}
