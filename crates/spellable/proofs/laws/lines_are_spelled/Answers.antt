use Rattle.spellable.proofs.Lines.{instr_spells}
use Rattle.spellable.proofs.Ends.{term_spells}
use Rattle.spellable.proofs.Functions.{block_spells}
use Rattle.spellable.proofs.laws.lines_are_spelled.Goals as goal

pub returns : goal.returns
returns c = record { instr = instr_spells; term = term_spells; block = block_spells }
