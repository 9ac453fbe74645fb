use Rattle.spellable.specs.Parts.{HasNode}
use Rattle.spellable.proofs.GivesLines.{instr_gives, terminator_gives}
use Rattle.spellable.proofs.GivesParts.{block_gives}
use Rattle.spellable.proofs.GivesModule.{own_table}
use Rattle.spellable.proofs.laws.spelled_lines.Goals as goal

pub returns : goal.returns
returns c = record {
  instr = λ nodes ts i rest all h. ((instr_gives nodes (HasNode nodes) (own_table nodes)).at ts i rest all h).0;
  term = λ nodes ts t rest all h. ((terminator_gives nodes (HasNode nodes) (own_table nodes)).at ts t rest all h).0;
  block = λ nodes ts b rest all h. ((block_gives nodes (HasNode nodes) (own_table nodes)).at ts b rest all h).0;
}
