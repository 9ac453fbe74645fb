use Rattle.ir_lex.proofs.Cuts.{lexes_tokens, lexes_whole, whole_lexes}
use Rattle.ir_lex.proofs.laws.cut_is_spelled.Goals as goal

pub returns : goal.returns
returns c = record {
  cut = λ text ts l. lexes_tokens ts text l;
  whole = λ text ts l. lexes_whole ts text l;
  spelled = whole_lexes;
}
