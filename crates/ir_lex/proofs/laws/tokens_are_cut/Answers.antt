use Rattle.std.specs.Prelude.{[], ◌∷◌}
use Rattle.ir_lex.specs.Spelling.{ends}
use Rattle.ir_lex.proofs.Cuts.{cut_longest, cut_none, tokens-le}
use Rattle.ir_lex.proofs.laws.tokens_are_cut.Goals as goal

pub returns : goal.returns
returns c = record {
  first = λ text kind n l. cut_longest (λ _. []) (λ t ts. t ∷ ts) text kind n l;
  first_whole = λ text kind n l. cut_longest ends (λ _ whole. whole) text kind n l;
  none = λ text l. cut_none (λ _. []) (λ t ts. t ∷ ts) text l;
  none_whole = λ text l. cut_none ends (λ _ whole. whole) text l;
  few = tokens-le;
}
