use Rattle.std.proofs.Common.{[]}
use Rattle.ir_grammar.specs.Rules.{spelled_once}
use Rattle.prof_view.specs.Lines.{content}
use Rattle.prof_view.specs.Grammar.{profile_ahead}
use Rattle.prof_view.proofs.AgreeLemmas.{spelled_read}
use Rattle.prof_view.proofs.laws.one_profile.Goals as goal

pub returns : goal.returns
returns c = λ text p q h k. (spelled_once profile_ahead (content text) p q [] [] (spelled_read (content text) p h) (spelled_read (content text) q k)).0
