use Rattle.prof_view.proofs.AgreeLemmas.{text_spelled, text_read}
use Rattle.prof_view.proofs.laws.looking_ahead.Goals as goal

pub returns : goal.returns
returns c = λ text p. (text_spelled text p, text_read text p)
