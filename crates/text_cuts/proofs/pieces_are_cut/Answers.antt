use Rattle.text_cuts.proofs.Cuts.{cut_pieces}
use Rattle.text_cuts.proofs.pieces_are_cut.Goals as goal

pub returns : goal.returns
returns c = cut_pieces
