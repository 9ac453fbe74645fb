use Rattle.std.proofs.Common.{sym, ◌∙◌}
use Rattle.std.specs.Cmp.Lexicographic.{same_text}
use Rattle.cfg_edges.proofs.labels.are_same.Goals as goal

pub returns : goal.returns
returns c = λ h. sym c.bytes.ensures ∙ same_text c.bytes.result.now c.bytes-2.result.now (sym h ∙ c.eq.ensures) ∙ c.bytes-2.ensures
