use Rattle.ir_model.proofs.Selects.{call_selects}
use Rattle.ir_model.proofs.laws.selects_are_seen.Goals as goal

pub returns : goal.returns
returns c m call n k l i at h = call_selects m call n k l i at h
