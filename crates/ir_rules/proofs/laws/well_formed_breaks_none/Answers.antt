use Rattle.ir_rules.proofs.Formed.{all_kept_by, by_name, from_names, well_formed}
use Rattle.ir_rules.proofs.PartsKept.{all_kept, none_broken}
use Rattle.ir_rules.proofs.laws.well_formed_breaks_none.Goals as goal

pub returns : goal.returns
returns c = λ m. (λ e. well_formed c.reached_are_marks.ensures m (by_name m (all_kept m e)), λ h. none_broken m (from_names m (all_kept_by c.reached_are_marks.ensures m h)))
