use Rattle.std.proofs.Common.{◌<◌, ◌∙◌, length, false, ap, sym, subst}
use Rattle.std.proofs.lemmas.List.{length-replicate}
use Rattle.cfg_tree.proofs.counted.marks_of.Goals as goal

pub mark_all-requires-clause-order : goal.mark_all-requires-clause-order
mark_all-requires-clause-order c k a = subst (λ n. k < n) (sym (ap (λ marks. length marks) (c.as_mut_slice.ensures.value ∙ c.in_ok-marks.ensures) ∙ length-replicate c.args.count false)) (c.requires k a)
