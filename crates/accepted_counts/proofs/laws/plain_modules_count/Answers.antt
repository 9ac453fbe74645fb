use Rattle.accepted_counts.proofs.laws.plain_modules_count.Goals as goal

pub returns-clause-alike : goal.returns-clause-alike
returns-clause-alike c entry_first m accepted plain = c.gen_counts.ensures.alike entry_first m (c.plain_can_be_counted.ensures m accepted plain)

pub returns-clause-marks : goal.returns-clause-marks
returns-clause-marks c entry_first m accepted plain = c.gen_counts.ensures.marks entry_first m (c.plain_can_be_counted.ensures m accepted plain)
