use Rattle.few_marks.proofs.Marks.{marks_few}
use Rattle.few_marks.proofs.laws.marks_are_few.Goals as goal

pub returns : goal.returns
returns c m call n = marks_few m call n
