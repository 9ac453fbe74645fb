use Rattle.count_likeness.proofs.Law.{counting_is_like, marks_are}
use Rattle.count_likeness.proofs.laws.counting_behaves.Goals as goal

pub returns-clause-alike : goal.returns-clause-alike
returns-clause-alike c plan image most late m fit = counting_is_like (record { plan = plan; image = image; most = most; late = late; m = m; fit = fit })

pub returns-clause-marks : goal.returns-clause-marks
returns-clause-marks c plan image most late m fit = marks_are (record { plan = plan; image = image; most = most; late = late; m = m; fit = fit })
