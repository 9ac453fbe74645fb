use Rattle.std.proofs.Common.{suc}
use Rattle.edge_split.proofs.Placed.{are_reordered, like_moved, marks_moved}
use Rattle.edge_split.proofs.Splits.{distinct_split, fits, like_split, marks_split, no_image, whole}
use Rattle.edge_split.specs.Split.{split, split_before, split_plan, with_function}
use Rattle.edge_split.proofs.laws.split_behaves.Goals as goal

pub returns-clause-alike : goal.returns-clause-alike
returns-clause-alike c m j a p new f formed at fresh =
    like_split m j a p new f formed at fresh c.blocks_stay.ensures (c.counting_behaves.ensures.alike (whole m j a p new f formed at fresh) no_image 2 0 m (fits m j a p new f formed at fresh))

pub returns-clause-marks : goal.returns-clause-marks
returns-clause-marks c m j a p new f formed at fresh =
    marks_split m j a p new f formed at fresh c.blocks_stay.ensures (c.counting_behaves.ensures.marks (whole m j a p new f formed at fresh) no_image 2 0 m (fits m j a p new f formed at fresh))

pub returns-clause-anywhere : goal.returns-clause-anywhere
returns-clause-anywhere c m j a p place new f formed at fresh =
    let reordered = are_reordered place a p new f (c.made_labels_are_distinct.ensures (split_plan a p new) f (distinct_split m j a p new f formed at fresh)) m j in
    like_moved m (with_function m j (split a p new f)) (with_function m j (split_before (suc place) a p new f)) 2 0
    (c.order_is_free.ensures.runs (with_function m j (split a p new f)) (with_function m j (split_before (suc place) a p new f)) reordered)
    (c.order_is_free.ensures.signatures (with_function m j (split a p new f)) (with_function m j (split_before (suc place) a p new f)) reordered)
    (like_split m j a p new f formed at fresh c.blocks_stay.ensures (c.counting_behaves.ensures.alike (whole m j a p new f formed at fresh) no_image 2 0 m (fits m j a p new f formed at fresh)))

pub returns-clause-marks_anywhere : goal.returns-clause-marks_anywhere
returns-clause-marks_anywhere c m j a p place new f formed at fresh =
    let reordered = are_reordered place a p new f (c.made_labels_are_distinct.ensures (split_plan a p new) f (distinct_split m j a p new f formed at fresh)) m j in
    marks_moved m (with_function m j (split a p new f)) (with_function m j (split_before (suc place) a p new f)) 2 0
    (c.order_is_free.ensures.runs (with_function m j (split a p new f)) (with_function m j (split_before (suc place) a p new f)) reordered)
    (marks_split m j a p new f formed at fresh c.blocks_stay.ensures (c.counting_behaves.ensures.marks (whole m j a p new f formed at fresh) no_image 2 0 m (fits m j a p new f formed at fresh)))
