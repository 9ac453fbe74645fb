use Rattle.std.proofs.Common.{◌≡◌, ◌++◌, List, length, IfOk}
use Rattle.std.specs.List.{AllZip, flat_map}
use Rattle.std.specs.Vec.Iter.{into_iter_items, into_iter_len}
use Rattle.prof_view.specs.Profile.{ProfileInput}
use Rattle.prof_merge.specs.Parts.{GathersInputs}
use Rattle.prof_merge.proofs.merging.joined.Given as goal

abbrev pub invariant-loop-part : goal.invariant-loop-part
invariant-loop-part l =
    ((runs : List (List ProfileInput)) → AllZip (λ run part. IfOk part (GathersInputs run)) runs l.yielded → GathersInputs (flat_map (λ run. run) runs) l.whole)
    × (into_iter_len l.part-iterator ≡ length (into_iter_items l.part-iterator))
    × (l.yielded ++ into_iter_items l.part-iterator ≡ l.fn.parts.items)
