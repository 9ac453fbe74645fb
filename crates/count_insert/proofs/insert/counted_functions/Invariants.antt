use Rattle.std.proofs.Common.{◌≡◌, ◌++◌, ◌∷◌, [], ◌+◌, ◌<◌, ◌^◌, length}
use Rattle.count_plan.specs.Counted.{counted_function, counted_functions, function_plan}
use Rattle.spec_lists.specs.Each.{each}
use Rattle.std.specs.Vec.Iter.{into_iter_items, into_iter_len}
use Rattle.count_insert.proofs.insert.counted_functions.Given as goal

abbrev pub invariant-loop-function : goal.invariant-loop-function
invariant-loop-function l =
    (l.made.items ++ each (λ j f. counted_function (function_plan l.plans j) f ∷ []) l.j (into_iter_items l.function-iterator) ≡ counted_functions l.plans l.fn.functions.items)
    × (into_iter_len l.function-iterator ≡ length (into_iter_items l.function-iterator))
    × (l.j + into_iter_len l.function-iterator < 2 ^ 64)
