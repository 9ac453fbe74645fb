use Rattle.std.proofs.Common.{◌≡◌, ◌++◌, ℕ, List, length}
use Rattle.std.specs.Prelude.{map, zip}
use Rattle.std.specs.Global.{Vec}
use Rattle.std.specs.String.{string_bytes}
use Rattle.std.specs.Vec.Iter.{into_iter_items, into_iter_len}
use Rattle.pgo_shell.specs.Product.{bytes_of_all}
use Rattle.prof_merge.specs.Reading.{AreReadings}
use Rattle.command_profiles.specs.Each.{named_profile}
use Rattle.command_profiles.proofs.EachLemmas.{FindsBehind, RefusesBehind}
use Rattle.command_profiles.proofs.reading.collected.Given as goal

abbrev pub invariant-loop-answer : goal.invariant-loop-answer
invariant-loop-answer l = record {
  count : length l.inputs ≡ length l.yielded;
  len : into_iter_len l.answer-iterator ≡ length (into_iter_items l.answer-iterator);
  whole : l.yielded ++ into_iter_items l.answer-iterator ≡ l.fn.answers.items;
  finds : (texts : List (Vec ℕ)) → AreReadings texts l.fn.answers.items → FindsBehind named_profile (zip (map string_bytes l.names) (bytes_of_all texts)) (length l.yielded) l.inputs;
  refuses : (texts : List (Vec ℕ)) → AreReadings texts l.fn.answers.items → RefusesBehind named_profile (zip (map string_bytes l.names) (bytes_of_all texts)) (length l.yielded);
}
