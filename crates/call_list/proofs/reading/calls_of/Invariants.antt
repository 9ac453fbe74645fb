use Rattle.std.proofs.Common.{◌≡◌, ◌<◌, ◌≤◌, ◌+◌, length}
use Rattle.call_list.specs.Reading.{meanings}
use Rattle.call_list.specs.Walk.{found_in, found_none, walk}
use Rattle.call_list.proofs.reading.calls_of.Given as goal

abbrev pub invariant-lines : goal.invariant-lines
invariant-lines l = record {
  same : walk 1 found_none (meanings l.«module» l.fn.text) ≡ walk l.line (found_in l.calls) (meanings l.«module» l.rest);
  place : l.line + length l.rest ≤ length l.fn.text + 1;
  few : l.calls.count < l.line;
}

abbrev pub decreases-lines : goal.decreases-lines
decreases-lines l = length l.rest
