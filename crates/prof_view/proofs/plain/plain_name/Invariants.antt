use Rattle.std.proofs.Common.{take}
use Rattle.std.specs.List.{All}
use Rattle.prof_view.proofs.PlainLemmas.{IsVisible}
use Rattle.prof_view.proofs.plain.plain_name.Given as goal

-- the bytes so far are seen
abbrev pub invariant-loop-end : goal.invariant-loop-end
invariant-loop-end l = All IsVisible (take l.end l.text)
