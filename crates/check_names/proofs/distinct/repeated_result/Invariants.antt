use Rattle.std.proofs.Common.{◌≡◌, drop}
use Rattle.check_names.specs.Seen.{HasSeen}
use Rattle.check_names.specs.Outer.{repeated_items}
use Rattle.ir_rules.specs.Distinct.{names_before_item}
use Rattle.spec_lists.specs.Each.{first_of}
use Rattle.check_names.proofs.distinct.repeated_result.Given as goal

abbrev pub invariant-loop-i : goal.invariant-loop-i
invariant-loop-i l = HasSeen l.seen (names_before_item l.f l.b l.block l.i) × (first_of (repeated_items l.k l.f l.b l.block l.i (drop l.i l.block.instrs)) ≡ first_of (repeated_items l.k l.f l.b l.block 0 l.block.instrs))
