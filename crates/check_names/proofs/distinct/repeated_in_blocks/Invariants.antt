use Rattle.std.proofs.Common.{◌≡◌, drop}
use Rattle.check_names.specs.Seen.{HasSeen}
use Rattle.ir_rules.specs.Distinct.{distinct, names_before}
use Rattle.ir_rules.specs.Parts.{block_places}
use Rattle.spec_lists.specs.Each.{each, first_of}
use Rattle.check_names.proofs.distinct.repeated_in_blocks.Given as goal

abbrev pub invariant-loop-b : goal.invariant-loop-b
invariant-loop-b l = HasSeen l.seen (names_before l.f l.b) × (first_of (each (block_places distinct l.k l.f) l.b (drop l.b l.f.blocks)) ≡ first_of (each (block_places distinct l.k l.f) 0 l.f.blocks))
