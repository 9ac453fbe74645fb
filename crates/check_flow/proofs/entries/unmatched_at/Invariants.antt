use Rattle.std.proofs.Common.{◌≡◌, drop}
use Rattle.check_flow.specs.Phis.{unmatched_places}
use Rattle.ir_rules.specs.Parts.{place, unless}
use Rattle.ir_rules.specs.PhiEntries.{are_matched_if_any}
use Rattle.ir_tree.specs.Phis.{entries_of}
use Rattle.spec_lists.specs.Each.{each, first_of}
use Rattle.check_flow.proofs.entries.unmatched_at.Given as goal

abbrev pub invariant-loop-i : goal.invariant-loop-i
invariant-loop-i l = first_of (each (λ i x. unless (are_matched_if_any l.f.blocks l.block.label (entries_of x)) (place l.k l.b i)) l.i (drop l.i l.block.instrs)) ≡ first_of (unmatched_places l.f.blocks l.k l.b l.block)
