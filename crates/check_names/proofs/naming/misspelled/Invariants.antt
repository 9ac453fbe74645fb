use Rattle.std.proofs.Common.{◌≡◌, drop}
use Rattle.check_names.specs.Outer.{misspelled, misspelled_block}
use Rattle.spec_lists.specs.Each.{each, first_of}
use Rattle.check_names.proofs.naming.misspelled.Given as goal

abbrev pub invariant-loop-b : goal.invariant-loop-b
invariant-loop-b l = first_of (each (misspelled_block l.k) l.b (drop l.b l.blocks)) ≡ first_of (misspelled l.k l.blocks)
