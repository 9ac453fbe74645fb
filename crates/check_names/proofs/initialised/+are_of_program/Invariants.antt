use Rattle.std.proofs.Common.{◌≡◌, true, take}
use Rattle.std.specs.List.{list_all}
use Rattle.ir_rules.specs.Initialisers.{names_in}
use Rattle.ir_rules.specs.Scopes.{is_program_symbol}
use Rattle.check_names.proofs.initialised.+are_of_program.Given as goal

abbrev pub invariant-loop-item : goal.invariant-loop-item
invariant-loop-item l = list_all (λ i. list_all (is_program_symbol l.module) (names_in i)) (take l.item-index l.items) ≡ true
