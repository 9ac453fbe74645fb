use Rattle.std.proofs.Common.{◌≡◌, [], Some, sym, ◌∙◌}
use Rattle.ir_check.proofs.Groups.{in_faults, in_names, no_faults, nothing}
use Rattle.ir_rules.specs.Limits.{passed}
use Rattle.rule_groups.specs.Groups.{broken_from, name_rules}
use Rattle.ir_check.proofs.accept.judge.Goals as goal

pub first_of_names-requires : goal.first_of_names-requires
first_of_names-requires c = record { within = nothing (passed c.args.«module».now) (sym c.in-None.is ∙ c.passed-limit.ensures) }

pub first_in_functions-requires-clause-within : goal.first_in_functions-requires-clause-within
first_in_functions-requires-clause-within c = nothing (passed c.args.«module».now) (sym c.in-None.is ∙ c.passed-limit.ensures)

pub first_in_functions-requires-clause-named : goal.first_in_functions-requires-clause-named
first_in_functions-requires-clause-named c = nothing (broken_from c.args.«module».now 1 (name_rules c.args.«module».now)) (sym c.in-None-named.is ∙ c.in_ok-symbols.ensures.found)

pub returns-in-Some-named-clause-refused : goal.returns-in-Some-named-clause-refused
returns-in-Some-named-clause-refused c = (
  nothing (passed c.args.«module».now) (sym c.in-None.is ∙ c.passed-limit.ensures),
  in_names c.args.«module».now (c.in-Some-named.rule, c.in-Some-named.place) (sym c.in-Some-named.is ∙ c.in_ok-symbols.ensures.found),
)

pub returns-in-Some-fault-clause-refused : goal.returns-in-Some-fault-clause-refused
returns-in-Some-fault-clause-refused c =
    let m = c.args.«module».now in
    let named : broken_from m 1 (name_rules m) ≡ [] = nothing (broken_from m 1 (name_rules m)) (sym c.in-None-named.is ∙ c.in_ok-symbols.ensures.found) in (
      nothing (passed m) (sym c.in-None.is ∙ c.passed-limit.ensures),
      in_faults m named (Some (c.in-Some-fault.rule, c.in-Some-fault.place)) (sym c.in-Some-fault.is ∙ c.in_ok-fault.ensures),
    )

pub returns-in-None-fault-clause-accepted : goal.returns-in-None-fault-clause-accepted
returns-in-None-fault-clause-accepted c =
    let m = c.args.«module».now in
    let named : broken_from m 1 (name_rules m) ≡ [] = nothing (broken_from m 1 (name_rules m)) (sym c.in-None-named.is ∙ c.in_ok-symbols.ensures.found) in
    record {
      within = nothing (passed m) (sym c.in-None.is ∙ c.passed-limit.ensures);
      formed = (c.well_formed_breaks_none.ensures m).0 (no_faults m named (sym c.in-None-fault.is ∙ c.in_ok-fault.ensures));
    }
