use Rattle.std.proofs.Common.{sym, ◌∙◌}
use Rattle.instr_lower.proofs.Within.{nothing}
use Rattle.ir_rules.specs.Limits.{passed}
use Rattle.instr_lower.proofs.whole.checked.Goals as goal

pub of_accepted-requires : goal.of_accepted-requires
of_accepted-requires c = record {
  within = nothing (passed c.args.«module») (sym c.in-None.is ∙ c.passed-limit.ensures);
  formed = c.requires;
}
