use Rattle.std.proofs.Common.{ℕ, ◌+◌, sym, ap, ◌∙◌}
use Rattle.std.proofs.lemmas.List.{length_push}
use Rattle.check_names.proofs.Names.{fresh_new}
use Rattle.check_names.proofs.seen.Seen.add.Goals as goal

pub returns-clause-added : goal.returns-clause-added
returns-clause-added c = λ names has. record {
  indexed = c.in_ok-fresh.ensures.added names has.indexed has.counted;
  counted = ap (λ (n : ℕ). n + 1) has.counted ∙ sym (length_push names c.args.name.now);
}

pub returns-clause-fresh : goal.returns-clause-fresh
returns-clause-fresh c = λ names has. fresh_new c.args.self.now.index names c.args.name.now c.in_ok-fresh.fresh has.indexed c.in_ok-fresh.ensures.fresh
