use Rattle.std.proofs.Common.{List, ℕ, Some, sym, ap, ◌∙◌, arith}
use Rattle.prof_view.specs.Lines.{content}
use Rattle.prof_view.proofs.PlainLemmas.{front_number}
use Rattle.prof_view.proofs.plain.plain_number.Goals as goal

pub returns-then-text-end-eq10 : goal.returns-then-text-end-eq10
returns-then-text-end-eq10 c =
    let (end, value) = c.read_digits-end.result in
    front_number c.args.text.now end value c.read_digits-end.ensures.end c.read_digits-end.ensures.value (omega arith) (omega arith) (omega arith) c.if-text-end-eq10.true
    ∙ ap (λ (t : List ℕ). Some (value, content t)) (sym c.behind.ensures)
