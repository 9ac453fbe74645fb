use Rattle.std.proofs.Common.{◌<◌, ℕ, List, Some, length, take, sym, ap, ◌∙◌, arith}
use Rattle.std.proofs.lemmas.List.Elements.{All-more}
use Rattle.prof_view.specs.Lines.{content}
use Rattle.prof_view.proofs.PlainLemmas.{IsVisible, front_name}
use Rattle.prof_view.proofs.plain.plain_name.Goals as goal

pub returns-then-end-gt0 : goal.returns-then-end-gt0
returns-then-end-gt0 c =
    let text = c.args.text.now in
    let end = c.loop-end.end in
    front_name text end (omega arith) c.if-byte-eq10.true (omega arith) c.if-not-begins_name.ensures c.loop-end.invariant
    ∙ ap (λ (t : List ℕ). Some (take end text, content t)) (sym c.behind.ensures)

pub loop-end-preserved : goal.loop-end-preserved
loop-end-preserved c =
    let text = c.args.text.now in
    let within : c.loop-end.end < length text = omega arith in
    All-more IsVisible text c.loop-end.end 0 within c.loop-end.invariant (record { low = c.if-not-is_visible.ensures.0; high = c.if-not-is_visible.ensures.1 })
