use Rattle.std.proofs.Common.{◌≡◌, ◌≤◌, ◌∷◌, ◌+◌, ◌-◌, ◌∙◌, ℕ, sym, ap, take, drop, length, arith, length-drop}
use Rattle.std.proofs.lemmas.List.{take_all}
use Rattle.call_list.specs.Lines.{lines_of}
use Rattle.call_list.proofs.LineLemmas.{lines_of-cut, lines_of-none}
use Rattle.call_list.proofs.lines.first_line.Goals as goal

pub returns-in-Some-clause-lines : goal.returns-in-Some-clause-lines
returns-in-Some-clause-lines c =
    let text = c.args.text.now in
    let behind = drop (c.in-Some.end + 1) text in
    let room : length behind ≤ length text - (c.in-Some.end + 1) = omega (arith, length-drop (c.in-Some.end + 1) text) in
    lines_of-cut text c.in-Some.end c.in-Some.ensures.0 c.in-Some.ensures.1
    ∙ ap (λ more. take c.in-Some.end text ∷ lines_of more) (sym (take_all (length text - (c.in-Some.end + 1)) behind room))

pub returns-in-None-clause-lines : goal.returns-in-None-clause-lines
returns-in-None-clause-lines c = lines_of-none c.args.text.now c.in-None.ensures
