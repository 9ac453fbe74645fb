use Rattle.std.proofs.Common.{◌≡◌, ◌<◌, ◌+◌, ◌∷◌, [], length, Ok, Some, sym, ◌∙◌, ap, subst, arith, IfSome}
use Rattle.std.specs.Option.{option_map_or, option_copied}
use Rattle.call_list.specs.Lines.{lines_of}
use Rattle.call_list.specs.Reading.{meanings}
use Rattle.call_list.specs.Walk.{at_line, found_in, found_none, walk, WalkFails}
use Rattle.call_list.proofs.WalkLemmas.{walk-more, walk-last, walk_fails}
use Rattle.call_list.proofs.reading.calls_of.Goals as goal

pub returns-in-Err : goal.returns-in-Err
returns-in-Err c =
    let fails = walk_fails c.args.«module».now c.lines.line (found_in c.lines.calls) _ _ _ c.in-Err.error c.first_line.ensures.lines c.in-Err.ensures in
    let whole = walk 1 found_none (meanings c.args.«module».now c.args.text.now) in
    subst (λ e. WalkFails e whole) (sym c.at_line.ensures) (subst (WalkFails (at_line c.in-Err.error c.lines.line)) (sym c.lines.invariant.same) fails)

pub returns-in-None : goal.returns-in-None
returns-in-None c =
    let here = c.first_line.result.0.now in
    let lines = c.first_line.ensures.lines ∙ ap (λ o. here ∷ option_map_or lines_of (option_copied o) []) c.in-None.is in
    c.lines.invariant.same ∙ walk-last c.args.«module».now c.lines.line (found_in c.lines.calls) _ here c.in-Ok.call lines c.in-Ok.ensures ∙ ap Ok (sym c.in_ok-add-in-Ok.ensures.added)

pub lines-preserved : goal.lines-preserved
lines-preserved c =
    let here = c.first_line.result.0.now in
    let more = c.in-Some.more.now in
    let lines = c.first_line.ensures.lines ∙ ap (λ o. here ∷ option_map_or lines_of (option_copied o) []) c.in-Some.is in
    let less : length more < length c.lines.rest.now = subst (λ o. IfSome (option_copied o) (λ xs. length xs < length c.lines.rest.now)) c.in-Some.is c.first_line.ensures.less in
    record {
      same = c.lines.invariant.same ∙ walk-more c.args.«module».now c.lines.line (found_in c.lines.calls) _ here more c.in-Ok.call lines c.in-Ok.ensures
          ∙ ap (λ f. walk (c.lines.line + 1) f (meanings c.args.«module».now more)) (sym c.in_ok-add-in-Ok.ensures.added);
      place = omega (arith, c.lines.invariant.place);
      few = omega (arith, c.lines.invariant.few, c.add.ensures.count);
    }
