use Rattle.std.proofs.Common.{◌∙◌, sym, ap}
use Rattle.prof_view.specs.Words.{numeral}
use Rattle.prof_view.proofs.TargetLemmas.{target_count, target_no_count, target_no_colon, target_begins}
use Rattle.prof_view.proofs.words.target.Goals as goal

pub returns-then-begins_colon : goal.returns-then-begins_colon
returns-then-begins_colon c = sym (target_begins c.args.line.now (sym c.begins_colon.ensures ∙ c.if-begins_colon.true))

pub returns-in-Some-decimal : goal.returns-in-Some-decimal
returns-in-Some-decimal c =
    sym (target_count c.args.line.now c.in-Some.colon c.in-Some-decimal.count (sym c.begins_colon.ensures ∙ c.if-begins_colon.false) c.in-Some.ensures.0 c.in-Some.ensures.1
    (ap (numeral 10) (sym c.behind.ensures) ∙ sym c.in-Some-decimal.ensures))

pub returns-in-None-decimal : goal.returns-in-None-decimal
returns-in-None-decimal c =
    sym (target_no_count c.args.line.now c.in-Some.colon (sym c.begins_colon.ensures ∙ c.if-begins_colon.false) c.in-Some.ensures.0 c.in-Some.ensures.1
    (ap (numeral 10) (sym c.behind.ensures) ∙ sym c.in-None-decimal.ensures))

pub returns-in-None : goal.returns-in-None
returns-in-None c = sym (target_no_colon c.args.line.now c.in-None.ensures)
