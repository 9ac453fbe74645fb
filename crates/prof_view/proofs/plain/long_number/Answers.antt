use Rattle.std.proofs.Common.{◌≡◌, ◌<◌, ◌∷◌, ◌++◌, ◌+◌, [], ℕ, List, Some, length, take, get_or, sym, ap, ◌∙◌, arith}
use Rattle.std.proofs.lemmas.List.{take_more}
use Rattle.std.proofs.lemmas.List.Elements.{All-more}
use Rattle.prof_view.specs.Digits.{read_digits, with_digit}
use Rattle.prof_view.specs.Lines.{content}
use Rattle.prof_view.proofs.PlainLemmas.{IsDigit, long_read, read_push}
use Rattle.prof_view.proofs.plain.long_number.Goals as goal

pub returns-then-end-gt0 : goal.returns-then-end-gt0
returns-then-end-gt0 c =
    let text = c.args.text.now in
    long_read text c.loop-end.end c.loop-end.value (omega arith) c.if-byte-eq10.true (omega arith) c.loop-end.invariant.digits c.loop-end.invariant.value
    ∙ ap (λ (t : List ℕ). Some (c.loop-end.value, content t)) (sym c.behind.ensures)

pub loop-end-preserved : goal.loop-end-preserved
loop-end-preserved c =
    let text = c.args.text.now in
    let end = c.loop-end.end in
    let byte : ℕ = get_or text end 0 in
    let within : end < length text = omega arith in
    let more : take (end + 1) text ≡ take end text ++ byte ∷ [] = take_more text end 0 within in
    let step : with_digit 10 c.loop-end.value byte ≡ Some c.in_ok-value.value = sym c.with_decimal_digit.ensures ∙ c.in_ok-value.was in
    record {
      value = ap (λ (ds : List ℕ). read_digits 10 0 ds) more ∙ read_push 0 (take end text) byte c.loop-end.value c.in_ok-value.value c.loop-end.invariant.value step;
      digits = All-more IsDigit text end 0 within c.loop-end.invariant.digits (record { low = omega (arith, c.if-not-is_ascii_digit.ensures.cases); high = omega (arith, c.if-not-is_ascii_digit.ensures.cases) });
    }
