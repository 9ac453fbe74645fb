use Rattle.std.proofs.Common.{◌^◌, ◌<◌, sym, subst}
use Rattle.std.specs.Option.{SomeIff}
use Rattle.std.specs.Str.Parse.{digits_value, ParsesUnsigned}
use Rattle.call_list.proofs.DigitLemmas.{IsUtf8-number, parses_number}
use Rattle.call_list.proofs.values.magnitude.Goals as goal

pub returns-in-Ok : goal.returns-in-Ok
returns-in-Ok c =
    let digits = c.args.digits.now in
    let parsed = subst (λ text. ParsesUnsigned 64 10 text c.parse.result) c.in-Ok.ensures.cases.0 c.parse.ensures.value.0 in
    subst (λ o. SomeIff o (digits_value 10 digits < 2 ^ 64) (digits_value 10 digits)) (sym c.ok.ensures.value) (parses_number digits c.parse.result c.requires parsed)

pub returns-in-Err : goal.returns-in-Err
returns-in-Err c = absurd (c.in-Err.ensures.cases.0 (IsUtf8-number c.args.digits.now c.requires))
