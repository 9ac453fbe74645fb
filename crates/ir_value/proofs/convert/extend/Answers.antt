use Rattle.std.proofs.Common.{arith, ap, ◌∙◌, ℤ, to_z, of_z, w64}
use Rattle.std.proofs.lemmas.Int.{to_z-of_z}
use Rattle.ir_value.specs.Integer.{wrapped, signed_of, truncated}
use Rattle.ir_value.proofs.WordLemmas.{power_up, narrowed, signed_back, signed_fits}
use Rattle.ir_value.proofs.convert.extend.Goals as goal

pub returns-then-signed-clause-truncates_back : goal.returns-then-signed-clause-truncates_back
returns-then-signed-clause-truncates_back c =
    let a = c.args in
    let f = signed_fits a.from a.value c.requires.from.0 c.requires.from.1 c.requires.value in
    let r = c.wrap.ensures ∙ ap (λ (z : ℤ). wrapped a.to (to_z w64 (of_z w64 z))) c.signed.ensures
    ∙ ap (wrapped a.to) (to_z-of_z w64 (signed_of a.from a.value) f) in
    ap (truncated a.from) r ∙ narrowed a.to a.from (signed_of a.from a.value) c.requires.wider
    ∙ signed_back a.from a.value c.requires.value

pub returns-else-signed-clause-fits : goal.returns-else-signed-clause-fits
returns-else-signed-clause-fits c = let p = power_up c.args.from c.args.to c.requires.wider in omega arith
