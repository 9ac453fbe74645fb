-- The text at its place is the one that the code reads.
use Rattle.std.proofs.Common.{◌≡◌, ℕ, List, length, sym, ◌∙◌, subst, arith}
use Rattle.std.specs.Prelude.{IfErr}
use Rattle.pgo_shell.specs.Product.{RefusedBy, bytes_of_all}
use Rattle.command_lines.specs.TextAt.{text_at, text_is}
use Rattle.command_lower.specs.Lower.{lower_judgement}
use Rattle.command_lower.specs.LowerFiles.{files_of}
use Rattle.command_lower.proofs.writing.LowerCommand.product.Goals as goal

pub returns-clause-refuses : goal.returns-clause-refuses
returns-clause-refuses g c =
    let one : length c.args.texts.now ≡ 1 = c.requires.texts in
    let first : text_at (bytes_of_all c.args.texts.now) 0 ≡ c.deref.result.now =
    text_is c.args.texts.now 0 c.index-texts-0.result (omega (arith, one)) c.index-texts-0.is ∙ sym c.deref.ensures.value in
    subst (λ (t : List ℕ). IfErr c.lower_text.result (RefusedBy (lower_judgement (files_of c.args.self.now) t))) (sym first) c.lower_text.ensures.refuses
