-- The texts at their places are those that the code reads.
use Rattle.std.proofs.Common.{◌≡◌, ℕ, List, length, sym, ◌∙◌, subst, arith}
use Rattle.std.specs.Prelude.{IfErr}
use Rattle.pgo_shell.specs.Product.{RefusedBy, bytes_of_all}
use Rattle.command_lines.specs.TextAt.{text_at, text_is}
use Rattle.command_chain.specs.Chain.{chain_judgement}
use Rattle.command_chain.specs.ChainFiles.{files_of}
use Rattle.command_chain.proofs.chain.ChainCommand.product.Goals as goal

pub returns-clause-refuses : goal.returns-clause-refuses
returns-clause-refuses g c =
    let f = files_of c.args.self.now in
    let two : length c.args.texts.now ≡ 2 = c.requires.texts in
    let first : text_at (bytes_of_all c.args.texts.now) 0 ≡ c.deref.result.now =
    text_is c.args.texts.now 0 c.index-texts-0.result (omega (arith, two)) c.index-texts-0.is ∙ sym c.deref.ensures.value in
    let second : text_at (bytes_of_all c.args.texts.now) 1 ≡ c.deref-2.result.now =
    text_is c.args.texts.now 1 c.index-texts-1.result (omega (arith, two)) c.index-texts-1.is ∙ sym c.deref-2.ensures.value in
    subst (λ (t : List ℕ). IfErr c.chain_texts.result (RefusedBy (chain_judgement f t (text_at (bytes_of_all c.args.texts.now) 1)))) (sym first)
    (subst (λ (t : List ℕ). IfErr c.chain_texts.result (RefusedBy (chain_judgement f c.deref.result.now t))) (sym second) c.chain_texts.ensures.refuses)
