-- A plain program, calls on it, and what is made of them.
use Rattle.std.proofs.Common.{ℕ, List, ◌∙◌, ap, rules, subst}
use Rattle.pgo_shell.specs.Judgement.{making}
use Rattle.pgo_shell.specs.Laws.{refused_first, refused_next}
use Rattle.pgo_shell.specs.Product.{RefusedBy, made_of}
use Rattle.command_texts.specs.Calls.{calls_on}
use Rattle.command_texts.specs.Program.{is_plain, program}
use Rattle.command_run.specs.OnCalls.{calls_judgement, kind_judgement}
use Rattle.command_chain.specs.Chain.{ChainMakes, chain_agrees, chain_judgement}
use Rattle.command_chain.specs.ChainFiles.{files_of}
use Rattle.command_chain.proofs.chain.chain_texts.Goals as goal

pub returns-clause-gives : goal.returns-clause-gives
returns-clause-gives c =
    let m = c.in_ok-module.«module» in
    let makes = subst (λ calls. ChainMakes m c.args.command.now.steps calls (made_of c.in_ok-product.product)) c.as_slice.ensures.value c.in_ok-product.ensures.made in
    (m, c.in_ok-module.ensures.found, (tt, c.in_ok-code.ensures.found, (c.in_ok-calls.calls.items, c.in_ok-calls.ensures.found, makes)))

pub returns-in_err-calls-clause-refuses : goal.returns-in_err-calls-clause-refuses
returns-in_err-calls-clause-refuses c =
    let f = files_of c.args.command.now in
    let m = c.in_ok-module.«module» in
    let e = c.in_err-calls.field-0.0 in
    let refused : RefusedBy (chain_judgement f c.args.program_text.now c.args.calls_text.now) e =
    refused_next (program f.«module» c.args.program_text.now) (λ x. kind_judgement is_plain ChainMakes chain_agrees f x c.args.calls_text.now) m e c.in_ok-module.ensures.found
    (refused_next (is_plain f.«module» m) (λ u. calls_judgement is_plain ChainMakes chain_agrees f m c.args.calls_text.now) tt e c.in_ok-code.ensures.found
    (refused_first (calls_on f.calls m c.args.calls_text.now) (λ calls. making (ChainMakes m f.steps calls) (chain_agrees m f.steps calls)) e
    (subst (λ (file : List ℕ). RefusedBy (calls_on file m c.args.calls_text.now) e) c.deref-3.ensures c.in_err-calls.ensures.refuses))) in
    search rules
