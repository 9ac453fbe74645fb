-- A refusal of the lowering is one of what is made of the program.
use Rattle.std.proofs.Common.{List, ℕ, rules, subst}
use Rattle.pgo_shell.specs.Judgement.{then}
use Rattle.pgo_shell.specs.Laws.{refused_first, refused_next}
use Rattle.pgo_shell.specs.Product.{RefusedBy}
use Rattle.command_lower.specs.Lower.{lower_judgement, lowered_from}
use Rattle.command_lower.specs.LowerFiles.{files_of}
use Rattle.command_texts.specs.Program.{program}
use Rattle.command_written.specs.Written.{writes}
use Rattle.command_lower.proofs.writing.lower_text.Goals as goal

pub returns-in_err-made-clause-refuses : goal.returns-in_err-made-clause-refuses
returns-in_err-made-clause-refuses c =
    let f = files_of c.args.command.now in
    let m = c.in_ok-module.«module» in
    let e = c.in_err-made.field-0.0 in
    let refused : RefusedBy (lower_judgement f c.args.text.now) e =
    refused_next (program f.«module» c.args.text.now) (λ x. then (lowered_from f.«module» x) writes) m e c.in_ok-module.ensures.found
    (refused_first (lowered_from f.«module» m) writes e
    (subst (λ (file : List ℕ). RefusedBy (lowered_from file m) e) c.deref-2.ensures c.in_err-made.ensures.refuses)) in
    search rules
