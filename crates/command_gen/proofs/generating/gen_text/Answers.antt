-- A refusal by the kind is one of what is made of the program.
use Rattle.std.proofs.Common.{rules}
use Rattle.pgo_shell.specs.Judgement.{then}
use Rattle.pgo_shell.specs.Laws.{refused_first, refused_next}
use Rattle.pgo_shell.specs.Product.{RefusedBy}
use Rattle.command_gen.specs.Gen.{gen_judgement}
use Rattle.command_gen.specs.GenFiles.{files_of}
use Rattle.command_texts.specs.Program.{is_plain, program}
use Rattle.command_written.specs.Written.{writes}
use Rattle.gen_plan.specs.Gen.{counted}
use Rattle.command_gen.proofs.generating.gen_text.Goals as goal

pub returns-in_err-made-clause-refuses : goal.returns-in_err-made-clause-refuses
returns-in_err-made-clause-refuses c =
    let f = files_of c.args.command.now in
    let m = c.in_ok-module.«module» in
    let e = c.in_err-made.field-0.0 in
    let refused : RefusedBy (gen_judgement f c.args.text.now) e =
    refused_next (program f.«module» c.args.text.now) (λ x. then (is_plain f.«module» x) (λ u. writes (counted f.entry_first x))) m e c.in_ok-module.ensures.found
    (refused_first (is_plain f.«module» m) (λ u. writes (counted f.entry_first m)) e c.in_err-made.ensures.refuses) in
    search rules
