-- A program of a kind that it takes, calls on it, and what is made of them.
use Rattle.std.proofs.Common.{ℕ, List, rules, subst}
use Rattle.pgo_shell.specs.Judgement.{making}
use Rattle.pgo_shell.specs.Laws.{refused_first, refused_next}
use Rattle.pgo_shell.specs.Product.{RefusedBy}
use Rattle.command_texts.specs.Calls.{calls_on}
use Rattle.command_texts.specs.Program.{program}
use Rattle.command_run.specs.OnCalls.{calls_judgement, kind_judgement}
use Rattle.command_run.specs.Run.{RunMakes, call_files, run_agrees, run_judgement, takes_for}
use Rattle.command_run.specs.RunFiles.{files_of}
use Rattle.command_run.proofs.running.run_texts.Goals as goal

pub returns-in_err-calls-clause-refuses : goal.returns-in_err-calls-clause-refuses
returns-in_err-calls-clause-refuses g c =
    let f = files_of c.args.command.now in
    let m = c.in_ok-module.«module» in
    let e = c.in_err-calls.field-0.0 in
    let refused : RefusedBy (run_judgement f c.args.program_text.now c.args.calls_text.now) e =
    refused_next (program f.«module» c.args.program_text.now)
    (λ x. kind_judgement (takes_for f.profile) (RunMakes f.places f.profile f.entry_first) (run_agrees f.places f.profile f.entry_first) (call_files f) x c.args.calls_text.now) m e c.in_ok-module.ensures.found
    (refused_next (takes_for f.profile f.«module» m)
    (λ u. calls_judgement (takes_for f.profile) (RunMakes f.places f.profile f.entry_first) (run_agrees f.places f.profile f.entry_first) (call_files f) m c.args.calls_text.now) tt e c.in_ok-code.ensures.found
    (refused_first (calls_on f.calls m c.args.calls_text.now)
    (λ calls. making (RunMakes f.places f.profile f.entry_first m f.steps calls) (run_agrees f.places f.profile f.entry_first m f.steps calls)) e
    (subst (λ (file : List ℕ). RefusedBy (calls_on file m c.args.calls_text.now) e) c.deref-2.ensures c.in_err-calls.ensures.refuses))) in
    search rules
