-- What was counted is what the runs of the calls count.
use Rattle.std.proofs.Common.{◌≡◌, List, Some, None, sym, ap, ◌∙◌, subst}
use Rattle.std.specs.Option.{option_map}
use Rattle.std.specs.String.{string_bytes}
use Rattle.ir_tree.specs.Functions.{numbered}
use Rattle.ir_tree.specs.declared.types.Function.{Function}
use Rattle.ir_tree.specs.declared.types.Module.{Module}
use Rattle.pgo_shell.specs.Product.{bytes_of, bytes_of_all, made_of}
use Rattle.command_run.specs.Run.{RunMakes}
use Rattle.command_run.specs.Told.{first_told, told_from}
use Rattle.command_run.proofs.Makes.{finished_makes, halted_makes}
use Rattle.command_run.proofs.running.run_all.Goals as goal

pub returns-in-Some-clause-made : goal.returns-in-Some-clause-made
returns-in-Some-clause-made g c =
    let run = c.args.command.now in
    let ran = c.in_ok-ran.ran in
    let functions = c.in_ok-functions.functions in
    let same = c.in_ok-functions.ensures ∙ ap (λ (fs : List Function). numbered fs) (c.as_slice.ensures ∙ ap (λ (x : Module). x.functions) (c.module.ensures.value ∙ sym c.requires.code)) in
    let first = ap (option_map bytes_of) (sym c.in-Some.is) ∙ c.in_ok-halted.ensures.halts ∙ ap (λ rs. first_told 0 rs) c.as_slice-2.ensures.value in
    let told = c.in_ok-halted.ensures.shows ∙ ap (λ rs. told_from functions 0 c.args.calls.now rs) c.as_slice-2.ensures.value in
    subst (λ (x : Module). RunMakes run.places (option_map string_bytes run.profile) run.entry_first x run.steps c.args.calls.now
    (record { halted = Some c.in-Some.line.items; output = c.in_ok-halted.output.items; written = bytes_of_all c.new.result.items })) c.requires.code
    (halted_makes run.places (option_map string_bytes run.profile) run.entry_first c.args.code.now run.steps c.args.calls.now ran.results.items ran.counters.items ran.rows.items
    c.in_ok-ran.ensures.results c.in_ok-ran.ensures.counters c.in_ok-ran.ensures.rows functions c.in-Some.line.items c.in_ok-halted.output.items (bytes_of_all c.new.result.items) same first told)

pub returns-clause-made : goal.returns-clause-made
returns-clause-made g c =
    let run = c.args.command.now in
    let ran = c.in_ok-ran.ran in
    let functions = c.in_ok-functions.functions in
    let product = c.in_ok-product-in-None.product in
    let same = c.in_ok-functions.ensures ∙ ap (λ (fs : List Function). numbered fs) (c.as_slice.ensures ∙ ap (λ (x : Module). x.functions) (c.module.ensures.value ∙ sym c.requires.code)) in
    let first = ap (option_map bytes_of) (sym c.in-None.is) ∙ c.in_ok-halted.ensures.halts ∙ ap (λ rs. first_told 0 rs) c.as_slice-2.ensures.value in
    let told = c.in_ok-halted.ensures.shows ∙ ap (λ rs. told_from functions 0 c.args.calls.now rs) c.as_slice-2.ensures.value in
    subst (λ (x : Module). RunMakes run.places (option_map string_bytes run.profile) run.entry_first x run.steps c.args.calls.now (made_of product)) c.requires.code
    (finished_makes run.places (option_map string_bytes run.profile) run.entry_first c.args.code.now run.steps c.args.calls.now ran.results.items ran.counters.items ran.rows.items
    c.in_ok-ran.ensures.results c.in_ok-ran.ensures.counters c.in_ok-ran.ensures.rows functions (option_map bytes_of product.halted) c.in_ok-halted.output.items product.output.items (bytes_of_all product.files.items)
    same first told (ap (option_map bytes_of) c.in_ok-product-in-None.ensures.halted) c.in_ok-product-in-None.ensures.output c.in_ok-product-in-None.ensures.written)
