use Rattle.std.proofs.Common.{◌<◌, ◌≤◌, length, not, ap, ◌∙◌, arith}
use Rattle.check_names.proofs.Found.{of_function, of_none, of_variable}
use Rattle.ir_rules.specs.Kinds.{is_profile_variable}
use Rattle.ir_rules.specs.declared.place.Kind.{Kind}
use Rattle.check_names.proofs.initialised.is_of_program.Goals as goal

pub returns-then-place-len : goal.returns-then-place-len
returns-then-place-len c =
    let m = c.args.module.now in
    let name = c.args.name.now in
    let within : c.in-Some.place < length m.globals = omega arith in
    ap not (c.is_profile_variable.ensures ∙ ap (λ (k : Kind). is_profile_variable k name) c.requires.of_kind)
    ∙ of_variable m name (c.requires.once name) c.in-Some.place (c.in-Some.ensures ∙ c.requires.indexed name) within

pub returns-else-place-len : goal.returns-else-place-len
returns-else-place-len c =
    let m = c.args.module.now in
    let name = c.args.name.now in
    let past : length m.globals ≤ c.in-Some.place = omega arith in
    ap not c.is_profile_name.ensures ∙ of_function m name (c.requires.once name) c.in-Some.place (c.in-Some.ensures ∙ c.requires.indexed name) past

pub returns-in-None : goal.returns-in-None
returns-in-None c = of_none c.args.module.now c.args.name.now (c.in-None.ensures ∙ c.requires.indexed c.args.name.now)
