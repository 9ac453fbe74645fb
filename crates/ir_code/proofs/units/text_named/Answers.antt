use Rattle.std.proofs.Common.{Some, None, length, refl, sym, ap, ◌∙◌}
use Rattle.std.proofs.lemmas.Option.{slice_get_read}
use Rattle.ir_tree.specs.declared.types.Global1.{Global1}
use Rattle.ir_code.specs.Units.{text_of}
use Rattle.ir_code.specs.Named.{named_at}
use Rattle.ir_code.proofs.units.text_named.Goals as goal

pub returns-in-Some-get : goal.returns-in-Some-get
returns-in-Some-get c =
    let gs = c.args.globals.now in
    let there = slice_get_read gs (length gs) c.in-Some.place c.in-Some-get.global.now refl c.in-Some-get.ensures.lookup.3.0 c.in-Some-get.ensures.lookup.1 in
    let found = c.in-Some.ensures ∙ c.requires c.args.name.now in
    c.bytes_of.ensures
    ∙ sym (ap text_of (named_at (λ (g : Global1). g.name) gs c.args.name.now (Some c.in-Some.place) found ∙ there))

pub returns-in-None : goal.returns-in-None
returns-in-None c =
    let found = c.in-None.ensures ∙ c.requires c.args.name.now in
    sym (ap text_of (named_at (λ (g : Global1). g.name) c.args.globals.now c.args.name.now None found))
