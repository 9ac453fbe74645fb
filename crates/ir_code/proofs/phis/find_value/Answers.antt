use Rattle.std.proofs.Common.{Some, None, length, sym, refl}
use Rattle.std.proofs.lemmas.List.{length-map}
use Rattle.std.proofs.lemmas.Option.{slice_get_read}
use Rattle.ir_code.proofs.Numbered.{past_end, value_found}
use Rattle.ir_code.proofs.phis.find_value.Goals as goal

pub returns-in-Some : goal.returns-in-Some
returns-in-Some c =
    value_found c.args.labels.now c.args.entries.now c.args.label.now c.bytes.result.now c.find.result (length c.args.entries.now) c.unwrap_or-place.result (Some c.in-Some.entry.now) c.requires c.bytes.ensures c.find.ensures (sym (length-map c.args.entries.now (λ e. e.1))) c.unwrap_or-place.ensures
    (sym (slice_get_read c.args.entries.now (length c.args.entries.now) c.unwrap_or-place.result c.in-Some.entry.now refl c.in-Some.ensures.lookup.3.0 c.in-Some.ensures.lookup.1))

pub returns-in-None : goal.returns-in-None
returns-in-None c =
    value_found c.args.labels.now c.args.entries.now c.args.label.now c.bytes.result.now c.find.result (length c.args.entries.now) c.unwrap_or-place.result None c.requires c.bytes.ensures c.find.ensures (sym (length-map c.args.entries.now (λ e. e.1))) c.unwrap_or-place.ensures
    (past_end c.args.entries.now c.unwrap_or-place.result c.in-None.ensures.lookup.3)
