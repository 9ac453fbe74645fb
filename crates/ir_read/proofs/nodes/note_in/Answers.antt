use Rattle.std.proofs.Common.{◌≡◌, ap, ◌∙◌, subst}
use Rattle.std.specs.Prelude.{IfOk}
use Rattle.std.specs.Option.{option_and_then}
use Rattle.ir_grammar.specs.Notes.{in_place}
use Rattle.ir_read.specs.Table.{known_at}
use Rattle.ir_read.proofs.Defining.{table_note}
use Rattle.ir_read.proofs.nodes.note_in.Goals as goal

pub returns-in-Some : goal.returns-in-Some
returns-in-Some c = λ nodes holds.
    subst (λ v. IfOk c.boxed_in_place.result (λ found. found ≡ v)) (ap (option_and_then (in_place c.args.kind)) c.in-Some.ensures ∙ table_note nodes c.args.kind c.args.number (known_at c.args.table.now c.args.number) (holds c.args.number)) c.boxed_in_place.ensures
