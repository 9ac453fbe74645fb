use Rattle.std.proofs.Common.{◌≡◌, ℕ, Option, Some, ap, ◌∙◌}
use Rattle.check_names.proofs.UnitParts.{data_well}
use Rattle.check_names.specs.Told.{told}
use Rattle.ir_rules.specs.Kinds.{unit_of}
use Rattle.ir_rules.specs.Units.{data_of}
use Rattle.check_names.proofs.units.holds_data_well.Goals as goal

pub returns-in_ok-counted-in-Some : goal.returns-in_ok-counted-in-Some
returns-in_ok-counted-in-Some c =
    let g = c.args.g.now in
    let found : ◌≡◌ {A = Option (ℕ × ℕ)} (Some (c.in-Some.hash, c.in-Some.counters)) (told (data_of g)) = cc (c.in-Some.ensures, c.told.ensures, c.in-Some.is, c.in-Some.hash-is, c.in-Some.counters-is) in
    data_well c.args.module.now g c.unit_of-unit.result.now c.in-Some.hash c.in-Some.counters c.in_ok-tells-in-Some.tells c.in_ok-counted-in-Some.counted c.both.result found
    (c.unit_of-unit.ensures ∙ ap unit_of c.bytes.ensures) c.in_ok-tells-in-Some.ensures c.in_ok-counted-in-Some.ensures c.both.ensures
