use Rattle.std.proofs.Common.{◌≡◌, ℕ, List, [], ◌∷◌, ◌++◌, ◌+◌, true, false, map, filter, drop, ap, ◌∙◌, subst}
use Rattle.ir_tree.specs.Names.{Indexes}
use Rattle.ir_model.specs.declared.probe.Tally.{Tally}
use Rattle.ir_code.specs.Units.{is_data, units_from}
use Rattle.ir_code.specs.declared.units.Tallied.{Tallied}
use Rattle.ir_code.proofs.Kept.{tallied_still, tallied_more, count_of}
use Rattle.ir_code.proofs.units.add_unit.Goals as goal

pub returns-then-not-begins_with : goal.returns-then-not-begins_with
returns-then-not-begins_with c before h =
    let n : is_data c.args.global.now ≡ false = cc in
    tallied_still c.args.globals.now before c.args.global.now c.args.tallied.now n h

pub returns : goal.returns
returns c before h =
    let y : is_data c.args.global.now ≡ true = cc in
    let gs = c.args.globals.now in
    let g = c.args.global.now in
    let t = c.args.tallied.now in
    let ns : List (List ℕ) = map (λ u. u.0) (units_from gs 0 0 (filter is_data before)) in
    let u : Tallied = record { names = c.add.new.self; tallies = c.push.new.self; counters = c.in_ok-tallied.field-0; sites = c.in_ok-tallied-2.field-0 } in
    let named = subst (λ (n : List ℕ). Indexes c.add.new.self (ns ++ n ∷ [])) (c.behind_eight.ensures ∙ ap (λ (n : List ℕ). drop 8 n) c.bytes-2.ensures) (c.in_ok-add.ensures.added ns h.names (c.len.ensures ∙ count_of gs before g t h)) in
    tallied_more gs before g t u c.in_ok-one.one y h named c.in_ok-push.ensures.ok c.in_ok-one.ensures
    (c.in_ok-tallied.ensures ∙ ap (λ (o : Tally). t.counters + o.counters) c.in_ok-one.ensures)
    (c.in_ok-tallied-2.ensures ∙ ap (λ (o : Tally). t.sites + o.sites) c.in_ok-one.ensures)
