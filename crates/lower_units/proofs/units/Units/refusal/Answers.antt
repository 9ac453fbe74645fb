use Rattle.std.proofs.Common.{◌≡◌, List, ℕ, Option, None, Some, IfOk, ap, ◌∙◌, subst}
use Rattle.std.specs.Option.{option_map}
use Rattle.ir_tree.specs.declared.types.Function.{Function}
use Rattle.lower_units.proofs.Refusing.{refused_alone, refused_by}
use Rattle.lower_units.specs.Faults.{first_fault, refused_for}
use Rattle.lower_units.specs.Shown as shown
use Rattle.lower_units.specs.Table.{told_at}
use Rattle.lower_units.specs.declared.refusal.Refusal.{Refusal}
use Rattle.lowering.specs.Asked.{all_asked, asked_by_all}
use Rattle.lowering.specs.Refusals as spec
use Rattle.lowering.specs.Refusals.{name_of_unit}
use Rattle.lower_units.proofs.units.Units.refusal.Goals as goal

pub returns-in_ok-refused_for-in-Some : goal.returns-in_ok-refused_for-in-Some
returns-in_ok-refused_for-in-Some c =
    let m = c.args.self.now.«module».now in
    let named : c.name_of_unit-name.result.now ≡ name_of_unit m.globals c.in-Some.symbol.now = c.name_of_unit-name.ensures ∙ (λ i. name_of_unit (c.as_slice-globals.ensures i) (c.bytes.ensures i)) in
    let found : Some (c.in-Some.symbol.now, c.in-Some.test) ≡ first_fault (told_at c.args.self.now.table) (all_asked m) =
    c.in-Some.ensures ∙ ap (λ (fs : List Function). first_fault (told_at c.args.self.now.table) (asked_by_all fs)) c.as_slice.ensures in
    ap (λ (r : spec.Refusal). Some r) (c.in_ok-refused_for-in-Some.ensures ∙ ap (λ (n : List ℕ). refused_for n c.in-Some.test) named)
    ∙ refused_by m (told_at c.args.self.now.table) c.args.self.now.told (c.in-Some.symbol.now, c.in-Some.test) found

pub returns-in-None : goal.returns-in-None
returns-in-None c =
    let m = c.args.self.now.«module».now in
    let none : None ≡ first_fault (told_at c.args.self.now.table) (all_asked m) =
    c.in-None.ensures ∙ ap (λ (fs : List Function). first_fault (told_at c.args.self.now.table) (asked_by_all fs)) c.as_slice.ensures in
    subst (λ (o : Option spec.Refusal). IfOk c.refusal_alone.result (λ (r : Option Refusal). option_map shown.refusal r ≡ o)) (refused_alone m (told_at c.args.self.now.table) c.args.self.now.told none) c.refusal_alone.ensures
