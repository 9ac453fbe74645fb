use Rattle.std.proofs.Common.{◌≡◌, ◌≤◌, List, length, take, ap, ◌∙◌, subst}
use Rattle.std.proofs.lemmas.List.{take_all}
use Rattle.ir_tree.specs.declared.types.Global1.{Global1}
use Rattle.lower_units.proofs.Making.{globals_are}
use Rattle.lower_units.specs.Alone.{table_globals}
use Rattle.lower_units.specs.Table.{told_at}
use Rattle.lowering.specs.Asked.{all_asked}
use Rattle.lower_units.proofs.units.Units.globals.Goals as goal

pub returns : goal.returns
returns c =
    let gs = c.args.self.now.«module».now.globals in
    let past : length gs ≤ c.loop-g.g-index = subst (λ (ys : List Global1). length ys ≤ c.loop-g.g-index) c.as_slice-g-items.ensures c.loop-g-test.false in
    let all : take c.loop-g.g-index gs ≡ gs = take_all c.loop-g.g-index gs past in
    c.loop-g.invariant ∙ ap (table_globals (told_at c.args.self.now.table)) all ∙ globals_are (all_asked c.args.self.now.«module».now) (told_at c.args.self.now.table) c.args.self.now.told gs c.requires.few
