use Rattle.std.proofs.Common.{◌≡◌, ◌∙◌, List, map, position, subst}
use Rattle.ir_tree.specs.Names.{same, first_place}
use Rattle.ir_tree.specs.declared.types.Function.{Function}
use Rattle.ir_tree.proofs.numbering.Numbering.find.Goals as goal

pub returns : goal.returns
returns c =
    c.find.ensures ∙ subst (λ (fs : List Function). first_place c.self.inside.names c.args.name.now ≡ position (same c.args.name.now) (map (λ (f : Function). f.name) fs)) c.self.view_is (c.self.invariant c.args.name.now)
