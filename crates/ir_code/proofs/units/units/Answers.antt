use Rattle.std.proofs.Common.{◌≡◌, List, [], ◌∷◌, ◌++◌, ◌+◌, take, sym, subst}
use Rattle.ir_tree.specs.declared.types.Global1.{Global1}
use Rattle.ir_code.specs.Tallied.{AreTallied}
use Rattle.ir_code.proofs.Numbered.{next}
use Rattle.ir_code.proofs.units.units.Goals as goal

pub loop-global-preserved : goal.loop-global-preserved
loop-global-preserved c =
    let gs = c.args.globals.now in
    let i = c.loop-global.global-index in
    let more : take (i + 1) gs ≡ take i gs ++ c.global-item.result ∷ [] = next gs i c.global-item.result c.loop-global-test.true c.global-item.is in
    subst (λ (first : List Global1). AreTallied c.add_unit.new.tallied gs first) (sym more) (c.in_ok-add_unit.ensures (take i gs) c.loop-global.invariant)
