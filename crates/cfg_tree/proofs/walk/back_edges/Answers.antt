use Rattle.std.proofs.Common.{◌∙◌, [], ◌∷◌, ap}
use Rattle.cfg_tree.specs.Walking.{frame}
use Rattle.cfg_tree.specs.Walk.{enters, finishes}
use Rattle.cfg_tree.proofs.Stacks.{starts_at}
use Rattle.cfg_tree.proofs.walk.back_edges.Goals as goal

pub go_on-requires-clause-walking : goal.go_on-requires-clause-walking
go_on-requires-clause-walking c =
    starts_at c.args.edges.now c.args.nodes c.in_ok-chains.chains.first.items c.in_ok-chains.chains.next.items c.in_ok-chains.ensures c.requires.some c.enter-2.new.self c.in_ok-stack.stack.items
    (c.enter-2.ensures ∙ ap (λ s. enters 1 s) (c.finish.ensures ∙ ap (λ s. finishes 0 s) (c.enter.ensures ∙ ap (λ s. enters 0 s) c.in_ok-walk.ensures)))
    (c.in_ok-stack.ensures.items ∙ ap (λ p. frame 1 p ∷ []) c.first.ensures)
