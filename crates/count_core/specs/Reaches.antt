-- What steps of all views lead to.
use Rattle.std.specs.Prelude.{◌≡◌, List, [], ◌∷◌, IsTrue}
use Rattle.count_core.specs.declared.state.CoreState.{CoreState}
use Rattle.count_core.specs.declared.step.CoreStep.{CoreStep}
use Rattle.count_core.specs.CoreStep.{allowed, after}

-- the steps, each allowed where it is made, lead from s to t
abbrev pub Reaches : CoreState → List CoreStep → CoreState → Type 0
Reaches s [] t = s ≡ t
Reaches s (x ∷ xs) t = IsTrue (allowed s x) × Reaches (after s x) xs t
