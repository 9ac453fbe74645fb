-- Every state that steps reach from an opening state meets the invariant.
use Rattle.std.proofs.Common.{ℕ, List, [], ◌∷◌, subst}
use Rattle.count_core.specs.declared.state.Layout.{Layout}
use Rattle.count_core.specs.declared.state.CoreState.{CoreState}
use Rattle.count_core.specs.declared.step.CoreStep.{CoreStep}
use Rattle.count_core.specs.CoreState.{IsCore, opening}
use Rattle.count_core.specs.CoreStep.{after}
use Rattle.count_core.specs.Reaches.{Reaches}
use Rattle.count_core.proofs.Steps.{step_keeps, opens_core}

pub steps_keep : (all : ℕ) (s : CoreState) (steps : List CoreStep) (t : CoreState) → IsCore all s → Reaches s steps t → IsCore all t
steps_keep all s [] t h r = subst (IsCore all) r h
steps_keep all s (x ∷ xs) t h r = steps_keep all (after s x) xs t (step_keeps all s x h r.0) r.1

-- for every list of steps of all views
pub reached : (l : Layout) (shares : ℕ) (steps : List CoreStep) (t : CoreState) → Reaches (opening l shares) steps t → IsCore shares t
reached l shares steps t r = steps_keep shares (opening l shares) steps t (opens_core l shares) r
