-- What one view did that has all shares is all that was done.
use Rattle.std.proofs.Common.{◌≡◌, ℕ, [], ◌∷◌, sum_by, sym, refl, ◌∙◌, arith, zero-add}
use Rattle.count_core.specs.declared.state.CoreView.{CoreView}
use Rattle.count_core.specs.CoreView.{spent, asks, wants, misses}
use Rattle.count_core.specs.CoreState.{key_of, count_of, dropped_of}
use Rattle.count_core.specs.StepLaws.{OneDidAll, SitesOfOne}
use Rattle.count_core.proofs.Keeps.{alone}
use Rattle.count_core.proofs.RowKeeps.{site_frame}

pub one_did_all : OneDidAll
one_did_all all s id v h at whole f none = alone all s id v h at whole f none

pub sites_of_one : SitesOfOne
sites_of_one all s id v h at whole site lt =
    site_frame s.layout.places (key_of s site) (count_of s site) (dropped_of s site) site s.views _ _ _ (v ∷ []) (h.rows.sites site lt) (λ _ _. refl) (λ _ _. refl) refl
    (λ k. let e = mine (wants site k) refl in omega arith)
    (λ k. sym (mine (asks site k) refl))
    (λ kept. sym (mine (misses kept site) refl))
  where
    mine : (f : CoreView → ℕ) → f spent ≡ 0 → sum_by f s.views ≡ sum_by f (v ∷ [])
    mine f none = alone all s id v h.sound at whole f none ∙ sym (zero-add (f v))
