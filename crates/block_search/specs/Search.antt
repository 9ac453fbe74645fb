-- The state of the search: the marks, and the blocks that wait until their successors are marked.
use Rattle.std.specs.Prelude.{◌≡◌, ℕ, Bool, true, ◌⊎◌, List, [], ◌∷◌, ◌++◌, length, Some, slice_get, slice_set, cond}
use Rattle.ir_tree.specs.Reach.{row, is_marked, IsReachable}

abbrev pub Among : ℕ → List ℕ → Type 0
Among v [] = ⊥
Among v (w ∷ ws) = (v ≡ w) ⊎ Among v ws

abbrev pub state : List Bool → List ℕ → List Bool × List ℕ
state marks work = (marks, work)

-- what one row makes of a state: each of its blocks that has no mark gets one, and waits
abbrev pub spread : List ℕ → List Bool → List ℕ → List Bool × List ℕ
spread [] marks work = state marks work
spread (t ∷ ts) marks work = cond (is_marked marks t) (spread ts marks work) (spread ts (slice_set marks t true) (work ++ t ∷ []))

-- what is marked is reachable, and a marked block waits or its successors are marked
pub record Found (rows : List (List ℕ)) (marks : List Bool) (work : List ℕ) : Type 0 where
  pub size : length marks ≡ length rows
  pub entry : is_marked marks 0 ≡ true
  pub sound : (b : ℕ) → is_marked marks b ≡ true → IsReachable rows b
  pub waiting : (b : ℕ) → Among b work → is_marked marks b ≡ true
  pub closed : (b p t : ℕ) → is_marked marks b ≡ true → slice_get (row rows b) p ≡ Some t → Among b work ⊎ (is_marked marks t ≡ true)
