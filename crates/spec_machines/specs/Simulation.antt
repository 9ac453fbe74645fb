-- When one machine follows another step by step. Of the items that the first shows `f` makes what is looked at, and `g` of
-- the second's. `R` is what two stops with one end owe each other, `J` relates states.
use Rattle.std.specs.Prelude.{◌≡◌, ℕ, suc, ◌≤◌, List, [], ◌++◌}
use Rattle.spec_machines.specs.Machine.{Next, Goes, Stops, Ran, Open, Ended, many}

-- what is looked at of a list of items is looked at piece by piece
pub record IsView {A C : Type 0} (f : List A → List C) : Type 0 where
  pub none : f [] ≡ []
  pub more : (xs ys : List A) → f (xs ++ ys) ≡ f xs ++ f ys

module _ {A B C E S T : Type 0} (f : List A → List C) (g : List B → List C) (R : List A → List B → E → Type 0) where
  -- both go and show the same, or both stop with one end and what it owes
  abbrev pub Alike : (S → T → Type 0) → Next A E S → Next B E T → Type 0
  Alike J (Goes o s) (Goes p t) = (f o ≡ g p) × J s t
  Alike J (Goes o s) (Stops p e) = ⊥
  Alike J (Stops o d) (Goes p t) = ⊥
  Alike J (Stops o d) (Stops p e) = R o p d × (d ≡ e)

  -- the second machine matches a step by one to `most` steps from its state
  abbrev pub Matched : (T → Next B E T) → ℕ → (S → T → Type 0) → Next A E S → T → Type 0
  Matched step most J x t = (k : ℕ) × (suc k ≤ most) × Alike J x (many step (suc k) t)

  -- from related states each step of the first machine is matched
  abbrev pub Simulates : (S → Next A E S) → (T → Next B E T) → ℕ → (S → T → Type 0) → Type 0
  Simulates step step' most J = (s : S) (t : T) → J s t → Matched step' most J (step s) t

module _ {A B C E : Type 0} (f : List A → List C) (g : List B → List C) (R : List A → List B → E → Type 0) where
  -- The second run is as far as the first, or goes on from it
  abbrev pub Reaches : Ran A E → Ran B E → Type 0
  Reaches (Open p) (Open q) = (rest : List C) × (g q ≡ f p ++ rest)
  Reaches (Open p) (Ended q e) = (rest : List C) × (g q ≡ f p ++ rest)
  Reaches (Ended p d) (Open q) = ⊥
  Reaches (Ended p d) (Ended q e) = R p q d × (d ≡ e)

  -- what two stops owe stays owed behind items that look the same
  abbrev pub StaysOwed : Type 0
  StaysOwed = (o p : List A) (q r : List B) (e : E) → f o ≡ g q → R p r e → R (o ++ p) (q ++ r) e

-- two stops owe that all that is looked at is the same
abbrev pub LooksSame : {A B C E : Type 0} → (List A → List C) → (List B → List C) → List A → List B → E → Type 0
LooksSame f g p q e = f p ≡ g q
