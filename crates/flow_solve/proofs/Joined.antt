-- What an edge of the order links, and what later edges leave alone.
use Rattle.std.proofs.Common.{◌≡◌, ◌≢◌, ℕ, zero, suc, ◌<◌, ◌==◌, cond, ◌⊎◌, inl, inr, List, [], ◌∷◌, Some, slice_get, slice_index, drop, sym, ap, subst, ◌∙◌, arith}
use Rattle.std.proofs.lemmas.Bool.Decides.{nat_tests}
use Rattle.ir_tree.specs.declared.edge.Edge.{Edge}
use Rattle.spanning_order.specs.Lists.{Among}
use Rattle.spanning_order.specs.Spanning.{Links, Joins, EndsAreNodes}
use Rattle.flow_solve.specs.Ends.{edge_at, other_end, JoinsAt}
use Rattle.flow_solve.proofs.Listed.{get_is}

other_by : (from to old new : ℕ) → ((from ≡ old) × (to ≡ new)) ⊎ ((from ≡ new) × (to ≡ old)) → old ≢ new → cond (to == new) from to ≡ old
other_by from to old new (inl h) ne = grind (arith, nat_tests)
other_by from to old new (inr h) ne = grind (arith, nat_tests)

pub other_is : (e : Edge) (old new : ℕ) → Links e old new → old ≢ new → other_end e new ≡ old
other_is e old new links ne = other_by e.from e.to old new links ne

module _ (edges : List Edge) (reached : List ℕ) (k new : ℕ) (j : Joins edges reached k new) where
  pub edge_is : j.edge ≡ edge_at edges k
  edge_is = sym (get_is edges k j.edge _ j.stands)

  pub stands_at : slice_get edges k ≡ Some (edge_at edges k)
  stands_at = j.stands ∙ ap (λ (e : Edge). Some e) edge_is

  pub links_at : Links (edge_at edges k) j.old new
  links_at = subst (λ (e : Edge). Links e j.old new) edge_is j.links

  pub apart : j.old ≢ new
  apart e = j.is_new (subst (λ (x : ℕ). Among x reached) e j.is_reached)

  pub other_at : other_end (edge_at edges k) new ≡ j.old
  other_at = other_is (edge_at edges k) j.old new links_at apart

  pub ends_within : (n : ℕ) → EndsAreNodes edges n → (new < n) × (j.old < n)
  ends_within n nodes =
      let w = nodes k (edge_at edges k) stands_at in
      elim links_at [
        | inl h ↦ (subst (λ (x : ℕ). x < n) h.1 w.1, subst (λ (x : ℕ). x < n) h.0 w.0)
        | inr h ↦ (subst (λ (x : ℕ). x < n) h.0 w.0, subst (λ (x : ℕ). x < n) h.1 w.1)
      ]

-- what is left of an order from a place on grows from some reached nodes
pub joins_drop : (edges : List Edge) (ends reached order : List ℕ) (i : ℕ) → JoinsAt edges ends reached order → (there : List ℕ) × JoinsAt edges ends there (drop i order)
joins_drop edges ends reached order zero j = (reached, j)
joins_drop edges ends reached [] (suc i) j = (reached, tt)
joins_drop edges ends reached (k ∷ ks) (suc i) j = joins_drop edges ends (slice_index ends k ∷ reached) ks i j.1
