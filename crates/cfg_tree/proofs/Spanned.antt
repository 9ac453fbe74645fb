-- The grown order spans the graph.
use Rattle.std.proofs.Common.{◌≡◌, ℕ, ◌<◌, ◌⊎◌, inl, inr, List, [], ◌∷◌, length, refl, sym, subst}
use Rattle.std.proofs.lemmas.Bool.{cases_eq}
use Rattle.std.proofs.lemmas.Option.{slice_get_within}
use Rattle.cfg_edges.specs.Graph.{Follows, IsFlowGraph}
use Rattle.ir_tree.specs.Graphs.{FlowGraph, nodes}
use Rattle.ir_tree.specs.declared.edge.Edge.{Edge}
use Rattle.spanning_order.specs.Lists.{Among}
use Rattle.spanning_order.specs.Spanning.{Grows, IsSpanningOrder, Joins}
use Rattle.cfg_tree.specs.Grown.{IsGrown}

pub among_or_not : (v : ℕ) (xs : List ℕ) → Among v xs ⊎ (Among v xs → ⊥)
among_or_not v [] = inr (λ a. a)
among_or_not v (x ∷ xs) = elim (cases_eq v x) [
  | inl e ↦ inl (inl e)
  | inr ne ↦ elim (among_or_not v xs) [ inl a ↦ inl (inr a) | inr out ↦ inr (λ a. elim a [ inl e ↦ ne e | inr b ↦ out b ]) ]
]

-- where no edge joins a node, edges lead from reached nodes to reached ones
stays_reached : (edges : List Edge) (reached : List ℕ) → ((k new : ℕ) → Joins edges reached k new → ⊥) → (ks : List ℕ) (a b : ℕ) → Among a reached → Follows edges ks a b → Among b reached
stays_reached edges reached none [] a b here f = subst (λ (v : ℕ). Among v reached) f here
stays_reached edges reached none (k ∷ ks) a b here f = elim (among_or_not (f.0).to reached) [
  | inl there ↦ stays_reached edges reached none ks (f.0).to b there f.3
  | inr out ↦ absurd (none k (f.0).to (record { edge = f.0; stands = f.1; old = a; links = inl (f.2, refl); is_reached = here; is_new = out }))
]

grows : (edges : List Edge) (weights : List ℕ) (n : ℕ) → ((v : ℕ) → v < n → (ks : List ℕ) × Follows edges ks 0 v) → (reached order : List ℕ) → Among 0 reached → IsGrown edges weights reached order → Grows edges n reached order
grows edges weights n leads reached [] zero_in g = λ v lt. let l = leads v lt in stays_reached edges reached g l.0 0 v zero_in l.1
grows edges weights n leads reached (k ∷ ks) zero_in g = (g.0, g.1.joins, grows edges weights n leads (g.0 ∷ reached) ks (inr zero_in) g.2)

pub spans : (g : FlowGraph) (weights order : List ℕ) → IsFlowGraph g → IsGrown g.edges weights (0 ∷ []) order → IsSpanningOrder g.edges (nodes g) order
spans g weights order whole grown = grows g.edges weights (nodes g) whole.reached (0 ∷ []) order (inl refl) grown

pub are_edges : (edges : List Edge) (weights reached order : List ℕ) → IsGrown edges weights reached order → (k : ℕ) → Among k order → k < length edges
are_edges edges weights reached [] g k a = absurd a
are_edges edges weights reached (j ∷ js) g k (inl e) = subst (λ (i : ℕ). i < length edges) (sym e) (slice_get_within edges j g.1.joins.edge g.1.joins.stands)
are_edges edges weights reached (j ∷ js) g k (inr a) = are_edges edges weights (g.0 ∷ reached) js g.2 k a

-- the same as the code has it
module _ (g : FlowGraph) (edges : List Edge) (weights slice items : List ℕ) (whole : IsFlowGraph g) (are : edges ≡ g.edges) (same : slice ≡ items) (grown : IsGrown edges weights (0 ∷ []) items) where
  pub edges_in : (k : ℕ) → Among k slice → k < length edges
  edges_in k a = are_edges edges weights (0 ∷ []) items grown k (subst (λ (xs : List ℕ). Among k xs) same a)

  pub spans_at : (order : List ℕ) → order ≡ items → IsSpanningOrder g.edges (nodes g) order
  spans_at order is = subst (λ (xs : List ℕ). IsSpanningOrder g.edges (nodes g) xs) (sym is) (spans g weights items whole (subst (λ (es : List Edge). IsGrown es weights (0 ∷ []) items) are grown))
