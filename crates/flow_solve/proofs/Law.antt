-- There is one flow, whatever the counters.
use Rattle.std.proofs.Common.{◌≡◌, ◌≢◌, ℕ, suc, ◌≤◌, inl, inr, List, [], ◌∷◌, length, slice_index, set, ℤ, pos, replicate, refl, sym, ap, subst, ◌∙◌, arith, length-set}
use Rattle.std.proofs.lemmas.List.{length-replicate}
use Rattle.ir_tree.specs.declared.edge.Edge.{Edge}
use Rattle.spanning_order.specs.Lists.{Among}
use Rattle.spanning_order.specs.Spanning.{Joins, IsSpanningOrder, EndsAreNodes}
use Rattle.flow_solve.specs.Ends.{JoinsAt, IsNewEnd}
use Rattle.flow_solve.specs.Nets.{pay_all, merge_all}
use Rattle.flow_solve.specs.Solved.{HaveOneFlow}
use Rattle.flow_solve.proofs.Listed.{place_of}
use Rattle.flow_solve.proofs.Marks.{mark, Marking, marks_one, marking_starts}
use Rattle.flow_solve.proofs.Solution.{Solution, solution, zero_nets, nodes_more}
use Rattle.flow_solve.proofs.Unique.{grows_weaker, one_flow}

pub record HaveEnds (edges : List Edge) (order : List ℕ) : Type 0 where
  pub ends : List ℕ
  pub joins : JoinsAt edges ends (0 ∷ []) order
  pub others : (k : ℕ) → slice_index ends k ≢ 0 → Among k order

-- the end that an edge of the order joins is the one that the marks tell
picks : (edges : List Edge) (order : List ℕ) (k : ℕ) (rest : List ℕ) (marks : List ℤ) (ends : List ℕ) (m : Marking edges order (k ∷ rest) marks ends) → IsNewEnd m.left.1.edge marks m.left.0
picks edges order k rest marks ends m =
    let joins : Joins edges m.reached k m.left.0 = m.left.1 in
    let within = m.nodes k joins.edge joins.stands in
    elim joins.links [
      | inl h ↦ inl (elim (m.bare joins.edge.to within.1) [ inl a ↦ absurd (joins.is_new (subst (λ (v : ℕ). Among v m.reached) h.1 a)) | inr z ↦ z ], sym h.1)
      | inr h ↦ inr (λ z. (let one : mark marks joins.edge.to ≡ pos 1 = m.marked joins.edge.to (subst (λ (v : ℕ). Among v m.reached) (sym h.1) joins.is_reached) in let c : pos 0 ≡ pos 1 = sym z ∙ one in cc), sym h.0)
    ]

ends_from : (edges : List Edge) (order rest : List ℕ) (marks : List ℤ) (ends : List ℕ) → ((k : ℕ) → Among k rest → Among k order) → Marking edges order rest marks ends → HaveEnds edges order
ends_from edges order [] marks ends within m = record { ends = ends; joins = m.completes ends (λ k h. refl) tt; others = λ k h. (m.done k h).1 }
ends_from edges order (k ∷ rest) marks ends within m =
    ends_from edges order rest (set marks m.left.0 (pos 1)) (set ends k m.left.0) (λ j a. within j (inr a))
    (marks_one edges order k rest marks ends m.left.0 m.left.1.edge m.left.1.stands m (picks edges order k rest marks ends m) (within k (inl refl)))

have_ends : (edges : List Edge) (n : ℕ) (order : List ℕ) → IsSpanningOrder edges n order → EndsAreNodes edges n → HaveEnds edges order
have_ends edges n order spans nodes =
    let marks : List ℤ = set (replicate (suc n) (pos 0)) 0 (pos 1) in
    let ends : List ℕ = replicate (length edges) 0 in
    let size : length marks ≡ suc n = length-set (replicate (suc n) (pos 0)) 0 (pos 1) ∙ length-replicate (suc n) (pos 0) in
    let places : length ends ≡ length edges = length-replicate (length edges) 0 in
    ends_from edges order order marks ends (λ k a. a) (marking_starts edges order marks ends
    (grows_weaker edges n 0 (0 ∷ []) order (λ v lt. absurd (omega arith)) spans)
    places
    (ap (λ (m : ℕ). replicate m 0) (sym places))
    (ap (λ (m : ℕ). set (replicate m (pos 0)) 0 (pos 1)) (sym size))
    (omega (arith, size))
    (nodes_more edges n (length marks) nodes (omega (arith, size))))

pub has_one : (edges : List Edge) (n : ℕ) (order counted counters : List ℕ) → HaveOneFlow edges n order counted counters
has_one edges n order counted counters nodes spans c sizes =
    let e : HaveEnds edges order = have_ends edges n order spans nodes in
    let room : n ≤ length (replicate n (pos 0)) = (let s = length-replicate n (pos 0) in omega (arith, s)) in
    let s : Solution edges order counted counters e.ends (merge_all edges e.ends order (pay_all edges e.ends counted counters (replicate n (pos 0)))) =
    solution edges n order counted counters e.ends (replicate n (pos 0)) spans nodes c sizes e.joins e.others (zero_nets edges n) (nodes_more edges n (length (replicate n (pos 0))) nodes room) in
    record {
      flow = s.flow;
      solves = s.solves;
      only = λ x other. one_flow edges x s.flow other.flow s.solves.flow n order spans (λ k lt out.
          let p = place_of k counted (c.outside k lt out) in
          let away : Among (slice_index counted p.0) order → ⊥ = λ a. out (subst (λ (j : ℕ). Among j order) p.2 a) in
          subst (λ (j : ℕ). x j ≡ s.flow j) p.2 (other.kept p.0 p.1 away ∙ sym (s.solves.kept p.0 p.1 away)));
    }
