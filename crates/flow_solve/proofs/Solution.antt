-- The flow that the code finds.
use Rattle.std.proofs.Common.{◌≡◌, ◌≢◌, ℕ, zero, suc, ◌^◌, ◌<◌, ◌≤◌, ◌==◌, cond, true, false, inl, inr, List, [], ◌∷◌, length, Some, slice_index, ℤ, pos, replicate, refl, sym, ap, subst, ◌∙◌, arith}
use Rattle.std.proofs.lemmas.Bool.{cases_eq, cases_lt}
use Rattle.std.proofs.lemmas.Int.{ints}
use Rattle.ir_tree.specs.declared.edge.Edge.{Edge}
use Rattle.ir_tree.specs.Flows.{brought, net, IsFlow}
use Rattle.spanning_order.specs.Lists.{Among}
use Rattle.spanning_order.specs.Spanning.{IsSpanningOrder, EndsAreNodes}
use Rattle.spanning_order.specs.Counted.{AreCounted}
use Rattle.flow_solve.specs.declared.answer.SolveError.{SolveError}
use Rattle.flow_solve.specs.declared.answer.SolveError.TheVariants.{EntryDiffers}
use Rattle.flow_solve.specs.Counts.{HasValue, HaveValues, IsMisfit}
use Rattle.flow_solve.specs.Ends.{edge_at, JoinsAt}
use Rattle.flow_solve.specs.Nets.{at, paid, paid_outside, pay_all, merge_all, needed}
use Rattle.flow_solve.specs.Solved.{Solves, IsCount, AreSolved, IsLeastMisfit, EntryIsOff, IsCause, IsRefused}
use Rattle.flow_solve.proofs.Balance.{AreNets, Paid, length-paid, pays, Settled, settles, joins_a_new}
use Rattle.flow_solve.proofs.Joined.{ends_within}
use Rattle.flow_solve.proofs.Listed.{among_or_not, place_of, get_there, get_within}
use Rattle.flow_solve.proofs.Netting.{brought_away, net_agree, net_none, node_zero_balances, brought-zero}
use Rattle.flow_solve.proofs.Unique.{reaches_all}

pub record Solution (edges : List Edge) (order counted counters ends : List ℕ) (nets : List ℤ) : Type 0 where
  pub flow : ℕ → ℤ
  pub solves : Solves edges order counted counters flow
  pub tree : (k : ℕ) → Among k order → flow k ≡ needed (edge_at edges k) (slice_index ends k) nets

zero_value : (n k : ℕ) → at (replicate n (pos 0)) k ≡ pos 0
zero_value zero k = refl
zero_value (suc n) zero = refl
zero_value (suc n) (suc k) = zero_value n k

pub zero_nets : (edges : List Edge) (n : ℕ) → AreNets edges (replicate n (pos 0)) (λ k. pos 0)
zero_nets edges n v = zero_value n v ∙ sym (net_none edges (λ k. pos 0) v (λ k e h. brought-zero e v))

length-outside : (e : Edge) (end c : ℕ) (nets : List ℤ) → length (paid_outside e end c nets) ≡ length nets
length-outside e end c nets = elim (end == 0) as (λ b. length (cond b (paid e c nets) nets) ≡ length nets) [ true ↦ length-paid e c nets | false ↦ refl ]

length-pay : (edges : List Edge) (ends ks cs : List ℕ) (nets : List ℤ) → length (pay_all edges ends ks cs nets) ≡ length nets
length-pay edges ends [] cs nets = refl
length-pay edges ends (k ∷ ks) [] nets = refl
length-pay edges ends (k ∷ ks) (c ∷ cs) nets = length-pay edges ends ks cs (paid_outside (edge_at edges k) (slice_index ends k) c nets) ∙ length-outside (edge_at edges k) (slice_index ends k) c nets

module _ (edges : List Edge) (n : ℕ) (order counted counters ends : List ℕ) (zeros : List ℤ) (spans : IsSpanningOrder edges n order) (nodes : EndsAreNodes edges n) (c : AreCounted (length edges) order counted)
    (sizes : length counters ≡ length counted) (joins : JoinsAt edges ends (0 ∷ []) order) (others : (k : ℕ) → slice_index ends k ≢ 0 → Among k order)
    (starts : AreNets edges zeros (λ k. pos 0)) (in_zeros : EndsAreNodes edges (length zeros)) where
  -- an edge of the order joins a node other than 0
  pub joins_some : (k : ℕ) → Among k order → slice_index ends k ≢ 0
  joins_some k a e = joins_a_new edges ends (0 ∷ []) order k joins a (inl e)

  pub joins_none : (k : ℕ) → (Among k order → ⊥) → slice_index ends k ≡ 0
  joins_none k out = elim (cases_eq (slice_index ends k) 0) [ inl e ↦ e | inr ne ↦ absurd (out (others k ne)) ]

  pub solution : Solution edges order counted counters ends (merge_all edges ends order (pay_all edges ends counted counters zeros))
  solution =
      let p : Paid edges ends counted counters (pay_all edges ends counted counters zeros) (λ k. pos 0) = pays edges ends counted counters zeros (λ k. pos 0) c.rising c.edges_only sizes in_zeros starts (λ k a. refl) in
      let s : Settled edges ends (0 ∷ []) order (merge_all edges ends order (pay_all edges ends counted counters zeros)) p.value =
      settles edges ends (0 ∷ []) order (pay_all edges ends counted counters zeros) p.value (subst (λ (m : ℕ). EndsAreNodes edges m) (sym (length-pay edges ends counted counters zeros)) in_zeros) joins p.nets_are
      (λ k a. p.in_order k (joins_some k a)) in
      let others_balance : (v : ℕ) → v < n → v ≢ 0 → net edges s.value v ≡ pos 0 = λ v lt ne. s.outside v (reaches_all edges n ends (0 ∷ []) order spans joins v lt) (λ a. elim a [ inl e ↦ ne e | inr b ↦ b ]) in
      let balances : IsFlow edges s.value = λ v. elim (cases_lt v n) [
        | inl lt ↦ elim (cases_eq v 0) [
          | inl e ↦ ap (λ (u : ℕ). net edges s.value u) e ∙ node_zero_balances edges n s.value nodes (omega arith) others_balance
          | inr ne ↦ others_balance v lt ne
        ]
        | inr ge ↦ net_none edges s.value v (λ k e h. let w = nodes k e h in brought_away e v (s.value k) (omega (arith, w.0)) (omega (arith, w.1)))
      ] in
      record {
        flow = s.value;
        solves = record { flow = balances; kept = λ i lt out. s.rest (slice_index counted i) out ∙ p.counters i lt (joins_none (slice_index counted i) out) };
        tree = s.tree;
      }

module _ (edges : List Edge) (order counted counters ends : List ℕ) (nets : List ℤ) (c : AreCounted (length edges) order counted) (sizes : length counters ≡ length counted)
    (fits : (i : ℕ) → slice_index counters i < 2 ^ 64) (some : (k : ℕ) → Among k order → slice_index ends k ≢ 0) (none : (k : ℕ) → (Among k order → ⊥) → slice_index ends k ≡ 0)
    (s : Solution edges order counted counters ends nets) where
  -- an edge outside the order has its counter
  outside_counter : (k : ℕ) → k < length edges → (Among k order → ⊥) → (i : ℕ) × (i < length counted) × (slice_index counted i ≡ k) × (s.flow k ≡ pos (slice_index counters i))
  outside_counter k lt out =
      let p = place_of k counted (c.outside k lt out) in
      (p.0, p.1, p.2, subst (λ (j : ℕ). s.flow j ≡ pos (slice_index counters p.0)) p.2 (s.solves.kept p.0 p.1 (λ a. out (subst (λ (j : ℕ). Among j order) p.2 a))))

  outside_count : (k : ℕ) → k < length edges → (Among k order → ⊥) → IsCount (s.flow k)
  outside_count k lt out = let q = outside_counter k lt out in let f = fits q.0 in subst (λ (z : ℤ). IsCount z) (sym q.3) (omega (arith, ints, f), omega (arith, ints, f))

  pub refuses : (error : SolveError) → IsMisfit edges ends nets error → IsRefused edges order counted counters error
  refuses error m =
      let in_order : Among m.number order = elim (among_or_not m.number order) [ inl a ↦ a | inr out ↦ absurd (m.here.joins (none m.number out)) ] in
      let value = s.tree m.number in_order in
      let found : IsLeastMisfit (length edges) s.flow m.number (needed (edge_at edges m.number) (slice_index ends m.number) nets) = record {
        is_edge = m.within;
        value_is = value;
        misfit = λ h. m.here.misfit (subst (λ (z : ℤ). IsCount z) value h);
        least = λ j less. elim (among_or_not j order) [
          | inl a ↦ subst (λ (z : ℤ). IsCount z) (sym (s.tree j a)) (m.before j less (some j a))
          | inr out ↦ outside_count j (omega (arith, m.within)) out
        ];
      } in
      record { flow = s.flow; solves = s.solves; cause = subst (λ (e : SolveError). IsCause edges order counted counters s.flow e) (sym m.here.told) found }

  module _ (values : List ℕ) (have : HaveValues edges ends nets values) where
    tree_value : (k : ℕ) → k < length edges → Among k order → pos (slice_index values k) ≡ s.flow k
    tree_value k lt a = let h : HasValue (edge_at edges k) (slice_index ends k) nets (slice_index values k) = have k lt in h.value (some k a) ∙ sym (s.tree k a)

    all_fit : ((k : ℕ) → slice_index values k < 2 ^ 64) → (k : ℕ) → k < length edges → IsCount (s.flow k)
    all_fit values_fit k lt = elim (among_or_not k order) [
      | inl a ↦ (let f = values_fit k in subst (λ (z : ℤ). IsCount z) (tree_value k lt a) (omega (arith, ints, f), omega (arith, ints, f)))
      | inr out ↦ outside_count k lt out
    ]

    pub entry_is_off : ((k : ℕ) → slice_index values k < 2 ^ 64) → 0 < length edges → (error : SolveError) → (slice_index ends 0 ≢ 0) × (0 < length counted) × (slice_index counted 0 ≡ 0) × (slice_index counters 0 ≢ slice_index values 0) × (error ≡ EntryDiffers (slice_index counters 0)) → IsRefused edges order counted counters error
    entry_is_off values_fit some_edge error off =
        let in_order : Among 0 order = elim (among_or_not 0 order) [ inl a ↦ a | inr out ↦ absurd (off.0 (none 0 out)) ] in
        let found : EntryIsOff (length edges) order counted counters s.flow (slice_index counters 0) = record {
          fits = all_fit values_fit;
          in_order = in_order;
          is_counted = get_there counted 0 0 off.1 ∙ ap (λ (k : ℕ). Some k) off.2;
          counter_is = refl;
          differs = λ h. off.3 (let e : pos (slice_index counters 0) ≡ pos (slice_index values 0) = sym h ∙ sym (tree_value 0 some_edge in_order) in cc);
        } in
        record { flow = s.flow; solves = s.solves; cause = subst (λ (e : SolveError). IsCause edges order counted counters s.flow e) (sym off.4) found }

    pub solved : (counts : List ℕ) → (slice_index ends 0 ≢ 0 → (i : ℕ) → i < length counted → slice_index counted i ≡ 0 → slice_index counters i ≡ slice_index values 0)
        → ((i : ℕ) → i < length counted → slice_index counts (slice_index counted i) ≡ slice_index counters i) → ((k : ℕ) → (Among k counted → ⊥) → slice_index counts k ≡ slice_index values k)
        → AreSolved edges order counted counters counts
    solved counts entry written kept =
        let is_flow_at : (k : ℕ) → k < length edges → pos (slice_index counts k) ≡ s.flow k = λ k lt. elim (among_or_not k order) [
          | inl a ↦ elim (among_or_not k counted) [
            | inl b ↦ (
                let p = place_of k counted b in
                let zero : k ≡ 0 = c.no_others k b a in
                let here : slice_index counts k ≡ slice_index counters p.0 = ap (λ (j : ℕ). slice_index counts j) (sym p.2) ∙ written p.0 p.1 in
                let same : slice_index counters p.0 ≡ slice_index values 0 = entry (subst (λ (j : ℕ). slice_index ends j ≢ 0) zero (some k a)) p.0 p.1 (p.2 ∙ zero) in
                ap (λ (m : ℕ). pos m) (here ∙ same ∙ ap (λ (j : ℕ). slice_index values j) (sym zero)) ∙ tree_value k lt a)
            | inr out ↦ ap (λ (m : ℕ). pos m) (kept k out) ∙ tree_value k lt a
          ]
          | inr out ↦ (let q = outside_counter k lt out in ap (λ (m : ℕ). pos m) (ap (λ (j : ℕ). slice_index counts j) (sym q.2) ∙ written q.0 q.1) ∙ sym q.3)
        ] in
        record {
          solves = record {
            flow = λ v. net_agree edges (λ k. pos (slice_index counts k)) s.flow v (λ k e h. ap (λ z. brought e v z) (is_flow_at k (get_within edges k e h))) ∙ s.solves.flow v;
            kept = λ i lt out. ap (λ (m : ℕ). pos m) (written i lt);
          };
          entry = λ i lt zero. sym (ap (λ (j : ℕ). slice_index counts j) (sym zero) ∙ written i lt);
        }

-- more places than nodes serve as well
pub nodes_more : (edges : List Edge) (n m : ℕ) → EndsAreNodes edges n → n ≤ m → EndsAreNodes edges m
nodes_more edges n m nodes le k e h = let w = nodes k e h in (omega (arith, w.0), omega (arith, w.1))

joins_within : (edges : List Edge) (ends reached ks : List ℕ) (n k : ℕ) → JoinsAt edges ends reached ks → EndsAreNodes edges n → Among k ks → slice_index ends k < n
joins_within edges ends reached [] n k j nodes a = absurd a
joins_within edges ends reached (i ∷ is) n k j nodes (inl same) = subst (λ (m : ℕ). slice_index ends m < n) (sym same) (ends_within edges reached i (slice_index ends i) j.0 n nodes).0
joins_within edges ends reached (i ∷ is) n k j nodes (inr a) = joins_within edges ends (slice_index ends i ∷ reached) is n k j.1 nodes a

pub ends_are_nodes : (edges : List Edge) (order ends : List ℕ) (n m : ℕ) → JoinsAt edges ends (0 ∷ []) order → EndsAreNodes edges n → ((k : ℕ) → slice_index ends k ≢ 0 → Among k order) → 0 < n → n ≤ m → (k : ℕ) → slice_index ends k < m
ends_are_nodes edges order ends n m joins nodes others some le k = elim (cases_eq (slice_index ends k) 0) [
  | inl e ↦ omega arith
  | inr ne ↦ let lt = joins_within edges ends (0 ∷ []) order n k joins nodes (others k ne) in omega (arith, lt)
]

-- what the code knows once the nets are merged
module _ (edges : List Edge) (n : ℕ) (order counted counters ends : List ℕ) (zeros paid nets : List ℤ) (spans : IsSpanningOrder edges n order) (nodes : EndsAreNodes edges n) (c : AreCounted (length edges) order counted)
    (sizes : length counters ≡ length counted) (joins : JoinsAt edges ends (0 ∷ []) order) (others : (k : ℕ) → slice_index ends k ≢ 0 → Among k order) (m : ℕ) (bare : zeros ≡ replicate m (pos 0)) (room : n ≤ length zeros)
    (paid_is : paid ≡ pay_all edges ends counted counters zeros) (nets_are : nets ≡ merge_all edges ends order paid) where
  starts_bare : AreNets edges zeros (λ k. pos 0)
  starts_bare = subst (λ (xs : List ℤ). AreNets edges xs (λ k. pos 0)) (sym bare) (zero_nets edges m)

  pub joins_some_of : (k : ℕ) → Among k order → slice_index ends k ≢ 0
  joins_some_of = joins_some edges n order counted counters ends zeros spans nodes c sizes joins others starts_bare (nodes_more edges n (length zeros) nodes room)

  pub joins_none_of : (k : ℕ) → (Among k order → ⊥) → slice_index ends k ≡ 0
  joins_none_of = joins_none edges n order counted counters ends zeros spans nodes c sizes joins others starts_bare (nodes_more edges n (length zeros) nodes room)

  pub solution_of : Solution edges order counted counters ends nets
  solution_of = subst (λ (xs : List ℤ). Solution edges order counted counters ends xs) (sym (nets_are ∙ ap (λ (xs : List ℤ). merge_all edges ends order xs) paid_is))
      (solution edges n order counted counters ends zeros spans nodes c sizes joins others starts_bare (nodes_more edges n (length zeros) nodes room))
