-- Two flows with the same values outside an order are the same; and an order that spans reaches all nodes.
use Rattle.std.proofs.Common.{◌≡◌, ◌≢◌, ℕ, ◌<◌, inl, inr, List, [], ◌∷◌, length, Some, slice_get, slice_index, ℤ, sym, ap, subst, ◌∙◌, arith}
use Rattle.std.proofs.lemmas.Bool.{cases_eq}
use Rattle.std.proofs.lemmas.Int.{ints}
use Rattle.std.proofs.lemmas.Option.{same_Some}
use Rattle.ir_tree.specs.declared.edge.Edge.{Edge}
use Rattle.ir_tree.specs.Flows.{brought, net, IsFlow}
use Rattle.spanning_order.specs.Lists.{Among}
use Rattle.spanning_order.specs.Spanning.{Links, Joins, Grows}
use Rattle.flow_solve.specs.Ends.{edge_at, JoinsAt}
use Rattle.flow_solve.proofs.Balance.{all_reached}
use Rattle.flow_solve.proofs.Joined.{stands_at, links_at, apart}
use Rattle.flow_solve.proofs.Listed.{among_or_not, get_within}
use Rattle.flow_solve.proofs.Netting.{put, put_there, put_other, brought_away, net_after, net_agree, same_value}

-- an edge joins one node only
joins_once : (edges : List Edge) (reached : List ℕ) (k a b : ℕ) → Joins edges reached k a → Joins edges reached k b → a ≡ b
joins_once edges reached k a b i j =
    let f : Links (edge_at edges k) i.old a = links_at edges reached k a i in
    let g : Links (edge_at edges k) j.old b = links_at edges reached k b j in
    elim f [
      | inl h ↦ elim g [ inl m ↦ sym h.1 ∙ m.1 | inr m ↦ absurd (i.is_new (subst (λ (v : ℕ). Among v reached) (sym m.1 ∙ h.1) j.is_reached)) ]
      | inr h ↦ elim g [ inl m ↦ absurd (i.is_new (subst (λ (v : ℕ). Among v reached) (sym m.0 ∙ h.0) j.is_reached)) | inr m ↦ sym h.0 ∙ m.0 ]
    ]

pub reaches_all : (edges : List Edge) (n : ℕ) (ends reached ks : List ℕ) → Grows edges n reached ks → JoinsAt edges ends reached ks → (v : ℕ) → v < n → Among v (all_reached ends reached ks)
reaches_all edges n ends reached [] g j v lt = g v lt
reaches_all edges n ends reached (k ∷ ks) g j v lt =
    let same : g.0 ≡ slice_index ends k = joins_once edges reached k g.0 (slice_index ends k) g.1 j.0 in
    reaches_all edges n ends (slice_index ends k ∷ reached) ks (subst (λ (u : ℕ). Grows edges n (u ∷ reached) ks) same g.2) j.1 v lt

pub grows_weaker : (edges : List Edge) (n m : ℕ) (reached ks : List ℕ) → ((v : ℕ) → v < m → v < n) → Grows edges n reached ks → Grows edges m reached ks
grows_weaker edges n m reached [] less g = λ v lt. g v (less v lt)
grows_weaker edges n m reached (k ∷ ks) less g = (g.0, g.1, grows_weaker edges n m (g.0 ∷ reached) ks less g.2)

module _ (edges : List Edge) (x y : ℕ → ℤ) (fx : IsFlow edges x) (fy : IsFlow edges y) where
  -- at a node where they agree on all edges but one, they agree on that one
  agree_at : (k : ℕ) (e : Edge) (old new : ℕ) → slice_get edges k ≡ Some e → Links e old new → old ≢ new
      → ((j : ℕ) (f : Edge) → slice_get edges j ≡ Some f → j ≢ k → brought f new (x j) ≡ brought f new (y j)) → x k ≡ y k
  agree_at k e old new stands links ne others =
      let same : net edges (put k (y k) x) new ≡ net edges y new = net_agree edges (put k (y k) x) y new (λ j f h. elim (cases_eq j k) [
        | inl s ↦ ap (λ (z : ℤ). brought f new z) (put_there k (y k) x j s ∙ ap (λ (i : ℕ). y i) (sym s))
        | inr n ↦ ap (λ (z : ℤ). brought f new z) (put_other k (y k) x j n) ∙ others j f h n
      ]) in
      let after = net_after edges k e stands (y k) x new in
      let a = fx new in
      let b = fy new in
      let equal : brought e new (y k) ≡ brought e new (x k) = omega (arith, ints, same, after, a, b) in
      same_value e old new (x k) (y k) links ne (sym equal)

  pub agree_on : (n : ℕ) (reached ks : List ℕ) → Grows edges n reached ks
      → ((k : ℕ) (e : Edge) → slice_get edges k ≡ Some e → ((Among e.from reached × Among e.to reached) → ⊥) → (Among k ks → ⊥) → x k ≡ y k)
      → (k : ℕ) → Among k ks → x k ≡ y k
  agree_on n reached [] g outside = λ k a. absurd a
  agree_on n reached (i ∷ is) g outside =
      let joins : Joins edges reached i g.0 = g.1 in
      let e : Edge = edge_at edges i in
      let stands : slice_get edges i ≡ Some e = stands_at edges reached i g.0 joins in
      let links : Links e joins.old g.0 = links_at edges reached i g.0 joins in
      let ne : joins.old ≢ g.0 = apart edges reached i g.0 joins in
      let in_reached : Among e.from (g.0 ∷ reached) × Among e.to (g.0 ∷ reached) = elim links [
        | inl h ↦ (inr (subst (λ (u : ℕ). Among u reached) (sym h.0) joins.is_reached), inl h.1)
        | inr h ↦ (inl h.0, inr (subst (λ (u : ℕ). Among u reached) (sym h.1) joins.is_reached))
      ] in
      let later : (k : ℕ) → Among k is → x k ≡ y k = agree_on n (g.0 ∷ reached) is g.2 (λ k f h away out. outside k f h
      (λ w. away (inr w.0, inr w.1))
      (λ a. elim a [
        | inl s ↦ away (subst (λ (d : Edge). Among d.from (g.0 ∷ reached) × Among d.to (g.0 ∷ reached)) (same_Some e f (sym stands ∙ ap (λ (j : ℕ). slice_get edges j) (sym s) ∙ h)) in_reached)
        | inr b ↦ out b
      ])) in
      let here : x i ≡ y i = agree_at i e joins.old g.0 stands links ne (λ j f h other. elim (cases_eq g.0 f.from) [
        | inl s ↦ ap (λ (z : ℤ). brought f g.0 z) (others_agree n reached i is g outside later j f h other (λ w. joins.is_new (subst (λ (u : ℕ). Among u reached) (sym s) w.0)))
        | inr far ↦ elim (cases_eq g.0 f.to) [
          | inl s ↦ ap (λ (z : ℤ). brought f g.0 z) (others_agree n reached i is g outside later j f h other (λ w. joins.is_new (subst (λ (u : ℕ). Among u reached) (sym s) w.1)))
          | inr near ↦ brought_away f g.0 (x j) far near ∙ sym (brought_away f g.0 (y j) far near)
        ]
      ]) in
      λ k a. elim a [ inl s ↦ ap (λ (j : ℕ). x j) s ∙ here ∙ ap (λ (j : ℕ). y j) (sym s) | inr b ↦ later k b ]
    where
      others_agree : (n : ℕ) (reached : List ℕ) (i : ℕ) (is : List ℕ) → Grows edges n reached (i ∷ is)
          → ((k : ℕ) (e : Edge) → slice_get edges k ≡ Some e → ((Among e.from reached × Among e.to reached) → ⊥) → (Among k (i ∷ is) → ⊥) → x k ≡ y k)
          → ((k : ℕ) → Among k is → x k ≡ y k) → (j : ℕ) (f : Edge) → slice_get edges j ≡ Some f → j ≢ i → ((Among f.from reached × Among f.to reached) → ⊥) → x j ≡ y j
      others_agree n reached i is g outside later j f h other away = elim (among_or_not j is) [
        | inl a ↦ later j a
        | inr out ↦ outside j f h away (λ a. elim a [ inl s ↦ other s | inr b ↦ out b ])
      ]

  -- flows that agree outside a spanning order are one
  pub one_flow : (n : ℕ) (order : List ℕ) → Grows edges n (0 ∷ []) order → ((k : ℕ) → k < length edges → (Among k order → ⊥) → x k ≡ y k) → (k : ℕ) → k < length edges → x k ≡ y k
  one_flow n order g outside k lt = elim (among_or_not k order) [
    | inl a ↦ agree_on n (0 ∷ []) order g (λ j e h away out. outside j (get_within edges j e h) out) k a
    | inr out ↦ outside k lt out
  ]
