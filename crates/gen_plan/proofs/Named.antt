-- The new registers and labels of the plan: none is a name of the function, and the labels differ.
use Rattle.count_plan.specs.declared.plan.Watch.TheVariants.{Nothing}
use Rattle.std.proofs.Common.{◌≡◌, ℕ, zero, suc, ◌+◌, ◌==◌, ◌≤◌, ◌<◌, ◌^◌, Bool, true, false, cond, ◌&&◌, List, [], ◌∷◌, length, flat_map, count_by, Option, Some, None, slice_get, refl, sym, ◌∙◌, ap, subst, arith, zero-add}
use Rattle.std.specs.Option.{option_map}
use Rattle.std.specs.Cmp.Lexicographic.{bytes_decides}
use Rattle.std.proofs.lemmas.Bool.{eqb-true}
use Rattle.std.proofs.lemmas.Option.{none-some, same_Some, slice_get_within}
use Rattle.spec_lists.specs.Each.{each}
use Rattle.spec_items.proofs.Items.{count_cons}
use Rattle.spec_items.proofs.Made.{AllOf, all_made, all_uncounted, both, flat_made, made_once, none_pass, some_counted, made_some}
use Rattle.cfg_edges.specs.Graph.{IsFlowGraph}
use Rattle.count_plan.specs.declared.plan.BlockPlan.{BlockPlan}
use Rattle.count_plan.specs.declared.plan.NewBlock.{NewBlock}
use Rattle.count_likeness.specs.Fits.{IsOld, label_of, new_labels, new_registers, register_of}
use Rattle.gen_plan.specs.Fresh.{edge_hint, fresh, is_taken, select_hint, target_hint}
use Rattle.gen_plan.specs.Gen.{gen_block, gen_with, number_of, select_watch, site_watch, watch_of}
use Rattle.gen_plan.specs.Placing.{counter_of, edge_block, leaves, new_on, on_edge}
use Rattle.gen_plan.proofs.Free.{edge_names_differ, fresh_is_free, label_taken}
use Rattle.gen_plan.proofs.Lookups.{first_made, is_at_some}
use Rattle.ir_tree.specs.Blocks.{labels}
use Rattle.ir_tree.specs.Graphs.{FlowGraph, is_select, is_site}
use Rattle.ir_tree.specs.Locals.{locals}
use Rattle.ir_tree.specs.Names.{same}
use Rattle.ir_tree.specs.Phis.{behind_phis, phi_count}
use Rattle.ir_tree.specs.Successors.{successors}
use Rattle.ir_tree.specs.declared.edge.Edge.{Edge}
use Rattle.ir_tree.specs.declared.types.Block.{Block}
use Rattle.ir_tree.specs.declared.types.Function.{Function}
use Rattle.ir_tree.specs.declared.types.Instr.{Instr}

module _ (f : Function) (few : suc (length (locals f)) < 2 ^ 64) (g : FlowGraph) (counted : List ℕ) (hash : ℕ) where
  abbrev IsFree : List ℕ → Type 0
  IsFree n = is_taken f n ≡ false

  -- a name that is taken is no free one
  not_free : (r : List ℕ) → is_taken f r ≡ true → (n : List ℕ) → IsFree n → same r n ≡ false
  not_free r taken n free = by (same r n) refl
    where
      true_false : true ≡ false → ⊥
      true_false h = cc

      by : (b : Bool) → same r n ≡ b → same r n ≡ false
      by true e = absurd (true_false (sym taken ∙ ap (is_taken f) ((bytes_decides r n).0 e) ∙ free))
      by false e = e

  -- ---- registers

  watch_free : (b i : ℕ) (x : Instr) → AllOf IsFree (register_of (watch_of f g counted b i x))
  watch_free b i x = by (is_select x) (is_site x) (number_of b i g.selects) (number_of b i g.sites)
    where
      by : (s t : Bool) (k j : Option ℕ) → AllOf IsFree (register_of (cond s (select_watch f (length counted) k) (cond t (site_watch f j) Nothing)))
      by true t None j = tt
      by true t (Some k) j = (fresh_is_free f few (select_hint k), tt)
      by false true k None = tt
      by false true k (Some j) = (fresh_is_free f few (target_hint j), tt)
      by false false k j = tt

  pub registers_old : (r : List ℕ) → is_taken f r ≡ true → IsOld (gen_with f g counted hash) r
  registers_old r taken =
      all_uncounted IsFree (same r) (not_free r taken) (new_registers (gen_with f g counted hash))
      (all_made IsFree (λ (q : BlockPlan). flat_map register_of q.watches) (gen_block f g counted)
      (λ b block. all_made IsFree register_of (λ i x. watch_of f g counted b (phi_count block.instrs + i) x) (λ i x. watch_free b (phi_count block.instrs + i) x) 0 (behind_phis block.instrs)) 0 f.blocks)

  -- ---- labels

  abbrev made_of : ℕ → ℕ → Edge → Bool
  made_of j p e = leaves j e && (e.position == p && on_edge g e)

  -- the edge of a new block
  record NewEdge (j p : ℕ) (new : NewBlock) : Type 0 where
    number : ℕ
    edge : Edge
    at : slice_get g.edges number ≡ Some edge
    from : edge.block ≡ Some j
    position : edge.position ≡ p
    label : new.label ≡ fresh f (edge_hint number)

  new_edge : (j p : ℕ) (new : NewBlock) → new_on f g counted j p ≡ Some new → NewEdge j p new
  new_edge j p new e =
      let r = first_made (made_of j p) (λ k. option_map (edge_block f k) (counter_of counted k)) 0 g.edges new e in
      let t = both (leaves j r.1) (r.1.position == p && on_edge g r.1) r.3 in
      let q = both (r.1.position == p) (on_edge g r.1) t.1 in
      record { number = r.0; edge = r.1; at = r.2; from = is_at_some j r.1.block t.0; position = eqb-true r.1.position p q.0; label = named (counter_of counted (0 + r.0)) r.0 r.4 }
    where
      named : (o : Option ℕ) (k : ℕ) → option_map (edge_block f (0 + k)) o ≡ Some new → new.label ≡ fresh f (edge_hint k)
      named None k e = absurd (none-some new e)
      named (Some c) k e = ap (λ (x : NewBlock). x.label) (sym (same_Some (edge_block f (0 + k) c) new e)) ∙ ap (λ i. fresh f (edge_hint i)) (zero-add k)

  label_free : (j p : ℕ) → AllOf IsFree (label_of (new_on f g counted j p))
  label_free j p = by (new_on f g counted j p) refl
    where
      by : (o : Option NewBlock) → new_on f g counted j p ≡ o → AllOf IsFree (label_of o)
      by None e = tt
      by (Some new) e = (ap (is_taken f) (new_edge j p new e).label ∙ fresh_is_free f few (edge_hint (new_edge j p new e).number), tt)

  none_of_old : (l : List ℕ) → is_taken f l ≡ true → count_by (same l) (new_labels (gen_with f g counted hash)) ≡ 0
  none_of_old l taken =
      all_uncounted IsFree (same l) (not_free l taken) (new_labels (gen_with f g counted hash))
      (all_made IsFree (λ (q : BlockPlan). flat_map label_of q.edges) (gen_block f g counted)
      (λ b block. all_made IsFree label_of (λ p to. new_on f g counted b p) (λ p to. label_free b p) 0 (successors block.term)) 0 f.blocks)

  module _ (whole : IsFlowGraph g) (l : List ℕ) where
    -- the label is that of the new block on an edge
    record Names (j p : ℕ) : Type 0 where
      number : ℕ
      edge : Edge
      at : slice_get g.edges number ≡ Some edge
      from : edge.block ≡ Some j
      position : edge.position ≡ p
      label : l ≡ fresh f (edge_hint number)

    names_by : (j p : ℕ) (o : Option NewBlock) → new_on f g counted j p ≡ o → 1 ≤ count_by (same l) (label_of o) → Names j p
    names_by j p None e h = absurd (omega (arith, h))
    names_by j p (Some new) e h =
        let n = new_edge j p new e in
        let c = some_counted (same l) (new.label ∷ []) h in
        record { number = n.number; edge = n.edge; at = n.at; from = n.from; position = n.position; label = (bytes_decides l c.1).0 c.3 ∙ of_one c.0 c.1 c.2 ∙ n.label }
      where
        of_one : (i : ℕ) (x : List ℕ) → slice_get (new.label ∷ []) i ≡ Some x → x ≡ new.label
        of_one zero x e = sym (same_Some new.label x e)
        of_one (suc i) x e = absurd (none-some x e)

    one_edge : {j p i q : ℕ} → Names j p → Names i q → (j ≡ i) × (p ≡ q)
    one_edge a b =
        let within = slice_get_within g.edges a.number a.edge a.at in
        let within' = slice_get_within g.edges b.number b.edge b.at in
        let small = whole.few in
        let k = edge_names_differ f few a.number b.number (omega (arith, within, small)) (omega (arith, within', small)) (sym a.label ∙ b.label) in
        let same_edge : a.edge ≡ b.edge = same_Some a.edge b.edge (sym a.at ∙ ap (slice_get g.edges) k ∙ b.at) in
        (same_Some _ _ (sym a.from ∙ ap (λ (e : Edge). e.block) same_edge ∙ b.from), sym a.position ∙ ap (λ (e : Edge). e.position) same_edge ∙ b.position)

    few_in : (o : Option NewBlock) → count_by (same l) (label_of o) ≤ 1
    few_in None = omega arith
    few_in (Some new) =
        let c = count_cons (same l) new.label [] in
        let none : count_by (same l) [] ≡ 0 = refl in
        let one = at_most (same l new.label) in
        omega (arith, c, none, one)
      where
        at_most : (b : Bool) → cond {A = ℕ} b 1 0 ≤ 1
        at_most true = omega arith
        at_most false = omega arith

    abbrev of_block : ℕ → Block → List (List ℕ)
    of_block j b = flat_map label_of (gen_block f g counted j b).edges

    abbrev of_way : ℕ → ℕ → List ℕ → List (List ℕ)
    of_way j p to = label_of (new_on f g counted j p)

    block_is : (j : ℕ) (b : Block) → of_block j b ≡ each (of_way j) 0 (successors b.term)
    block_is j b = flat_made label_of (λ p to. new_on f g counted j p) 0 (successors b.term)

    names_in : (j : ℕ) (b : Block) → 1 ≤ count_by (same l) (of_block j b) → (p : ℕ) × Names j p
    names_in j b h =
        let r = made_some (same l) (of_way j) 0 (successors b.term) (subst (λ xs. 1 ≤ count_by (same l) xs) (block_is j b) h) in
        (0 + r.0, names_by j (0 + r.0) (new_on f g counted j (0 + r.0)) refl r.3)

    one_in : (j : ℕ) (b : Block) → count_by (same l) (of_block j b) ≤ 1
    one_in j b = subst (λ xs. count_by (same l) xs ≤ 1) (sym (block_is j b))
        (made_once (same l) (of_way j) 0 (successors b.term) (λ p to e. few_in (new_on f g counted j (0 + p)))
        (λ p q to to' e e' h h'. (let r = one_edge (names_by j (0 + p) (new_on f g counted j (0 + p)) refl h) (names_by j (0 + q) (new_on f g counted j (0 + q)) refl h') in let s = r.1 in omega (arith, s))))

    one_new : count_by (same l) (new_labels (gen_with f g counted hash)) ≤ 1
    one_new = subst (λ xs. count_by (same l) xs ≤ 1) (sym (flat_made (λ (q : BlockPlan). flat_map label_of q.edges) (gen_block f g counted) 0 f.blocks))
        (made_once (same l) of_block 0 f.blocks (λ j b e. one_in (0 + j) b)
        (λ i k b c e e' h h'. (let x = names_in (0 + i) b h in let y = names_in (0 + k) c h' in let r = one_edge x.1 y.1 in let s = r.0 in omega (arith, s))))

    pub labels_apart : count_by (same l) (labels f.blocks) ≤ 1 → count_by (same l) (labels f.blocks) + count_by (same l) (new_labels (gen_with f g counted hash)) ≤ 1
    labels_apart once = by (is_taken f l) refl
      where
        by : (b : Bool) → is_taken f l ≡ b → count_by (same l) (labels f.blocks) + count_by (same l) (new_labels (gen_with f g counted hash)) ≤ 1
        by true t = (let none = none_of_old l t in omega (arith, none, once))
        by false t = (let none = none_pass (same l) (labels f.blocks) (λ j x e. fails j x e (same l x) refl) in omega (arith, none, one_new))
          where
            true_false : true ≡ false → ⊥
            true_false h = cc

            label_block : (bs : List Block) (j : ℕ) (x : List ℕ) → slice_get (labels bs) j ≡ Some x → (b : Block) × (slice_get bs j ≡ Some b) × (b.label ≡ x)
            label_block [] j x e = absurd (none-some x e)
            label_block (b ∷ bs) zero x e = (b, refl, same_Some b.label x e)
            label_block (b ∷ bs) (suc j) x e = label_block bs j x e

            fails : (j : ℕ) (x : List ℕ) → slice_get (labels f.blocks) j ≡ Some x → (s : Bool) → same l x ≡ s → same l x ≡ false
            fails j x e true s =
                let b = label_block f.blocks j x e in
                absurd (true_false (sym (label_taken f j b.0 b.1) ∙ ap (is_taken f) (b.2 ∙ sym ((bytes_decides l x).0 s)) ∙ t))
            fails j x e false s = s
