-- The names that the plan of a function puts in: each comes of one select, site or edge, is free in the function, and stands once.
use Rattle.std.proofs.Common.{◌≡◌, ℕ, zero, suc, ◌+◌, ◌==◌, ◌≤◌, ◌<◌, ◌^◌, ◌⊎◌, inl, inr, Bool, true, false, cond, ◌&&◌, List, [], ◌∷◌, ◌++◌, length, count_by, Option, Some, None, is_some, slice_get, refl, sym, ◌∙◌, ap, subst, arith, codes, zero-add}
use Rattle.std.specs.List.{cons_option, flat_map}
use Rattle.std.specs.Option.{option_map}
use Rattle.std.specs.Cmp.Lexicographic.{bytes_decides}
use Rattle.std.proofs.lemmas.Bool.{eqb-true}
use Rattle.std.proofs.lemmas.List.{map-append}
use Rattle.std.proofs.lemmas.List.Elements.{filter_map-append}
use Rattle.std.proofs.lemmas.Option.{none-some, same_Some, slice_get_within}
use Rattle.cfg_edges.specs.Graph.{IsFlowGraph}
use Rattle.count_plan.specs.Calls.{condition_of, condition_watched, target_of, target_watched, watched}
use Rattle.count_plan.specs.Counted.{new_blocks, put_on, watch_at}
use Rattle.count_plan.specs.Ways.{block_plan, new_at, no_block_plan}
use Rattle.count_plan.specs.declared.plan.BlockPlan.{BlockPlan}
use Rattle.count_plan.specs.declared.plan.FunctionPlan.{FunctionPlan}
use Rattle.count_plan.specs.declared.plan.NewBlock.{NewBlock}
use Rattle.count_plan.specs.declared.plan.Watch.{Watch}
use Rattle.count_plan.specs.declared.plan.Watch.TheVariants.{Nothing, Condition, Target}
use Rattle.counted_accepted.proofs.FreshNames.{Name, edge_named, edge_no_select, edge_no_target, fresh_is_free, numbers_differ, select_named, select_no_target, target_named}
use Rattle.counted_rules.specs.PlanFits.{new_names, put_names, watches_in}
use Rattle.gen_plan.specs.Fresh.{edge_hint, fresh, is_taken, select_hint, target_hint}
use Rattle.gen_plan.specs.Gen.{gen_block, gen_with, number_of, select_watch, site_watch, watch_of}
use Rattle.gen_plan.specs.Placing.{counter_of, edge_block, leaves, new_on, on_edge}
use Rattle.ir_model.specs.Log.{is_at}
use Rattle.ir_rules.specs.Finding.{FindsNames, is_param_found, label_found, result_found}
use Rattle.ir_rules.specs.Lists.{Among, times}
use Rattle.ir_rules.specs.Scopes.{block_names, names, param_names}
use Rattle.ir_tree.specs.Blocks.{labels}
use Rattle.ir_tree.specs.Graphs.{FlowGraph, is_select, is_site}
use Rattle.ir_tree.specs.Locals.{first_local, locals}
use Rattle.ir_tree.specs.Names.{same}
use Rattle.ir_tree.specs.Operands.{listed, result_name, result_names}
use Rattle.ir_tree.specs.Phis.{behind_phis, phi_count}
use Rattle.ir_tree.specs.Spelling.{is_local_name}
use Rattle.ir_tree.specs.Successors.{successors}
use Rattle.ir_tree.specs.declared.edge.Edge.{Edge}
use Rattle.ir_tree.specs.declared.locals.Local.{Local}
use Rattle.ir_tree.specs.declared.types.Block.{Block}
use Rattle.ir_tree.specs.declared.types.Function.{Function}
use Rattle.ir_tree.specs.declared.types.Instr.{Instr}
use Rattle.ir_tree.specs.declared.types.Operand.{Operand}
use Rattle.spec_items.proofs.Items.{count_cons, count-append}
use Rattle.spec_items.proofs.Made.{at_position, both, each_at, made_once, made_some}
use Rattle.spec_lists.specs.Each.{each, first_of}

-- ---- lists

same_self : (n : Name) → same n n ≡ true
same_self n = (bytes_decides n n).1 refl

same_is : (n x : Name) → same n x ≡ true → n ≡ x
same_is n x h = (bytes_decides n x).0 h

pub stands : (n : Name) (xs : List Name) → Among n xs → 1 ≤ times n xs
stands n [] at = absurd at
stands n (x ∷ xs) (inl e) =
    let c = count_cons (same n) x xs in
    let here : cond {A = ℕ} (same n x) 1 0 ≡ 1 = ap (λ (q : Name). cond {A = ℕ} (same n q) 1 0) (sym e) ∙ ap (λ (b : Bool). cond {A = ℕ} b 1 0) (same_self n) in
    omega (arith, here, c)
stands n (x ∷ xs) (inr at) = (let c = count_cons (same n) x xs in let rest = stands n xs at in omega (arith, rest, c))

pub standing : (n : Name) (xs : List Name) → 1 ≤ times n xs → Among n xs
standing n [] h = absurd (omega (arith, h))
standing n (x ∷ xs) h = by (same n x) refl (λ k. standing n xs k)
  where
    by : (b : Bool) → same n x ≡ b → (1 ≤ times n xs → Among n xs) → Among n (x ∷ xs)
    by true e rest = inl (same_is n x e)
    by false e rest =
        let c = count_cons (same n) x xs in
        let none : cond {A = ℕ} (same n x) 1 0 ≡ 0 = ap (λ (b : Bool). cond {A = ℕ} b 1 0) e in
        inr (rest (omega (arith, h, none, c)))

single_name : (n r : Name) → 1 ≤ times n (r ∷ []) → n ≡ r
single_name n r h = by (standing n (r ∷ []) h)
  where
    by : Among n (r ∷ []) → n ≡ r
    by (inl e) = e
    by (inr none) = absurd none

few_single : (n r : Name) → times n (r ∷ []) ≤ 1
few_single n r = by (same n r) refl
  where
    by : (b : Bool) → same n r ≡ b → times n (r ∷ []) ≤ 1
    by true e = (let c = count_cons (same n) r [] in let z : cond {A = ℕ} (same n r) 1 0 ≡ 1 = ap (λ (b : Bool). cond {A = ℕ} b 1 0) e in let none : count_by (same n) [] ≡ 0 = refl in omega (arith, c, z, none))
    by false e = (let c = count_cons (same n) r [] in let z : cond {A = ℕ} (same n r) 1 0 ≡ 0 = ap (λ (b : Bool). cond {A = ℕ} b 1 0) e in let none : count_by (same n) [] ≡ 0 = refl in omega (arith, c, z, none))

results_each : {X : Type 0} (make : ℕ → X → List Instr) (n : ℕ) (xs : List X) → result_names (each make n xs) ≡ each (λ i x. result_names (make i x)) n xs
results_each make n [] = refl
results_each make n (x ∷ xs) = filter_map-append result_name (make n x) (each make (n + 1) xs) ∙ ap (λ (ns : List Name). result_names (make n x) ++ ns) (results_each make (n + 1) xs)

labels_each : {X : Type 0} (make : ℕ → X → List Block) (n : ℕ) (xs : List X) → labels (each make n xs) ≡ each (λ i x. labels (make i x)) n xs
labels_each make n [] = refl
labels_each make n (x ∷ xs) = map-append (λ (b : Block). b.label) (make n x) (each make (n + 1) xs) ∙ ap (λ (ns : List Name). labels (make n x) ++ ns) (labels_each make (n + 1) xs)

module _ {X Y : Type 0} where
  -- the first item that is made, and of which it is
  pub first_made : (test : X → Bool) (make : ℕ → Option Y) (n : ℕ) (xs : List X) (y : Y) → first_of (each (λ k x. cond (test x) (listed (make k)) []) n xs) ≡ Some y → (i : ℕ) × (x : X) × (slice_get xs i ≡ Some x) × (test x ≡ true) × (make (n + i) ≡ Some y)
  first_made test make n [] y e = absurd (none-some y e)
  first_made test make n (x ∷ xs) y e = by (test x) refl (make n) refl (λ q. first_made test make (n + 1) xs y q) e
    where
      later_one : ((i : ℕ) × (z : X) × (slice_get xs i ≡ Some z) × (test z ≡ true) × (make (n + 1 + i) ≡ Some y)) → (i : ℕ) × (z : X) × (slice_get (x ∷ xs) i ≡ Some z) × (test z ≡ true) × (make (n + i) ≡ Some y)
      later_one r = (suc r.0, r.1, r.2, r.3, ap make (let i = r.0 in let q : n + suc i ≡ n + 1 + i = omega arith in q) ∙ r.4)

      by : (b : Bool) → test x ≡ b → (o : Option Y) → make n ≡ o → (first_of (each (λ k z. cond (test z) (listed (make k)) []) (n + 1) xs) ≡ Some y → (i : ℕ) × (z : X) × (slice_get xs i ≡ Some z) × (test z ≡ true) × (make (n + 1 + i) ≡ Some y)) →
          first_of (cond b (listed o) [] ++ each (λ k z. cond (test z) (listed (make k)) []) (n + 1) xs) ≡ Some y → (i : ℕ) × (z : X) × (slice_get (x ∷ xs) i ≡ Some z) × (test z ≡ true) × (make (n + i) ≡ Some y)
      by true t (Some z) o later q = (0, x, refl, t, ap make (let s : n + 0 ≡ n = omega arith in s) ∙ o ∙ q)
      by true t None o later q = later_one (later q)
      by false t o u later q = later_one (later q)

is_at_some : (b : ℕ) (o : Option ℕ) → is_at b o ≡ true → o ≡ Some b
is_at_some b None e = absurd (cc)
is_at_some b (Some x) e = ap Some (eqb-true x b e)

-- the place of a select or site, by its number
pub place_of : (b i k : ℕ) (places : List (ℕ × ℕ)) → number_of b i places ≡ Some k → slice_get places k ≡ Some (b, i)
place_of b i k places e =
    let r = at_position (λ (at : ℕ × ℕ). at.0 == b && at.1 == i) places k e in
    let t = both (r.0.0 == b) (r.0.1 == i) r.2 in
    r.1 ∙ ap (λ (p : ℕ × ℕ). Some p) (λ q. (eqb-true r.0.0 b t.0 q, eqb-true r.0.1 i t.1 q))

-- ---- the plan of a function

module _ (f : Function) (g : FlowGraph) (counted : List ℕ) (hash : ℕ) where
  abbrev pub unit : FunctionPlan
  unit = gen_with f g counted hash

  pub plan_is : (j : ℕ) (b : Block) → slice_get f.blocks j ≡ Some b → block_plan unit.blocks j ≡ gen_block f g counted j b
  plan_is j b at = each_at (gen_block f g counted) 0 f.blocks j b no_block_plan at ∙ ap (λ (i : ℕ). gen_block f g counted i b) (zero-add j)

  pub watch_is : (j : ℕ) (b : Block) (k : ℕ) (x : Instr) → slice_get (behind_phis b.instrs) k ≡ Some x → watch_at (gen_block f g counted j b) k ≡ watch_of f g counted j (phi_count b.instrs + k) x
  watch_is j b k x here = each_at (λ i y. watch_of f g counted j (phi_count b.instrs + i) y) 0 (behind_phis b.instrs) k x Nothing here ∙ ap (λ (n : ℕ). watch_of f g counted j (phi_count b.instrs + n) x) (zero-add k)

  pub new_is : (j : ℕ) (b : Block) (p : ℕ) (to : Name) → slice_get (successors b.term) p ≡ Some to → new_at (gen_block f g counted j b) p ≡ new_on f g counted j p
  new_is j b p to leads = each_at (λ q t. new_on f g counted j q) 0 (successors b.term) p to None leads ∙ ap (λ (q : ℕ). new_on f g counted j q) (zero-add p)

  -- ---- of what a name comes

  data ItemTag (j i : ℕ) (n : Name) : Type 0 where
    OfSelect : (k : ℕ) → slice_get g.selects k ≡ Some (j, i) → n ≡ fresh f (select_hint k) → ItemTag j i n
    OfSite : (k : ℕ) → slice_get g.sites k ≡ Some (j, i) → n ≡ fresh f (target_hint k) → ItemTag j i n

  pub record WayTag (j p : ℕ) (n : Name) : Type 0 where
    pub number : ℕ
    pub edge : Edge
    pub at : slice_get g.edges number ≡ Some edge
    pub from : edge.block ≡ Some j
    pub position : edge.position ≡ p
    pub label : n ≡ fresh f (edge_hint number)

  watched_name : (w : Watch) (y : Instr) (n : Name) → 1 ≤ times n (result_names (watched unit w y)) → (r : Name) × (n ≡ r) × (((c : ℕ) × (w ≡ Condition r c)) ⊎ ((s : ℕ) × (w ≡ Target r s)))
  watched_name Nothing y n h = absurd (omega (arith, h))
  watched_name (Condition r c) y n h = by (condition_of y) h
    where
      by : (o : Option Operand) → 1 ≤ times n (result_names (condition_watched unit r c o)) → (q : Name) × (n ≡ q) × (((d : ℕ) × (Condition r c ≡ Condition q d)) ⊎ ((s : ℕ) × (Condition r c ≡ Target q s)))
      by None k = absurd (omega (arith, k))
      by (Some o) k = (r, single_name n r k, inl (c, refl))
  watched_name (Target r s) y n h = by (target_of y) h
    where
      by : (o : Option Operand) → 1 ≤ times n (result_names (target_watched unit r s o)) → (q : Name) × (n ≡ q) × (((d : ℕ) × (Target r s ≡ Condition q d)) ⊎ ((t : ℕ) × (Target r s ≡ Target q t)))
      by None k = absurd (omega (arith, k))
      by (Some o) k = (r, single_name n r k, inr (s, refl))

  watched_few : (w : Watch) (y : Instr) (n : Name) → times n (result_names (watched unit w y)) ≤ 1
  watched_few Nothing y n = omega arith
  watched_few (Condition r c) y n = by (condition_of y)
    where
      by : (o : Option Operand) → times n (result_names (condition_watched unit r c o)) ≤ 1
      by None = omega arith
      by (Some o) = few_single n r
  watched_few (Target r s) y n = by (target_of y)
    where
      by : (o : Option Operand) → times n (result_names (target_watched unit r s o)) ≤ 1
      by None = omega arith
      by (Some o) = few_single n r

  item_tag : (j i : ℕ) (y : Instr) (n : Name) → 1 ≤ times n (result_names (watched unit (watch_of f g counted j i y) y)) → ItemTag j i n
  item_tag j i y n h = by (is_select y) (is_site y) (number_of j i g.selects) refl (number_of j i g.sites) refl h
    where
      by : (s t : Bool) (a : Option ℕ) → number_of j i g.selects ≡ a → (b : Option ℕ) → number_of j i g.sites ≡ b → 1 ≤ times n (result_names (watched unit (cond s (select_watch f (length counted) a) (cond t (site_watch f b) Nothing)) y)) → ItemTag j i n
      by true t None e b d k = absurd (omega (arith, k))
      by true t (Some q) e b d k = OfSelect q (place_of j i q g.selects e) (on (watched_name (Condition (fresh f (select_hint q)) (length counted + q)) y n k))
        where
          on : (r : Name) × (n ≡ r) × (((c : ℕ) × (Condition (fresh f (select_hint q)) (length counted + q) ≡ Condition r c)) ⊎ ((s : ℕ) × (Condition (fresh f (select_hint q)) (length counted + q) ≡ Target r s))) → n ≡ fresh f (select_hint q)
          on (r, is, inl m) = is ∙ sym (let w = m.1 in cc w)
          on (r, is, inr m) = absurd (let w = m.1 in cc w)
      by false true a e None d k = absurd (omega (arith, k))
      by false true a e (Some q) d k = OfSite q (place_of j i q g.sites d) (on (watched_name (Target (fresh f (target_hint q)) q) y n k))
        where
          on : (r : Name) × (n ≡ r) × (((c : ℕ) × (Target (fresh f (target_hint q)) q ≡ Condition r c)) ⊎ ((s : ℕ) × (Target (fresh f (target_hint q)) q ≡ Target r s))) → n ≡ fresh f (target_hint q)
          on (r, is, inl m) = absurd (let w = m.1 in cc w)
          on (r, is, inr m) = is ∙ sym (let w = m.1 in cc w)
      by false false a e b d k = absurd (omega (arith, k))

  pub new_tag : (j p : ℕ) (new : NewBlock) → new_on f g counted j p ≡ Some new → WayTag j p new.label × ((c : ℕ) → new.counter ≡ Some c → (e : ℕ) × (counter_of counted e ≡ Some c))
  new_tag j p new e =
      let r = first_made (λ (d : Edge). leaves j d && (d.position == p && on_edge g d)) (λ k. option_map (edge_block f k) (counter_of counted k)) 0 g.edges new e in
      let t = both (leaves j r.1) (r.1.position == p && on_edge g r.1) r.3 in
      let q = both (r.1.position == p) (on_edge g r.1) t.1 in
      (record { number = r.0; edge = r.1; at = r.2; from = is_at_some j r.1.block t.0; position = eqb-true r.1.position p q.0; label = (named (0 + r.0) (counter_of counted (0 + r.0)) r.4 refl).0 ∙ ap (λ (i : ℕ). fresh f (edge_hint i)) (zero-add r.0) }, λ c h. (0 + r.0, (named (0 + r.0) (counter_of counted (0 + r.0)) r.4 refl).1 c h))
    where
      named : (k : ℕ) (o : Option ℕ) → option_map (edge_block f k) o ≡ Some new → counter_of counted k ≡ o → (new.label ≡ fresh f (edge_hint k)) × ((c : ℕ) → new.counter ≡ Some c → counter_of counted k ≡ Some c)
      named k None e is = absurd (none-some new e)
      named k (Some d) e is =
          let s = same_Some (edge_block f k d) new e in
          (ap (λ (x : NewBlock). x.label) (sym s), λ c h. is ∙ (ap (λ (x : NewBlock). x.counter) s ∙ h))

  way_tag : (j p : ℕ) (to : Name) (o : Option NewBlock) (n : Name) → new_on f g counted j p ≡ o → 1 ≤ times n (labels (put_on unit to o)) → WayTag j p n
  way_tag j p to None n e h = absurd (omega (arith, h))
  way_tag j p to (Some new) n e h = subst (λ (m : Name). WayTag j p m) (sym (single_name n new.label h)) (new_tag j p new e).0

  put_few : (to : Name) (o : Option NewBlock) (n : Name) → times n (labels (put_on unit to o)) ≤ 1
  put_few to None n = omega arith
  put_few to (Some new) n = few_single n new.label

  module _ (few : suc (length (locals f)) < 2 ^ 64) (whole : IsFlowGraph g) where
    select_small : (k j i : ℕ) → slice_get g.selects k ≡ Some (j, i) → k < 2 ^ 64
    select_small k j i at = (let w = slice_get_within g.selects k (j, i) at in let s = whole.few_selects in omega (arith, w, s))

    site_small : (k j i : ℕ) → slice_get g.sites k ≡ Some (j, i) → k < 2 ^ 64
    site_small k j i at = (let w = slice_get_within g.sites k (j, i) at in let s = whole.few_sites in omega (arith, w, s))

    way_small : {j p : ℕ} {n : Name} → (t : WayTag j p n) → t.number < 2 ^ 64
    way_small t = (let w = slice_get_within g.edges t.number t.edge t.at in let s = whole.few in omega (arith, w, s))

    same_place : (xs : List (ℕ × ℕ)) (k l j i a b : ℕ) → k ≡ l → slice_get xs k ≡ Some (j, i) → slice_get xs l ≡ Some (a, b) → (j ≡ a) × (i ≡ b)
    same_place xs k l j i a b e at there =
        let s : ◌≡◌ {A = ℕ × ℕ} (j, i) (a, b) = same_Some (j, i) (a, b) (sym at ∙ (ap (λ (q : ℕ). slice_get xs q) e ∙ there)) in
        (ap (λ (q : ℕ × ℕ). q.0) s, ap (λ (q : ℕ × ℕ). q.1) s)

    one_item : (j i a b : ℕ) (n : Name) → ItemTag j i n → ItemTag a b n → (j ≡ a) × (i ≡ b)
    one_item j i a b n (OfSelect k at e) (OfSelect l there d) = same_place g.selects k l j i a b (numbers_differ f few (codes "pgo.select.") k l (select_small k j i at) (select_small l a b there) (sym e ∙ d)) at there
    one_item j i a b n (OfSelect k at e) (OfSite l there d) = absurd (select_no_target f few k l (select_small k j i at) (site_small l a b there) (sym e ∙ d))
    one_item j i a b n (OfSite k at e) (OfSelect l there d) = absurd (select_no_target f few l k (select_small l a b there) (site_small k j i at) (sym d ∙ e))
    one_item j i a b n (OfSite k at e) (OfSite l there d) = same_place g.sites k l j i a b (numbers_differ f few (codes "pgo.target.") k l (site_small k j i at) (site_small l a b there) (sym e ∙ d)) at there

    one_way : (j p a q : ℕ) (n : Name) → WayTag j p n → WayTag a q n → (j ≡ a) × (p ≡ q)
    one_way j p a q n t u =
        let k = numbers_differ f few (codes "pgo.edge.") t.number u.number (way_small t) (way_small u) (sym t.label ∙ u.label) in
        let same_edge : t.edge ≡ u.edge = same_Some t.edge u.edge (sym t.at ∙ ap (λ (i : ℕ). slice_get g.edges i) k ∙ u.at) in
        (same_Some j a (sym t.from ∙ ap (λ (e : Edge). e.block) same_edge ∙ u.from), sym t.position ∙ ap (λ (e : Edge). e.position) same_edge ∙ u.position)

    mixed : (j i a p : ℕ) (n : Name) → ItemTag j i n → WayTag a p n → ⊥
    mixed j i a p n (OfSelect k at e) t = edge_no_select f few t.number k (way_small t) (select_small k j i at) (sym t.label ∙ e)
    mixed j i a p n (OfSite k at e) t = edge_no_target f few t.number k (way_small t) (site_small k j i at) (sym t.label ∙ e)

    item_free : (j i : ℕ) (n : Name) → ItemTag j i n → (is_taken f n ≡ false) × (is_local_name n ≡ true)
    item_free j i n (OfSelect k at e) = (ap (is_taken f) e ∙ fresh_is_free f few (select_hint k), ap is_local_name e ∙ select_named f few k (select_small k j i at))
    item_free j i n (OfSite k at e) = (ap (is_taken f) e ∙ fresh_is_free f few (target_hint k), ap is_local_name e ∙ target_named f few k (site_small k j i at))

    way_free : (j p : ℕ) (n : Name) → WayTag j p n → (is_taken f n ≡ false) × (is_local_name n ≡ true)
    way_free j p n t = (ap (is_taken f) t.label ∙ fresh_is_free f few (edge_hint t.number), ap is_local_name t.label ∙ edge_named f few t.number (way_small t))

    -- ---- a block

    module _ (n : Name) where
      module _ (j : ℕ) (b : Block) where
        abbrev plan : BlockPlan
        plan = gen_block f g counted j b

        abbrev item_names : ℕ → Instr → List Name
        item_names i x = result_names (watched unit (watch_at plan i) x)

        abbrev way_names : ℕ → Name → List Name
        way_names p to = labels (put_on unit to (new_at plan p))

        results_are : times n (result_names (watches_in unit plan b)) ≡ times n (each item_names 0 (behind_phis b.instrs))
        results_are = ap (λ (ns : List Name). times n ns) (results_each (λ i x. watched unit (watch_at plan i) x) 0 (behind_phis b.instrs))

        labels_are : times n (labels (new_blocks unit plan b)) ≡ times n (each way_names 0 (successors b.term))
        labels_are = ap (λ (ns : List Name). times n ns) (labels_each (λ p to. put_on unit to (new_at plan p)) 0 (successors b.term))

        item_at : (i : ℕ) (x : Instr) → slice_get (behind_phis b.instrs) i ≡ Some x → 1 ≤ times n (item_names (0 + i) x) → ItemTag j (phi_count b.instrs + i) n
        item_at i x here h = item_tag j (phi_count b.instrs + i) x n (subst (λ (w : Watch). 1 ≤ times n (result_names (watched unit w x))) (ap (λ (k : ℕ). watch_at plan k) (zero-add i) ∙ watch_is j b i x here) h)

        way_at : (p : ℕ) (to : Name) → slice_get (successors b.term) p ≡ Some to → 1 ≤ times n (way_names (0 + p) to) → WayTag j p n
        way_at p to leads h = way_tag j p to (new_on f g counted j p) n refl (subst (λ (o : Option NewBlock). 1 ≤ times n (labels (put_on unit to o))) (ap (λ (k : ℕ). new_at plan k) (zero-add p) ∙ new_is j b p to leads) h)

        items_once : times n (each item_names 0 (behind_phis b.instrs)) ≤ 1
        items_once = made_once (same n) item_names 0 (behind_phis b.instrs) (λ i x here. watched_few (watch_at plan (0 + i)) x n)
            (λ i k x y here there h l. (let s = (one_item j (phi_count b.instrs + i) j (phi_count b.instrs + k) n (item_at i x here h) (item_at k y there l)).1 in omega (arith, s)))

        ways_once : times n (each way_names 0 (successors b.term)) ≤ 1
        ways_once = made_once (same n) way_names 0 (successors b.term) (λ p to leads. put_few to (new_at plan (0 + p)) n)
            (λ p q to on leads there h l. (one_way j p j q n (way_at p to leads h) (way_at q on there l)).1)

        abbrev Tag : Type 0
        Tag = ((i : ℕ) × ItemTag j i n) ⊎ ((p : ℕ) × WayTag j p n)

        item_some : 1 ≤ times n (each item_names 0 (behind_phis b.instrs)) → (i : ℕ) × ItemTag j i n
        item_some h = (let r = made_some (same n) item_names 0 (behind_phis b.instrs) h in (phi_count b.instrs + r.0, item_at r.0 r.1 r.2 r.3))

        way_some : 1 ≤ times n (each way_names 0 (successors b.term)) → (p : ℕ) × WayTag j p n
        way_some h = (let r = made_some (same n) way_names 0 (successors b.term) h in (r.0, way_at r.0 r.1 r.2 r.3))

        put_are : times n (put_names unit plan b) ≡ times n (each item_names 0 (behind_phis b.instrs)) + times n (each way_names 0 (successors b.term))
        put_are =
            let a : times n (put_names unit plan b) ≡ times n (result_names (watches_in unit plan b)) + times n (labels (new_blocks unit plan b)) = count-append (same n) (result_names (watches_in unit plan b)) (labels (new_blocks unit plan b)) in
            omega (arith, a, results_are, labels_are)

        tag : 1 ≤ times n (put_names unit plan b) → Tag
        tag h = by (times n (each item_names 0 (behind_phis b.instrs))) refl
          where
            by : (k : ℕ) → times n (each item_names 0 (behind_phis b.instrs)) ≡ k → ((i : ℕ) × ItemTag j i n) ⊎ ((p : ℕ) × WayTag j p n)
            by zero e = inr (way_some (omega (arith, h, e, put_are)))
            by (suc k) e = inl (item_some (omega (arith, e)))

        put_once : times n (put_names unit plan b) ≤ 1
        put_once = by (times n (each item_names 0 (behind_phis b.instrs))) refl (times n (each way_names 0 (successors b.term))) refl
          where
            by : (k : ℕ) → times n (each item_names 0 (behind_phis b.instrs)) ≡ k → (l : ℕ) → times n (each way_names 0 (successors b.term)) ≡ l → times n (put_names unit plan b) ≤ 1
            by zero e l d = omega (arith, e, put_are, ways_once)
            by (suc k) e zero d = omega (arith, d, put_are, items_once)
            by (suc k) e (suc l) d = (let x = item_some (omega (arith, e)) in let y = way_some (omega (arith, d)) in absurd (mixed j x.0 j y.0 n x.1 y.1))

      one_block : (j a : ℕ) → ((i : ℕ) × ItemTag j i n) ⊎ ((p : ℕ) × WayTag j p n) → ((i : ℕ) × ItemTag a i n) ⊎ ((p : ℕ) × WayTag a p n) → j ≡ a
      one_block j a (inl x) (inl y) = (one_item j x.0 a y.0 n x.1 y.1).0
      one_block j a (inl x) (inr y) = absurd (mixed j x.0 a y.0 n x.1 y.1)
      one_block j a (inr x) (inl y) = absurd (mixed a y.0 j x.0 n y.1 x.1)
      one_block j a (inr x) (inr y) = (one_way j x.0 a y.0 n x.1 y.1).0

      tag_free : (j : ℕ) → ((i : ℕ) × ItemTag j i n) ⊎ ((p : ℕ) × WayTag j p n) → (is_taken f n ≡ false) × (is_local_name n ≡ true)
      tag_free j (inl x) = item_free j x.0 n x.1
      tag_free j (inr x) = way_free j x.0 n x.1

      abbrev block_put : ℕ → Block → List Name
      block_put j b = put_names unit (block_plan unit.blocks j) b

      put_at : (j : ℕ) (b : Block) → slice_get f.blocks j ≡ Some b → times n (block_put (0 + j) b) ≡ times n (put_names unit (gen_block f g counted j b) b)
      put_at j b at = ap (λ (k : ℕ). times n (put_names unit (block_plan unit.blocks k) b)) (zero-add j) ∙ ap (λ (q : BlockPlan). times n (put_names unit q b)) (plan_is j b at)

      tag_at : (j : ℕ) (b : Block) → slice_get f.blocks j ≡ Some b → 1 ≤ times n (block_put (0 + j) b) → ((i : ℕ) × ItemTag j i n) ⊎ ((p : ℕ) × WayTag j p n)
      tag_at j b at h = (let e = put_at j b at in tag j b (omega (arith, h, e)))

      new_once : times n (new_names unit f.blocks) ≤ 1
      new_once = made_once (same n) block_put 0 f.blocks (λ j b at. (let e = put_at j b at in let o = put_once j b in omega (arith, e, o))) (λ j a b c at there h l. one_block j a (tag_at j b at h) (tag_at a c there l))

      pub new_free : 1 ≤ times n (new_names unit f.blocks) → (is_taken f n ≡ false) × (is_local_name n ≡ true)
      new_free h = (let r = made_some (same n) block_put 0 f.blocks h in tag_free r.0 (tag_at r.0 r.1 r.2 r.3))

      -- ---- the names of the function

      module _ (finds : FindsNames f) (once : times n (names f) ≤ 1) where
        found_param : (o : Option Local) → is_param_found o ≡ true → is_some o ≡ true
        found_param None e = absurd (cc)
        found_param (Some l) e = refl

        found_label : (o : Option Local) (k : ℕ) → label_found o ≡ Some k → is_some o ≡ true
        found_label None k e = absurd (none-some k e)
        found_label (Some l) k e = refl

        found_result : (o : Option Local) (k : ℕ × ℕ) → result_found o ≡ Some k → is_some o ≡ true
        found_result None k e = absurd (none-some k e)
        found_result (Some l) k e = refl

        result_at : (xs : List Instr) → Among n (result_names xs) → (i : ℕ) × (x : Instr) × (slice_get xs i ≡ Some x) × (result_name x ≡ Some n)
        result_at [] at = absurd at
        result_at (x ∷ xs) at = by (result_name x) refl at (λ h. result_at xs h)
          where
            later : (i : ℕ) × (y : Instr) × (slice_get xs i ≡ Some y) × (result_name y ≡ Some n) → (i : ℕ) × (y : Instr) × (slice_get (x ∷ xs) i ≡ Some y) × (result_name y ≡ Some n)
            later (i, y, at, e) = (suc i, y, at, e)

            by : (o : Option Name) → result_name x ≡ o → Among n (cons_option o (result_names xs)) → (Among n (result_names xs) → (i : ℕ) × (y : Instr) × (slice_get xs i ≡ Some y) × (result_name y ≡ Some n)) → (i : ℕ) × (y : Instr) × (slice_get (x ∷ xs) i ≡ Some y) × (result_name y ≡ Some n)
            by None e h rest = later (rest h)
            by (Some m) e (inl q) rest = (0, x, refl, e ∙ ap Some (sym q))
            by (Some m) e (inr h) rest = later (rest h)

        either : (xs ys : List Name) → Among n (xs ++ ys) → Among n xs ⊎ Among n ys
        either [] ys at = inr at
        either (z ∷ zs) ys (inl e) = inl (inl e)
        either (z ∷ zs) ys (inr at) = further (either zs ys at)
          where
            further : Among n zs ⊎ Among n ys → Among n (z ∷ zs) ⊎ Among n ys
            further (inl h) = inl (inr h)
            further (inr h) = inr h

        in_block : (k : ℕ) (bs : List Block) → Among n (flat_map block_names bs) → (j : ℕ) × (b : Block) × (slice_get bs j ≡ Some b) × Among n (block_names b)
        in_block k [] at = absurd at
        in_block k (b ∷ bs) at = by (either (block_names b) (flat_map block_names bs) at) (λ h. in_block k bs h)
          where
            by : Among n (block_names b) ⊎ Among n (flat_map block_names bs) → (Among n (flat_map block_names bs) → (j : ℕ) × (c : Block) × (slice_get bs j ≡ Some c) × Among n (block_names c)) → (j : ℕ) × (c : Block) × (slice_get (b ∷ bs) j ≡ Some c) × Among n (block_names c)
            by (inl h) rest = (0, b, refl, h)
            by (inr h) rest = (let r = rest h in (suc r.0, r.1, r.2, r.3))

        taken_block : (j : ℕ) (b : Block) → slice_get f.blocks j ≡ Some b → Among n (block_names b) → is_taken f n ≡ true
        taken_block j b at (inl e) = found_label (first_local f n) j ((finds.label n j).0 (b, at, sym e))
        taken_block j b at (inr h) = (let r = result_at b.instrs h in found_result (first_local f n) (j, r.0) ((finds.result n j r.0).0 (b, r.1, at, r.2, r.3)))

        taken : Among n (names f) → is_taken f n ≡ true
        taken at = by (either (param_names f) (flat_map block_names f.blocks) at)
          where
            by : Among n (param_names f) ⊎ Among n (flat_map block_names f.blocks) → is_taken f n ≡ true
            by (inl h) = found_param (first_local f n) ((finds.param n).0 h)
            by (inr h) = (let r = in_block 0 f.blocks h in taken_block r.0 r.1 r.2 r.3)

        pub names_apart : times n (names f) + times n (new_names unit f.blocks) ≤ 1
        names_apart = by (times n (new_names unit f.blocks)) refl (times n (names f)) refl
          where
            by : (k : ℕ) → times n (new_names unit f.blocks) ≡ k → (l : ℕ) → times n (names f) ≡ l → times n (names f) + times n (new_names unit f.blocks) ≤ 1
            by zero e l d = omega (arith, e, once)
            by (suc k) e zero d = omega (arith, d, new_once)
            by (suc k) e (suc l) d =
                let free = (new_free (omega (arith, e))).0 in
                let here = taken (standing n (names f) (omega (arith, d))) in
                absurd (cc (sym here ∙ free))
