-- The counter of some edge of a function stands somewhere in the function that counts.
use Rattle.std.proofs.Common.{◌≡◌, ℕ, zero, suc, ◌+◌, ◌<◌, ◌≤◌, ◌==◌, ◌⊎◌, inl, inr, Bool, true, false, ◌&&◌, not, cond, List, [], ◌∷◌, ◌++◌, drop, length, map, Option, Some, None, slice_get, refl, sym, ap, subst, ◌∙◌, arith, zero-add}
use Rattle.std.specs.List.{filter_map}
use Rattle.std.specs.Option.{option_map}
use Rattle.std.specs.Cmp.Lexicographic.{bytes_decides}
use Rattle.std.proofs.lemmas.Bool.{and_from, eq-eqb, eqb-true}
use Rattle.std.proofs.lemmas.Option.{none-some, same_Some}
use Rattle.cfg_edges.specs.Graph.{EdgesStand, IsBranch, IsExit, IsFlowGraph, LeavesBlock, NodesStand, Stands, successors_of}
use Rattle.count_plan.specs.Calls.{increment, increments}
use Rattle.count_plan.specs.Counted.{counted_block, counted_blocks, counted_from, counted_pieces, new_blocks, put_on, watch_at}
use Rattle.count_plan.specs.Calls.{watched}
use Rattle.count_plan.specs.Ways.{block_plan, new_at, no_block_plan, renamed_phi, renamings}
use Rattle.count_plan.specs.declared.plan.BlockPlan.{BlockPlan}
use Rattle.count_plan.specs.declared.plan.FunctionPlan.{FunctionPlan}
use Rattle.count_plan.specs.declared.plan.NewBlock.{NewBlock}
use Rattle.gen_asks.proofs.Asking.{increment_asks}
use Rattle.gen_asks.proofs.Listed.{among_at, among_flat, among_left, among_right, at_among, at_each, first_among, first_some, from_each, made_among}
use Rattle.gen_plan.specs.Gen.{gen_block, gen_with}
use Rattle.gen_plan.specs.Placing.{at_head, at_tail, counter_of, edge_block, enters, is_only_one, leaves, new_on, of_edges, on_edge, ways_from, ways_into}
use Rattle.ir_model.specs.Log.{is_at}
use Rattle.ir_rules.specs.Lists.{Among, times}
use Rattle.ir_tree.specs.Blocks.{block_place, block_with, labels}
use Rattle.ir_tree.specs.Edges.{entry_edge}
use Rattle.ir_tree.specs.Graphs.{FlowGraph, block_of}
use Rattle.ir_tree.specs.Names.{same}
use Rattle.ir_tree.specs.Operands.{listed}
use Rattle.ir_tree.specs.Phis.{behind_phis, leading_phis}
use Rattle.ir_tree.specs.Successors.{successors}
use Rattle.ir_tree.specs.declared.edge.Edge.{Edge}
use Rattle.ir_tree.specs.declared.types.Block.{Block}
use Rattle.ir_tree.specs.declared.types.Function.{Function}
use Rattle.ir_tree.specs.declared.types.Instr.{Instr}
use Rattle.ir_tree.specs.declared.types.Operand.TheVariants.{Int}
use Rattle.ir_tree.specs.declared.types.Term.TheVariants.{Br}
use Rattle.lowering.specs.Asked.{Asked, Rise, asked, asked_in}
use Rattle.spec_items.proofs.Items.{count_cons}
use Rattle.spec_items.proofs.Made.{at_most_one, at_position, counted_at, each_at}
use Rattle.spec_lists.specs.Each.{first_of}

-- ---- an increment in the function that counts

module _ (unit : FunctionPlan) (bs : List Block) where
  abbrev rise : ℕ → Asked
  rise c = Rise unit.symbol unit.hash unit.counters c (Int 1)

  in_increments : (o : Option ℕ) (c : ℕ) → o ≡ Some c → Among (increment unit c) (increments unit o)
  in_increments o c e = subst (λ (p : Option ℕ). Among (increment unit c) (increments unit p)) (sym e) (inl refl)

  -- in a block that is made
  risen : (q : Block) (c : ℕ) → Among q (counted_blocks unit bs) → Among (increment unit c) q.instrs → Among (rise c) (asked_in (counted_blocks unit bs))
  risen q c at here = among_flat (λ (b : Block). filter_map asked b.instrs) (counted_blocks unit bs) q (rise c) at (made_among asked q.instrs (increment unit c) (rise c) here (increment_asks unit c))

  at_last : (plan : BlockPlan) (i : ℕ) (xs : List Instr) (y : Instr) → Among y (increments unit plan.tail) → Among y (counted_from unit plan i xs)
  at_last plan i [] y at = at
  at_last plan i (x ∷ xs) y at = among_right (watched unit (watch_at plan i) x) (x ∷ counted_from unit plan (i + 1) xs) y (inr (at_last plan (i + 1) xs y at))

  module _ (j : ℕ) (b : Block) (at : slice_get bs j ≡ Some b) where
    abbrev plan : BlockPlan
    plan = block_plan unit.blocks j

    abbrev made : Block
    made = counted_block unit bs plan b

    made_here : Among made (counted_blocks unit bs)
    made_here = at_each (counted_pieces unit bs) bs j b made at (inl refl)

    put_in : (y : Instr) → Among y (increments unit plan.head ++ counted_from unit plan 0 (behind_phis b.instrs)) → Among y made.instrs
    put_in y h = among_right (map (renamed_phi (renamings unit.blocks bs b.label)) (leading_phis b.instrs)) (increments unit plan.head ++ counted_from unit plan 0 (behind_phis b.instrs)) y h

    pub at_head_risen : (c : ℕ) → plan.head ≡ Some c → Among (rise c) (asked_in (counted_blocks unit bs))
    at_head_risen c e = risen made c made_here (put_in (increment unit c) (among_left (increments unit plan.head) (counted_from unit plan 0 (behind_phis b.instrs)) (increment unit c) (in_increments plan.head c e)))

    pub at_tail_risen : (c : ℕ) → plan.tail ≡ Some c → Among (rise c) (asked_in (counted_blocks unit bs))
    at_tail_risen c e =
        risen made c made_here (put_in (increment unit c) (among_right (increments unit plan.head) (counted_from unit plan 0 (behind_phis b.instrs)) (increment unit c) (at_last plan 0 (behind_phis b.instrs) (increment unit c) (in_increments plan.tail c e))))

    pub on_way_risen : (p : ℕ) (to : List ℕ) (new : NewBlock) (c : ℕ) → slice_get (successors b.term) p ≡ Some to → new_at plan p ≡ Some new → new.counter ≡ Some c → Among (rise c) (asked_in (counted_blocks unit bs))
    on_way_risen p to new c leads e is =
        let q : Block = block_with new.label (increments unit new.counter) (Br to) in
        let put : Among q (put_on unit to (new_at plan p)) = subst (λ (o : Option NewBlock). Among q (put_on unit to o)) (sym e) (inl refl) in
        let there : Among q (new_blocks unit plan b) = at_each (λ p to. put_on unit to (new_at plan p)) (successors b.term) p to q leads put in
        risen q c (at_each (counted_pieces unit bs) bs j b q at (inr there)) (in_increments new.counter c is)

-- ---- what is made of an edge

made_some : {X : Type 0} (edges : List Edge) (test : Edge → Bool) (make : ℕ → Option X) (k : ℕ) (e : Edge) (x : X) → slice_get edges k ≡ Some e → test e ≡ true → make k ≡ Some x → (y : X) × (first_of (of_edges edges test (λ k. listed (make k))) ≡ Some y)
made_some {X} edges test make k e x at passes is =
    first_some (of_edges edges test (λ k. listed (make k))) x
    (at_each (λ k e. cond (test e) (listed (make k)) []) edges k e x at (subst (λ (b : Bool). Among x (cond b (listed (make k)) [])) (sym passes) (subst (λ (o : Option X). Among x (listed o)) (sym is) (inl refl))))

at_itself : (b : ℕ) (o : Option ℕ) → o ≡ Some b → is_at b o ≡ true
at_itself b o e = ap (is_at b) e ∙ eq-eqb b b refl

is_at_some : (b : ℕ) (o : Option ℕ) → is_at b o ≡ true → o ≡ Some b
is_at_some b None e = absurd (cc)
is_at_some b (Some x) e = ap Some (eqb-true x b e)

not_true : (b : Bool) → b ≡ false → not b ≡ true
not_true b e = ap not e

successors_at : (bs : List Block) (j : ℕ) (b : Block) → slice_get bs j ≡ Some b → successors_of bs j ≡ successors b.term
successors_at [] j b at = absurd (none-some b at)
successors_at (c ∷ cs) zero b at = ap (λ (d : Block). successors d.term) (same_Some c b at)
successors_at (c ∷ cs) (suc j) b at = successors_at cs j b at

block_there : (bs : List Block) (j : ℕ) → j < length bs → (b : Block) × (slice_get bs j ≡ Some b)
block_there [] j h = absurd (omega (arith, h))
block_there (c ∷ cs) zero h = (c, refl)
block_there (c ∷ cs) (suc j) h = block_there cs j (omega (arith, h))

same_self : (n : List ℕ) → same n n ≡ true
same_self n = (bytes_decides n n).1 refl

-- a label behind the first block is not the first one's
first_apart : (bs : List Block) (to : List ℕ) → ((n : List ℕ) → times n (labels bs) ≤ 1) → Among to (labels (drop 1 bs)) → block_place bs to ≡ Some 0 → ⊥
first_apart [] to once at place = at
first_apart (b ∷ bs) to once at place =
    let p = at_position (same to) (labels (b ∷ bs)) 0 place in
    let here : cond {A = ℕ} (same to b.label) 1 0 ≡ 1 = ap (λ (n : List ℕ). cond {A = ℕ} (same to n) 1 0) (same_Some b.label p.0 p.1) ∙ ap (λ (t : Bool). cond {A = ℕ} t 1 0) p.2 in
    let spot = among_at (labels bs) to at in
    let more = counted_at (same to) (labels bs) spot.0 to spot.1 (same_self to) in
    let all = once to in
    absurd (omega (arith, here, more, all, count_cons (same to) b.label (labels bs)))

-- what a graph of a function holds
pub record Graphed (f : Function) (g : FlowGraph) : Type 0 where
  pub whole : IsFlowGraph g
  pub edges : EdgesStand f g
  pub nodes : NodesStand f g

module _ (f : Function) (g : FlowGraph) (counted : List ℕ) (hash : ℕ) (graph : Graphed f g) (targets : (b : Block) → Among b f.blocks → (to : List ℕ) → Among to (successors b.term) → Among to (labels (drop 1 f.blocks))) (once : (n : List ℕ) → times n (labels f.blocks) ≤ 1) where
  abbrev unit : FunctionPlan
  unit = gen_with f g counted hash

  abbrev Risen : Type 0
  Risen = (c : ℕ) × Among (rise unit f.blocks c) (asked_in (counted_blocks unit f.blocks))

  plan_is : (j : ℕ) (b : Block) → slice_get f.blocks j ≡ Some b → block_plan unit.blocks j ≡ gen_block f g counted j b
  plan_is j b at = each_at (λ j b. gen_block f g counted j b) 0 f.blocks j b no_block_plan at ∙ ap (λ (k : ℕ). gen_block f g counted k b) (zero-add j)

  new_is : (j p : ℕ) (b : Block) (to : List ℕ) → slice_get f.blocks j ≡ Some b → slice_get (successors b.term) p ≡ Some to → new_at (block_plan unit.blocks j) p ≡ new_on f g counted j p
  new_is j p b to at leads =
      ap (λ (q : BlockPlan). new_at q p) (plan_is j b at) ∙ each_at (λ p to. new_on f g counted j p) 0 (successors b.term) p to None leads ∙ ap (new_on f g counted j) (zero-add p)

  -- ---- an edge with a counter

  module _ (k : ℕ) (e : Edge) (there : slice_get g.edges k ≡ Some e) (c : ℕ) (ranked : counter_of counted k ≡ Some c) where
    tail_risen : (j : ℕ) → e.block ≡ Some j → j < length f.blocks → at_tail g e ≡ true → Risen
    tail_risen j from within here =
        let b = block_there f.blocks j within in
        let r = made_some g.edges (λ d. leaves j d && at_tail g d) (λ i. counter_of counted i) k e c there (and_from (leaves j e) (at_tail g e) (at_itself j e.block from) here) ranked in
        (r.0, at_tail_risen unit f.blocks j b.0 b.1 r.0 (ap (λ (q : BlockPlan). q.tail) (plan_is j b.0 b.1) ∙ r.1))

    head_risen : (h : ℕ) → block_of g e.to ≡ Some h → at_head g e ≡ true → Risen
    head_risen h to here =
        let b = graph.nodes e.to h to in
        let r = made_some g.edges (λ d. enters g h d && at_head g d) (λ i. counter_of counted i) k e c there (and_from (enters g h e) (at_head g e) (at_itself h (block_of g e.to) to) here) ranked in
        (r.0, at_head_risen unit f.blocks h b.block b.at r.0 (ap (λ (q : BlockPlan). q.head) (plan_is h b.block b.at) ∙ r.1))

    way_risen : (j : ℕ) → e.block ≡ Some j → (to : List ℕ) → j < length f.blocks → slice_get (successors_of f.blocks j) e.position ≡ Some to → on_edge g e ≡ true → Risen
    way_risen j from to within leads here =
        let b = block_there f.blocks j within in
        let way : slice_get (successors b.0.term) e.position ≡ Some to = ap (λ (ss : List (List ℕ)). slice_get ss e.position) (sym (successors_at f.blocks j b.0 b.1)) ∙ leads in
        let passes = and_from (leaves j e) (e.position == e.position && on_edge g e) (at_itself j e.block from) (and_from (e.position == e.position) (on_edge g e) (eq-eqb e.position e.position refl) here) in
        let r = made_some g.edges (λ d. leaves j d && (d.position == e.position && on_edge g d)) (λ i. option_map (edge_block f i) (counter_of counted i)) k e (edge_block f k c) there passes (ap (option_map (edge_block f k)) ranked) in
        let has = counter_made (λ d. leaves j d && (d.position == e.position && on_edge g d)) r.0 r.1 in
        (has.0, on_way_risen unit f.blocks j b.0 b.1 e.position to r.0 has.0 way (new_is j e.position b.0 to b.1 way ∙ r.1) has.1)
      where
        counter_made : (test : Edge → Bool) (new : NewBlock) → first_of (of_edges g.edges test (λ i. listed (option_map (edge_block f i) (counter_of counted i)))) ≡ Some new → (d : ℕ) × (new.counter ≡ Some d)
        counter_made test new e = by (from_each (λ i d. cond (test d) (listed (option_map (edge_block f i) (counter_of counted i))) []) g.edges new (first_among (of_edges g.edges test (λ i. listed (option_map (edge_block f i) (counter_of counted i)))) new e))
          where
            one : (i : ℕ) (t : Bool) (o : Option ℕ) → Among new (cond t (listed (option_map (edge_block f i) o)) []) → (d : ℕ) × (new.counter ≡ Some d)
            one i true (Some d) (inl q) = (d, ap (λ (n : NewBlock). n.counter) q)
            one i true (Some d) (inr none) = absurd none
            one i true None h = absurd h
            one i false o h = absurd h

            by : (i : ℕ) × (d : Edge) × (slice_get g.edges i ≡ Some d) × Among new (cond (test d) (listed (option_map (edge_block f i) (counter_of counted i))) []) → (d : ℕ) × (new.counter ≡ Some d)
            by (i, d, at, h) = one i (test d) (counter_of counted i) h

    -- the exit of a block is its only way out
    exit_alone : (j : ℕ) → e.block ≡ Some j → IsExit f j e → at_tail g e ≡ true
    exit_alone j from exit =
        ap (is_only_one (ways_from g)) from
        ∙ eq-eqb (ways_from g j) 1 (let most = at_most_one (leaves j) g.edges k (λ i d at l. same_way i d at (is_at_some j d.block l)) in let least = counted_at (leaves j) g.edges k e there (at_itself j e.block from) in omega (arith, most, least))
      where
        position_zero : (d : Edge) → IsBranch f g j d ⊎ IsExit f j d → d.position ≡ 0
        position_zero d (inl branch) = absurd (none-some branch.to (ap (λ (ss : List (List ℕ)). slice_get ss d.position) (sym exit.last) ∙ branch.successor))
        position_zero d (inr out) = out.position

        stands_from : (i : ℕ) (d : Edge) → slice_get g.edges i ≡ Some d → d.block ≡ Some j → LeavesBlock f g j d
        stands_from i d at is = subst (λ (o : Option ℕ). Stands f g d o) is (graph.edges i d at)

        same_way : (i : ℕ) (d : Edge) → slice_get g.edges i ≡ Some d → d.block ≡ Some j → i ≡ k
        same_way i d at is = graph.whole.apart i k d e at there (is ∙ sym from) (position_zero d (stands_from i d at is).leads ∙ sym exit.position)

    -- an edge out of a block
    leaves_risen : (j : ℕ) → e.block ≡ Some j → LeavesBlock f g j e → Risen
    leaves_risen j from out = by (at_tail g e) refl (is_only_one (ways_into g) (block_of g e.to)) refl out.leads
      where
        headed : (o : Option ℕ) → block_of g e.to ≡ o → is_only_one (ways_into g) o ≡ true → at_head g e ≡ true → Risen
        headed None q h here = absurd (cc h)
        headed (Some h) q one here = head_risen h q here

        by : (a : Bool) → at_tail g e ≡ a → (b : Bool) → is_only_one (ways_into g) (block_of g e.to) ≡ b → IsBranch f g j e ⊎ IsExit f j e → Risen
        by true a b d leads = tail_risen j from out.within a
        by false a true d leads = headed (block_of g e.to) refl d (and_from (not (at_tail g e)) (is_only_one (ways_into g) (block_of g e.to)) (not_true (at_tail g e) a) d)
        by false a false d (inl branch) =
            way_risen j from branch.to out.within branch.successor (and_from (not (at_tail g e)) (not (at_head g e)) (not_true (at_tail g e) a) (not_true (at_head g e) (head_off a d)))
          where
            head_off : at_tail g e ≡ false → is_only_one (ways_into g) (block_of g e.to) ≡ false → at_head g e ≡ false
            head_off a d = λ i. not (a i) && d i
        by false a false d (inr exit) = absurd (cc (sym (exit_alone j from exit) ∙ a))

    -- ---- the edge into the entry

    -- no other edge leads to the first block
    entry_alone : e ≡ entry_edge → (i : ℕ) (d : Edge) → slice_get g.edges i ≡ Some d → block_of g d.to ≡ Some 0 → i ≡ k
    entry_alone is i d at to = by d.block refl (graph.edges i d at)
      where
        out_of : (j : ℕ) → LeavesBlock f g j d → IsBranch f g j d ⊎ IsExit f j d → ⊥
        out_of j out (inl branch) =
            let b = block_there f.blocks j out.within in
            let way : slice_get (successors b.0.term) d.position ≡ Some branch.to = ap (λ (ss : List (List ℕ)). slice_get ss d.position) (sym (successors_at f.blocks j b.0 b.1)) ∙ branch.successor in
            first_apart f.blocks branch.to once (targets b.0 (at_among f.blocks j b.0 b.1) branch.to (at_among (successors b.0.term) d.position branch.to way)) (sym branch.target ∙ to)
        out_of j out (inr exit) = none-some 0 (ap (block_of g) (sym exit.outside) ∙ to)

        by : (o : Option ℕ) → d.block ≡ o → Stands f g d o → i ≡ k
        by None q s = graph.whole.apart i k d e at there (ap (λ (x : Edge). x.block) (s ∙ sym is)) (ap (λ (x : Edge). x.position) (s ∙ sym is))
        by (Some j) q out = absurd (out_of j out out.leads)

    entry_risen : e ≡ entry_edge → Risen
    entry_risen is =
        let to : block_of g e.to ≡ Some 0 = ap (λ (x : Edge). block_of g x.to) is ∙ graph.whole.entry in
        let most = at_most_one (enters g 0) g.edges k (λ i d at l. entry_alone is i d at (is_at_some 0 (block_of g d.to) l)) in
        let least = counted_at (enters g 0) g.edges k e there (at_itself 0 (block_of g e.to) to) in
        let only : is_only_one (ways_into g) (block_of g e.to) ≡ true = ap (is_only_one (ways_into g)) to ∙ eq-eqb (ways_into g 0) 1 (omega (arith, most, least)) in
        let no_tail : at_tail g e ≡ false = ap (λ (x : Edge). is_only_one (ways_from g) x.block) is in
        head_risen 0 to (and_from (not (at_tail g e)) (is_only_one (ways_into g) (block_of g e.to)) (not_true (at_tail g e) no_tail) only)

    pub some_risen : Risen
    some_risen = by e.block refl (graph.edges k e there)
      where
        by : (o : Option ℕ) → e.block ≡ o → Stands f g e o → Risen
        by None q s = entry_risen s
        by (Some j) q out = leaves_risen j q out
