-- The plan fits a function that has a graph, and a declared one, at four steps for one and one more.
use Rattle.count_likeness.specs.Image.{Image}
use Rattle.std.proofs.Common.{◌≡◌, ℕ, suc, ◌+◌, ◌≤◌, ◌<◌, ◌^◌, Bool, true, false, cond, List, [], ◌∷◌, ◌++◌, length, flat_map, count_by, Option, Some, None, slice_get, refl, sym, ◌∙◌, ap, subst, arith, zero-add}
use Rattle.std.specs.Option.{option_map}
use Rattle.std.proofs.lemmas.Option.{none-some}
use Rattle.spec_lists.specs.Each.{each}
use Rattle.spec_items.proofs.Made.{each_at, get_behind}
use Rattle.count_plan.specs.Calls.{condition_of as select_condition, condition_watched, target_of, target_watched, watched}
use Rattle.count_plan.specs.Counted.{watch_at}
use Rattle.count_plan.specs.Ways.{block_plan, new_at, no_block_plan}
use Rattle.count_plan.specs.declared.plan.BlockPlan.{BlockPlan}
use Rattle.count_plan.specs.declared.plan.FunctionPlan.{FunctionPlan}
use Rattle.count_plan.specs.declared.plan.NewBlock.{NewBlock}
use Rattle.count_plan.specs.declared.plan.Watch.{Watch}
use Rattle.count_plan.specs.declared.plan.Watch.TheVariants.{Nothing, Condition, Target}
use Rattle.count_likeness.specs.Fits.{BlockFits, FunctionFits, InstrFits, WayFits, counter_of as watch_counter, counters_in, label_of, new_labels, site_of as watch_site, steps_in}
use Rattle.count_likeness.specs.Formed.{IsFormed}
use Rattle.gen_plan.specs.Gen.{counted_edges, gen_block, gen_function, gen_hash, gen_with, number_of, select_watch, site_watch, watch_of}
use Rattle.gen_plan.specs.GenImage.{condition_of, counter_at, edge_of, entry_of, gen_image, name_of, number_at, number_in, site_of, way_of, way_counter}
use Rattle.gen_plan.specs.Placing.{head_counter, new_on, tail_counter}
use Rattle.gen_plan.proofs.Edges.{Graphed, edge_is, label_at, way_cost, way_counters}
use Rattle.gen_plan.proofs.Ends.{LeadsOn, entry_counter, exit_counter, exit_edge, leads_on, own_place}
use Rattle.gen_plan.proofs.Named.{labels_apart, registers_old}
use Rattle.ir_model.specs.Values.{functions_of}
use Rattle.ir_tree.specs.Blocks.{block_place, labels}
use Rattle.ir_tree.specs.Edges.{rows}
use Rattle.ir_tree.specs.Functions.{function_at}
use Rattle.ir_tree.specs.Graphs.{FlowGraph, graph_of, is_select, is_site}
use Rattle.ir_tree.specs.Locals.{locals}
use Rattle.ir_tree.specs.Names.{same}
use Rattle.ir_tree.specs.Operands.{listed}
use Rattle.ir_tree.specs.Phis.{behind_phis, phi_count}
use Rattle.ir_tree.specs.Reach.{IsReachable, is_marked}
use Rattle.ir_tree.specs.Successors.{successors}
use Rattle.ir_tree.specs.declared.types.Block.{Block}
use Rattle.ir_tree.specs.declared.types.Function.{Function}
use Rattle.ir_tree.specs.declared.types.Instr.{Instr}
use Rattle.ir_tree.specs.declared.types.Instr.TheVariants.{Select}
use Rattle.ir_tree.specs.declared.types.Module.{Module}
use Rattle.ir_tree.specs.declared.types.Operand.{Operand}

at_most_one : (o : Option ℕ) → length (listed o) ≤ 1
at_most_one None = omega arith
at_most_one (Some c) = omega arith

-- two instructions at most stand before one
few_watched : (unit : FunctionPlan) (w : Watch) (x : Instr) → length (watched unit w x) ≤ 2
few_watched unit Nothing x = omega arith
few_watched unit (Condition register counter) x = by (select_condition x)
  where
    by : (o : Option Operand) → length (condition_watched unit register counter o) ≤ 2
    by None = omega arith
    by (Some c) = omega arith
few_watched unit (Target register site) x = by (target_of x)
  where
    by : (o : Option Operand) → length (target_watched unit register site o) ≤ 2
    by None = omega arith
    by (Some c) = omega arith

no_select : (x : Instr) → is_site x ≡ true → is_select x ≡ false
no_select (Select into c ty first second prof) e = absurd (cc)
no_select x e = refl

module _ (entry_first : Bool) (m : Module) (k : ℕ) (f : Function) (found : function_at m k ≡ Some f) (formed : IsFormed f) (few : suc (length (locals f)) < 2 ^ 64) (few_functions : functions_of m < 2 ^ 60) where
  abbrev g : FlowGraph
  g = graph_of f

  abbrev counted : List ℕ
  counted = counted_edges entry_first f

  abbrev unit : FunctionPlan
  unit = gen_with f g counted (gen_hash entry_first f)

  abbrev image : Image
  image = gen_image entry_first m

  module _ (graph : Graphed f (graph_of f)) where
    plan_is : (j : ℕ) (b : Block) → slice_get f.blocks j ≡ Some b → block_plan unit.blocks j ≡ gen_block f g counted j b
    plan_is j b at = each_at (gen_block f g counted) 0 f.blocks j b no_block_plan at ∙ ap (λ i. gen_block f g counted i b) (zero-add j)

    abbrev reached : ℕ → Bool
    reached = is_marked graph.relation.marks

    module _ (j : ℕ) (b : Block) (at : slice_get f.blocks j ≡ Some b) (reachable : IsReachable (rows f.blocks) j) where
      abbrev plan : BlockPlan
      plan = gen_block f g counted j b

      place_is : block_place f.blocks b.label ≡ Some j
      place_is = own_place f g graph j b at reachable

      -- ---- instructions

      module _ (i : ℕ) (x : Instr) (here : slice_get (behind_phis b.instrs) i ≡ Some x) where
        item : slice_get b.instrs (phi_count b.instrs + i) ≡ Some x
        item = sym (get_behind (phi_count b.instrs) b.instrs i) ∙ here

        watch_is : watch_at plan i ≡ watch_of f g counted j (phi_count b.instrs + i) x
        watch_is = each_at (λ i x. watch_of f g counted j (phi_count b.instrs + i) x) 0 (behind_phis b.instrs) i x Nothing here ∙ ap (λ n. watch_of f g counted j (phi_count b.instrs + n) x) (zero-add i)

        number_is : (places : List (ℕ × ℕ)) → number_at places f i (block_place f.blocks b.label) ≡ number_of j (phi_count b.instrs + i) places
        number_is places = ap (number_at places f i) place_is ∙ ap (number_in places j i) at

        of_select : (o : Option ℕ) → option_map (λ n. length counted + n) o ≡ watch_counter (select_watch f (length counted) o)
        of_select None = refl
        of_select (Some n) = refl

        of_site : (o : Option ℕ) → o ≡ watch_site (site_watch f o)
        of_site None = refl
        of_site (Some n) = refl

        fits_instr : InstrFits (functions_of m) k unit image 4 plan b.label i x
        fits_instr = record {
          reads = λ n t r h. registers_old f few g counted (gen_hash entry_first f) r (formed.known j (phi_count b.instrs + i) n b x t r at item h);
          condition = λ h.
              ap (λ o. condition_of entry_first o b.label i) found
              ∙ ap (option_map (λ n. length counted + n)) (number_is g.selects)
              ∙ of_select (number_of j (phi_count b.instrs + i) g.selects)
              ∙ sym (ap watch_counter (watch_is ∙ ap (λ s. cond s (select_watch f (length counted) (number_of j (phi_count b.instrs + i) g.selects)) (cond (is_site x) (site_watch f (number_of j (phi_count b.instrs + i) g.sites)) Nothing)) h));
          site = λ h.
              ap (λ o. site_of o b.label i) found
              ∙ number_is g.sites
              ∙ of_site (number_of j (phi_count b.instrs + i) g.sites)
              ∙ sym (ap watch_site (watch_is ∙ (λ n. cond (no_select x h n) (select_watch f (length counted) (number_of j (phi_count b.instrs + i) g.selects)) (cond (h n) (site_watch f (number_of j (phi_count b.instrs + i) g.sites)) Nothing))));
          few = λ h s. few_functions;
          cost = (let w = few_watched unit (watch_at plan i) x in omega (arith, w));
        }

      -- ---- ways out

      way_is : (p : ℕ) → image.way k b.label p ≡ listed (counter_at counted (edge_of g j p))
      way_is p = ap (λ o. listed (way_of entry_first o b.label p)) found ∙ ap (λ o. listed (way_counter entry_first f o p)) place_is

      module _ (p : ℕ) (to : List ℕ) (leads : slice_get (successors b.term) p ≡ Some to) where
        next : LeadsOn f g graph j p to
        next = leads_on f g graph j b at reachable p to leads

        new_is : new_at plan p ≡ new_on f g counted j p
        new_is = each_at (λ p to. new_on f g counted j p) 0 (successors b.term) p to None leads ∙ ap (new_on f g counted j) (zero-add p)

        fits_way : WayFits k unit image 4 f reached plan b p to
        fits_way =
            let t = next.target in
            let w = next.way in
            let c = label_at f.blocks to t next.place in
            let head_is : (block_plan unit.blocks t).head ≡ head_counter g counted t = ap (λ (q : BlockPlan). q.head) (plan_is t c.0 c.1) in
            record {
              number = t;
              block = c.0;
              at = c.1;
              named = c.2;
              goes_on = graph.relation.marked.complete t next.reachable;
              counters = way_is p
                  ∙ ap (λ o. listed (counter_at counted o)) (edge_is f g counted j t w.number w.edge w.at w.from next.head graph.whole.apart p w.position)
                  ∙ way_counters f g counted j t w.number w.edge w.at w.from next.head graph.whole.apart p w.position
                  ∙ (λ i. listed (tail_counter g counted j) ++ (counters_in (sym new_is i) ++ listed (sym head_is i)));
              cost = subst (λ (h : Option ℕ). suc (length (listed (tail_counter g counted j)) + (steps_in (new_at plan p) + length (listed h))) ≤ 4) (sym head_is)
                  (subst (λ (o : Option NewBlock). suc (length (listed (tail_counter g counted j)) + (steps_in o + length (listed (head_counter g counted t)))) ≤ 4) (sym new_is)
                  (way_cost f g counted j t w.number w.edge w.at w.from next.head graph.whole.apart p w.position));
            }

      fits_gen_block : BlockFits (functions_of m) k unit image 4 f reached plan b
      fits_gen_block = record {
        instr = fits_instr;
        phi_reads = λ i x e n t r h. registers_old f few g counted (gen_hash entry_first f) r (formed.known j i n b x t r at e h);
        entries = λ i x es e h. formed.entries j i b x es at e h;
        term_reads = λ t r h. registers_old f few g counted (gen_hash entry_first f) r (formed.known_at_exit j b t r at h);
        ways = fits_way;
        exit = λ nowhere. way_is 0
            ∙ ap (λ o. listed (counter_at counted o)) (exit_edge f g graph j b at reachable counted nowhere)
            ∙ ap listed (sym (exit_counter f g graph j b at reachable counted nowhere));
        exit_cost = (let o = at_most_one (tail_counter g counted j) in omega (arith, o));
      }

    pub fits_defined : FunctionFits (functions_of m) k (gen_function entry_first f) (gen_image entry_first m) 4 1 f
    fits_defined = record {
      reached = reached;
      entry = graph.relation.marked.complete 0 ([], refl);
      named = ap name_of found;
      distinct = λ l. labels_apart f few g counted (gen_hash entry_first f) graph.whole l (formed.distinct l);
      block = λ j b at h. subst (λ (q : BlockPlan). BlockFits (functions_of m) k unit image 4 f reached q b) (sym (plan_is j b at)) (fits_gen_block j b at (graph.relation.marked.sound j h));
      enters = λ b at.
          ap (λ o. listed (entry_of entry_first o)) found
          ∙ ap listed (sym (entry_counter f g graph formed counted))
          ∙ ap (λ (q : BlockPlan). listed q.head) (sym (plan_is 0 b at));
      start = at_most_one (block_plan unit.blocks 0).head;
    }

  -- a declared function has no blocks
  pub fits_declared : f.blocks ≡ [] → FunctionFits (functions_of m) k (gen_function entry_first f) (gen_image entry_first m) 4 1 f
  fits_declared none = record {
    reached = λ j. true;
    entry = refl;
    named = ap name_of found;
    distinct = λ l. (let e : count_by (same l) (labels f.blocks) ≡ 0 = ap (λ bs. count_by (same l) (labels bs)) none in
        let n : count_by (same l) (new_labels unit) ≡ 0 = ap (λ bs. count_by (same l) (flat_map (λ (q : BlockPlan). flat_map label_of q.edges) (each (λ b block. gen_block f g counted b block ∷ []) 0 bs))) none in
        omega (arith, e, n));
    block = λ j b at h. absurd (none-some b (ap (λ bs. slice_get bs j) (sym none) ∙ at));
    enters = λ b at. absurd (none-some b (ap (λ bs. slice_get bs 0) (sym none) ∙ at));
    start = at_most_one (block_plan unit.blocks 0).head;
  }
