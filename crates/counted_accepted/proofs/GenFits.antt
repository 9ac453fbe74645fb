-- The plan of a function fits it: names, counters and sites.
use Rattle.std.proofs.Common.{◌≡◌, ℕ, suc, ◌+◌, ◌≤◌, ◌<◌, ◌^◌, Bool, true, false, cond, ◌&&◌, ◌==◌, nat_le, List, [], length, Option, Some, None, refl, sym, ◌∙◌, ap, subst, arith}
use Rattle.std.proofs.lemmas.Bool.{and_from, le-leb, lt-ltb}
use Rattle.std.proofs.lemmas.Option.{slice_get_within}
use Rattle.cfg_edges.specs.Graph.{IsFlowGraph}
use Rattle.count_plan.specs.Counted.{watch_at}
use Rattle.count_plan.specs.Ways.{new_at}
use Rattle.count_plan.specs.declared.plan.BlockPlan.{BlockPlan}
use Rattle.count_plan.specs.declared.plan.Watch.{Watch}
use Rattle.count_plan.specs.declared.plan.Watch.TheVariants.{Nothing}
use Rattle.counted_accepted.proofs.FreshNames.{Name}
use Rattle.counted_accepted.proofs.GenNames.{first_made, names_apart, new_free, new_is, new_tag, place_of, plan_is, stands, unit, watch_is}
use Rattle.counted_rules.specs.PlanFits.{CounterFits, IsCounter, IsUnit, PlanFits, WatchFits, increment_signature, new_names, step_signature, value_signature}
use Rattle.gen_plan.specs.Gen.{number_of, record_name, select_watch, site_watch, watch_of}
use Rattle.gen_plan.specs.Placing.{at_head, at_tail, counter_of, enters, leaves}
use Rattle.ir_rules.specs.Finding.{FindsNames}
use Rattle.ir_rules.specs.Intrinsics.{is_counter_total, names_unit}
use Rattle.ir_rules.specs.Lists.{Among, times}
use Rattle.ir_rules.specs.Scopes.{names, signatures}
use Rattle.ir_tree.specs.Graphs.{FlowGraph, is_select, is_site}
use Rattle.ir_tree.specs.Locals.{locals}
use Rattle.ir_tree.specs.Operands.{listed}
use Rattle.ir_tree.specs.Phis.{phi_count}
use Rattle.ir_tree.specs.declared.edge.Edge.{Edge}
use Rattle.ir_tree.specs.declared.types.Function.{Function}
use Rattle.ir_tree.specs.declared.types.Instr.{Instr}
use Rattle.ir_tree.specs.declared.types.Module.{Module}
use Rattle.ir_tree.specs.declared.types.Operand.TheVariants.{Global}
use Rattle.spec_items.proofs.Made.{at_position}
use Rattle.spec_lists.specs.Each.{each, first_of}

-- what the module that counts has for a function
pub record Provides (m : Module) (f : Function) (g : FlowGraph) : Type 0 where
  pub known : names_unit m (Global (record_name f.name)) ≡ true
  pub increments : Among increment_signature (signatures m)
  pub values : Among value_signature (signatures m)
  pub steps : 1 ≤ length g.selects → Among step_signature (signatures m)

-- what is known of the function
pub record Counts (f : Function) (g : FlowGraph) (counted : List ℕ) (hash : ℕ) : Type 0 where
  pub few : suc (length (locals f)) < 2 ^ 64
  pub whole : IsFlowGraph g
  pub finds : FindsNames f
  pub once : (n : Name) → times n (names f) ≤ 1
  pub room : length counted + length g.selects ≤ 1048576
  pub sites : length g.sites ≤ 65536
  pub small : hash < 2 ^ 64

module _ (m : Module) (f : Function) (g : FlowGraph) (counted : List ℕ) (hash : ℕ) (has : Provides m f g) (known : Counts f g counted hash) where
  total : (c : ℕ) → c < length counted + length g.selects → is_counter_total (length counted + length g.selects) ≡ true
  unfolding is_counter_total
  total c h =
      let most = known.room in
      and_from (nat_le 1 (length counted + length g.selects)) (nat_le (length counted + length g.selects) 1048576) (le-leb 1 (length counted + length g.selects) (omega (arith, h))) (le-leb (length counted + length g.selects) 1048576 most)

  of_unit : IsUnit m (unit f g counted hash)
  of_unit = record { known = has.known; hash = lt-ltb hash (2 ^ 64) known.small }

  counter_fits : (c : ℕ) → c < length counted + length g.selects → IsCounter m (unit f g counted hash) c
  counter_fits c h = record { of_unit = of_unit; total = total c h; number = (let most = known.room in lt-ltb c (2 ^ 32) (omega (arith, h, most))) }

  rank_fits : (e c : ℕ) → counter_of counted e ≡ Some c → CounterFits m (unit f g counted hash) c
  rank_fits e c is =
      let r = at_position (λ (d : ℕ). d == e) counted c is in
      let w = slice_get_within counted c r.0 r.1 in
      (counter_fits c (omega (arith, w)), has.increments)

  first_fits : (test : Edge → Bool) (c : ℕ) → first_of (each (λ k e. cond (test e) (listed (counter_of counted k)) []) 0 g.edges) ≡ Some c → CounterFits m (unit f g counted hash) c
  first_fits test c e = (let r = first_made test (λ k. counter_of counted k) 0 g.edges c e in rank_fits (0 + r.0) c r.4)

  watch_fits : (j i : ℕ) (x : Instr) → WatchFits m (unit f g counted hash) (watch_of f g counted j i x)
  watch_fits j i x = by (is_select x) (is_site x) (number_of j i g.selects) refl (number_of j i g.sites) refl
    where
      by : (s t : Bool) (a : Option ℕ) → number_of j i g.selects ≡ a → (b : Option ℕ) → number_of j i g.sites ≡ b → WatchFits m (unit f g counted hash) (cond s (select_watch f (length counted) a) (cond t (site_watch f b) Nothing))
      by true t None e b d = tt
      by true t (Some q) e b d = (let w = slice_get_within g.selects q (j, i) (place_of j i q g.selects e) in (counter_fits (length counted + q) (omega (arith, w)), has.steps (omega (arith, w))))
      by false true a e None d = tt
      by false true a e (Some q) d = (let w = slice_get_within g.sites q (j, i) (place_of j i q g.sites d) in let most = known.sites in (of_unit, lt-ltb q 65536 (omega (arith, w, most)), has.values))
      by false false a e b d = tt

  pub plan_fits : PlanFits m (unit f g counted hash) f
  plan_fits = record {
    apart = λ n. names_apart f g counted hash known.few known.whole n known.finds (known.once n);
    named = λ n at. (new_free f g counted hash known.few known.whole n (stands n (new_names (unit f g counted hash) f.blocks) at)).1;
    head = λ j c b at e. first_fits (λ d. enters g j d && at_head g d) c (sym (ap (λ (q : BlockPlan). q.head) (plan_is f g counted hash j b at)) ∙ e);
    tail = λ j c b at e. first_fits (λ d. leaves j d && at_tail g d) c (sym (ap (λ (q : BlockPlan). q.tail) (plan_is f g counted hash j b at)) ∙ e);
    watch = λ j i b x at here. subst (λ (w : Watch). WatchFits m (unit f g counted hash) w) (sym (ap (λ (q : BlockPlan). watch_at q i) (plan_is f g counted hash j b at) ∙ watch_is f g counted hash j b i x here)) (watch_fits j (phi_count b.instrs + i) x);
    edge = λ j p c b to new at leads e h. (let is = sym (new_is f g counted hash j b p to leads) ∙ sym (ap (λ (q : BlockPlan). new_at q p) (plan_is f g counted hash j b at)) ∙ e in let r = (new_tag f g counted hash j p new is).1 c h in rank_fits r.0 c r.1);
  }
