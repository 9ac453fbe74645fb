-- The laws for a plain module.
use Rattle.std.proofs.Common.{◌≡◌, ℕ, suc, inl, inr, Bool, true, false, List, Some, slice_get, refl, sym, ap, subst, arith}
use Rattle.std.proofs.lemmas.List.{set-set}
use Rattle.counted_rules.specs.Grown.{FunctionsGrowLittle, ReorderedAreAsLarge}
use Rattle.counted_rules.specs.Kept.{DeclaredStayFormed, FunctionsStayFormed, IsReordered, ReorderedStayFormed}
use Rattle.counted_rules.specs.PlainNames.{NamesArePlain}
use Rattle.counted_rules.specs.Within.{IsWithin, LimitsAreKept}
use Rattle.edge_split.specs.Split.{split, split_before, split_plan, with_function}
use Rattle.ir_rules.specs.Limits.{has_result}
use Rattle.ir_rules.specs.WellFormed.{FunctionFormed}
use Rattle.ir_rules.specs.declared.place.Kind.{Kind}
use Rattle.ir_rules.specs.declared.place.Kind.TheVariants.{Plain}
use Rattle.ir_tree.specs.Functions.{is_declared}
use Rattle.ir_tree.specs.Graphs.{is_select, is_site}
use Rattle.ir_tree.specs.declared.types.Block.{Block}
use Rattle.ir_tree.specs.declared.types.Function.{Function}
use Rattle.ir_tree.specs.declared.types.Module.{Module}
use Rattle.split_accepted.proofs.Lists.{get_among, set_there}
use Rattle.split_accepted.proofs.Replaced.{GrowsBy, plain_formed, still_within, takes}
use Rattle.split_accepted.proofs.SplitFits.{grows_by_one, split_fits, split_moved}
use Rattle.split_accepted.specs.Accepted.{HasRoom, IsFreeLabel, IsPlainAccepted, IsPlainFormed, IsSplit, ReorderedIsAccepted, ReorderedIsFormed}

-- accepted, where it is well formed and plain and each quantity is within the limit of its kind
module _ (limits : LimitsAreKept) where
  pub accepted_within : (m : Module) → IsPlainAccepted m → IsWithin Plain m
  accepted_within m h = subst (λ (kind : Kind). IsWithin kind m) h.plain ((limits m).0 h.accepted.within)

  pub within_accepted : (m : Module) → IsPlainFormed m → IsWithin Plain m → IsPlainAccepted m
  within_accepted m h within = record {
    accepted = record { within = (limits m).1 (subst (λ (kind : Kind). IsWithin kind m) (sym h.plain) within); formed = h.formed };
    plain = h.plain;
  }

pub formed_of : (m : Module) → IsPlainAccepted m → IsPlainFormed m
formed_of m h = record { formed = h.accepted.formed; plain = h.plain }

module _ (plain_names : NamesArePlain) (others : ReorderedStayFormed) (m : Module) (j : ℕ) (f : Function) (at : slice_get m.functions j ≡ Some f) where
  -- ---- blocks in another order

  module _ (blocks : List Block) (is : IsReordered f.blocks blocks) (large : ReorderedAreAsLarge) where
    pub moved_formed : IsPlainFormed m → IsPlainFormed (with_function m j (record f { blocks = blocks }))
    moved_formed h =
        let declared = (large f blocks is).declared in
        plain_formed m h.formed h.plain (plain_names m h.formed h.plain) j f at blocks declared others
        (others m (with_function m j (record f { blocks = blocks })) f blocks (takes m h.formed h.plain (plain_names m h.formed h.plain) j f at blocks declared) (get_among m.functions j f at) (h.formed.function f (get_among m.functions j f at)) is)

    grows_by_none : GrowsBy 0 f (record f { blocks = blocks })
    grows_by_none =
        let same = large f blocks is in
        record {
          edges = (let e = same.edges in omega (arith, e));
          results = (let e = same.total has_result in omega (arith, e));
          selects = (let e = same.total is_select in omega (arith, e));
          sites = (let e = same.total is_site in omega (arith, e));
          arrays = same.arrays;
        }

    pub moved_accepted : LimitsAreKept → IsPlainAccepted m → IsPlainAccepted (with_function m j (record f { blocks = blocks }))
    moved_accepted limits h =
        let within = accepted_within limits m h in
        let edges = within.edges f (get_among m.functions j f at) in
        let few = within.counted in
        within_accepted limits (with_function m j (record f { blocks = blocks })) (moved_formed (formed_of m h)) (
        still_within m h.accepted.formed h.plain (plain_names m h.accepted.formed h.plain) j f at blocks (large f blocks is).declared within 0 grows_by_none (omega (arith, edges)) (omega (arith, few)))

  -- ---- an edge that is split

  module _ (a p : ℕ) (new : List ℕ) (free : IsFreeLabel new f) (grow : FunctionsGrowLittle) where
    abbrev made : Function
    made = split a p new f

    abbrev m2 : Module
    m2 = with_function m j made

    still : is_declared made ≡ is_declared f
    still = (grow (split_plan a p new) f).declared

    split_formed : FunctionsStayFormed → DeclaredStayFormed → IsPlainFormed m → IsPlainFormed m2
    split_formed fitting declared h = plain_formed m h.formed h.plain (plain_names m h.formed h.plain) j f at made.blocks still others (by (is_declared f) refl)
      where
        was : FunctionFormed m f
        was = h.formed.function f (get_among m.functions j f at)

        by : (d : Bool) → is_declared f ≡ d → FunctionFormed m2 made
        by true e = declared m m2 (split_plan a p new) f (takes m h.formed h.plain (plain_names m h.formed h.plain) j f at made.blocks still) (get_among m.functions j f at) was e
        by false e = fitting m m2 (split_plan a p new) f (takes m h.formed h.plain (plain_names m h.formed h.plain) j f at made.blocks still) (get_among m.functions j f at) was (split_fits a p new m2 f free (was.distinct e))

    split_accepted : FunctionsStayFormed → DeclaredStayFormed → LimitsAreKept → HasRoom m f → IsPlainAccepted m → IsPlainAccepted m2
    split_accepted fitting declared limits room h =
        let edges = room.edges in
        let counters = room.counters in
        within_accepted limits m2 (split_formed fitting declared (formed_of m h)) (
        still_within m h.accepted.formed h.plain (plain_names m h.accepted.formed h.plain) j f at made.blocks still (accepted_within limits m h) 1 (grows_by_one a p new f (grow (split_plan a p new) f)) (omega (arith, edges)) (omega (arith, counters)))

    -- the same with the new block at another place
    abbrev placed : ℕ → Function
    placed place = split_before (suc place) a p new f

    twice : (place : ℕ) → with_function m2 j (placed place) ≡ with_function m j (placed place)
    twice place = ap (λ (fs : List Function). record m { functions = fs }) (set-set m.functions j made (placed place))

    either_way : (P : Module → Type 0) (other : Function) → IsSplit a p new f other → P m2 → ((place : ℕ) → P m2 → P (with_function m2 j (placed place))) → P (with_function m j other)
    either_way P other (inl e) first move = subst (λ (g : Function). P (with_function m j g)) (sym e) first
    either_way P other (inr (place, e)) first move = subst (λ (g : Function). P (with_function m j g)) (sym e) (subst P (twice place) (move place first))

    there : slice_get m2.functions j ≡ Some made
    there = set_there m.functions j f made at

    pub any_formed : FunctionsStayFormed → DeclaredStayFormed → ReorderedIsFormed → IsPlainFormed m → (other : Function) → IsSplit a p new f other → IsPlainFormed (with_function m j other)
    any_formed fitting declared reordered h other is =
        either_way IsPlainFormed other is (split_formed fitting declared h) (λ place k. reordered m2 j made (placed place).blocks k there (split_moved a p new f place))

    pub any_accepted : FunctionsStayFormed → DeclaredStayFormed → LimitsAreKept → ReorderedIsAccepted → HasRoom m f → IsPlainAccepted m → (other : Function) → IsSplit a p new f other → IsPlainAccepted (with_function m j other)
    any_accepted fitting declared limits reordered room h other is =
        either_way IsPlainAccepted other is (split_accepted fitting declared limits room h) (λ place k. reordered m2 j made (placed place).blocks k there (split_moved a p new f place))
