-- All calls that name the unit of a function are of that function.
use Rattle.std.proofs.Common.{◌≡◌, ℕ, ◌≤◌, inl, inr, Bool, List, [], ◌∷◌, drop, map, Option, Some, None, refl, sym, ap, subst, ◌∙◌, arith}
use Rattle.std.specs.Prelude.{unwrap_or}
use Rattle.std.specs.List.{filter_map}
use Rattle.std.proofs.lemmas.Option.{none-some, same_Some}
use Rattle.gen_asks.specs.Asks.{IsAskedOf, IsWithin, counters_of, sites_of}
use Rattle.gen_lowered.proofs.Listed.{Name, among_filter, among_made, filter_among, first_among, first_some, made_among, map_among, only_one, same_is, same_self, times_append}
use Rattle.gen_plan.specs.Gen.{counted, gen_hash, record_name}
use Rattle.ir_rules.specs.Accepted.{IsAccepted}
use Rattle.ir_rules.specs.Lists.{Among, times}
use Rattle.ir_rules.specs.Scopes.{function_names, variables}
use Rattle.ir_tree.specs.declared.types.Function.{Function}
use Rattle.ir_tree.specs.declared.types.Module.{Module}
use Rattle.ir_tree.specs.declared.types.Operand.TheVariants.{Int}
use Rattle.lowering.specs.Asked.{Asked, Rise, Note, all_asked, hash_asked, symbol_asked}
use Rattle.lowering.specs.Units.{asked_of, counters_asked, counters_told, hash_told, is_asked_of, most, sites_asked, sites_told}

most_below : (ns : List ℕ) (bound : ℕ) → ((n : ℕ) → Among n ns → n ≤ bound) → most ns ≤ bound
most_below [] bound h = omega arith
most_below (k ∷ ks) bound h = (let here = h k (inl refl) in let rest = most_below ks bound (λ n at. h n (inr at)) in omega (arith, here, rest))

sites_within : (total sites : ℕ) (a : Asked) → IsWithin total sites a → sites_asked a ≤ sites
sites_within total sites (Rise symbol hash counters counter amount) h = omega arith
sites_within total sites (Note symbol hash target site) h = omega (arith, h)

counters_within : (total sites : ℕ) (a : Asked) (n : ℕ) → IsWithin total sites a → counters_asked a ≡ Some n → n ≡ total
counters_within total sites (Rise symbol hash counters counter amount) n h e = sym (same_Some counters n e) ∙ h.0
counters_within total sites (Note symbol hash target site) n h e = absurd (none-some n e)

module _ (entry_first : Bool) (m : Module) (accepted : IsAccepted m) (stand : (a : Asked) → Among a (all_asked (counted entry_first m)) → IsAskedOf entry_first m a) where
  abbrev asks : List Asked
  asks = all_asked (counted entry_first m)

  names_once : (n : Name) → times n (function_names m) ≤ 1
  names_once n = (let a = accepted.formed.distinct n in omega (arith, a, times_append n (variables m) (function_names m)))

  -- what a call asks of a function by the name of its unit
  pub record AsksOf (f : Function) (a : Asked) : Type 0 where
    pub hash : hash_asked a ≡ gen_hash entry_first f
    pub within : IsWithin (counters_of entry_first f) (sites_of f) a

  module _ (f : Function) (at : Among f m.functions) where
    pub owned : (a : Asked) → Among a asks → symbol_asked a ≡ record_name f.name → AsksOf f a
    owned a here is =
        let s = stand a here in
        let names : s.function.name ≡ f.name = ap (λ (n : Name). drop 8 n) (sym s.symbol ∙ is) in
        let one : s.function ≡ f = only_one (λ (g : Function). g.name) m.functions names_once s.function f s.stands at names in
        record { hash = s.hash ∙ ap (gen_hash entry_first) one; within = subst (λ (g : Function). IsWithin (counters_of entry_first g) (sites_of g) a) one s.within }

    asked_there : (a : Asked) → Among a (asked_of (record_name f.name) asks) → AsksOf f a
    asked_there a there = (let r = filter_among (is_asked_of (record_name f.name)) asks a there in owned a r.0 (sym (same_is (record_name f.name) (symbol_asked a) r.1)))

    -- what is told of the unit
    pub hash_is : (h : ℕ) → hash_told (record_name f.name) asks ≡ Some h → h ≡ gen_hash entry_first f
    hash_is h e =
        let a = map_among hash_asked (asked_of (record_name f.name) asks) h (first_among (map hash_asked (asked_of (record_name f.name) asks)) h e) in
        a.2 ∙ (asked_there a.0 a.1).hash

    pub counters_are : (n : ℕ) → counters_told (record_name f.name) asks ≡ Some n → n ≡ counters_of entry_first f
    counters_are n e =
        let a = among_made counters_asked (asked_of (record_name f.name) asks) n (first_among (filter_map counters_asked (asked_of (record_name f.name) asks)) n e) in
        counters_within (counters_of entry_first f) (sites_of f) a.0 n (asked_there a.0 a.1).within a.2

    pub counters_few : unwrap_or (counters_told (record_name f.name) asks) 0 ≤ counters_of entry_first f
    counters_few = by (counters_told (record_name f.name) asks) refl
      where
        by : (o : Option ℕ) → counters_told (record_name f.name) asks ≡ o → unwrap_or o 0 ≤ counters_of entry_first f
        by None e = omega arith
        by (Some n) e = (let is = counters_are n e in omega (arith, is))

    pub sites_few : sites_told (record_name f.name) asks ≤ sites_of f
    sites_few = most_below (map sites_asked (asked_of (record_name f.name) asks)) (sites_of f) (λ n there. one n (map_among sites_asked (asked_of (record_name f.name) asks) n there))
      where
        one : (n : ℕ) → (a : Asked) × Among a (asked_of (record_name f.name) asks) × (n ≡ sites_asked a) → n ≤ sites_of f
        one n a = (let s = sites_within (counters_of entry_first f) (sites_of f) a.0 (asked_there a.0 a.1).within in let e = a.2 in omega (arith, s, e))

    -- where an increment names the unit, its number of counters is told
    pub counters_stand : (c : ℕ) → Among (Rise (record_name f.name) (gen_hash entry_first f) (counters_of entry_first f) c (Int 1)) asks → (n : ℕ) × (counters_told (record_name f.name) asks ≡ Some n)
    counters_stand c here =
        let a : Asked = Rise (record_name f.name) (gen_hash entry_first f) (counters_of entry_first f) c (Int 1) in
        first_some (filter_map counters_asked (asked_of (record_name f.name) asks)) (counters_of entry_first f) (made_among counters_asked (asked_of (record_name f.name) asks) a (counters_of entry_first f) (among_filter (is_asked_of (record_name f.name)) asks a here (same_self (record_name f.name))) refl)
