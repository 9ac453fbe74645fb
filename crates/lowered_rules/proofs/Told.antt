-- What the calls of a module tell of the units that they name, where lowering refuses none.
use Rattle.std.proofs.Common.{◌≡◌, ℕ, suc, ◌<◌, ◌≤◌, ◌==◌, inl, inr, Bool, true, false, cond, nat_le, nat_lt, List, [], ◌∷◌, ◌++◌, map, filter, Option, Some, None, refl, sym, ap, subst, ◌∙◌, arith}
use Rattle.std.specs.Prelude.{unwrap_or}
use Rattle.std.specs.List.{filter_map, list_any}
use Rattle.std.proofs.lemmas.Bool.{and_from, and_parts, eqb-true, leb-true, ltb-true}
use Rattle.std.proofs.lemmas.Option.{none-some, same_Some}
use Rattle.ir_rules.specs.Intrinsics.{is_counter_total, names_unit}
use Rattle.ir_rules.specs.Kinds.{is_unit_name, kind_of}
use Rattle.ir_rules.specs.Lists.{Among, is_among}
use Rattle.ir_rules.specs.Scopes.{variables}
use Rattle.ir_rules.specs.WellFormed.{IsWellFormed}
use Rattle.ir_rules.specs.declared.place.Kind.TheVariants.{Counted}
use Rattle.ir_tree.specs.Names.{same}
use Rattle.ir_tree.specs.Types.{is_integer_of}
use Rattle.ir_tree.specs.declared.types.Block.{Block}
use Rattle.ir_tree.specs.declared.types.Function.{Function}
use Rattle.ir_tree.specs.declared.types.Global1.{Global1}
use Rattle.ir_tree.specs.declared.types.Instr.{Instr}
use Rattle.ir_tree.specs.declared.types.Module.{Module}
use Rattle.ir_tree.specs.declared.types.Operand.TheVariants.{Global}
use Rattle.ir_tree.specs.declared.types.Ty.TheVariants.{I32, I64}
use Rattle.lowered_rules.proofs.Listed.{Name, among_flat, among_filter, among_is, among_made, among_map, any_of, filter_among, flat_among, made_among, made_none, map_among, nil_left, nil_right, same_is, same_self, some_of}
use Rattle.lowered_rules.proofs.Turned.{Notes, Rises, Stays, Turn, turn}
use Rattle.lowered_rules.specs.Kept.{IsLowerable, IsTold}
use Rattle.lowered_rules.specs.Small.{IsSmallAsk}
use Rattle.lowering.specs.Asked.{Asked, Rise, Note, all_asked, asked, asked_in, hash_asked, symbol_asked}
use Rattle.lowering.specs.Refusals.{CountDiffers, HashDiffers, IndexPast, Refusal, differs, failed, failed_by, failed_counts, name_of_unit, noted_alone, without_counters}
use Rattle.lowering.specs.Units.{asked_of, counters_asked, counters_told, hash_told, is_asked_of, most, names_used, new_globals, sites_asked, sites_told, unit_globals}
use Rattle.spec_lists.specs.Each.{first_of}

-- ---- lists

first_none : {X : Type 0} (xs : List X) → first_of xs ≡ None → xs ≡ []
first_none [] e = refl
first_none (x ∷ xs) e = absurd (none-some x (sym e))

first_among : {X : Type 0} (xs : List X) (x : X) → first_of xs ≡ Some x → Among x xs
first_among [] x e = absurd (none-some x e)
first_among (y ∷ ys) x e = inl (sym (same_Some y x e))

-- where an item stands there is a first one
first_some : {X : Type 0} (xs : List X) (x : X) → Among x xs → (y : X) × (first_of xs ≡ Some y)
first_some [] x at = absurd at
first_some (y ∷ ys) x at = (y, refl)

below_most : (ns : List ℕ) (n : ℕ) → Among n ns → n ≤ most ns
below_most [] n at = absurd at
below_most (k ∷ ks) n (inl e) = omega (arith, e)
below_most (k ∷ ks) n (inr at) = (let rest = below_most ks n at in omega (arith, rest))

most_below : (ns : List ℕ) (bound : ℕ) → ((n : ℕ) → Among n ns → n ≤ bound) → most ns ≤ bound
most_below [] bound h = omega arith
most_below (k ∷ ks) bound h = (let here = h k (inl refl) in let rest = most_below ks bound (λ n at. h n (inr at)) in omega (arith, here, rest))

-- ---- what each call tells fits

abbrev pub Fitting : Module → Asked → Type 0
Fitting m (Rise symbol hash counters counter amount) = (names_unit m (Global symbol) ≡ true) × (is_integer_of I64 hash ≡ true) × (is_counter_total counters ≡ true) × (is_integer_of I32 counter ≡ true)
Fitting m (Note symbol hash target site) = (names_unit m (Global symbol) ≡ true) × (is_integer_of I64 hash ≡ true) × (nat_lt site 65536 ≡ true)

module _ (m : Module) (formed : IsWellFormed m) (counted : kind_of m.functions ≡ Counted) where
  turn_fits : (f : Function) (x : Instr) (a : Asked) → Turn m formed counted f x → asked x ≡ Some a → Fitting m a
  turn_fits f x a (Stays none off) e = absurd (none-some a (sym none ∙ e))
  turn_fits f x a (Rises symbol hash counters counter amount r) e =
      subst (λ (b : Asked). Fitting m b) (same_Some (Rise symbol hash counters counter amount) a (sym r.asks ∙ e)) (r.unit, r.hash_small, r.total, r.counter_small)
  turn_fits f x a (Notes symbol hash target site r) e =
      subst (λ (b : Asked). Fitting m b) (same_Some (Note symbol hash target site) a (sym r.asks ∙ e)) (r.unit, r.hash_small, r.few)

  pub asks_fit : (a : Asked) → Among a (all_asked m) → Fitting m a
  asks_fit a at =
      let f = flat_among (λ (f : Function). asked_in f.blocks) m.functions a at in
      let b = flat_among (λ (b : Block). filter_map asked b.instrs) f.0.blocks a f.2 in
      let x = among_made asked b.0.instrs a b.2 in
      turn_fits f.0 x.0 a (turn m formed counted f.0 x.0 (((formed.function f.0 f.1).block b.0 b.1).item x.0 x.1)) x.2

total_within : (n : ℕ) → is_counter_total n ≡ true → n ≤ 1048576
unfolding is_counter_total
total_within n e = leb-true n 1048576 (and_parts (nat_le 1 n) (nat_le n 1048576) e).1

-- so what it tells is small
pub small : (m : Module) (a : Asked) → Fitting m a → IsSmallAsk a
small m (Rise symbol hash counters counter amount) h = (total_within counters h.2, ltb-true counter 4294967296 h.3)
small m (Note symbol hash target site) h = ltb-true site 65536 h.2

-- an instruction's ask stands among all
pub asks_among : (m : Module) (f : Function) (b : Block) (x : Instr) (a : Asked) → Among f m.functions → Among b f.blocks → Among x b.instrs → asked x ≡ Some a → Among a (all_asked m)
asks_among m f b x a here there at e =
    among_flat (λ (f : Function). asked_in f.blocks) m.functions f a here (among_flat (λ (b : Block). filter_map asked b.instrs) f.blocks b a there (made_among asked b.instrs x a at e))

fits_unit : (m : Module) (a : Asked) → Fitting m a → names_unit m (Global (symbol_asked a)) ≡ true
fits_unit m (Rise symbol hash counters counter amount) h = h.0
fits_unit m (Note symbol hash target site) h = h.0

fits_hash : (m : Module) (a : Asked) → Fitting m a → is_integer_of I64 (hash_asked a) ≡ true
fits_hash m (Rise symbol hash counters counter amount) h = h.1
fits_hash m (Note symbol hash target site) h = h.1

fits_total : (m : Module) (a : Asked) (n : ℕ) → Fitting m a → counters_asked a ≡ Some n → is_counter_total n ≡ true
fits_total m (Rise symbol hash counters counter amount) n h e = ap is_counter_total (sym (same_Some counters n e)) ∙ h.2
fits_total m (Note symbol hash target site) n h e = absurd (none-some n e)

fits_sites : (m : Module) (a : Asked) → Fitting m a → sites_asked a ≤ 65536
fits_sites m (Rise symbol hash counters counter amount) h = omega arith
fits_sites m (Note symbol hash target site) h = (let few = ltb-true site 65536 h.2 in omega (arith, few))

-- ---- a unit

asked_here : (asks : List Asked) (a : Asked) → Among a asks → Among a (asked_of (symbol_asked a) asks)
asked_here asks a at = among_filter (is_asked_of (symbol_asked a)) asks a at (same_self (symbol_asked a))

module _ (m : Module) (low : IsLowerable m) where
  abbrev asks : List Asked
  asks = all_asked m

  -- nothing is refused
  none_failed : (a : Asked) → Among a asks → failed_by asks (name_of_unit m.globals (symbol_asked a)) a ≡ []
  none_failed a at =
      first_none (failed_by asks (name_of_unit m.globals (symbol_asked a)) a) (
      made_none (failed asks m.globals) asks (nil_left (filter_map (failed asks m.globals) asks) (filter_map (noted_alone asks) (filter (names_used asks) m.globals)) (first_none (filter_map (failed asks m.globals) asks ++ filter_map (noted_alone asks) (filter (names_used asks) m.globals)) low.unrefused)) a at)

  none_alone : (g : Global1) → Among g m.globals → names_used asks g ≡ true → noted_alone asks g ≡ None
  none_alone g at used =
      made_none (noted_alone asks) (filter (names_used asks) m.globals) (nil_right (filter_map (failed asks m.globals) asks) (filter_map (noted_alone asks) (filter (names_used asks) m.globals)) (first_none (filter_map (failed asks m.globals) asks ++ filter_map (noted_alone asks) (filter (names_used asks) m.globals)) low.unrefused)) g (among_filter (names_used asks) m.globals g at used)

  pub counters_are_told : (g : Global1) → Among g m.globals → names_used asks g ≡ true → (n : ℕ) × (counters_told g.name asks ≡ Some n)
  counters_are_told g at used = by (counters_told g.name asks) refl
    where
      by : (o : Option ℕ) → counters_told g.name asks ≡ o → (n : ℕ) × (o ≡ Some n)
      by None e = absurd (none-some _ (sym (none_alone g at used) ∙ ap (without_counters g) e))
      by (Some n) e = (n, refl)

  -- the global of the unit that a call names
  pub unit_named : (a : Asked) → Among a asks → (g : Global1) × Among g m.globals × (symbol_asked a ≡ g.name) × (names_used asks g ≡ true)
  unit_named a at =
      let both = and_parts (is_unit_name (symbol_asked a)) (is_among (symbol_asked a) (variables m)) (fits_unit m a (asks_fit m low.formed low.counted a at)) in
      let g = map_among (λ (g : Global1). g.name) m.globals (symbol_asked a) (among_is (symbol_asked a) (variables m) both.1) in
      let asking = any_of (is_asked_of g.0.name) asks a at (ap (λ (n : Name). same n (symbol_asked a)) (sym g.2) ∙ same_self (symbol_asked a)) in
      (g.0, g.1, g.2, and_from (is_unit_name g.0.name) (list_any (is_asked_of g.0.name) asks) (ap is_unit_name (sym g.2) ∙ both.0) asking)

  differs_not : (refusal : ℕ → ℕ → Refusal) (o : Option ℕ) (other first : ℕ) → o ≡ Some first → differs refusal o other ≡ [] → first ≡ other
  differs_not refusal o other first is none = by (first == other) refl (ap (λ (p : Option ℕ). differs refusal p other) (sym is) ∙ none)
    where
      by : (b : Bool) → (first == other) ≡ b → cond b [] (refusal first other ∷ []) ≡ [] → first ≡ other
      by true e h = eqb-true first other e
      by false e h = absurd (cc h)

  -- each call tells the unit's hash, and each rise its number of counters
  pub hash_agrees : (a : Asked) → Among a asks → hash_told (symbol_asked a) asks ≡ Some (hash_asked a)
  hash_agrees a at =
      let first = first_some (map hash_asked (asked_of (symbol_asked a) asks)) (hash_asked a) (among_map hash_asked (asked_of (symbol_asked a) asks) a (asked_here asks a at)) in
      let name = name_of_unit m.globals (symbol_asked a) in
      first.1 ∙ ap Some (differs_not (HashDiffers name) (hash_told (symbol_asked a) asks) (hash_asked a) first.0 first.1 (nil_left (differs (HashDiffers name) (hash_told (symbol_asked a) asks) (hash_asked a)) (failed_counts asks name a) (none_failed a at)))

  module _ (symbol : Name) (hash counters counter : ℕ) (amount : _) (at : Among (Rise symbol hash counters counter amount) asks) where
    abbrev name : Name
    name = name_of_unit m.globals symbol

    abbrev past : List Refusal
    past = cond (nat_lt counter counters) [] (IndexPast name counter counters ∷ [])

    none_counted : differs (CountDiffers name) (counters_told symbol asks) counters ++ past ≡ []
    none_counted = nil_right (differs (HashDiffers name) (hash_told symbol asks) hash) (differs (CountDiffers name) (counters_told symbol asks) counters ++ past) (none_failed (Rise symbol hash counters counter amount) at)

    pub count_agrees : counters_told symbol asks ≡ Some counters
    count_agrees =
        let here = made_among counters_asked (asked_of symbol asks) (Rise symbol hash counters counter amount) counters (asked_here asks (Rise symbol hash counters counter amount) at) refl in
        let first = first_some (filter_map counters_asked (asked_of symbol asks)) counters here in
        first.1 ∙ ap Some (differs_not (CountDiffers name) (counters_told symbol asks) counters first.0 first.1 (nil_left (differs (CountDiffers name) (counters_told symbol asks) counters) past none_counted))

    pub counter_within : nat_lt counter counters ≡ true
    counter_within = by (nat_lt counter counters) (nil_right (differs (CountDiffers name) (counters_told symbol asks) counters) past none_counted)
      where
        by : (b : Bool) → cond b [] (IndexPast name counter counters ∷ []) ≡ [] → b ≡ true
        by true h = refl
        by false h = absurd (cc h)

  pub site_within : (symbol : Name) (hash : ℕ) (target : _) (site : ℕ) → Among (Note symbol hash target site) asks → site < sites_told symbol asks
  site_within symbol hash target site at =
      below_most (map sites_asked (asked_of symbol asks)) (suc site) (among_map sites_asked (asked_of symbol asks) (Note symbol hash target site) (asked_here asks (Note symbol hash target site) at))

  -- ---- what is told

  module _ (g : Global1) (at : Among g m.globals) (used : names_used asks g ≡ true) where
    -- a call that names the unit
    caller : (a : Asked) × Among a asks × (g.name ≡ symbol_asked a)
    caller = (let r = some_of (is_asked_of g.name) asks (and_parts (is_unit_name g.name) (list_any (is_asked_of g.name) asks) used).1 in (r.0, r.1, same_is g.name (symbol_asked r.0) r.2))

    hash_small : is_integer_of I64 (unwrap_or (hash_told g.name asks) 0) ≡ true
    hash_small =
        let a = caller in
        let is : hash_told g.name asks ≡ Some (hash_asked a.0) = ap (λ (n : Name). hash_told n asks) a.2 ∙ hash_agrees a.0 a.1 in
        ap (λ (o : Option ℕ). is_integer_of I64 (unwrap_or o 0)) is ∙ fits_hash m a.0 (asks_fit m low.formed low.counted a.0 a.1)

    total_small : is_counter_total (unwrap_or (counters_told g.name asks) 0) ≡ true
    total_small =
        let n = counters_are_told g at used in
        let a = among_made counters_asked (asked_of g.name asks) n.0 (first_among (filter_map counters_asked (asked_of g.name asks)) n.0 n.1) in
        let there = (filter_among (is_asked_of g.name) asks a.0 a.1).0 in
        ap (λ (o : Option ℕ). is_counter_total (unwrap_or o 0)) n.1 ∙ fits_total m a.0 n.0 (asks_fit m low.formed low.counted a.0 there) a.2

    sites_small : sites_told g.name asks ≤ 65536
    sites_small = most_below (map sites_asked (asked_of g.name asks)) 65536 (λ n there. few n (map_among sites_asked (asked_of g.name asks) n there))
      where
        few : (n : ℕ) → (a : Asked) × Among a (asked_of g.name asks) × (n ≡ sites_asked a) → n ≤ 65536
        few n a = (let s = fits_sites m a.0 (asks_fit m low.formed low.counted a.0 (filter_among (is_asked_of g.name) asks a.0 a.1).0) in let e = a.2 in omega (arith, s, e))

    pub told : IsTold m g
    told = record { hash = hash_small; counters = total_small; sites = sites_small }

    -- its globals stand in the lowered module
    pub unit_parts : (h : Global1) → Among h (unit_globals asks g) → Among h (new_globals asks m.globals)
    unit_parts h there = among_flat (unit_globals asks) (filter (names_used asks) m.globals) g h (among_filter (names_used asks) m.globals g at used) there
