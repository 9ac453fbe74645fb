-- The globals that are made by the table are those of lowering.
use Rattle.std.proofs.Common.{◌≡◌, ℕ, ◌≤◌, ◌+◌, ◌<◌, inl, inr, Bool, true, false, ◌&&◌, cond, List, [], ◌∷◌, ◌++◌, filter, flat_map, length, take, get_or, Option, None, Some, is_some, unwrap_or, refl, sym, ap, ◌∙◌, arith}
use Rattle.std.proofs.lemmas.List.{take_more}
use Rattle.std.proofs.lemmas.List.Concat.{flat_map-append}
use Rattle.std.specs.Option.{option_map}
use Rattle.ir_rules.specs.Kinds.{is_unit_name}
use Rattle.ir_rules.specs.Limits.{reported}
use Rattle.ir_rules.specs.Lists.{Among}
use Rattle.ir_tree.specs.declared.types.Global1.{Global1}
use Rattle.lower_units.proofs.Telling.{is_named}
use Rattle.lower_units.specs.Alone.{some_globals, table_globals}
use Rattle.lower_units.specs.Told.{all_told}
use Rattle.lower_units.specs.declared.told.Told.{Told}
use Rattle.lowering.specs.Asked.{Asked}
use Rattle.lowering.specs.Units as spec
use Rattle.lowering.specs.Units.{counters_global, counters_told, hash_told, name_held, names_used, new_globals, sites_told, unit_globals}
use Rattle.pgo_base.specs.Hash.{hash8}

-- one global more
pub globals_further : (told : List ℕ → Option Told) (gs : List Global1) (i : ℕ) (g : Global1) (now next : List Global1) → i < length gs → g ≡ get_or gs i g → now ≡ table_globals told (take i gs) → next ≡ now ++ table_globals told (g ∷ []) → next ≡ table_globals told (take (i + 1) gs)
globals_further told gs i g now next h is was put =
    put ∙ ap (λ (made : List Global1). made ++ table_globals told (g ∷ [])) was
    ∙ sym (ap (table_globals told) (take_more gs i g h) ∙ flat_map-append (λ (k : Global1). cond (is_unit_name k.name) (some_globals k (told k.name)) []) (take i gs) (get_or gs i g ∷ []) ∙ ap (λ (k : Global1). table_globals told (take i gs) ++ table_globals told (k ∷ [])) (sym is))

module _ (asks : List Asked) where
  abbrev unit_parts : Global1 → Option ℕ → Option ℕ → ℕ → List Global1
  unit_parts g o p sites = counters_global g.name (unwrap_or p 0) ∷ spec.data_global g.name (hash8 (name_held g)) (unwrap_or o 0) (unwrap_or p 0) sites ∷ []

  module _ (g : Global1) (gs : List Global1) (few : names_used asks g ≡ true → sites_told g.name asks ≤ 65536) (told : List ℕ → Option Told) (is : told g.name ≡ all_told g.name asks) (rest : table_globals told gs ≡ new_globals asks gs) where
    abbrev left : Bool → Option Told → List Global1
    left b t = cond b (some_globals g t) [] ++ table_globals told gs

    abbrev right : Bool → Option ℕ → ℕ → List Global1
    right named o sites = cond named (unit_parts g o (counters_told g.name asks) sites ++ new_globals asks gs) (new_globals asks gs)

    by_parts : (b : Bool) (o : Option ℕ) (sites : ℕ) → left b (option_map (λ (hash : ℕ). record { hash = hash; counters = counters_told g.name asks; sites = sites }) o) ≡ right (b && is_some o) o sites
    by_parts false o sites = rest
    by_parts true None sites = rest
    by_parts true (Some hash) sites = ap (λ (made : List Global1). unit_parts g (Some hash) (counters_told g.name asks) sites ++ made) rest

    in_list : (named : Bool) → flat_map (unit_globals asks) (cond named (g ∷ filter (names_used asks) gs) (filter (names_used asks) gs)) ≡ right named (hash_told g.name asks) (sites_told g.name asks)
    in_list true = refl
    in_list false = refl

    whole : (named : Bool) → names_used asks g ≡ named → right named (hash_told g.name asks) (reported (sites_told g.name asks)) ≡ right named (hash_told g.name asks) (sites_told g.name asks)
    whole true e = (let h = few e in let all : reported (sites_told g.name asks) ≡ sites_told g.name asks = omega (arith, h) in ap (right true (hash_told g.name asks)) all)
    whole false e = refl

    named : names_used asks g ≡ (is_unit_name g.name && is_some (hash_told g.name asks))
    named = ap (λ (n : Bool). is_unit_name g.name && n) (is_named g.name asks (hash_told g.name asks) refl)

    globals_next : table_globals told (g ∷ gs) ≡ new_globals asks (g ∷ gs)
    globals_next =
        ap (left (is_unit_name g.name)) is
        ∙ by_parts (is_unit_name g.name) (hash_told g.name asks) (reported (sites_told g.name asks))
        ∙ sym (ap (λ (n : Bool). right n (hash_told g.name asks) (reported (sites_told g.name asks))) named)
        ∙ whole (names_used asks g) refl
        ∙ sym (in_list (names_used asks g))

  pub globals_are : (told : List ℕ → Option Told) → ((q : List ℕ) → told q ≡ all_told q asks) → (gs : List Global1) → ((g : Global1) → Among g gs → names_used asks g ≡ true → sites_told g.name asks ≤ 65536) → table_globals told gs ≡ new_globals asks gs
  globals_are told is [] few = refl
  globals_are told is (g ∷ gs) few = globals_next g gs (few g (inl refl)) told (is g.name) (globals_are told is gs (λ k at. few k (inr at)))
