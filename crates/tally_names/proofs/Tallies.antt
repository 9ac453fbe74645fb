-- No name is that of two tallies.
use Rattle.std.proofs.Common.{◌≡◌, ℕ, zero, suc, ◌+◌, ◌≤◌, ◌⊎◌, inl, inr, Bool, true, false, cond, List, [], ◌∷◌, ◌++◌, codes, drop, filter, map, Some, refl, sym, ap, ◌∙◌, arith}
use Rattle.std.specs.Prelude.{count_by}
use Rattle.std.proofs.lemmas.List.Sums.{sum_by-cons}
use Rattle.ir_code.specs.Units.{datum, is_data, tallies_of, text_named, unit, units_from}
use Rattle.ir_model.specs.declared.probe.Tally.{Tally}
use Rattle.ir_rules.specs.Accepted.{IsAccepted}
use Rattle.ir_rules.specs.Initialisers.{unit_text}
use Rattle.ir_rules.specs.Lists.{Among, times}
use Rattle.ir_rules.specs.Scopes.{function_names, variables}
use Rattle.ir_rules.specs.WellFormed.{IsWellFormed}
use Rattle.ir_tree.specs.Names.{same}
use Rattle.ir_tree.specs.declared.types.Global1.{Global1}
use Rattle.ir_tree.specs.declared.types.Module.{Module}
use Rattle.tally_names.proofs.Listed.{Name, among_map, filter_among, one, one_self, same_is, stands, times_append, times_cons}
use Rattle.run_texts.specs.RunProfile.{AreApart}
use Rattle.tally_names.proofs.Data.{data_front, data_named, holder}
use Rattle.tally_names.proofs.Holders.{fewer_names, one_holder}

module _ (m : Module) (formed : IsWellFormed m) (t : Name) where
  -- the name of the tally of data
  abbrev named : Global1 → Name
  named g = text_named m.globals (holder g.name)

  abbrev has : Global1 → ℕ
  has g = one t (named g)

  counted : (c s : ℕ) (gs : List Global1) → count_by (λ (u : Tally). same t u.name) (map (λ u. u.1) (units_from m.globals c s gs)) ≡ count_by (λ (g : Global1). same t (named g)) gs
  counted c s [] = refl
  counted c s (g ∷ gs) =
      let more = counted (c + datum g 2) (s + datum g 3) gs in
      omega (arith, more, sum_by-cons (λ (u : Tally). one t u.name) (unit m.globals c s g).1 (map (λ u. u.1) (units_from m.globals (c + datum g 2) (s + datum g 3) gs)), sum_by-cons has g gs)

  none_has : (gs : List Global1) → ((h : Global1) → Among h gs → same t (named h) ≡ true → ⊥) → count_by (λ (g : Global1). same t (named g)) gs ≡ 0
  none_has [] none = refl
  none_has (g ∷ gs) none = by (same t (named g)) refl (none_has gs (λ h at. none h (inr at)))
    where
      by : (b : Bool) → same t (named g) ≡ b → count_by (λ (g : Global1). same t (named g)) gs ≡ 0 → count_by (λ (g : Global1). same t (named g)) (g ∷ gs) ≡ 0
      by true e more = absurd (none g (inl refl) e)
      by false e more = let here : has g ≡ 0 = ap (λ (b : Bool). cond {A = ℕ} b 1 0) e in omega (arith, here, more, sum_by-cons has g gs)

  -- data of one name are of one unit
  same_data : (g h : Global1) → Among g m.globals → Among h m.globals → is_data g ≡ true → is_data h ≡ true → same t (named g) ≡ true → same t (named h) ≡ true → g.name ≡ h.name
  same_data g h at also d e p q =
      let a = data_named m formed g at d in
      let b = data_named m formed h also e in
      let names = one_holder t m.globals a.0 b.0 a.1 b.1 (a.3 ∙ ap Some (sym (same_is t (named g) p))) (b.3 ∙ ap Some (sym (same_is t (named h) q))) (formed.units t) in
      let units : drop 8 (holder g.name) ≡ drop 8 (holder h.name) = ap (λ (n : Name). drop 8 n) (sym a.2 ∙ names ∙ b.2) in
      sym (data_front g d) ∙ ap (λ (n : Name). codes "__profd_" ++ n) units ∙ data_front h e

  one_has : (gs : List Global1) → ((g : Global1) → Among g gs → Among g m.globals × (is_data g ≡ true)) → ((n : Name) → times n (map (λ (g : Global1). g.name) gs) ≤ 1) →
      count_by (λ (g : Global1). same t (named g)) gs ≤ 1
  one_has [] all distinct = omega arith
  one_has (g ∷ gs) all distinct = by (same t (named g)) refl (one_has gs (λ h at. all h (inr at)) (λ n. let d = distinct n in omega (arith, d, times_cons n g.name (map (λ (g : Global1). g.name) gs))))
    where
      other : same t (named g) ≡ true → (h : Global1) → Among h gs → same t (named h) ≡ true → ⊥
      other e h at f =
          let here = all g (inl refl) in
          let there = all h (inr at) in
          let is : g.name ≡ h.name = same_data g h here.0 there.0 here.1 there.1 e f in
          let more = stands h.name (map (λ (g : Global1). g.name) gs) (among_map (λ (g : Global1). g.name) gs h at) in
          let d = distinct h.name in
          let self : one h.name g.name ≡ 1 = ap (λ (n : Name). one h.name n) is ∙ one_self h.name in
          omega (arith, more, d, self, times_cons h.name g.name (map (λ (g : Global1). g.name) gs))

      by : (b : Bool) → same t (named g) ≡ b → count_by (λ (g : Global1). same t (named g)) gs ≤ 1 → count_by (λ (g : Global1). same t (named g)) (g ∷ gs) ≤ 1
      by true e more =
          let here : has g ≡ 1 = ap (λ (b : Bool). cond {A = ℕ} b 1 0) e in
          let none = none_has gs (other e) in
          omega (arith, here, none, sum_by-cons has g gs)
      by false e more = let here : has g ≡ 0 = ap (λ (b : Bool). cond {A = ℕ} b 1 0) e in omega (arith, here, more, sum_by-cons has g gs)

-- the names of the data are distinct
distinct_data : (m : Module) → IsWellFormed m → (n : Name) → times n (map (λ (g : Global1). g.name) (filter is_data m.globals)) ≤ 1
distinct_data m formed n =
    let all = formed.distinct n in
    let some = fewer_names n is_data m.globals in
    omega (arith, all, some, times_append n (variables m) (function_names m))

pub tallies_apart : (m : Module) → IsAccepted m → AreApart (tallies_of m)
tallies_apart m accepted t =
    let is = counted m accepted.formed t 0 0 (filter is_data m.globals) in
    let few = one_has m accepted.formed t (filter is_data m.globals) (λ g at. filter_among is_data m.globals g at) (distinct_data m accepted.formed) in
    omega (arith, is, few)
