-- What a test keeps of a list that grows by one item at its end, and the units of global variables that do.
use Rattle.std.proofs.Common.{◌≡◌, ℕ, ◌+◌, Bool, true, false, cond, List, [], ◌∷◌, ◌++◌, length, map, filter, sym, ◌∙◌, ap, subst, sum_by, arith}
use Rattle.std.proofs.lemmas.List.{append-nil, map-append, length-map}
use Rattle.std.proofs.lemmas.List.Elements.{filter-append}
use Rattle.std.proofs.lemmas.List.Sums.{sum_by-append, sum_by-cons}
use Rattle.ir_tree.specs.Names.{Indexes}
use Rattle.ir_tree.specs.declared.types.Global1.{Global1}
use Rattle.ir_model.specs.declared.probe.Tally.{Tally}
use Rattle.ir_code.specs.Units.{Unit_, datum, is_data, unit, units_from}
use Rattle.ir_code.specs.Tallied.{AreTallied}
use Rattle.ir_code.specs.declared.units.Tallied.{Tallied}

module _ {X : Type 0} (p : X → Bool) (xs : List X) (x : X) where
  pub push_kept : p x ≡ true → filter p (xs ++ x ∷ []) ≡ filter p xs ++ x ∷ []
  push_kept yes_ =
      filter-append p xs (x ∷ []) ∙ ap (λ (b : Bool). filter p xs ++ cond b (x ∷ []) []) yes_

  pub push_left : p x ≡ false → filter p (xs ++ x ∷ []) ≡ filter p xs
  push_left no_ =
      filter-append p xs (x ∷ []) ∙ ap (λ (b : Bool). filter p xs ++ cond b (x ∷ []) []) no_ ∙ append-nil (filter p xs)

abbrev counters : List Global1 → ℕ
counters gs = sum_by (λ g. datum g 2) gs

abbrev sites : List Global1 → ℕ
sites gs = sum_by (λ g. datum g 3) gs

-- one more unit stands behind the others, after their counters and sites
units_push : (globals : List Global1) (c s : ℕ) (gs : List Global1) (g : Global1) → units_from globals c s (gs ++ g ∷ []) ≡ units_from globals c s gs ++ unit globals (c + counters gs) (s + sites gs) g ∷ []
units_push globals c s [] g =
    let counters_are : c ≡ c + 0 = omega arith in
    let sites_are : s ≡ s + 0 = omega arith in
    λ i. unit globals (counters_are i) (sites_are i) g ∷ []
units_push globals c s (h ∷ gs) g =
    let counters_are : c + datum h 2 + counters gs ≡ c + counters (h ∷ gs) = omega (arith, sum_by-cons (λ g. datum g 2) h gs) in
    let sites_are : s + datum h 3 + sites gs ≡ s + sites (h ∷ gs) = omega (arith, sum_by-cons (λ g. datum g 3) h gs) in
    ap (λ (us : List Unit_). unit globals c s h ∷ us) (units_push globals (c + datum h 2) (s + datum h 3) gs g)
    ∙ (λ i. unit globals c s h ∷ (units_from globals (c + datum h 2) (s + datum h 3) gs ++ unit globals (counters_are i) (sites_are i) g ∷ []))

module _ (globals first : List Global1) (g : Global1) where
  -- a global variable that is no data of a unit adds none
  pub tallied_still : (t : Tallied) → is_data g ≡ false → AreTallied t globals first → AreTallied t globals (first ++ g ∷ [])
  tallied_still t no_ h =
      let e : filter is_data first ≡ filter is_data (first ++ g ∷ []) = sym (push_left is_data first g no_) in
      record {
        names = subst (λ (gs : List Global1). Indexes t.names (map (λ u. u.0) (units_from globals 0 0 gs))) e h.names;
        tallies = h.tallies ∙ ap (λ (gs : List Global1). map (λ u. u.1) (units_from globals 0 0 gs)) e;
        counters = h.counters ∙ ap counters e;
        sites = h.sites ∙ ap sites e;
      }

  -- how many units there are, by their names
  pub count_of : (t : Tallied) → AreTallied t globals first → length t.tallies ≡ length (map (λ (u : Unit_). u.0) (units_from globals 0 0 (filter is_data first)))
  count_of t h =
      ap length h.tallies ∙ length-map (units_from globals 0 0 (filter is_data first)) (λ u. u.1) ∙ sym (length-map (units_from globals 0 0 (filter is_data first)) (λ u. u.0))

  -- one more unit
  pub tallied_more : (t u : Tallied) (one : Tally) → is_data g ≡ true → AreTallied t globals first → Indexes u.names (map (λ u. u.0) (units_from globals 0 0 (filter is_data first)) ++ (unit globals t.counters t.sites g).0 ∷ []) → u.tallies ≡ t.tallies ++ one ∷ [] → one ≡ (unit globals t.counters t.sites g).1 → u.counters ≡ t.counters + datum g 2 → u.sites ≡ t.sites + datum g 3 → AreTallied u globals (first ++ g ∷ [])
  tallied_more t u one yes_ h names tallies made counters_are sites_are =
      let old : List Global1 = filter is_data first in
      let e : filter is_data (first ++ g ∷ []) ≡ old ++ g ∷ [] = push_kept is_data first g yes_ in
      let counters_before : t.counters ≡ 0 + counters old = omega (arith, h.counters) in
      let sites_before : t.sites ≡ 0 + sites old = omega (arith, h.sites) in
      let all : units_from globals 0 0 old ++ unit globals t.counters t.sites g ∷ [] ≡ units_from globals 0 0 (filter is_data (first ++ g ∷ [])) =
      (λ i. units_from globals 0 0 old ++ unit globals (counters_before i) (sites_before i) g ∷ [])
      ∙ sym (units_push globals 0 0 old g) ∙ ap (λ (gs : List Global1). units_from globals 0 0 gs) (sym e) in
      record {
        names = subst (λ (ns : List (List ℕ)). Indexes u.names ns) (sym (map-append (λ (u : Unit_). u.0) (units_from globals 0 0 old) (unit globals t.counters t.sites g ∷ [])) ∙ ap (λ (us : List Unit_). map (λ u. u.0) us) all) names;
        tallies =
            tallies ∙ (λ i. h.tallies i ++ made i ∷ [])
            ∙ sym (map-append (λ (u : Unit_). u.1) (units_from globals 0 0 old) (unit globals t.counters t.sites g ∷ []))
            ∙ ap (λ (us : List Unit_). map (λ u. u.1) us) all;
        counters = counters_are ∙ omega (arith, h.counters, ap counters e, sum_by-append (λ g. datum g 2) old (g ∷ []));
        sites = sites_are ∙ omega (arith, h.sites, ap sites e, sum_by-append (λ g. datum g 3) old (g ∷ []));
      }
