-- Each call is a step that the rule allows.
use Rattle.std.proofs.Common.{◌≡◌, ◌≢◌, ℕ, ◌+◌, ◌-◌, ◌%◌, ◌^◌, ◌<◌, ◌≤◌, min, Bool, true, false, if◌then◌else◌, nat_le, nat_lt, List, [], ◌∷◌, ◌++◌, length, map, set, sum_by, refl, sym, ap, ◌∙◌, subst, arith, ⊎_elim, true≢false, slice_index, leb-true, leb-false, ltb-true, le-ltb, get_or-set_same, mod-eq_of_lt}
use Rattle.std.proofs.lemmas.Bool.{or_cases}
use Rattle.std.proofs.lemmas.List.{set-get_or, map-append, map-set, length_push}
use Rattle.std.proofs.lemmas.List.Sums.{sum_by_push, sum_by-le-sum_by}
use mathlib.Core.Option.{some}
use lib.ListN.{get_elem?}
use Rattle.atomic_table.specs.Table.{State, Me, keeps, Allows, Splits, Joins}
use Rattle.atomic_table.proofs.Lists.{at_set, at_snoc, set_else, set_again, at_map}
use Rattle.count_core.specs.declared.state.CoreView.{CoreView}
use Rattle.count_core.specs.declared.state.CoreState.{CoreState}
use Rattle.count_core.specs.CoreView.{fresh, spent, shares_of, weight_of}
use Rattle.count_core.specs.CoreState.{core, IsSound, below}
use Rattle.count_core.specs.CoreStep.{lessened}
use Rattle.count_core.specs.StepLaws.{KeepSound, OneDidAll}
use Rattle.ticket_draw.specs.declared.rule.TicketView.{TicketView}
use Rattle.ticket_draw.specs.Tickets.{tickets_only, core_of, ended_shares, IsTicketed, fresh_tickets, spent_tickets, lessened_tickets, merged_tickets, DrewEachOnce, view_after, Drawn, Learned}
use Rattle.ticket_draw.proofs.Numbers.{sum_set, each_once, length_weighs, below_weighs, sum_by-map, joined_shares}

-- the ticket word and the views as a state of the core
abbrev state : ℕ → List ℕ → List TicketView → CoreState
state n words views = core (tickets_only n) words (map core_of views)

abbrev Rule : (S : Type 0) → ℕ → ℕ → State S TicketView → Type 0
Rule S all n s = IsTicketed all n s.words s.views

-- who has met the end found a number past it
abbrev HaveMet : ℕ → ℕ → List TicketView → Type 0
HaveMet n word views = (j : ℕ) (u : TicketView) → get_elem? views j ≡ some u → u.ended ≡ true → n ≤ word

met_set : (n word : ℕ) (views : List TicketView) (id : ℕ) (w : TicketView) → HaveMet n word views → (w.ended ≡ true → n ≤ word) → HaveMet n word (set views id w)
met_set n word views id w met mine j u e ended =
    ⊎_elim
    (λ (t : (j ≡ id) × (w ≡ u)). mine (ap (λ (u : TicketView). u.ended) t.1 ∙ ended))
    (λ (t : (j ≢ id) × (get_elem? views j ≡ some u)). met j u t.1 ended)
    (at_set views id j w u e)

-- the rule over words and views of the core that are equal to those of the table
as_core : (all n : ℕ) (words words' : List ℕ) (views : List TicketView) (cores : List CoreView) → words ≡ words' → cores ≡ map core_of views → IsSound all (core (tickets_only n) words cores) → IsSound all (state n words' views)
as_core all n words words' views cores w c = subst (λ (y : List ℕ × List CoreView). IsSound all (core (tickets_only n) y.0 y.1)) (λ i. (w i, c i))

module _ (all n : ℕ) (words : List ℕ) (views : List TicketView) (h : IsTicketed all n words views) (id : ℕ) (v : TicketView) (at : get_elem? views id ≡ some v) where
  core_at : get_elem? (map core_of views) id ≡ some v.core
  core_at = at_map core_of views id v at

  -- the shares of those that have met the end, and of one that has not, are within all
  ended_below : v.ended ≡ false → sum_by ended_shares views + v.core.shares ≤ all
  ended_below more =
      let e : TicketView = record { core = v.core; ended = true } in
      let none : ended_shares v ≡ 0 = ap (λ b. if b then v.core.shares else 0) more in
      let up = sum_set ended_shares views id v e at in
      let le = sum_by-le-sum_by ended_shares (λ (u : TicketView). u.core.shares) (set views id e) (λ u. ended_le u.ended u.core.shares) in
      let same = sum_set (λ (u : TicketView). u.core.shares) views id v e at in
      let total : sum_by (λ (u : TicketView). u.core.shares) views ≡ all = sym (sum_by-map shares_of core_of views) ∙ h.sound.shared in
      omega arith
    where
      ended_le : (b : Bool) (k : ℕ) → (if b then k else 0) ≤ k
      ended_le true k = omega arith
      ended_le false k = omega arith

  -- who has all shares, where the end is met, drew each number
  all_drawn : OneDidAll → v.core.shares ≡ all → n ≤ slice_index words 0 → DrewEachOnce n v.core.drawn
  all_drawn alone whole past = each_once n v.core.drawn (λ f.
      let most : min (slice_index words 0) n ≡ n = omega arith in
      sym (alone all (state n words views) id v.core h.sound core_at whole (weight_of f) refl)
      ∙ h.sound.drawn f
      ∙ ap (λ k. sum_by f (below k)) most)

  few_drawn : length v.core.drawn ≤ min (slice_index words 0) n
  few_drawn =
      let mine = sum_set (weight_of (λ _. 1)) (map core_of views) id v.core spent core_at in
      let total = h.sound.drawn (λ _. 1) in
      let a = length_weighs v.core.drawn in
      let b = below_weighs (min (slice_index words 0) n) in
      omega arith

  one_word : 0 < length words
  one_word = let e : length words ≡ 1 = h.sound.sized in omega arith

module _ {S : Type 0} (all n : ℕ) (steps : KeepSound) where
  draws_next : OneDidAll → (slots id : ℕ) (m : Me S TicketView) → n + all ≤ 2 ^ 32 → 0 < m.0.core.shares → m.0.ended ≡ false → Allows (Rule S all n) slots id m 0 (λ k. (k + 1) % 2 ^ 64) (λ k w. Drawn all n m k w)
  draws_next alone slots id m small has more s h _ at _ = (w, keeps, tt, record { sound = sound; met = met; bounded = bounded }, record { seat = refl; whole = whole; few = few (nat_lt t n) refl })
    where
      t : ℕ
      t = slice_index s.words 0

      w : TicketView
      w = view_after m.0 t n

      low : t < 2 ^ 32
      low = let a = ended_below all n s.words s.views h id m.0 at more in let b = h.bounded in omega arith

      fits : (t + 1) % 2 ^ 64 ≡ t + 1
      fits = mod-eq_of_lt (let z = low in omega arith)

      now : slice_index (set s.words 0 ((t + 1) % 2 ^ 64)) 0 ≡ t + 1
      now = get_or-set_same s.words 0 ((t + 1) % 2 ^ 64) 0 (one_word all n s.words s.views h id m.0 at) ∙ fits

      sound : IsSound all (state n (set s.words 0 ((t + 1) % 2 ^ 64)) (set s.views id w))
      sound = as_core all n (set s.words 0 (t + 1)) (set s.words 0 ((t + 1) % 2 ^ 64)) (set s.views id w) (set (map core_of s.views) id w.core) (ap (set s.words 0) (sym fits)) (sym (map-set core_of s.views id w)) ((steps all (state n s.words s.views) id m.0.core h.sound (core_at all n s.words s.views h id m.0 at) has).draws low)

      met : (j : ℕ) (u : TicketView) → get_elem? (set s.views id w) j ≡ some u → u.ended ≡ true → n ≤ slice_index (set s.words 0 ((t + 1) % 2 ^ 64)) 0
      met = met_set n (slice_index (set s.words 0 ((t + 1) % 2 ^ 64)) 0) s.views id w
          (λ j u e ended. let a = h.met j u e ended in let b = now in omega arith)
          (λ ended. let a = leb-true n t ended in let b = now in omega arith)

      grows : (b : Bool) → nat_le n t ≡ b → t + 1 ≤ n + sum_by ended_shares (set s.views id w)
      grows true e =
          let none : ended_shares m.0 ≡ 0 = ap (λ b. if b then m.0.core.shares else 0) more in
          let mine : ended_shares w ≡ m.0.core.shares = ap (λ b. if b then m.0.core.shares else 0) e in
          let up = sum_set ended_shares s.views id m.0 w at in
          let b = h.bounded in
          omega arith
      grows false e = let a = leb-false n t e in omega arith

      bounded : slice_index (set s.words 0 ((t + 1) % 2 ^ 64)) 0 ≤ n + sum_by ended_shares (set s.views id w)
      bounded = subst (λ (k : ℕ). k ≤ n + sum_by ended_shares (set s.views id w)) (sym now) (grows (nat_le n t) refl)

      whole : m.0.core.shares ≡ all → n ≤ t → DrewEachOnce n w.core.drawn
      whole mine past = subst (DrewEachOnce n) (sym (ap (λ b. if b then m.0.core.drawn ++ t ∷ [] else m.0.core.drawn) (le-ltb t n past))) (all_drawn all n s.words s.views h id m.0 at alone mine past)

      few : (b : Bool) → nat_lt t n ≡ b → length w.core.drawn ≤ n
      few true e =
          let a = few_drawn all n s.words s.views h id m.0 at in
          let lt = ltb-true t n e in
          let l = length_push m.0.core.drawn t in
          subst (λ (xs : List ℕ). length xs ≤ n) (sym (ap (λ b. if b then m.0.core.drawn ++ t ∷ [] else m.0.core.drawn) e)) (omega arith)
      few false e =
          let a = few_drawn all n s.words s.views h id m.0 at in
          subst (λ (xs : List ℕ). length xs ≤ n) (sym (ap (λ b. if b then m.0.core.drawn ++ t ∷ [] else m.0.core.drawn) e)) (omega arith)

  pub cut_splits : (id : ℕ) (v : TicketView) (k : ℕ) → 0 < k → k < v.core.shares → v.ended ≡ false → Splits (Rule S all n) id v (lessened_tickets v k) (fresh_tickets k)
  cut_splits id v k positive less more s h at = record {
    sound = as_core all n s.words s.words (set s.views id left ++ fresh_tickets k ∷ []) (set (map core_of s.views) id (lessened v.core k) ++ fresh k ∷ []) refl (sym (map-append core_of (set s.views id left) (fresh_tickets k ∷ []) ∙ ap (λ (l : List CoreView). l ++ fresh k ∷ []) (map-set core_of s.views id left))) ((steps all (state n s.words s.views) id v.core h.sound (core_at all n s.words s.views h id v at) (omega arith)).cuts k positive less);
    met = λ j u e ended. ⊎_elim
        (λ at_j. met_set n (slice_index s.words 0) s.views id left h.met (λ mine. h.met id v at mine) j u at_j ended)
        (λ (new : fresh_tickets k ≡ u). absurd (true≢false (sym ended ∙ sym (ap (λ (u : TicketView). u.ended) new))))
        (at_snoc (set s.views id left) (fresh_tickets k) u j e);
    bounded = let same = sum_set ended_shares s.views id v left at in let more = sum_by_push ended_shares (set s.views id left) (fresh_tickets k) in let b = h.bounded in let c = halves in omega arith;
  }
    where
      left : TicketView
      left = lessened_tickets v k

      halves : ended_shares left + ended_shares (fresh_tickets k) ≡ ended_shares v
      halves =
          let a : ended_shares left ≡ 0 = ap (λ b. if b then v.core.shares - k else 0) more in
          let b : ended_shares v ≡ 0 = ap (λ b. if b then v.core.shares else 0) more in
          omega arith

  pub merge_joins : (id : ℕ) (v : TicketView) (other : ℕ) (u : TicketView) → 0 < v.core.shares → Joins (Rule S all n) id v other u (merged_tickets v u) spent_tickets
  merge_joins id v other u has s h at apart at_other = record {
    sound = as_core all n s.words s.words (set (set s.views id both) other spent_tickets) (set (set (map core_of s.views) id both.core) other spent) refl (sym (map-set core_of (set s.views id both) other spent_tickets ∙ ap (λ (l : List CoreView). set l other spent) (map-set core_of s.views id both))) ((steps all (state n s.words s.views) id v.core h.sound (core_at all n s.words s.views h id v at) has).joins other u.core (ap (λ (l : List CoreView). get_elem? l other) (sym (map-set core_of s.views id both)) ∙ at_map core_of (set s.views id both) other u at_other));
    met = met_set n (slice_index s.words 0) (set s.views id both) other spent_tickets
        (met_set n (slice_index s.words 0) s.views id both h.met
        (λ ended. ⊎_elim (λ mine. h.met id v at mine) (λ (theirs : u.ended ≡ true). h.met other u (sym (set_else s.views id other both apart) ∙ at_other) theirs) (or_cases v.ended u.ended ended)))
        (λ ended. absurd (true≢false (sym ended)));
    bounded =
        let le : ended_shares v + ended_shares u ≤ ended_shares both = joined_shares v.ended u.ended v.core.shares u.core.shares in
        let a = sum_set ended_shares s.views id v both at in
        let b = sum_set ended_shares (set s.views id both) other u spent_tickets at_other in
        let c = h.bounded in
        omega arith;
  }
    where
      both : TicketView
      both = merged_tickets v u

looks : {S : Type 0} (all n : ℕ) → OneDidAll → (slots id : ℕ) (m : Me S TicketView) → Allows (Rule S all n) slots id m 0 (λ k. k) (λ _ w. Learned all n m w)
looks {S} all n alone slots id m s h _ at _ = (
  m.0,
  keeps,
  tt,
  subst (λ (y : List ℕ × List TicketView). IsTicketed all n y.0 y.1) (λ i. (sym (set-get_or s.words 0 0) i, sym (set_again s.views id m.0 at) i)) h,
  record { same = refl; whole = λ mine ended. all_drawn all n s.words s.views h id m.0 at alone mine (h.met id m.0 at ended) },
)

-- what the caller knows of the table are its own numbers
pub draw_allows : {S : Type 0} (all n : ℕ) → KeepSound → OneDidAll → (slots id : ℕ) (m : Me S TicketView) (shares numbers : ℕ) → all ≡ shares → n ≡ numbers → numbers + all ≤ 2 ^ 32 → 0 < m.0.core.shares → m.0.ended ≡ false → Allows (Rule S all n) slots id m 0 (λ k. (k + 1) % 2 ^ 64) (λ k w. Drawn shares numbers m k w)
draw_allows {S} all n steps alone slots id m shares numbers e f small has more = subst (λ (y : ℕ × ℕ). Allows (Rule S all n) slots id m 0 (λ k. (k + 1) % 2 ^ 64) (λ k w. Drawn y.0 y.1 m k w)) (λ i. (e i, f i)) (draws_next all n steps alone slots id m (subst (λ (k : ℕ). k + all ≤ 2 ^ 32) (sym f) small) has more)

pub look_allows : {S : Type 0} (all n : ℕ) → OneDidAll → (slots id : ℕ) (m : Me S TicketView) (shares numbers : ℕ) → all ≡ shares → n ≡ numbers → Allows (Rule S all n) slots id m 0 (λ k. k) (λ _ w. Learned shares numbers m w)
look_allows {S} all n alone slots id m shares numbers e f = subst (λ (y : ℕ × ℕ). Allows (Rule S all n) slots id m 0 (λ k. k) (λ _ w. Learned y.0 y.1 m w)) (λ i. (e i, f i)) (looks all n alone slots id m)
