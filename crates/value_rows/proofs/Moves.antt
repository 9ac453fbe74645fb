-- Each call is a step that the rule allows.
use Rattle.std.proofs.Common.{◌≡◌, ◌≢◌, ℕ, ◌+◌, ◌%◌, ◌^◌, ◌<◌, Bool, true, false, ◌==◌, if◌then◌else◌, Some, None, refl, sym, ap, ◌∙◌, subst, arith, slice_index}
use prog.Atomic.{either}
use Rattle.atomic_table.specs.Table.{State, Me, keeps, Allows, Splits, Joins}
use Rattle.count_core.specs.declared.state.Layout.{Layout}
use Rattle.count_core.specs.declared.state.Walk.{Walk}
use Rattle.count_core.specs.declared.state.CoreView.{CoreView}
use Rattle.count_core.specs.Layout.{key_at, count_at, dropped_at}
use Rattle.count_core.specs.CoreView.{fresh, spent, merged}
use Rattle.count_core.specs.CoreState.{core, IsCore}
use Rattle.count_core.specs.CoreStep.{lessened, moved, walking_on, having_asked, claimed}
use Rattle.count_core.specs.StepLaws.{KeepRows}
use Rattle.value_rows.specs.Rows.{walk, IsResting, Walks, Asks, Began, WentOn, Claimed, Ended}

same_walk : {w x : Walk} → Some w ≡ Some x → w ≡ x
same_walk e = cc

-- the key that a compare and exchange leaves is that of the claim
either_is : (b : Bool) (x y : ℕ) → either b x y ≡ (if b then x else y)
either_is true x y = refl
either_is false x y = refl

module _ {S : Type 0} (all : ℕ) (l : Layout) (steps : KeepRows) where
  abbrev Rule : State S CoreView → Type 0
  Rule s = IsCore all (core l s.words s.views)

  begins : (slots id : ℕ) (m : Me S CoreView) (site key : ℕ) → IsResting m → site < l.sites → 0 < l.places → key ≢ 0 → Allows Rule slots id m (key_at l site 0) (λ n. n) (λ word n. Began site key m word n)
  begins slots id m site key rests lt some_place nz s h _ at _ =
      let w : Walk = walk site key 0 (slice_index s.words (key_at l site 0)) in (
        walking_on m.0 w,
        keeps,
        tt,
        (steps all (core l s.words s.views) id m.0 h at rests.has).begins rests.rests site key lt some_place nz,
        record { walking = refl; shares = refl; asked = refl; held = refl },
      )

  goes_on : (slots id : ℕ) (m : Me S CoreView) (site key place winner : ℕ) → 0 < m.0.shares → m.0.walking ≡ Some (walk site key place winner) → place + 1 < l.places → winner ≢ 0 → winner ≢ key → Allows Rule slots id m (key_at l site (place + 1)) (λ n. n) (λ word n. WentOn m word n)
  goes_on slots id m site key place winner has is lt full other s h _ at _ =
      let old : Walk = walk site key place winner in
      let w : Walk = walk site key (place + 1) (slice_index s.words (key_at l site (place + 1))) in (
        walking_on m.0 w,
        keeps,
        tt,
        (steps all (core l s.words s.views) id m.0 h at has).goes_on old is lt full other,
        λ x e. subst (λ (x : Walk). Walks (walk x.site x.key (x.place + 1) (slice_index s.words (key_at l site (place + 1)))) m (walking_on m.0 w, m.1)) (same_walk (sym is ∙ e)) record { walking = refl; shares = refl; asked = refl; held = refl },
      )

  claims : (slots id : ℕ) (m : Me S CoreView) (site key place : ℕ) → 0 < m.0.shares → m.0.walking ≡ Some (walk site key place 0) → Allows Rule slots id m (key_at l site place) (λ n. either (n == 0) key n) (λ word n. Claimed m word n)
  claims slots id m site key place has is s h _ at _ =
      let word : ℕ = slice_index s.words (key_at l site place) in
      let w : Walk = walk site key place (claimed word key) in (
        walking_on m.0 w,
        keeps,
        tt,
        subst (λ (k : ℕ). IsCore all (moved (core l s.words s.views) (key_at l site place) k id (walking_on m.0 w))) (sym (either_is (word == 0) key word)) ((steps all (core l s.words s.views) id m.0 h at has).claims (walk site key place 0) is),
        λ x e. subst (λ (x : Walk). Walks (walk x.site x.key x.place (claimed word x.key)) m (walking_on m.0 w, m.1)) (same_walk (sym is ∙ e)) record { walking = refl; shares = refl; asked = refl; held = refl },
      )

  counts : (slots id : ℕ) (m : Me S CoreView) (site key place : ℕ) → 0 < m.0.shares → m.0.walking ≡ Some (walk site key place key) → Allows Rule slots id m (count_at l site place) (λ n. (n + 1) % 2 ^ 64) (λ _ n. Ended m n)
  counts slots id m site key place has is s h _ at _ =
      let w : Walk = walk site key place key in (
        having_asked m.0 w,
        keeps,
        tt,
        (steps all (core l s.words s.views) id m.0 h at has).counts w is refl,
        λ x e. subst (λ (x : Walk). Asks x m (having_asked m.0 w, m.1)) (same_walk (sym is ∙ e)) record { rests = refl; shares = refl; asked = refl; held = refl },
      )

  drops : (slots id : ℕ) (m : Me S CoreView) (site key place winner : ℕ) → 0 < m.0.shares → m.0.walking ≡ Some (walk site key place winner) → place + 1 ≡ l.places → winner ≢ 0 → winner ≢ key → Allows Rule slots id m (dropped_at l site) (λ n. (n + 1) % 2 ^ 64) (λ _ n. Ended m n)
  drops slots id m site key place winner has is last full other s h _ at _ =
      let w : Walk = walk site key place winner in (
        having_asked m.0 w,
        keeps,
        tt,
        (steps all (core l s.words s.views) id m.0 h at has).drops w is last full other,
        λ x e. subst (λ (x : Walk). Asks x m (having_asked m.0 w, m.1)) (same_walk (sym is ∙ e)) record { rests = refl; shares = refl; asked = refl; held = refl },
      )

  pub cut_splits : (id : ℕ) (v : CoreView) (k : ℕ) → 0 < k → k < v.shares → Splits Rule id v (lessened v k) (fresh k)
  cut_splits id v k positive less s h at = (steps all (core l s.words s.views) id v h at (omega arith)).cuts k positive less

  pub merge_joins : (id : ℕ) (v : CoreView) (other : ℕ) (u : CoreView) → 0 < v.shares → u.walking ≡ None → Joins Rule id v other u (merged v u) spent
  merge_joins id v other u has rests s h at apart at_other = (steps all (core l s.words s.views) id v h at has).joins other u at_other rests

  -- the same at the word i, where the layout is known as t
  module _ (t : Layout) (same : l ≡ t) where
    pub begin_allows : (slots id : ℕ) (m : Me S CoreView) (i site key site' key' : ℕ) → i ≡ key_at t site 0 → site ≡ site' → key ≡ key' → IsResting m → site < t.sites → 0 < t.places → key ≢ 0 → Allows Rule slots id m i (λ n. n) (λ word n. Began site' key' m word n)
    begin_allows slots id m i site key site' key' e a b rests lt some_place nz =
        subst (λ (y : ℕ × (ℕ × ℕ)). Allows Rule slots id m y.0 (λ n. n) (λ word n. Began y.1.0 y.1.1 m word n)) (λ j. (sym (e ∙ ap (λ t. key_at t site 0) (sym same)) j, (a j, b j)))
        (begins slots id m site key rests (subst (λ (t : Layout). site < t.sites) (sym same) lt) (subst (λ (t : Layout). 0 < t.places) (sym same) some_place) nz)

    pub go_on_allows : (slots id : ℕ) (m : Me S CoreView) (i site key place winner : ℕ) → i ≡ key_at t site (place + 1) → 0 < m.0.shares → m.0.walking ≡ Some (walk site key place winner) → place + 1 < t.places → winner ≢ 0 → winner ≢ key → Allows Rule slots id m i (λ n. n) (λ word n. WentOn m word n)
    go_on_allows slots id m i site key place winner e has is lt full other =
        subst (λ (i : ℕ). Allows Rule slots id m i (λ n. n) (λ word n. WentOn m word n)) (sym (e ∙ ap (λ t. key_at t site (place + 1)) (sym same)))
        (goes_on slots id m site key place winner has is (subst (λ (t : Layout). place + 1 < t.places) (sym same) lt) full other)

    pub claim_allows : (slots id : ℕ) (m : Me S CoreView) (i site key place : ℕ) → i ≡ key_at t site place → 0 < m.0.shares → m.0.walking ≡ Some (walk site key place 0) → Allows Rule slots id m i (λ n. either (n == 0) key n) (λ word n. Claimed m word n)
    claim_allows slots id m i site key place e has is =
        subst (λ (i : ℕ). Allows Rule slots id m i (λ n. either (n == 0) key n) (λ word n. Claimed m word n)) (sym (e ∙ ap (λ t. key_at t site place) (sym same)))
        (claims slots id m site key place has is)

    pub count_allows : (slots id : ℕ) (m : Me S CoreView) (i site key place : ℕ) → i ≡ count_at t site place → 0 < m.0.shares → m.0.walking ≡ Some (walk site key place key) → Allows Rule slots id m i (λ n. (n + 1) % 2 ^ 64) (λ _ n. Ended m n)
    count_allows slots id m i site key place e has is =
        subst (λ (i : ℕ). Allows Rule slots id m i (λ n. (n + 1) % 2 ^ 64) (λ _ n. Ended m n)) (sym (e ∙ ap (λ t. count_at t site place) (sym same)))
        (counts slots id m site key place has is)

    pub drop_allows : (slots id : ℕ) (m : Me S CoreView) (i site key place winner : ℕ) → i ≡ dropped_at t site → 0 < m.0.shares → m.0.walking ≡ Some (walk site key place winner) → place + 1 ≡ t.places → winner ≢ 0 → winner ≢ key → Allows Rule slots id m i (λ n. (n + 1) % 2 ^ 64) (λ _ n. Ended m n)
    drop_allows slots id m i site key place winner e has is last full other =
        subst (λ (i : ℕ). Allows Rule slots id m i (λ n. (n + 1) % 2 ^ 64) (λ _ n. Ended m n)) (sym (e ∙ ap (λ t. dropped_at t site) (sym same)))
        (drops slots id m site key place winner has is (subst (λ (t : Layout). place + 1 ≡ t.places) (sym same) last) full other)
