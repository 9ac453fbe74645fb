-- How far one run reaches beside another, by what is looked at of both.
use Rattle.std.proofs.Common.{◌≡◌, List, [], ◌++◌, sym, subst, ◌∙◌, ap, append_assoc}
use Rattle.spec_machines.specs.Machine.{Ran, Open, Ended, shown_first, Within}
use Rattle.spec_machines.specs.Simulation.{IsView, Reaches, StaysOwed}

module _ {A B C E : Type 0} (f : List A → List C) (g : List B → List C) (R : List A → List B → E → Type 0) (first : IsView f) (second : IsView g) where
  pub reaches_open : (r : Ran B E) → Reaches f g R (Open []) r
  reaches_open (Open q) = (g q, ap (λ l. l ++ g q) (sym first.none))
  reaches_open (Ended q e) = (g q, ap (λ l. l ++ g q) (sym first.none))

  -- behind items that look the same
  front : (o p : List A) (q r : List B) (rest : List C) → f o ≡ g q → g r ≡ f p ++ rest → g (q ++ r) ≡ f (o ++ p) ++ rest
  front o p q r rest e h =
      second.more q r ∙ ap (λ l. l ++ g r) (sym e) ∙ ap (λ l. f o ++ l) h ∙ sym (append_assoc (f o) (f p) rest) ∙ ap (λ l. l ++ rest) (sym (first.more o p))

  -- further items of the second
  longer : (p : List A) (q r more : List B) (rest : List C) → g q ≡ f p ++ rest → r ≡ q ++ more → g r ≡ f p ++ (rest ++ g more)
  longer p q r more rest e h =
      ap g h ∙ second.more q more ∙ ap (λ l. l ++ g more) e ∙ append_assoc (f p) rest (g more)

  -- fewer items of the first
  shorter : (p q more : List A) (r : List B) (rest : List C) → q ≡ p ++ more → g r ≡ f q ++ rest → g r ≡ f p ++ (f more ++ rest)
  shorter p q more r rest e h =
      h ∙ ap (λ l. f l ++ rest) e ∙ ap (λ l. l ++ rest) (first.more p more) ∙ append_assoc (f p) (f more) rest

  pub reaches_first : StaysOwed f g R → (o : List A) (q : List B) → f o ≡ g q → (x : Ran A E) (y : Ran B E) → Reaches f g R x y → Reaches f g R (shown_first o x) (shown_first q y)
  reaches_first owed o q e (Open p) (Open r) w = (w.0, front o p q r w.0 e w.1)
  reaches_first owed o q e (Open p) (Ended r d) w = (w.0, front o p q r w.0 e w.1)
  reaches_first owed o q e (Ended p d) (Open r) w = w
  reaches_first owed o q e (Ended p d) (Ended r c) w = (owed o p q r d e w.0, w.1)

  pub reaches_within : (x : Ran A E) (y z : Ran B E) → Reaches f g R x y → Within y z → Reaches f g R x z
  reaches_within (Open p) (Open q) (Open r) w h = (w.0 ++ g h.0, longer p q r h.0 w.0 w.1 h.1)
  reaches_within (Open p) (Open q) (Ended r e) w h = (w.0 ++ g h.0, longer p q r h.0 w.0 w.1 h.1)
  reaches_within (Open p) (Ended q d) (Open r) w h = absurd h
  reaches_within (Open p) (Ended q d) (Ended r e) w h = (w.0, ap g (sym h.0) ∙ w.1)
  reaches_within (Ended p c) (Open q) z w h = absurd w
  reaches_within (Ended p c) (Ended q d) (Open r) w h = h
  reaches_within (Ended p c) (Ended q d) (Ended r e) w h = (subst (λ l. R p l c) h.0 w.0, w.1 ∙ h.1)

  -- a first part of the first, where two stops look the same
  pub within_reaches : ((p : List A) (q : List B) (e : E) → R p q e → f p ≡ g q) → (x y : Ran A E) (z : Ran B E) → Within x y → Reaches f g R y z → Reaches f g R x z
  within_reaches looks (Open p) (Open q) (Open r) h w = (f h.0 ++ w.0, shorter p q h.0 r w.0 h.1 w.1)
  within_reaches looks (Open p) (Open q) (Ended r e) h w = (f h.0 ++ w.0, shorter p q h.0 r w.0 h.1 w.1)
  within_reaches looks (Open p) (Ended q d) (Open r) h w = absurd w
  within_reaches looks (Open p) (Ended q d) (Ended r e) h w = (f h.0, sym (looks q r d w.0) ∙ ap f h.1 ∙ first.more p h.0)
  within_reaches looks (Ended p c) (Open q) z h w = absurd h
  within_reaches looks (Ended p c) (Ended q d) (Open r) h w = w
  within_reaches looks (Ended p c) (Ended q d) (Ended r e) h w = (subst (λ l. R l r c) (sym h.0) (subst (λ k. R q r k) (sym h.1) w.0), h.1 ∙ w.1)
