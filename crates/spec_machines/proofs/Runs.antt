-- Runs of an abstract machine: many steps and then more, and a run of more steps goes on from one of fewer.
use Rattle.std.proofs.Common.{◌≡◌, ℕ, zero, suc, ◌+◌, ◌-◌, ◌≤◌, List, [], ◌++◌, refl, sym, subst, ◌∙◌, ap, append_assoc, arith, zero-add}
use Rattle.spec_machines.specs.Machine.{Next, Goes, Stops, Ran, Open, Ended, shown_first, go_on, run, Within, more_shown, then_go, many}

module _ {A E : Type 0} where
  first_nil : (r : Ran A E) → shown_first [] r ≡ r
  first_nil (Open p) = refl
  first_nil (Ended p e) = refl

  first_first : (o p : List A) (r : Ran A E) → shown_first o (shown_first p r) ≡ shown_first (o ++ p) r
  first_first o p (Open q) = ap (λ l. Open l) (sym (append_assoc o p q))
  first_first o p (Ended q e) = ap (λ l. Ended l e) (sym (append_assoc o p q))

  open_within : (r : Ran A E) → Within (Open []) r
  open_within (Open q) = (q, refl)
  open_within (Ended q e) = (q, refl)

  within_first : (o : List A) (x y : Ran A E) → Within x y → Within (shown_first o x) (shown_first o y)
  within_first o (Open p) (Open q) w = (w.0, ap (λ l. o ++ l) w.1 ∙ sym (append_assoc o p w.0))
  within_first o (Open p) (Ended q e) w = (w.0, ap (λ l. o ++ l) w.1 ∙ sym (append_assoc o p w.0))
  within_first o (Ended p d) (Open q) w = w
  within_first o (Ended p d) (Ended q e) w = (ap (λ l. o ++ l) w.0, w.1)

module _ {A E S : Type 0} where
  pub within_on : (x : Next A E S) (f g : S → Ran A E) → ((s : S) → Within (f s) (g s)) → Within (go_on x f) (go_on x g)
  within_on (Goes o s) f g h = within_first o (f s) (g s) (h s)
  within_on (Stops o e) f g h = (refl, refl)

  pub on_same : (x : Next A E S) (f g : S → Ran A E) → ((s : S) → f s ≡ g s) → go_on x f ≡ go_on x g
  on_same (Goes o s) f g h = ap (λ r. shown_first o r) (h s)
  on_same (Stops o e) f g h = refl

  on_more : (o : List A) (x : Next A E S) (go : S → Ran A E) → go_on (more_shown o x) go ≡ shown_first o (go_on x go)
  on_more o (Goes p s) go = sym (first_first o p (go s))
  on_more o (Stops p e) go = refl

  pub on_then : (x : Next A E S) (h : S → Next A E S) (go : S → Ran A E) → go_on (then_go x h) go ≡ go_on x (λ s. go_on (h s) go)
  on_then (Goes o s) h go = on_more o (h s) go
  on_then (Stops o e) h go = refl

module _ {A E S : Type 0} (step : S → Next A E S) where
  -- a run is many steps and then the rest of it
  pub run_many : (k n : ℕ) (s : S) → run step (k + n) s ≡ go_on (many step k s) (run step n)
  run_many zero n s = ap (λ i. run step i s) (zero-add n) ∙ sym (first_nil (run step n s))
  run_many (suc k) n s =
      let e : suc k + n ≡ suc (k + n) = omega arith in
      ap (λ i. run step i s) e ∙ on_same (step s) (run step (k + n)) (λ r. go_on (many step k r) (run step n)) (run_many k n) ∙ sym (on_then (step s) (many step k) (run step n))

  pub run_more : (n k : ℕ) (s : S) → Within (run step n s) (run step (n + k) s)
  run_more zero k s = open_within (run step (zero + k) s)
  run_more (suc n) k s =
      let e : suc n + k ≡ suc (n + k) = omega arith in
      rw e (within_on (step s) (run step n) (run step (n + k)) (run_more n k))

  pub run_longer : (n m : ℕ) → n ≤ m → (s : S) → Within (run step n s) (run step m s)
  run_longer n m h s =
      let e : n + (m - n) ≡ m = omega arith in
      subst (λ i. Within (run step n s) (run step i s)) e (run_more n (m - n) s)
