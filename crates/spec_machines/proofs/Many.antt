-- Many steps as one: a part of them, and then the others.
use Rattle.std.proofs.Common.{◌≡◌, ℕ, zero, suc, ◌+◌, List, [], ◌++◌, refl, sym, ◌∙◌, ap, append_assoc, arith}
use Rattle.std.proofs.lemmas.List.{append-nil}
use Rattle.spec_machines.specs.Machine.{Next, Goes, Stops, more_shown, then_go, many}

module _ {A E S : Type 0} where
  more_more : (o p : List A) (x : Next A E S) → more_shown (o ++ p) x ≡ more_shown o (more_shown p x)
  more_more o p (Goes q s) = ap (λ l. Goes l s) (append_assoc o p q)
  more_more o p (Stops q e) = ap (λ l. Stops l e) (append_assoc o p q)

  pub more_then : (o : List A) (x : Next A E S) (go : S → Next A E S) → then_go (more_shown o x) go ≡ more_shown o (then_go x go)
  more_then o (Goes p s) go = more_more o p (go s)
  more_then o (Stops p e) go = refl

  then_then : (x : Next A E S) (first second : S → Next A E S) → then_go (then_go x first) second ≡ then_go x (λ s. then_go (first s) second)
  then_then (Goes o s) first second = more_then o (first s) second
  then_then (Stops o e) first second = refl

  then_same : (x : Next A E S) (go go' : S → Next A E S) → ((s : S) → go s ≡ go' s) → then_go x go ≡ then_go x go'
  then_same (Goes o s) go go' h = ap (more_shown o) (h s)
  then_same (Stops o e) go go' h = refl

  more_nothing : (x : Next A E S) → more_shown [] x ≡ x
  more_nothing (Goes o s) = refl
  more_nothing (Stops o e) = refl

  pub then_stays : (x : Next A E S) → then_go x (λ s. Goes [] s) ≡ x
  then_stays (Goes o s) = ap (λ l. Goes l s) (append-nil o)
  then_stays (Stops o e) = refl

  module _ (step : S → Next A E S) where
    pub many_add : (j k : ℕ) (s : S) → many step (j + k) s ≡ then_go (many step j s) (many step k)
    many_add zero k s = ap (λ i. many step i s) (let e : zero + k ≡ k = omega arith in e) ∙ sym (more_nothing (many step k s))
    many_add (suc j) k s =
        ap (λ i. many step i s) (let e : suc j + k ≡ suc (j + k) = omega arith in e)
        ∙ then_same (step s) (many step (j + k)) (λ r. then_go (many step j r) (many step k)) (many_add j k)
        ∙ sym (then_then (step s) (many step j) (many step k))

    pub many_one : (s : S) → many step 1 s ≡ step s
    many_one s = then_stays (step s)

    -- steps that go on, a step, and then more
    pub many_through : (j k : ℕ) (s t : S) (o : List A) → many step j s ≡ Goes o t → many step (suc (j + k)) s ≡ more_shown o (then_go (step t) (many step k))
    many_through j k s t o goes =
        ap (λ i. many step i s) (let e : suc (j + k) ≡ j + suc k = omega arith in e) ∙ many_add j (suc k) s ∙ ap (λ x. then_go x (many step (suc k))) goes
