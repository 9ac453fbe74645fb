-- Texts judged one after another: what those that are left come to, behind what was found so far, is what all come to.
use Rattle.std.proofs.Common.{◌≡◌, ℕ, ◌+◌, List, [], ◌∷◌, ◌++◌, drop, refl, sym, ap, ◌∙◌, subst, inl, inr, append-nil, append_assoc}
use Rattle.pgo_shell.specs.Judgement.{Part}
use Rattle.pgo_shell.specs.Product.{RefusedBy}
use Rattle.pgo_shell.specs.declared.command.Refusal.{Refusal}
use Rattle.pgo_shell.specs.declared.command.Refusal.TheVariants as refusal
use Rattle.command_profiles.specs.Each.{each}

module _ {A V : Type 0} (judge : A → Part V) (all : List A) where
  -- behind `vs`, what is found of the items from place k on is found of all
  abbrev pub FindsBehind : ℕ → List V → Type 0
  FindsBehind k vs = (ps : List V) → (each judge (drop k all)).finds ps → (each judge all).finds (vs ++ ps)

  abbrev pub RefusesBehind : ℕ → Type 0
  RefusesBehind k = (line : List ℕ) → (each judge (drop k all)).refuses line → (each judge all).refuses line

  pub finds_none : (vs : List V) → vs ≡ [] → FindsBehind 0 vs
  finds_none vs none ps found = subst (λ (us : List V). (each judge all).finds (us ++ ps)) (sym none) found

  pub finds_turn : (k : ℕ) (a : A) (v : V) (vs more : List V) → drop k all ≡ a ∷ drop (k + 1) all → (judge a).finds v → more ≡ vs ++ v ∷ [] → FindsBehind k vs → FindsBehind (k + 1) more
  finds_turn k a v vs more first found pushed behind ps rest =
      let here : (each judge (drop k all)).finds (v ∷ ps) = subst (λ (items : List A). (each judge items).finds (v ∷ ps)) (sym first) (v, found, (ps, rest, refl)) in
      subst (λ (qs : List V). (each judge all).finds qs) (sym (ap (λ (us : List V). us ++ ps) pushed ∙ append_assoc vs (v ∷ []) ps)) (behind (v ∷ ps) here)

  pub refuses_turn : (k : ℕ) (a : A) (v : V) → drop k all ≡ a ∷ drop (k + 1) all → (judge a).finds v → RefusesBehind k → RefusesBehind (k + 1)
  refuses_turn k a v first found behind line refused =
      behind line (subst (λ (items : List A). (each judge items).refuses line) (sym first) (inr (v, found, inl refused)))

  pub refuses_here : (k : ℕ) (a : A) (r : Refusal) → drop k all ≡ a ∷ drop (k + 1) all → RefusesBehind k → RefusedBy (judge a) r → RefusedBy (each judge all) r
  refuses_here k a (refusal.Text line) first behind refused = behind line.items (subst (λ (items : List A). (each judge items).refuses line.items) (sym first) (inl refused))
  refuses_here k a refusal.NoMemory first behind refused = tt

  pub finds_all : (k : ℕ) (vs : List V) → drop k all ≡ [] → FindsBehind k vs → (each judge all).finds vs
  finds_all k vs none behind =
      subst (λ (us : List V). (each judge all).finds us) (append-nil vs) (behind [] (subst (λ (items : List A). (each judge items).finds []) (sym none) refl))
