-- A rule again and again, as long as the tokens begin so: one value more, none that can be read, and the end.
use Rattle.std.proofs.Common.{◌≡◌, ℕ, zero, suc, Bool, true, false, cond, List, [], ◌∷◌, ◌++◌, length, Option, Some, None, refl, ◌∙◌, ap, arith, append_assoc}
use Rattle.std.specs.Option.{option_map}
use Rattle.ir_grammar.specs.Rules.{Rule, TakesToken, many, many_from, many_from-enough, read_then}

-- values in front of those that were read
abbrev pub in_front : {T A : Type 0} → List A → Option (List A × List T) → Option (List A × List T)
in_front found o = option_map (λ p. (found ++ p.0, p.1)) o

pub many_found : {T A : Type 0} (begins : List T → Bool) (r : Rule T A) (n : ℕ) (found more : List A) (ts : List T) → many_from begins r n (found ++ more) ts ≡ in_front found (many_from begins r n more ts)
many_found begins r zero found more ts = refl
many_found {T} {A} begins r (suc n) found more ts = choose (λ xs us. many_found begins r n found xs us) (begins ts)
  where
    item : ((xs : List A) (us : List T) → many_from begins r n (found ++ xs) us ≡ in_front found (many_from begins r n xs us)) → (o : Option (A × List T))
        → read_then o (λ x. many_from begins r n ((found ++ more) ++ x ∷ [])) ≡ in_front found (read_then o (λ x. many_from begins r n (more ++ x ∷ [])))
    item later None = refl
    item later (Some p) = ap (λ xs. many_from begins r n xs p.1) (append_assoc found more (p.0 ∷ [])) ∙ later (more ++ p.0 ∷ []) p.1

    choose : ((xs : List A) (us : List T) → many_from begins r n (found ++ xs) us ≡ in_front found (many_from begins r n xs us)) → (b : Bool)
        → cond b (read_then (r.read ts) (λ x. many_from begins r n ((found ++ more) ++ x ∷ []))) (Some (found ++ more, ts)) ≡ in_front found (cond b (read_then (r.read ts) (λ x. many_from begins r n (more ++ x ∷ []))) (Some (more, ts)))
    choose later true = item later (r.read ts)
    choose later false = refl

pub many_step : {T A : Type 0} (begins : List T → Bool) (r : Rule T A) (takes : TakesToken r) (ts : List T) (x : A) (rest : List T) → begins ts ≡ true → r.read ts ≡ Some (x, rest)
    → (many begins r takes).read ts ≡ in_front (x ∷ []) ((many begins r takes).read rest)
many_step begins r takes ts x rest b e =
    let less = takes.fewer ts x rest (r.sound ts x rest e) in
    ap (λ t. cond t (read_then (r.read ts) (λ y. many_from begins r (length ts) (y ∷ []))) (Some ([], ts))) b
    ∙ ap (λ o. read_then o (λ y. many_from begins r (length ts) (y ∷ []))) e
    ∙ many_found begins r (length ts) (x ∷ []) [] rest
    ∙ ap (in_front (x ∷ [])) (many_from-enough begins r takes (length ts) (suc (length rest)) [] rest less (omega arith))

pub many_none : {T A : Type 0} (begins : List T → Bool) (r : Rule T A) (takes : TakesToken r) (ts : List T) → begins ts ≡ true → r.read ts ≡ None → (many begins r takes).read ts ≡ None
many_none begins r takes ts b e =
    ap (λ t. cond t (read_then (r.read ts) (λ y. many_from begins r (length ts) (y ∷ []))) (Some ([], ts))) b
    ∙ ap (λ o. read_then o (λ y. many_from begins r (length ts) (y ∷ []))) e

pub many_end : {T A : Type 0} (begins : List T → Bool) (r : Rule T A) (takes : TakesToken r) (ts : List T) → begins ts ≡ false → (many begins r takes).read ts ≡ Some ([], ts)
many_end begins r takes ts b = ap (λ t. cond t (read_then (r.read ts) (λ y. many_from begins r (length ts) (y ∷ []))) (Some ([], ts))) b
