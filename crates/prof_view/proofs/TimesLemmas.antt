-- A rule so many times over, read value by value.
use Rattle.std.proofs.Common.{◌≡◌, ℕ, zero, suc, ◌-◌, ◌<◌, ◌≤◌, List, [], ◌∷◌, length, Option, Some, None, refl, ◌∙◌, ap, arith}
use Rattle.std.specs.Option.{option_map}
use Rattle.ir_grammar.specs.Rules.{Rule, read_then}
use Rattle.prof_view.specs.Times.{times, next_read, first_values, then_rest, rest_behind}

values_with : {T A : Type 0} (x : A) (xs : List A) (o : Option (List T)) → read_then (option_map (λ rest. (xs, rest)) o) (λ ys rest. Some (x ∷ ys, rest)) ≡ option_map (λ rest. (x ∷ xs, rest)) o
values_with x xs None = refl
values_with x xs (Some rest) = refl

-- the values, and the tokens behind them
pub times_read : {T A : Type 0} (r : Rule T A) (n : ℕ) (ts : List T) → (times r n).read ts ≡ option_map (λ rest. (first_values r n ts, rest)) (rest_behind r n ts)
times_read r zero ts = refl
times_read {T} {A} r (suc n) ts = first (λ rest. times_read r n rest) (r.read ts)
  where
    first : ((rest : List T) → (times r n).read rest ≡ option_map (λ us. (first_values r n rest, us)) (rest_behind r n rest)) → (o : Option (A × List T))
        → read_then o (λ x. (λ us. read_then ((times r n).read us) (λ xs rest. Some (x ∷ xs, rest)))) ≡ option_map (λ us. (next_read o (λ rest. first_values r n rest), us)) (then_rest o (λ rest. rest_behind r n rest))
    first later None = refl
    first later (Some p) = ap (λ o. read_then o (λ xs rest. Some (p.0 ∷ xs, rest))) (later p.1) ∙ values_with p.0 (first_values r n p.1) (rest_behind r n p.1)

pub few_values : {T A : Type 0} (r : Rule T A) (n : ℕ) (ts : List T) → length (first_values r n ts) ≤ n
few_values r zero ts = omega arith
few_values {T} {A} r (suc n) ts = first (λ rest. few_values r n rest) (r.read ts)
  where
    first : ((rest : List T) → length (first_values r n rest) ≤ n) → (o : Option (A × List T)) → length (next_read o (λ rest. first_values r n rest)) ≤ suc n
    first later None = omega arith
    first later (Some p) = let few = later p.1 in omega arith

-- # One value

pub value_first : {T A : Type 0} (r : Rule T A) (n : ℕ) (ts : List T) (x : A) (rest : List T) → 0 < n → r.read ts ≡ Some (x, rest) → first_values r n ts ≡ x ∷ first_values r (n - 1) rest
value_first r zero ts x rest h e = absurd (omega arith)
value_first r (suc n) ts x rest h e = ap (λ o. next_read o (λ us. first_values r n us)) e ∙ ap (λ m. x ∷ first_values r m rest) (less n)
  where
    less : (n : ℕ) → n ≡ suc n - 1
    less n = omega arith

pub value_none : {T A : Type 0} (r : Rule T A) (n : ℕ) (ts : List T) → r.read ts ≡ None → first_values r n ts ≡ []
value_none r zero ts e = refl
value_none r (suc n) ts e = ap (λ o. next_read o (λ us. first_values r n us)) e

pub rest_first : {T A : Type 0} (r : Rule T A) (n : ℕ) (ts : List T) (x : A) (rest : List T) → 0 < n → r.read ts ≡ Some (x, rest) → rest_behind r n ts ≡ rest_behind r (n - 1) rest
rest_first r zero ts x rest h e = absurd (omega arith)
rest_first r (suc n) ts x rest h e = ap (λ o. then_rest o (λ us. rest_behind r n us)) e ∙ ap (λ m. rest_behind r m rest) (less n)
  where
    less : (n : ℕ) → n ≡ suc n - 1
    less n = omega arith

pub rest_none : {T A : Type 0} (r : Rule T A) (n : ℕ) (ts : List T) → 0 < n → r.read ts ≡ None → rest_behind r n ts ≡ None
rest_none r zero ts h e = absurd (omega arith)
rest_none r (suc n) ts h e = ap (λ o. then_rest o (λ us. rest_behind r n us)) e

-- # So many values

pub times_some : {T A : Type 0} (r : Rule T A) (n : ℕ) (ts rest : List T) → rest_behind r n ts ≡ Some rest → (times r n).read ts ≡ Some (first_values r n ts, rest)
times_some r n ts rest e = times_read r n ts ∙ ap (λ o. option_map (λ us. (first_values r n ts, us)) o) e

pub times_none : {T A : Type 0} (r : Rule T A) (n : ℕ) (ts : List T) → rest_behind r n ts ≡ None → (times r n).read ts ≡ None
times_none r n ts e = times_read r n ts ∙ ap (λ o. option_map (λ us. (first_values r n ts, us)) o) e
