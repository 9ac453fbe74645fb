-- A rule so many times over: the format's "the number and so many lines".
use Rattle.std.specs.Prelude.{ℕ, zero, suc, List, [], ◌∷◌, Option, Some, None}
use Rattle.ir_grammar.specs.Rules.{Rule, pure, ◌>>=◌}

abbrev pub times : {T A : Type 0} → Rule T A → ℕ → Rule T (List A)
times r zero = pure []
times r (suc n) = r >>= (λ x. times r n >>= (λ xs. pure (x ∷ xs)))

-- The values that a rule reads at the front, one after the other, n at most: up to the first place where it reads none
abbrev pub next_read : {T A : Type 0} → Option (A × List T) → (List T → List A) → List A
next_read None more = []
next_read (Some p) more = p.0 ∷ more p.1

abbrev pub first_values : {T A : Type 0} → Rule T A → ℕ → List T → List A
first_values r zero ts = []
first_values r (suc n) ts = next_read (r.read ts) (λ rest. first_values r n rest)

-- the tokens behind n values; none where one of the values can't be read
abbrev pub then_rest : {T A : Type 0} → Option (A × List T) → (List T → Option (List T)) → Option (List T)
then_rest None more = None
then_rest (Some p) more = more p.1

abbrev pub rest_behind : {T A : Type 0} → Rule T A → ℕ → List T → Option (List T)
rest_behind r zero ts = Some ts
rest_behind r (suc n) ts = then_rest (r.read ts) (λ rest. rest_behind r n rest)
