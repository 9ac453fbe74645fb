-- Runs of bytes, and what stands behind them.
use Rattle.std.proofs.Common.{◌≡◌, ℕ, zero, suc, Bool, true, false, ◌&&◌, ◌||◌, cond, eqb, List, [], ◌∷◌, ◌++◌, refl, sym, ap, ◌∙◌, subst}
use Rattle.std.specs.Char.{is_ascii_hexdigit}
use Rattle.std.proofs.lemmas.Bool.{and_parts, false≢true, eqb-true}
use Rattle.ir_lex.specs.Classes.{is_string_byte}
use Rattle.ir_lex.specs.Spelling.{ends, one, byte, many, is_byte_content}

pub and_none : (a b : Bool) → b ≡ false → (a && b) ≡ false
and_none true b e = e
and_none false b e = refl

pub or_none : (a b : Bool) → a ≡ false → b ≡ false → (a || b) ≡ false
or_none a b e f = ap (λ x. x || b) e ∙ f

pub never : {A : Type 0} {b : Bool} → b ≡ false → b ≡ true → A
never e f = absurd (false≢true (sym e ∙ f))

-- # A run up to the end

-- what stands behind a run is asked of the rest where the class ends there
pub run_over : (class : ℕ → Bool) (rest : List ℕ → Bool) (bs tail : List ℕ) → many class ends bs ≡ true → many class rest tail ≡ rest tail → many class rest (bs ++ tail) ≡ rest tail
run_over class rest [] tail h stop = stop
run_over class rest (b ∷ bs) tail h stop = go (λ k. run_over class rest bs tail k stop) (class b) refl h
  where
    go : (many class ends bs ≡ true → many class rest (bs ++ tail) ≡ rest tail) → (x : Bool) → class b ≡ x → cond x (many class ends bs) false ≡ true → cond (class b) (many class rest (bs ++ tail)) (rest (b ∷ bs ++ tail)) ≡ rest tail
    go later true e k = ap (λ x. cond x (many class rest (bs ++ tail)) (rest (b ∷ bs ++ tail))) e ∙ later k
    go later false e k = absurd (false≢true k)

-- a run of a narrower class is one of a wider
pub run_wider : (narrow wide : ℕ → Bool) → ((b : ℕ) → narrow b ≡ true → wide b ≡ true) → (bs : List ℕ) → many narrow ends bs ≡ true → many wide ends bs ≡ true
run_wider narrow wide sub [] h = refl
run_wider narrow wide sub (b ∷ bs) h = go (run_wider narrow wide sub bs) (narrow b) refl h
  where
    go : (many narrow ends bs ≡ true → many wide ends bs ≡ true) → (x : Bool) → narrow b ≡ x → cond x (many narrow ends bs) false ≡ true → cond (wide b) (many wide ends bs) false ≡ true
    go later true e k = ap (λ x. cond x (many wide ends bs) false) (sub b e) ∙ later k
    go later false e k = absurd (false≢true k)

-- a run that goes on to something else doesn't go up to the end
pub run_broken : (narrow wide : ℕ → Bool) → ((b : ℕ) → narrow b ≡ true → wide b ≡ true) → (rest : List ℕ → Bool) → rest [] ≡ false → (bs tail : List ℕ) → many wide rest bs ≡ true → many narrow ends (bs ++ tail) ≡ false
run_broken narrow wide sub rest nil [] tail h = never nil h
run_broken narrow wide sub rest nil (b ∷ bs) tail h = go (run_broken narrow wide sub rest nil bs tail) (narrow b) refl h
  where
    go : (many wide rest bs ≡ true → many narrow ends (bs ++ tail) ≡ false) → (x : Bool) → narrow b ≡ x → cond (wide b) (many wide rest bs) (rest (b ∷ bs)) ≡ true → cond (narrow b) (many narrow ends (bs ++ tail)) false ≡ false
    go later true e k =
        ap (λ x. cond x (many narrow ends (bs ++ tail)) false) e
        ∙ later (sym (ap (λ x. cond x (many wide rest bs) (rest (b ∷ bs))) (sub b e)) ∙ k)
    go later false e k = ap (λ x. cond x (many narrow ends (bs ++ tail)) false) e

-- a run doesn't begin with a byte that is neither of its class nor of what stands behind it
pub not_first : (class : ℕ → Bool) (rest : List ℕ → Bool) (c : ℕ) → class c ≡ false → ((bs : List ℕ) → rest (c ∷ bs) ≡ false) → (more : List ℕ → Bool) (bs tail : List ℕ) → many class rest bs ≡ true → byte c more tail ≡ false → byte c more (bs ++ tail) ≡ false
not_first class rest c out past more [] tail h stop = stop
not_first class rest c out past more (b ∷ bs) tail h stop = go (eqb b c) refl
  where
    begins : (x : ℕ) → x ≡ c → many class rest (x ∷ bs) ≡ true → many class rest (c ∷ bs) ≡ true
    begins x e k = subst (λ y. many class rest (y ∷ bs) ≡ true) e k

    go : (x : Bool) → eqb b c ≡ x → (eqb b c && more (bs ++ tail)) ≡ false
    go true e = never (ap (λ x. cond x (many class rest bs) (rest (c ∷ bs))) out ∙ past bs) (begins b (eqb-true b c e) h)
    go false e = ap (λ x. x && more (bs ++ tail)) e

-- # Spellings that end by themselves

-- whatever stands behind a token that is spelled so, no longer one is
abbrev pub IsFinal : (List ℕ → Bool) → Type 0
IsFinal test = (bs : List ℕ) (b : ℕ) (more : List ℕ) → test bs ≡ true → test (bs ++ b ∷ more) ≡ false

pub ends_final : IsFinal ends
ends_final [] b more h = refl
ends_final (c ∷ bs) b more h = absurd (false≢true h)

pub one_final : (class : ℕ → Bool) (test : List ℕ → Bool) → IsFinal test → IsFinal (one class test)
one_final class test f [] b more h = absurd (false≢true h)
one_final class test f (c ∷ bs) b more h = and_none (class c) (test (bs ++ b ∷ more)) (f bs b more (and_parts (class c) (test bs) h).1)

pub many_final : (class : ℕ → Bool) (test : List ℕ → Bool) → test [] ≡ false → IsFinal test → IsFinal (many class test)
many_final class test nil f [] b more h = never nil h
many_final class test nil f (c ∷ bs) b more h = go (many_final class test nil f bs b more) (class c) refl h
  where
    go : (many class test bs ≡ true → many class test (bs ++ b ∷ more) ≡ false) → (x : Bool) → class c ≡ x → cond x (many class test bs) (test (c ∷ bs)) ≡ true → cond (class c) (many class test (bs ++ b ∷ more)) (test (c ∷ bs ++ b ∷ more)) ≡ false
    go later true e k = ap (λ x. cond x (many class test (bs ++ b ∷ more)) (test (c ∷ bs ++ b ∷ more))) e ∙ later k
    go later false e k = ap (λ x. cond x (many class test (bs ++ b ∷ more)) (test (c ∷ bs ++ b ∷ more))) e ∙ f (c ∷ bs) b more k

pub content_final : (owed : ℕ) → IsFinal (is_byte_content owed)
content_final owed [] b more h = absurd (false≢true h)
content_final zero (c ∷ bs) b more h = quote (content_final 2 bs b more) (content_final 0 bs b more) (eqb c 34) refl h
  where
    End : Bool
    End = ends (bs ++ b ∷ more)

    Escape : Bool
    Escape = is_byte_content 2 (bs ++ b ∷ more)

    Shown : Bool
    Shown = is_string_byte c && is_byte_content 0 (bs ++ b ∷ more)

    slash : (is_byte_content 2 bs ≡ true → Escape ≡ false) → (is_byte_content 0 bs ≡ true → is_byte_content 0 (bs ++ b ∷ more) ≡ false) → (x : Bool) → eqb c 92 ≡ x → cond x (is_byte_content 2 bs) (is_string_byte c && is_byte_content 0 bs) ≡ true → cond x Escape Shown ≡ false
    slash escape shown true e k = escape k
    slash escape shown false e k = and_none (is_string_byte c) _ (shown (and_parts (is_string_byte c) (is_byte_content 0 bs) k).1)

    quote : (is_byte_content 2 bs ≡ true → Escape ≡ false) → (is_byte_content 0 bs ≡ true → is_byte_content 0 (bs ++ b ∷ more) ≡ false) → (x : Bool) → eqb c 34 ≡ x → cond x (ends bs) (cond (eqb c 92) (is_byte_content 2 bs) (is_string_byte c && is_byte_content 0 bs)) ≡ true → cond (eqb c 34) End (cond (eqb c 92) Escape Shown) ≡ false
    quote escape shown true e k = ap (λ x. cond x End (cond (eqb c 92) Escape Shown)) e ∙ ends_final bs b more k
    quote escape shown false e k = ap (λ x. cond x End (cond (eqb c 92) Escape Shown)) e ∙ slash escape shown (eqb c 92) refl k
content_final (suc owed) (c ∷ bs) b more h =
    and_none (is_ascii_hexdigit c) _ (content_final owed bs b more (and_parts (is_ascii_hexdigit c) (is_byte_content owed bs) h).1)
