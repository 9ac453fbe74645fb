-- Rules of a grammar over lists of tokens. A rule says which tokens spell which values, reads a value off the front of
-- a list, and carries the proofs that the two agree, so a production that is put together from the rules below has
-- them too.
use Rattle.std.specs.Prelude.{◌≡◌, ℕ, zero, suc, ◌<◌, ◌≤◌, Bool, true, false, cond, ◌⊎◌, List, [], ◌∷◌, ◌++◌, length, Option, Some, None}
use Rattle.std.proofs.Common.{refl, sym, ◌∙◌, ap, subst, inl, inr, arith, append_assoc, append-nil}

pub record Rule (T A : Type 0) : Type 1 where
  -- the tokens that stand before the second list in the first one spell the value
  pub Spells : List T → A → List T → Type 0
  -- the value at the front of the list, and the tokens behind it
  pub read : List T → Option (A × List T)
  -- what is read is spelled
  pub sound : (ts : List T) (x : A) (rest : List T) → read ts ≡ Some (x, rest) → Spells ts x rest
  -- what is spelled is read
  pub complete : (ts : List T) (x : A) (rest : List T) → Spells ts x rest → read ts ≡ Some (x, rest)
  -- no token is added
  pub shorter : (ts : List T) (x : A) (rest : List T) → Spells ts x rest → length rest ≤ length ts

-- equal readings give equal values and equal tokens behind them
value_of : {T A : Type 0} → A → Option (A × List T) → A
value_of x None = x
value_of x (Some p) = p.0

rest_of : {T A : Type 0} → List T → Option (A × List T) → List T
rest_of ts None = ts
rest_of ts (Some p) = p.1

pub same_value : {T A : Type 0} {p q : A × List T} → ◌≡◌ {A = Option (A × List T)} (Some p) (Some q) → p.0 ≡ q.0
unfolding value_of
same_value {p} e = ap (value_of p.0) e

pub same_rest : {T A : Type 0} {p q : A × List T} → ◌≡◌ {A = Option (A × List T)} (Some p) (Some q) → p.1 ≡ q.1
unfolding rest_of
same_rest {p} e = ap (rest_of p.1) e

-- The same tokens spell one value at most, and end at one place.
pub spelled_once : {T A : Type 0} (r : Rule T A) (ts : List T) (x y : A) (rest others : List T) → r.Spells ts x rest → r.Spells ts y others → (x ≡ y) × (rest ≡ others)
spelled_once r ts x y rest others h k =
    let e = sym (r.complete ts x rest h) ∙ r.complete ts y others k in (same_value e, same_rest e)

-- Where nothing is read, nothing is spelled.
pub none_spelled : {T A : Type 0} (r : Rule T A) (ts : List T) → r.read ts ≡ None → (x : A) (rest : List T) → r.Spells ts x rest → ⊥
none_spelled r ts e x rest h = let f = sym e ∙ r.complete ts x rest h in cc

-- A rule that takes a token at least.
pub record TakesToken {T A : Type 0} (r : Rule T A) : Type 0 where
  pub fewer : (ts : List T) (x : A) (rest : List T) → r.Spells ts x rest → length rest < length ts

-- # No token

pub some_pair : {T A : Type 0} {x y : A} {ts us : List T} → x ≡ y → ts ≡ us → ◌≡◌ {A = Option (A × List T)} (Some (x, ts)) (Some (y, us))
some_pair e f = rw (e, f) refl

pub not_longer : {T : Type 0} (ts rest : List T) → rest ≡ ts → length rest ≤ length ts
not_longer ts rest e = rw e (omega arith)

-- the given value, whatever stands there
abbrev pub pure : {T A : Type 0} → A → Rule T A
pure given = record {
  Spells = λ ts x rest. (x ≡ given) × (rest ≡ ts);
  read = λ ts. Some (given, ts);
  sound = λ ts x rest e. (sym (same_value e), sym (same_rest e));
  complete = λ ts x rest h. some_pair (sym h.0) (sym h.1);
  shorter = λ ts x rest h. not_longer ts rest h.1;
}

abbrev pub with_rest : {T A : Type 0} → Option A → List T → Option (A × List T)
with_rest None ts = None
with_rest (Some x) ts = Some (x, ts)

pub with_rest-some : {T A : Type 0} (o : Option A) (ts : List T) (x : A) (rest : List T) → with_rest o ts ≡ Some (x, rest) → (o ≡ Some x) × (rest ≡ ts)
with_rest-some None ts x rest e = absurd (cc)
with_rest-some (Some y) ts x rest e = (ap Some (same_value e), sym (same_rest e))

pub some-with_rest : {T A : Type 0} (o : Option A) (ts : List T) (x : A) (rest : List T) → o ≡ Some x → rest ≡ ts → with_rest o ts ≡ Some (x, rest)
some-with_rest o ts x rest e f = rw (e, f) refl

-- the value that there is, and nothing where there is none
abbrev pub provided : {T A : Type 0} → Option A → Rule T A
provided o = record {
  Spells = λ ts x rest. (o ≡ Some x) × (rest ≡ ts);
  read = λ ts. with_rest o ts;
  sound = λ ts x rest e. with_rest-some o ts x rest e;
  complete = λ ts x rest h. some-with_rest o ts x rest h.0 h.1;
  shorter = λ ts x rest h. not_longer ts rest h.1;
}

-- # One token

-- the rest is the tokens without their first, and the first has this meaning
abbrev pub IsOne : {T A : Type 0} → (T → Option A) → List T → A → List T → Type 0
IsOne {T} meaning ts x rest = (t : T) × (ts ≡ t ∷ rest) × (meaning t ≡ Some x)

abbrev pub one_read : {T A : Type 0} → (T → Option A) → List T → Option (A × List T)
one_read meaning [] = None
one_read meaning (t ∷ ts) = with_rest (meaning t) ts

pub one_sound : {T A : Type 0} (meaning : T → Option A) (ts : List T) (x : A) (rest : List T) → one_read meaning ts ≡ Some (x, rest) → IsOne meaning ts x rest
one_sound meaning [] x rest e = absurd (cc)
one_sound meaning (t ∷ ts) x rest e = let (f, g) = with_rest-some (meaning t) ts x rest e in (t, ap (λ us. t ∷ us) (sym g), f)

pub one_complete : {T A : Type 0} (meaning : T → Option A) (ts : List T) (x : A) (rest : List T) → IsOne meaning ts x rest → one_read meaning ts ≡ Some (x, rest)
one_complete meaning ts x rest (t, e, f) = rw (e, f) refl

pub one_shorter : {T A : Type 0} (meaning : T → Option A) (ts : List T) (x : A) (rest : List T) → IsOne meaning ts x rest → length rest < length ts
one_shorter meaning ts x rest (t, e, f) = rw e (omega arith)

pub one_not_longer : {T A : Type 0} (meaning : T → Option A) (ts : List T) (x : A) (rest : List T) → IsOne meaning ts x rest → length rest ≤ length ts
one_not_longer meaning ts x rest h = let fewer = one_shorter meaning ts x rest h in omega arith

-- a token that means the value
abbrev pub one : {T A : Type 0} → (T → Option A) → Rule T A
one meaning = record {
  Spells = IsOne meaning;
  read = one_read meaning;
  sound = one_sound meaning;
  complete = one_complete meaning;
  shorter = one_not_longer meaning;
}

pub one_takes : {T A : Type 0} (meaning : T → Option A) → TakesToken (one meaning)
one_takes meaning = record { fewer = one_shorter meaning }

-- # One rule and then another

-- some tokens spell a value by the first rule, and those behind them spell this one by the rule that the value gives
abbrev pub IsThen : {T A B : Type 0} → Rule T A → (A → Rule T B) → List T → B → List T → Type 0
IsThen {T} {A} r f ts y rest = (x : A) × (middle : List T) × r.Spells ts x middle × (f x).Spells middle y rest

abbrev pub read_then : {T A B : Type 0} → Option (A × List T) → (A → List T → Option (B × List T)) → Option (B × List T)
read_then None f = None
read_then (Some p) f = f p.0 p.1

pub then_sound : {T A B : Type 0} (r : Rule T A) (f : A → Rule T B) (ts : List T) (y : B) (rest : List T) → read_then (r.read ts) (λ x. (f x).read) ≡ Some (y, rest) → IsThen r f ts y rest
then_sound {T} {A} r f ts y rest e = go (r.read ts) refl e
  where
    go : (o : Option (A × List T)) → r.read ts ≡ o → read_then o (λ x. (f x).read) ≡ Some (y, rest) → IsThen r f ts y rest
    go None h k = absurd (cc)
    go (Some p) h k = (p.0, p.1, r.sound ts p.0 p.1 h, (f p.0).sound p.1 y rest k)

pub then_complete : {T A B : Type 0} (r : Rule T A) (f : A → Rule T B) (ts : List T) (y : B) (rest : List T) → IsThen r f ts y rest → read_then (r.read ts) (λ x. (f x).read) ≡ Some (y, rest)
then_complete r f ts y rest (x, middle, h, k) =
    ap (λ o. read_then o (λ x. (f x).read)) (r.complete ts x middle h) ∙ (f x).complete middle y rest k

pub then_shorter : {T A B : Type 0} (r : Rule T A) (f : A → Rule T B) (ts : List T) (y : B) (rest : List T) → IsThen r f ts y rest → length rest ≤ length ts
then_shorter r f ts y rest (x, middle, h, k) =
    let first = r.shorter ts x middle h in
    let second = (f x).shorter middle y rest k in
    omega arith

infixl 10 ◌>>=◌
abbrev pub ◌>>=◌ : {T A B : Type 0} → Rule T A → (A → Rule T B) → Rule T B
r >>= f = record {
  Spells = IsThen r f;
  read = λ ts. read_then (r.read ts) (λ x. (f x).read);
  sound = then_sound r f;
  complete = then_complete r f;
  shorter = then_shorter r f;
}

infixl 10 ◌>>◌
abbrev pub ◌>>◌ : {T A B : Type 0} → Rule T A → Rule T B → Rule T B
r >> s = r >>= λ _. s

pub then_fewer : {T A B : Type 0} (r : Rule T A) (f : A → Rule T B) → TakesToken r → (ts : List T) (y : B) (rest : List T) → IsThen r f ts y rest → length rest < length ts
then_fewer r f takes ts y rest (x, middle, h, k) =
    let first = takes.fewer ts x middle h in
    let second = (f x).shorter middle y rest k in
    omega arith

pub then_takes : {T A B : Type 0} {r : Rule T A} (f : A → Rule T B) → TakesToken r → TakesToken (r >>= f)
then_takes {r} f takes = record { fewer = then_fewer r f takes }

-- # One of two rules

-- the tokens begin so, and the first rule says what they spell; or they don't, and the second does
abbrev pub IsEither : {T A : Type 0} → (List T → Bool) → Rule T A → Rule T A → List T → A → List T → Type 0
IsEither begins r s ts x rest = ((begins ts ≡ true) × r.Spells ts x rest) ⊎ ((begins ts ≡ false) × s.Spells ts x rest)

pub either_sound : {T A : Type 0} (begins : List T → Bool) (r s : Rule T A) (ts : List T) (x : A) (rest : List T) → cond (begins ts) (r.read ts) (s.read ts) ≡ Some (x, rest) → IsEither begins r s ts x rest
either_sound {T} {A} begins r s ts x rest e = go (begins ts) refl e
  where
    go : (b : Bool) → begins ts ≡ b → cond b (r.read ts) (s.read ts) ≡ Some (x, rest) → IsEither begins r s ts x rest
    go true h k = inl (h, r.sound ts x rest k)
    go false h k = inr (h, s.sound ts x rest k)

pub either_complete : {T A : Type 0} (begins : List T → Bool) (r s : Rule T A) (ts : List T) (x : A) (rest : List T) → IsEither begins r s ts x rest → cond (begins ts) (r.read ts) (s.read ts) ≡ Some (x, rest)
either_complete begins r s ts x rest (inl p) = ap (λ b. cond b (r.read ts) (s.read ts)) p.0 ∙ r.complete ts x rest p.1
either_complete begins r s ts x rest (inr p) = ap (λ b. cond b (r.read ts) (s.read ts)) p.0 ∙ s.complete ts x rest p.1

pub either_shorter : {T A : Type 0} (begins : List T → Bool) (r s : Rule T A) (ts : List T) (x : A) (rest : List T) → IsEither begins r s ts x rest → length rest ≤ length ts
either_shorter begins r s ts x rest (inl p) = r.shorter ts x rest p.1
either_shorter begins r s ts x rest (inr p) = s.shorter ts x rest p.1

-- the first rule where the tokens begin so, and else the second
abbrev pub either : {T A : Type 0} → (List T → Bool) → Rule T A → Rule T A → Rule T A
either begins r s = record {
  Spells = IsEither begins r s;
  read = λ ts. cond (begins ts) (r.read ts) (s.read ts);
  sound = either_sound begins r s;
  complete = either_complete begins r s;
  shorter = either_shorter begins r s;
}

pub either_fewer : {T A : Type 0} (begins : List T → Bool) (r s : Rule T A) → TakesToken r → TakesToken s → (ts : List T) (x : A) (rest : List T) → IsEither begins r s ts x rest → length rest < length ts
either_fewer begins r s first second ts x rest (inl p) = first.fewer ts x rest p.1
either_fewer begins r s first second ts x rest (inr p) = second.fewer ts x rest p.1

pub either_takes : {T A : Type 0} {begins : List T → Bool} {r s : Rule T A} → TakesToken r → TakesToken s → TakesToken (either begins r s)
either_takes {begins} {r} {s} first second = record { fewer = either_fewer begins r s first second }

-- the rule's value where the tokens begin so, and else none
abbrev pub optional : {T A : Type 0} → (List T → Bool) → Rule T A → Rule T (Option A)
optional begins r = either begins (r >>= λ x. pure (Some x)) (pure None)

-- # One rule again and again

-- one after the other as long as the tokens begin so
abbrev pub AreMany : {T A : Type 0} → (List T → Bool) → Rule T A → List T → List A → List T → Type 0
AreMany begins r ts [] rest = (begins ts ≡ false) × (rest ≡ ts)
AreMany {T} begins r ts (x ∷ xs) rest = (begins ts ≡ true) × (middle : List T) × r.Spells ts x middle × AreMany begins r middle xs rest

-- reading with a bound on how many there are, behind those that were found
abbrev pub many_from : {T A : Type 0} → (List T → Bool) → Rule T A → ℕ → List A → List T → Option (List A × List T)
many_from begins r zero found ts = None
many_from begins r (suc turns) found ts =
    cond (begins ts) (read_then (r.read ts) (λ x. many_from begins r turns (found ++ x ∷ []))) (Some (found, ts))

-- a list that was found in front of the items that the tokens spell
abbrev pub ExtendsBy : {T A : Type 0} → (List T → Bool) → Rule T A → List A → List T → List A → List T → Type 0
ExtendsBy {T} {A} begins r found ts ys rest = (xs : List A) × (ys ≡ found ++ xs) × AreMany begins r ts xs rest

pub extends_none : {T A : Type 0} (begins : List T → Bool) (r : Rule T A) (found : List A) (ts : List T) (ys : List A) (rest : List T) → begins ts ≡ false → ◌≡◌ {A = Option (List A × List T)} (Some (found, ts)) (Some (ys, rest)) → ExtendsBy begins r found ts ys rest
extends_none begins r found ts ys rest h e = ([], sym (same_value e) ∙ sym (append-nil found), (h, sym (same_rest e)))

pub extends_more : {T A : Type 0} (begins : List T → Bool) (r : Rule T A) (found : List A) (ts : List T) (x : A) (middle : List T) (ys : List A) (rest : List T) → begins ts ≡ true → r.Spells ts x middle → ExtendsBy begins r (found ++ x ∷ []) middle ys rest → ExtendsBy begins r found ts ys rest
extends_more begins r found ts x middle ys rest h first (xs, e, others) =
    (x ∷ xs, e ∙ append_assoc found (x ∷ []) xs, (h, middle, first, others))

pub many_sound : {T A : Type 0} (begins : List T → Bool) (r : Rule T A) (turns : ℕ) (found : List A) (ts : List T) (ys : List A) (rest : List T) → many_from begins r turns found ts ≡ Some (ys, rest) → ExtendsBy begins r found ts ys rest
many_sound begins r zero found ts ys rest e = absurd (cc)
many_sound {T} {A} begins r (suc turns) found ts ys rest e = choose (λ more us. many_sound begins r turns more us ys rest) (begins ts) refl e
  where
    Later : Type 0
    Later = (more : List A) (us : List T) → many_from begins r turns more us ≡ Some (ys, rest) → ExtendsBy begins r more us ys rest

    item : Later → (o : Option (A × List T)) → begins ts ≡ true → r.read ts ≡ o → read_then o (λ x. many_from begins r turns (found ++ x ∷ [])) ≡ Some (ys, rest) → ExtendsBy begins r found ts ys rest
    item later None h f k = absurd (cc)
    item later (Some p) h f k = extends_more begins r found ts p.0 p.1 ys rest h (r.sound ts p.0 p.1 f) (later (found ++ p.0 ∷ []) p.1 k)

    choose : Later → (b : Bool) → begins ts ≡ b → cond b (read_then (r.read ts) (λ x. many_from begins r turns (found ++ x ∷ []))) (Some (found, ts)) ≡ Some (ys, rest) → ExtendsBy begins r found ts ys rest
    choose later true h k = item later (r.read ts) h refl k
    choose later false h k = extends_none begins r found ts ys rest h k

pub many_complete : {T A : Type 0} (begins : List T → Bool) (r : Rule T A) → TakesToken r → (turns : ℕ) (found : List A) (ts : List T) (xs : List A) (rest : List T) → AreMany begins r ts xs rest → length ts < turns → many_from begins r turns found ts ≡ Some (found ++ xs, rest)
many_complete begins r takes zero found ts xs rest h room = absurd (omega arith)
many_complete begins r takes (suc turns) found ts [] rest (h, e) room =
    ap (λ b. cond b (read_then (r.read ts) (λ x. many_from begins r turns (found ++ x ∷ []))) (Some (found, ts))) h ∙ some_pair (sym (append-nil found)) (sym e)
many_complete begins r takes (suc turns) found ts (x ∷ xs) rest (h, middle, first, others) room =
    let less : length middle < turns = let fewer = takes.fewer ts x middle first in omega arith in
    ap (λ b. cond b (read_then (r.read ts) (λ y. many_from begins r turns (found ++ y ∷ []))) (Some (found, ts))) h
    ∙ ap (λ o. read_then o (λ y. many_from begins r turns (found ++ y ∷ []))) (r.complete ts x middle first)
    ∙ many_complete begins r takes turns (found ++ x ∷ []) middle xs rest others less
    ∙ some_pair (append_assoc found (x ∷ []) xs) refl

pub many_shorter : {T A : Type 0} (begins : List T → Bool) (r : Rule T A) (ts : List T) (xs : List A) (rest : List T) → AreMany begins r ts xs rest → length rest ≤ length ts
many_shorter begins r ts [] rest h = not_longer ts rest h.1
many_shorter begins r ts (x ∷ xs) rest (h, middle, first, others) =
    let fewer = r.shorter ts x middle first in
    let fewest = many_shorter begins r middle xs rest others in
    omega arith

-- Each bound above the number of tokens reads the same.
pub many_from-enough : {T A : Type 0} (begins : List T → Bool) (r : Rule T A) → TakesToken r → (turns others : ℕ) (found : List A) (ts : List T) → length ts < turns → length ts < others → many_from begins r turns found ts ≡ many_from begins r others found ts
many_from-enough begins r takes zero others found ts h k = absurd (omega arith)
many_from-enough begins r takes (suc turns) zero found ts h k = absurd (omega arith)
many_from-enough {T} {A} begins r takes (suc turns) (suc others) found ts h k =
    choose (λ more us. many_from-enough begins r takes turns others more us) (begins ts)
  where
    Later : Type 0
    Later = (more : List A) (us : List T) → length us < turns → length us < others → many_from begins r turns more us ≡ many_from begins r others more us

    item : Later → (o : Option (A × List T)) → r.read ts ≡ o → read_then o (λ x. many_from begins r turns (found ++ x ∷ [])) ≡ read_then o (λ x. many_from begins r others (found ++ x ∷ []))
    item later None f = refl
    item later (Some p) f =
        let less = takes.fewer ts p.0 p.1 (r.sound ts p.0 p.1 f) in
        later (found ++ p.0 ∷ []) p.1 (omega arith) (omega arith)

    choose : Later → (b : Bool) → cond b (read_then (r.read ts) (λ x. many_from begins r turns (found ++ x ∷ []))) (Some (found, ts)) ≡ cond b (read_then (r.read ts) (λ x. many_from begins r others (found ++ x ∷ []))) (Some (found, ts))
    choose later true = item later (r.read ts) refl
    choose later false = refl

pub many_after_complete : {T A : Type 0} (begins : List T → Bool) (r : Rule T A) → TakesToken r → (found : List A) (ts : List T) (ys : List A) (rest : List T) → ExtendsBy begins r found ts ys rest → many_from begins r (suc (length ts)) found ts ≡ Some (ys, rest)
many_after_complete begins r takes found ts ys rest (xs, e, h) =
    many_complete begins r takes (suc (length ts)) found ts xs rest h (omega arith) ∙ some_pair (sym e) refl

pub many_after_shorter : {T A : Type 0} (begins : List T → Bool) (r : Rule T A) (found : List A) (ts : List T) (ys : List A) (rest : List T) → ExtendsBy begins r found ts ys rest → length rest ≤ length ts
many_after_shorter begins r found ts ys rest (xs, e, h) = many_shorter begins r ts xs rest h

-- the rule, which takes a token each time, as long as the tokens begin so; its values stand behind those that were found
abbrev pub many_after : {T A : Type 0} → List A → (begins : List T → Bool) (r : Rule T A) → TakesToken r → Rule T (List A)
many_after found begins r takes = record {
  Spells = ExtendsBy begins r found;
  read = λ ts. many_from begins r (suc (length ts)) found ts;
  sound = λ ts. many_sound begins r (suc (length ts)) found ts;
  complete = many_after_complete begins r takes found;
  shorter = many_after_shorter begins r found;
}

pub many_read_sound : {T A : Type 0} (begins : List T → Bool) (r : Rule T A) (ts : List T) (xs : List A) (rest : List T) → many_from begins r (suc (length ts)) [] ts ≡ Some (xs, rest) → AreMany begins r ts xs rest
many_read_sound begins r ts xs rest e =
    let (ys, same, spelled) = many_sound begins r (suc (length ts)) [] ts xs rest e in
    subst (λ zs. AreMany begins r ts zs rest) (sym same) spelled

pub many_read_complete : {T A : Type 0} (begins : List T → Bool) (r : Rule T A) → TakesToken r → (ts : List T) (xs : List A) (rest : List T) → AreMany begins r ts xs rest → many_from begins r (suc (length ts)) [] ts ≡ Some (xs, rest)
many_read_complete begins r takes ts xs rest h = many_complete begins r takes (suc (length ts)) [] ts xs rest h (omega arith)

-- the rule, which takes a token each time, as long as the tokens begin so
abbrev pub many : {T A : Type 0} → (begins : List T → Bool) (r : Rule T A) → TakesToken r → Rule T (List A)
many begins r takes = record {
  Spells = AreMany begins r;
  read = λ ts. many_from begins r (suc (length ts)) [] ts;
  sound = many_read_sound begins r;
  complete = many_read_complete begins r takes;
  shorter = many_shorter begins r;
}

-- # One rule or another, whichever spells it

-- what the first rule spells begins so, and what the second spells doesn't
pub record AreApart {T A : Type 0} (begins : List T → Bool) (r s : Rule T A) : Type 0 where
  pub first : (ts : List T) (x : A) (rest : List T) → r.Spells ts x rest → begins ts ≡ true
  pub second : (ts : List T) (x : A) (rest : List T) → s.Spells ts x rest → begins ts ≡ false

abbrev pub IsOr : {T A : Type 0} → Rule T A → Rule T A → List T → A → List T → Type 0
IsOr r s ts x rest = r.Spells ts x rest ⊎ s.Spells ts x rest

pub either-or : {T A : Type 0} (begins : List T → Bool) (r s : Rule T A) (ts : List T) (x : A) (rest : List T) → IsEither begins r s ts x rest → IsOr r s ts x rest
either-or begins r s ts x rest (inl h) = inl h.1
either-or begins r s ts x rest (inr h) = inr h.1

pub or-either : {T A : Type 0} (begins : List T → Bool) (r s : Rule T A) → AreApart begins r s → (ts : List T) (x : A) (rest : List T) → IsOr r s ts x rest → IsEither begins r s ts x rest
or-either begins r s apart ts x rest (inl h) = inl (apart.first ts x rest h, h)
or-either begins r s apart ts x rest (inr h) = inr (apart.second ts x rest h, h)

-- what either rule spells, where the first token shows which one may
abbrev pub or : {T A : Type 0} → (begins : List T → Bool) (r s : Rule T A) → AreApart begins r s → Rule T A
or begins r s apart = record {
  Spells = IsOr r s;
  read = (either begins r s).read;
  sound = λ ts x rest e. either-or begins r s ts x rest (either_sound begins r s ts x rest e);
  complete = λ ts x rest h. either_complete begins r s ts x rest (or-either begins r s apart ts x rest h);
  shorter = λ ts x rest h. either_shorter begins r s ts x rest (or-either begins r s apart ts x rest h);
}
