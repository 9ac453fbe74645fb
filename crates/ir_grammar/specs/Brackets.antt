-- A rule for tokens that are read past: they go up to the bracket that closes one that is open already, and the brackets
-- between them are closed in the order in which they nest, each by one of its kind.
use Rattle.std.specs.Prelude.{◌≡◌, ℕ, ◌≤◌, cond, List, [], ◌∷◌, length, Option, Some, None, nat_eq}
use Rattle.std.specs.Option.{option_and_then}
use Rattle.std.proofs.Common.{refl, sym, ◌∙◌, ap, arith}
use Rattle.ir_grammar.specs.Rules.{Rule, same_rest, some_pair}
use Rattle.ir_grammar.specs.declared.words.Bracket.{Bracket}
use Rattle.ir_grammar.specs.declared.words.Bracket.TheVariants.{Opens, Closes, Neither}

-- the kinds of the brackets that are open behind the token, the innermost first; none where it closes another kind than
-- the innermost
abbrev pub nest_after : Bracket → List ℕ → Option (List ℕ)
nest_after (Opens kind) nest = Some (kind ∷ nest)
nest_after (Closes kind) [] = None
nest_after (Closes kind) (inner ∷ nest) = cond (nat_eq kind inner) (Some nest) None
nest_after Neither nest = Some nest

-- the tokens up to the rest close the brackets of the nest and all that they open, and the last of them closes the last
abbrev pub AreClosing : {T : Type 0} → (T → Bracket) → List ℕ → List T → List T → Type 0
AreClosing bracket [] ts rest = rest ≡ ts
AreClosing bracket (kind ∷ nest) [] rest = ⊥
AreClosing bracket (kind ∷ nest) (t ∷ ts) rest = (next : List ℕ) × (nest_after (bracket t) (kind ∷ nest) ≡ Some next) × AreClosing bracket next ts rest

abbrev pub closing_read : {T : Type 0} → (T → Bracket) → List ℕ → List T → Option (Unit {0} × List T)
closing_read bracket [] ts = Some (tt, ts)
closing_read bracket (kind ∷ nest) [] = None
closing_read bracket (kind ∷ nest) (t ∷ ts) = option_and_then (λ next. closing_read bracket next ts) (nest_after (bracket t) (kind ∷ nest))

pub closing_sound : {T : Type 0} (bracket : T → Bracket) (nest : List ℕ) (ts : List T) (x : Unit {0}) (rest : List T) → closing_read bracket nest ts ≡ Some (x, rest) → AreClosing bracket nest ts rest
closing_sound bracket [] ts x rest e = sym (same_rest e)
closing_sound bracket (kind ∷ nest) [] x rest e = absurd (cc)
closing_sound {T} bracket (kind ∷ nest) (t ∷ ts) x rest e = go (λ next. closing_sound bracket next ts x rest) (nest_after (bracket t) (kind ∷ nest)) refl e
  where
    go : ((next : List ℕ) → closing_read bracket next ts ≡ Some (x, rest) → AreClosing bracket next ts rest) → (o : Option (List ℕ)) → nest_after (bracket t) (kind ∷ nest) ≡ o → option_and_then (λ next. closing_read bracket next ts) o ≡ Some (x, rest) → AreClosing bracket (kind ∷ nest) (t ∷ ts) rest
    go later None h k = absurd (cc)
    go later (Some next) h k = (next, h, later next k)

pub closing_complete : {T : Type 0} (bracket : T → Bracket) (nest : List ℕ) (ts : List T) (x : Unit {0}) (rest : List T) → AreClosing bracket nest ts rest → closing_read bracket nest ts ≡ Some (x, rest)
closing_complete bracket [] ts x rest h = some_pair refl (sym h)
closing_complete bracket (kind ∷ nest) [] x rest h = absurd h
closing_complete bracket (kind ∷ nest) (t ∷ ts) x rest (next, e, h) = ap (option_and_then (λ next. closing_read bracket next ts)) e ∙ closing_complete bracket next ts x rest h

pub closing_shorter : {T : Type 0} (bracket : T → Bracket) (nest : List ℕ) (ts rest : List T) → AreClosing bracket nest ts rest → length rest ≤ length ts
closing_shorter bracket [] ts rest h = rw h (omega arith)
closing_shorter bracket (kind ∷ nest) [] rest h = absurd h
closing_shorter bracket (kind ∷ nest) (t ∷ ts) rest (next, e, h) = let fewer = closing_shorter bracket next ts rest h in omega arith

-- the tokens up to the one that closes a bracket of this kind, which is open
abbrev pub closing : {T : Type 0} → (T → Bracket) → ℕ → Rule T (Unit {0})
closing bracket kind = record {
  Spells = λ ts x rest. AreClosing bracket (kind ∷ []) ts rest;
  read = closing_read bracket (kind ∷ []);
  sound = closing_sound bracket (kind ∷ []);
  complete = closing_complete bracket (kind ∷ []);
  shorter = λ ts x rest h. closing_shorter bracket (kind ∷ []) ts rest h;
}
