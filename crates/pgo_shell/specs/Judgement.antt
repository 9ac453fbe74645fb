-- What texts come to: they are refused, with a line that says why, or something is found in them. A judgement carries
-- the proof that the same texts have one outcome, and judgements compose.
use Rattle.std.specs.Prelude.{◌≡◌, ◌⊎◌, ℕ, List, Option}
use Rattle.std.proofs.Common.{refl, sym, ◌∙◌, subst, inl, inr}

-- what a command makes: the line of a halt, if it halts; the bytes for the output; and the bytes for each file that it writes
pub record Made : Type 0 where
  pub halted : Option (List ℕ)
  pub output : List ℕ
  pub written : List (List ℕ)

-- a judgement that finds values of V, of which the texts fix the key alone
pub record Judgement (V K : Type 0) (key : V → K) : Type 1 where
  pub refuses : List ℕ → Type 0
  pub finds : V → Type 0
  -- what is refused is not found
  pub apart : (line : List ℕ) (x : V) → refuses line → finds x → ⊥
  -- one key is found
  pub one : (x y : V) → finds x → finds y → key x ≡ key y

-- a judgement of one text or one demand: the texts fix what is found
abbrev pub Part : Type 0 → Type 1
Part V = Judgement V V (λ x. x)

abbrev pub halt_of : Made → Option (List ℕ)
halt_of made = made.halted

-- the judgement of a whole command: the texts fix whether it halts and with which line; the rest may be a free choice
abbrev pub Whole : Type 1
Whole = Judgement Made (Option (List ℕ)) halt_of

-- no text is refused, and exactly this is made, or anything that the relation gives
abbrev pub making : (Makes : Made → Type 0) → ((a b : Made) → Makes a → Makes b → a.halted ≡ b.halted) → Whole
making Makes agree = record {
  refuses = λ line. ⊥;
  finds = Makes;
  apart = λ line x refused found. refused;
  one = agree;
}

-- a fact that is demanded: where it doesn't hold, these words refuse
abbrev pub demand : Type 0 → List ℕ → Part (Unit {0})
demand Fact words = record {
  refuses = λ line. (Fact → ⊥) × (line ≡ words);
  finds = λ u. Fact;
  apart = λ line x refused found. refused.0 found;
  one = λ x y a b. refl;
}

-- first the one, and then the other of what it finds
module _ {V W K : Type 0} {key : W → K} (first : Part V) (next : V → Judgement W K key) where
  abbrev pub ThenRefuses : List ℕ → Type 0
  ThenRefuses line = first.refuses line ⊎ ((x : V) × first.finds x × (next x).refuses line)

  abbrev pub ThenFinds : W → Type 0
  ThenFinds y = (x : V) × first.finds x × (next x).finds y

  pub then_apart : (line : List ℕ) (y : W) → ThenRefuses line → ThenFinds y → ⊥
  then_apart line y (inl refused) found = first.apart line found.0 refused found.1
  then_apart line y (inr refused) found =
      (next found.0).apart line y (subst (λ (x : V). (next x).refuses line) (first.one refused.0 found.0 refused.1 found.1) refused.2) found.2

  pub then_one : (y z : W) → ThenFinds y → ThenFinds z → key y ≡ key z
  then_one y z a b = (next b.0).one y z (subst (λ (x : V). (next x).finds y) (first.one a.0 b.0 a.1 b.1) a.2) b.2

  abbrev pub then : Judgement W K key
  then = record { refuses = ThenRefuses; finds = ThenFinds; apart = then_apart; one = then_one }
