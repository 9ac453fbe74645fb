-- What is known of each value that some tokens spell, by its rule, where the tokens are such as a text has.
use Rattle.std.proofs.Common.{◌≡◌, ℕ, Bool, true, false, List, [], ◌∷◌, refl, sym, ap, subst, inl, inr}
use Rattle.std.specs.Prelude.{Option, Some, None}
use Rattle.ir_lex.specs.Tokens.{Token, Word, Number, Global, Local, Label, Str, Bytes, Group, Mark, Sign}
use Rattle.ir_tree.specs.Types.{when}
use Rattle.ir_grammar.specs.Rules.{Rule, TakesToken, AreMany, IsThen, pure, provided, one, either, many, many_after}
use Rattle.ir_grammar.specs.Rules as rule
use Rattle.ir_grammar.specs.Words.{Tokens, word, sign, mark, flag, flag_where, local_name, label_name, global_name, local, global, label, count, count_meaning, any_word, number, string, comma_item, comma_takes, listed}
use Rattle.ir_grammar.specs.Brackets.{AreClosing, closing}
use Rattle.ir_grammar.specs.declared.words.Bracket.{Bracket}
use Rattle.spellable.specs.Values.{Each, IsSome, IsLocal, IsGlobal, IsCount}
use Rattle.spellable.specs.Instructions.{IsAllowed}
use Rattle.spellable.specs.Lines.{IsRead, AllRead}
use Rattle.std.proofs.lemmas.Bool.{ltb-true}
use Rattle.std.specs.Prelude.{nat_lt, ◌^◌}

-- each value that a rule spells is such, and the tokens behind it are such as a text has
pub record Gives {A : Type 0} (r : Rule Token A) (P : A → Type 0) : Type 0 where
  pub at : (ts : Tokens) (x : A) (rest : Tokens) → AllRead ts → r.Spells ts x rest → P x × AllRead rest

abbrev pub Nothing : {A : Type 0} → A → Type 0
Nothing x = Unit {0}

pub some_same : {A : Type 0} {x y : A} → ◌≡◌ {A = Option A} (Some x) (Some y) → x ≡ y
some_same {A} {x} {y} e = ap (or_else x) e
  where
    or_else : A → Option A → A
    or_else d None = d
    or_else d (Some z) = z

pub none_some : {A B : Type 0} {x : A} → ◌≡◌ {A = Option A} None (Some x) → B
none_some e = absurd (cc)

pub when_some : {A : Type 0} (b : Bool) (x y : A) → when b x ≡ Some y → (b ≡ true) × (x ≡ y)
when_some true x y e = (refl, some_same e)
when_some false x y e = none_some e

-- # The rules

pub done : {A : Type 0} {x : A} {P : A → Type 0} → P x → Gives (pure x) P
done {A} {x} {P} h = record { at = λ ts y rest all s. (subst P (sym s.0) h, subst AllRead (sym s.1) all) }

pub one_gives : {A : Type 0} {P : A → Type 0} (meaning : Token → Option A) → ((t : Token) (x : A) → IsRead t → meaning t ≡ Some x → P x) → Gives (one meaning) P
one_gives meaning each = record { at = λ ts x rest all s. let tokens : AllRead (s.0 ∷ rest) = subst AllRead s.1 all in (each s.0 x tokens.0 s.2, tokens.1) }

pub any_gives : {A : Type 0} (meaning : Token → Option A) → Gives (one meaning) Nothing
any_gives meaning = one_gives meaning (λ t x h e. tt)

pub provided_gives : {A : Type 0} {P : A → Type 0} (o : Option A) → ((x : A) → o ≡ Some x → P x) → Gives (provided o) P
provided_gives o each = record { at = λ ts x rest all s. (each x s.0, subst AllRead (sym s.1) all) }

infixl 10 ◌>>=◌
pub ◌>>=◌ : {A B : Type 0} {r : Rule Token A} {f : A → Rule Token B} {P : A → Type 0} {Q : B → Type 0} → Gives r P → ((x : A) → P x → Gives (f x) Q) → Gives (rule.◌>>=◌ r f) Q
first >>= next = record { at = λ ts y rest all s. let h = first.at ts s.0 s.1 all s.2 in (next s.0 h.0).at s.1 y rest h.1 s.3 }

infixl 10 ◌>>◌
pub ◌>>◌ : {A B : Type 0} {r : Rule Token A} {s : Rule Token B} {P : A → Type 0} {Q : B → Type 0} → Gives r P → Gives s Q → Gives (rule.◌>>◌ r s) Q
first >> next = record { at = λ ts y rest all s. let h = first.at ts s.0 s.1 all s.2 in next.at s.1 y rest h.1 s.3 }

pub either_gives : {A : Type 0} {P : A → Type 0} {begins : Tokens → Bool} {r s : Rule Token A} → Gives r P → Gives s P → Gives (either begins r s) P
either_gives {A} {P} {begins} {r} {s} first second = record { at = go }
  where
    go : (ts : Tokens) (x : A) (rest : Tokens) → AllRead ts → (either begins r s).Spells ts x rest → P x × AllRead rest
    go ts x rest all (inl h) = first.at ts x rest all h.1
    go ts x rest all (inr h) = second.at ts x rest all h.1

are_many : {A : Type 0} {P : A → Type 0} (begins : Tokens → Bool) (r : Rule Token A) → Gives r P → (ts : Tokens) (xs : List A) (rest : Tokens) → AllRead ts → AreMany begins r ts xs rest → Each P xs × AllRead rest
are_many begins r item ts [] rest all s = (tt, subst AllRead (sym s.1) all)
are_many begins r item ts (x ∷ xs) rest all (b, middle, first, others) =
    let h = item.at ts x middle all first in
    let hs = are_many begins r item middle xs rest h.1 others in
    ((h.0, hs.0), hs.1)

pub many_gives : {A : Type 0} {P : A → Type 0} {begins : Tokens → Bool} {r : Rule Token A} (takes : TakesToken r) → Gives r P → Gives (many begins r takes) (Each P)
many_gives {A} {P} {begins} {r} takes item = record { at = are_many begins r item }

pub after_gives : {A : Type 0} {P : A → Type 0} {first : A} {begins : Tokens → Bool} {r : Rule Token A} (takes : TakesToken r) → P first → Gives r P → Gives (many_after (first ∷ []) begins r takes) (λ xs. IsSome xs × Each P xs)
after_gives {A} {P} {first} {begins} {r} takes h item = record {
  at = λ ts ys rest all s.
      let hs = are_many begins r item ts s.0 rest all s.2 in
      (subst (λ zs. IsSome zs × Each P zs) (sym s.1) (tt, (h, hs.0)), hs.1);
}

pub after_none_gives : {A : Type 0} {P : A → Type 0} {begins : Tokens → Bool} {r : Rule Token A} (takes : TakesToken r) → Gives r P → Gives (many_after [] begins r takes) (Each P)
after_none_gives {A} {P} {begins} {r} takes item = record {
  at = λ ts ys rest all s.
      let hs = are_many begins r item ts s.0 rest all s.2 in
      (subst (Each P) (sym s.1) hs.0, hs.1);
}

pub weaker : {A : Type 0} {P Q : A → Type 0} {r : Rule Token A} → ((x : A) → P x → Q x) → Gives r P → Gives r Q
weaker sub g = record { at = λ ts x rest all s. let h = g.at ts x rest all s in (sub x h.0, h.1) }

closes_at : (bracket : Token → Bracket) (nest : List ℕ) (ts rest : Tokens) → AllRead ts → AreClosing bracket nest ts rest → AllRead rest
closes_at bracket [] ts rest all s = subst AllRead (sym s) all
closes_at bracket (kind ∷ nest) [] rest all s = absurd s
closes_at bracket (kind ∷ nest) (t ∷ ts) rest all (next, e, s) = closes_at bracket next ts rest all.1 s

pub closing_gives : (bracket : Token → Bracket) (kind : ℕ) → Gives (closing bracket kind) Nothing
closing_gives bracket kind = record { at = λ ts x rest all s. (tt, closes_at bracket (kind ∷ []) ts rest all s) }

-- # Tokens

pub word_gives : (text : List ℕ) → Gives (word text) Nothing
unfolding word
word_gives text = any_gives _

pub sign_gives : (b : ℕ) → Gives (sign b) Nothing
unfolding sign
sign_gives b = any_gives _

pub mark_gives : Gives mark Nothing
unfolding mark
mark_gives = any_gives _

pub any_word_gives : Gives any_word Nothing
unfolding any_word
any_word_gives = any_gives _

pub number_gives : Gives number Nothing
unfolding number
number_gives = any_gives _

pub string_gives : Gives string Nothing
unfolding string
string_gives = any_gives _

pub flag_gives : (text : List ℕ) → Gives (flag text) Nothing
unfolding flag
flag_gives text = either_gives (word_gives text >> done tt) (done tt)

allowed : (set : Bool) → IsAllowed set true
allowed true = refl
allowed false = tt

pub flag_where_gives : (may : Bool) (text : List ℕ) → Gives (flag_where may text) (λ set. IsAllowed set may)
flag_where_gives true text = weaker (λ set h. allowed set) (flag_gives text)
flag_where_gives false text = done tt

local_read : (t : Token) (name : List ℕ) → IsRead t → local_name t ≡ Some name → IsLocal name
local_read (Word text) name h e = none_some e
local_read (Number minus n) name h e = none_some e
local_read (Global text) name h e = none_some e
local_read (Local text) name h e = subst IsLocal (some_same e) h
local_read (Label text) name h e = none_some e
local_read (Str text) name h e = none_some e
local_read (Bytes text) name h e = none_some e
local_read (Group text) name h e = none_some e
local_read Mark name h e = none_some e
local_read (Sign b) name h e = none_some e

label_read : (t : Token) (name : List ℕ) → IsRead t → label_name t ≡ Some name → IsLocal name
label_read (Word text) name h e = none_some e
label_read (Number minus n) name h e = none_some e
label_read (Global text) name h e = none_some e
label_read (Local text) name h e = none_some e
label_read (Label text) name h e = subst IsLocal (some_same e) h
label_read (Str text) name h e = none_some e
label_read (Bytes text) name h e = none_some e
label_read (Group text) name h e = none_some e
label_read Mark name h e = none_some e
label_read (Sign b) name h e = none_some e

global_read : (t : Token) (name : List ℕ) → IsRead t → global_name t ≡ Some name → IsGlobal name
global_read (Word text) name h e = none_some e
global_read (Number minus n) name h e = none_some e
global_read (Global text) name h e = subst IsGlobal (some_same e) h
global_read (Local text) name h e = none_some e
global_read (Label text) name h e = none_some e
global_read (Str text) name h e = none_some e
global_read (Bytes text) name h e = none_some e
global_read (Group text) name h e = none_some e
global_read Mark name h e = none_some e
global_read (Sign b) name h e = none_some e

pub local_gives : Gives local IsLocal
unfolding local
local_gives = one_gives _ local_read

pub label_gives : Gives label IsLocal
unfolding label
label_gives = one_gives _ label_read

pub global_gives : Gives global IsGlobal
unfolding global
global_gives = one_gives _ global_read

count_read : (t : Token) (n : ℕ) → IsRead t → count_meaning t ≡ Some n → IsCount n
count_read (Word text) n h e = none_some e
count_read (Number true magnitude) n h e = none_some e
count_read (Number false magnitude) n h e =
    let parts = when_some (nat_lt magnitude (2 ^ 64)) magnitude n e in
    subst IsCount parts.1 (ltb-true magnitude (2 ^ 64) parts.0)
count_read (Global text) n h e = none_some e
count_read (Local text) n h e = none_some e
count_read (Label text) n h e = none_some e
count_read (Str text) n h e = none_some e
count_read (Bytes text) n h e = none_some e
count_read (Group text) n h e = none_some e
count_read Mark n h e = none_some e
count_read (Sign b) n h e = none_some e

pub count_gives : Gives count IsCount
unfolding count
count_gives = one_gives _ count_read

-- # Lists

pub comma_gives : {A : Type 0} {P : A → Type 0} {item : Rule Token A} → Gives item P → Gives (comma_item item) P
comma_gives item = sign_gives 44 >> item

pub some_gives : {A : Type 0} {P : A → Type 0} {item : Rule Token A} {begins : Tokens → Bool} → Gives item P → Gives (rule.◌>>=◌ item (λ first. many_after (first ∷ []) begins (comma_item item) (comma_takes item))) (λ xs. IsSome xs × Each P xs)
some_gives item = item >>= λ first first-is. after_gives _ first-is (comma_gives item)

pub listed_gives : {A : Type 0} {P : A → Type 0} {item : Rule Token A} (close : ℕ) → Gives item P → Gives (listed close item) (Each P)
listed_gives close item =
    either_gives (done tt) (weaker (λ xs h. h.1) (some_gives item)) >>= λ list list-is. (sign_gives close >> (
    done list-is))
