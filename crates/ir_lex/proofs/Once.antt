use Rattle.std.proofs.Common.{◌≡◌, ℕ, ◌<◌, false, List, [], ◌∷◌, length, take, drop, refl, sym, ap, ◌∙◌, subst, inl, inr, arith}
use Rattle.std.proofs.lemmas.Bool.{cases_lt, false≢true}
use Rattle.ir_lex.specs.declared.token.TokenKind.{TokenKind}
use Rattle.ir_lex.specs.Tokens.{Token}
use Rattle.ir_lex.specs.Spelling.{spells, rank, after_gap, IsLongest}
use Rattle.ir_lex.specs.Meaning.{meaning, Lexes}
use Rattle.ir_lex.proofs.Ranks.{rank_same}

-- ---- one text has one longest token

module _ (s : List ℕ) (k j : TokenKind) (n m : ℕ) (a : IsLongest s k n) (b : IsLongest s j m) where
  not_shorter : n < m → ⊥
  not_shorter h = false≢true (sym (a.none_longer j m h b.within) ∙ b.spelled)

pub length_same : (s : List ℕ) (k j : TokenKind) (n m : ℕ) → IsLongest s k n → IsLongest s j m → n ≡ m
length_same s k j n m a b =
    elim (cases_lt n m) [ inl lt ↦ absurd (not_shorter s k j n m a b lt) | inr ge ↦ elim (cases_lt m n) [ inl lt ↦ absurd (not_shorter s j k m n b a lt) | inr le ↦ omega arith ] ]

not_before : (s : List ℕ) (k j : TokenKind) (n m : ℕ) → IsLongest s k n → IsLongest s j m → n ≡ m → rank k < rank j → ⊥
not_before s k j n m a b e h =
    false≢true (sym (b.first k h) ∙ sym (ap (λ x. spells k (take x s)) e) ∙ a.spelled)

pub kind_same : (s : List ℕ) (k j : TokenKind) (n m : ℕ) → IsLongest s k n → IsLongest s j m → k ≡ j
kind_same s k j n m a b =
    let e = length_same s k j n m a b in
    elim (cases_lt (rank k) (rank j)) [ inl lt ↦ absurd (not_before s k j n m a b e lt) | inr ge ↦ elim (cases_lt (rank j) (rank k)) [ inl lt ↦ absurd (not_before s j k m n b a (sym e) lt) | inr le ↦ rank_same k j (omega arith) ] ]

-- ---- so it is spelled by one list of tokens

none_at_end : (s : List ℕ) (k : TokenKind) (n : ℕ) → s ≡ [] → IsLongest s k n → ⊥
none_at_end s k n e a =
    let l = ap length e in
    let w = a.within in
    let p = a.some in
    omega arith

module _ (t u : Token) (ts us : List Token) (more : (text : List ℕ) → Lexes text ts → Lexes text us → ts ≡ us) where
  step : (ahead : List ℕ) (k j : TokenKind) (n m : ℕ) → IsLongest ahead k n → IsLongest ahead j m → t ≡ meaning k (take n ahead) → u ≡ meaning j (take m ahead) → Lexes (drop n ahead) ts → Lexes (drop m ahead) us → t ∷ ts ≡ u ∷ us
  step ahead k j n m a b mt mu lt lu =
      let e = length_same ahead k j n m a b in
      let f = kind_same ahead k j n m a b in
      let same : meaning k (take n ahead) ≡ meaning j (take m ahead) =
      ap (λ x. meaning x (take n ahead)) f ∙ ap (λ x. meaning j (take x ahead)) e in
      let head : t ≡ u = mt ∙ same ∙ sym mu in
      let tail : ts ≡ us =
      more (drop n ahead) lt (subst (λ x. Lexes (drop x ahead) us) (sym e) lu) in
      ap (λ x. x ∷ ts) head ∙ ap (λ x. u ∷ x) tail

pub lexes_once : (ts us : List Token) (text : List ℕ) → Lexes text ts → Lexes text us → ts ≡ us
lexes_once [] [] text p q = refl
lexes_once [] (u ∷ us) text p q = absurd (none_at_end (after_gap false text) q.0 q.1.0 p q.1.1.0)
lexes_once (t ∷ ts) [] text p q = absurd (none_at_end (after_gap false text) p.0 p.1.0 q p.1.1.0)
lexes_once (t ∷ ts) (u ∷ us) text p q =
    step t u ts us (λ rest. lexes_once ts us rest) (after_gap false text) p.0 q.0 p.1.0 q.1.0 p.1.1.0 q.1.1.0 p.1.1.1 q.1.1.1 p.1.1.2 q.1.1.2
