use Rattle.std.proofs.Common.{◌≡◌, ℕ, ◌<◌, ◌≤◌, true, cond, eqb, List, take, refl, sym, ap, ◌∙◌, subst, suc, inl, inr, arith}
use Rattle.std.proofs.lemmas.Bool.{cases_lt}
use Rattle.ir_lex.specs.declared.token.TokenKind.{TokenKind}
use Rattle.ir_lex.specs.declared.token.TokenKind.TheVariants.{Word, Number, Global, Local, Label, Str, Bytes, Group, Mark, Sign}
use Rattle.ir_lex.specs.Spelling.{spells, rank, NoneLonger, IsLongest}
use Rattle.ir_lex.specs.Scan.{front}
use Rattle.ir_lex.specs.Best.{IsBest}
use Rattle.ir_lex.proofs.KindFronts.{front_is_most}

kind_at : ℕ → TokenKind
kind_at n =
    cond (eqb n 0) Word (cond (eqb n 1) Number (cond (eqb n 2) Global (cond (eqb n 3) Local (cond (eqb n 4) Label (cond (eqb n 5) Str (cond (eqb n 6) Bytes (cond (eqb n 7) Group (cond (eqb n 8) Mark Sign))))))))

kind_at_rank : (k : TokenKind) → kind_at (rank k) ≡ k
unfolding kind_at
kind_at_rank Word = refl
kind_at_rank Number = refl
kind_at_rank Global = refl
kind_at_rank Local = refl
kind_at_rank Label = refl
kind_at_rank Str = refl
kind_at_rank Bytes = refl
kind_at_rank Group = refl
kind_at_rank Mark = refl
kind_at_rank Sign = refl

-- kinds at one place are one kind
pub rank_same : (k j : TokenKind) → rank k ≡ rank j → k ≡ j
rank_same k j e = sym (kind_at_rank k) ∙ ap kind_at e ∙ kind_at_rank j

-- each kind is among the ten
pub rank_below : (k : TokenKind) → rank k < 10
rank_below Word = omega arith
rank_below Number = omega arith
rank_below Global = omega arith
rank_below Local = omega arith
rank_below Label = omega arith
rank_below Str = omega arith
rank_below Bytes = omega arith
rank_below Group = omega arith
rank_below Mark = omega arith
rank_below Sign = omega arith

-- the next kind's token is longer than all before
pub best_next : (text : List ℕ) (kind old : TokenKind) (n m : ℕ) → IsBest (rank kind) text old n → m ≡ front kind text → n < m → IsBest (suc (rank kind)) text kind m
best_next text kind old n m b e h =
    let most = front_is_most kind text in
    record {
      within = rw e most.within;
      spelled = subst (λ x. 0 < x → spells kind (take x text) ≡ true) (sym e) most.passes;
      longest = λ k below. up_to k below;
      first = λ k below. let le = b.longest k below in omega arith;
    }
  where
    same_front : (k : TokenKind) → k ≡ kind → front k text ≤ m
    same_front k s = let f = ap (λ x. front x text) s in omega arith

    up_to : (k : TokenKind) → rank k < suc (rank kind) → front k text ≤ m
    up_to k below =
        elim (cases_lt (rank k) (rank kind)) [ inl lt ↦ let le = b.longest k lt in omega arith | inr ge ↦ same_front k (rank_same k kind (omega arith)) ]

pub best_none_longer : (text : List ℕ) (kind : TokenKind) (n : ℕ) → IsBest 10 text kind n → NoneLonger text n
best_none_longer text kind n b k m more within =
    let le = b.longest k (rank_below k) in
    (front_is_most k text).none_longer m (omega arith) within

-- all kinds were tried, and one was found
pub best_is_longest : (text : List ℕ) (kind : TokenKind) (n : ℕ) → 0 < n → IsBest 10 text kind n → IsLongest text kind n
best_is_longest text kind n h b = record {
  some = h;
  within = b.within;
  spelled = b.spelled h;
  none_longer = best_none_longer text kind n b;
  first = λ k below. (front_is_most k text).none_longer n (b.first k below) b.within;
}
