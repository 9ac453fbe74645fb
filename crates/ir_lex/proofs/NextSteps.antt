use Rattle.std.proofs.Common.{◌≡◌, ℕ, zero, suc, eqb, ◌+◌, ◌-◌, ◌<◌, ◌≤◌, false, List, length, drop, None, refl, sym, ap, ◌∙◌, subst, arith, length-drop, drop-drop}
use Rattle.std.specs.Prelude.{slice_range}
use Rattle.ir_lex.specs.declared.token.TokenKind.{TokenKind}
use Rattle.ir_lex.specs.Spelling.{after_gap, NoneLonger, IsLongest}
use Rattle.ir_lex.specs.Scan.{plain_label_rest}
use Rattle.ir_lex.specs.Best.{IsBest}
use Rattle.ir_lex.specs.Next.{IsNext, NothingNext}
use Rattle.ir_lex.proofs.Ranks.{best_is_longest, best_none_longer}

pub some_from_test : (n : ℕ) → false ≡ eqb n 0 → 0 < n
some_from_test zero e = cc
some_from_test (suc n) e = omega arith

-- The longest token was looked for in `rest`, which begins behind the gap at the front of what is left of the text.
module _ (text : List ℕ) (at gap : ℕ) (ahead rest : List ℕ) (is_ahead : ahead ≡ drop at text) (is_rest : rest ≡ drop (at + gap) text) (within : at ≤ length text) (gap_within : gap ≤ length ahead) (behind : drop gap ahead ≡ after_gap false ahead) (kind : TokenKind) (n : ℕ) (best : IsBest 10 rest kind n) where
  start_within : at + gap ≤ length text
  start_within = let l = ap length is_ahead ∙ length-drop at text in omega arith

  behind_gap : drop (at + gap) text ≡ after_gap false (drop at text)
  behind_gap =
      sym (drop-drop gap at text) ∙ subst (λ x. drop gap x ≡ after_gap false x) is_ahead behind

  rest_len : length rest ≡ length text - (at + gap)
  rest_len = ap length is_rest ∙ length-drop (at + gap) text

  pub nothing_next : n ≡ 0 → 0 < length rest → NothingNext (record { text = text; at = at }) (at + gap)
  nothing_next none some = record {
    rises = omega arith;
    within = let l = rest_len in omega arith;
    behind_gap = behind_gap;
    none = subst (λ x. NoneLonger x 0) is_rest (subst (NoneLonger rest) none (best_none_longer rest kind n best));
  }

  pub next_within : at + gap + n ≤ length text
  next_within =
      let l = rest_len in
      let w = best.within in
      let s = start_within in
      omega arith

  pub is_next : 0 < n → IsNext (record { text = text; at = at }) kind (at + gap) (at + gap + n) (slice_range text (at + gap) (at + gap + n))
  is_next some =
      let same : n ≡ at + gap + n - (at + gap) = omega arith in
      record {
        rises = omega arith;
        nonempty = omega arith;
        within = next_within;
        behind_gap = behind_gap;
        longest = subst (λ x. IsLongest x kind (at + gap + n - (at + gap))) is_rest (subst (IsLongest rest kind) same (best_is_longest rest kind n some best));
        slice = refl;
      }

-- what is known of the bytes at a place is known from there on
pub unlabelled_from : (text rest : List ℕ) (start n p : ℕ) → rest ≡ drop start text → ((k : ℕ) → k < n → plain_label_rest (drop k rest) ≡ None) → start ≤ p → p < start + n → plain_label_rest (drop p text) ≡ None
unlabelled_from text rest start n p is_rest known from below =
    let there : start + (p - start) ≡ p = omega arith in
    sym (ap plain_label_rest (ap (λ x. drop (p - start) x) is_rest ∙ drop-drop (p - start) start text ∙ ap (λ x. drop x text) there)) ∙ known (p - start) (omega arith)
