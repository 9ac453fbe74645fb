use Rattle.std.proofs.Common.{◌≡◌, ℕ, zero, suc, ◌<◌, ◌≤◌, Bool, true, false, cond, eqb, ltb, List, [], ◌∷◌, length, take, drop, refl, sym, ap, ◌∙◌, subst, inl, inr, arith, length-drop}
use Rattle.std.proofs.lemmas.Bool.{cases_lt, false≢true}
use Rattle.std.proofs.lemmas.Bool.Decides.{nat_tests}
use Rattle.ir_lex.specs.declared.token.TokenKind.{TokenKind}
use Rattle.ir_lex.specs.declared.token.TokenKind.TheVariants.{Word, Number, Global, Local, Label, Str, Bytes, Group, Mark, Sign}
use Rattle.ir_lex.specs.Tokens.{Token}
use Rattle.ir_lex.specs.Spelling.{ends, rank, after_gap, NoneLonger, IsLongest}
use Rattle.ir_lex.specs.Classes.{is_blank}
use Rattle.ir_lex.specs.Scan.{front}
use Rattle.ir_lex.specs.Best.{IsBest}
use Rattle.ir_lex.specs.Meaning.{meaning, Lexes}
use Rattle.ir_lex.proofs.Ranks.{rank_same, best_next, best_is_longest, best_none_longer}
use Rattle.ir_lex.proofs.Once.{length_same, kind_same}
use Rattle.ir_lex.specs.Cut.{longer, first_token, cut_within, cut, tokens_of, is_whole}

-- ---- the first token is the longest

none_before : (s : List ℕ) → IsBest 0 s Word 0
none_before s = record {
  within = omega arith;
  spelled = λ h. absurd (omega arith);
  longest = λ k h. absurd (omega arith);
  first = λ k h. absurd (omega arith);
}

-- the next kind's token is no longer
best_stays : (s : List ℕ) (kind old : TokenKind) (n : ℕ) → IsBest (rank kind) s old n → front kind s ≤ n → IsBest (suc (rank kind)) s old n
best_stays s kind old n b h =
    record { within = b.within; spelled = b.spelled; longest = up_to; first = b.first }
  where
    same : (k : TokenKind) → k ≡ kind → front k s ≤ n
    same k e = let f = ap (λ x. front x s) e in omega arith

    up_to : (k : TokenKind) → rank k < suc (rank kind) → front k s ≤ n
    up_to k below =
        elim (cases_lt (rank k) (rank kind)) [ inl lt ↦ b.longest k lt | inr ge ↦ same k (rank_same k kind (omega arith)) ]

longer_at : (s : List ℕ) (b : TokenKind × ℕ) (kind : TokenKind) (h : Bool) → ltb b.1 (front kind s) ≡ h → IsBest (rank kind) s b.0 b.1 → IsBest (suc (rank kind)) s (cond h (kind, front kind s) b).0 (cond h (kind, front kind s) b).1
longer_at s b kind true e best =
    let h : b.1 < front kind s = grind (arith, nat_tests) in
    best_next s kind b.0 b.1 (front kind s) best refl h
longer_at s b kind false e best =
    let h : front kind s ≤ b.1 = grind (arith, nat_tests) in best_stays s kind b.0 b.1 best h

longer_best : (s : List ℕ) (b : TokenKind × ℕ) (kind : TokenKind) → IsBest (rank kind) s b.0 b.1 → IsBest (suc (rank kind)) s (longer s b kind).0 (longer s b kind).1
longer_best s b kind best = longer_at s b kind (ltb b.1 (front kind s)) refl best

pub first_is_best : (s : List ℕ) → IsBest 10 s (first_token s).0 (first_token s).1
unfolding first_token
first_is_best s =
    let word = longer s (Word, 0) Word in
    let number = longer s word Number in
    let global = longer s number Global in
    let local = longer s global Local in
    let label = longer s local Label in
    let str = longer s label Str in
    let bytes = longer s str Bytes in
    let group = longer s bytes Group in
    let mark = longer s group Mark in
    longer_best s mark Sign (longer_best s group Mark (longer_best s bytes Group (longer_best s str Bytes (longer_best s label Str (longer_best s local Label (longer_best s global Local (longer_best s number Global (longer_best s word Number (longer_best s (Word, 0) Word (none_before s))))))))))

-- where a token is the longest, it is the first
none_longest : (s : List ℕ) (kind : TokenKind) (n : ℕ) → NoneLonger s 0 → IsLongest s kind n → ⊥
none_longest s kind n none l = false≢true (sym (none kind n l.some l.within) ∙ l.spelled)

module _ (s : List ℕ) (kind : TokenKind) (n : ℕ) (l : IsLongest s kind n) where
  first_some : 0 < (first_token s).1
  first_some =
      let best = first_is_best s in
      elim (cases_lt 0 (first_token s).1) [ inl lt ↦ lt | inr ge ↦ absurd (none_longest s kind n (subst (NoneLonger s) (omega arith) (best_none_longer s (first_token s).0 (first_token s).1 best)) l) ]

  first_longest : IsLongest s (first_token s).0 (first_token s).1
  first_longest = best_is_longest s (first_token s).0 (first_token s).1 first_some (first_is_best s)

  pub first_kind : (first_token s).0 ≡ kind
  first_kind = kind_same s (first_token s).0 kind (first_token s).1 n first_longest l

  pub first_length : (first_token s).1 ≡ n
  first_length = length_same s (first_token s).0 kind (first_token s).1 n first_longest l

pub first_none : (s : List ℕ) → NoneLonger s 0 → (first_token s).1 ≡ 0
first_none s none =
    elim (cases_lt 0 (first_token s).1) [ inl lt ↦ absurd (none_longest s (first_token s).0 (first_token s).1 none (best_is_longest s (first_token s).0 (first_token s).1 lt (first_is_best s))) | inr ge ↦ omega arith ]

-- ---- a cut does not depend on its budget

shorter_either : (h : Bool) (p q : List ℕ) (n : ℕ) → length p ≤ n → length q ≤ n → length (cond h p q) ≤ n
shorter_either true p q n f g = f
shorter_either false p q n f g = g

gap_shorter : (comment : Bool) (s : List ℕ) → length (after_gap comment s) ≤ length s
gap_shorter comment [] = omega arith
gap_shorter true (b ∷ bs) =
    let f = gap_shorter false bs in
    let t = gap_shorter true bs in
    shorter_either (eqb b 10) (after_gap false bs) (after_gap true bs) (length (b ∷ bs)) (omega arith) (omega arith)
gap_shorter false (b ∷ bs) =
    let f = gap_shorter false bs in
    let t = gap_shorter true bs in
    shorter_either (is_blank b) (after_gap false bs) (cond (eqb b 59) (after_gap true bs) (b ∷ bs)) (length (b ∷ bs)) (omega arith) (shorter_either (eqb b 59) (after_gap true bs) (b ∷ bs) (length (b ∷ bs)) (omega arith) (omega arith))

-- what is left behind a token is shorter
pub behind_shorter : (text : List ℕ) → 0 < (first_token (after_gap false text)).1 → length (drop (first_token (after_gap false text)).1 (after_gap false text)) < length text
behind_shorter text some =
    let ahead = after_gap false text in
    let n = (first_token ahead).1 in
    let w = (first_is_best ahead).within in
    let g = gap_shorter false text in
    let l = length-drop n ahead in
    omega arith

not_zero : (i : ℕ) → eqb (suc i) 0 ≡ false
not_zero i = grind (arith, nat_tests)

module _ {A : Type 0} (stop : List ℕ → A) (put : Token → A → A) where
  enough_at : (ahead : List ℕ) (kind : TokenKind) (n : ℕ) (x y : A) → (0 < n → x ≡ y) → cond (eqb n 0) (stop ahead) (put (meaning kind (take n ahead)) x) ≡ cond (eqb n 0) (stop ahead) (put (meaning kind (take n ahead)) y)
  enough_at ahead kind zero x y more = refl
  enough_at ahead kind (suc n) x y more = ap (λ z. cond (eqb (suc n) 0) (stop ahead) (put (meaning kind (take (suc n) ahead)) z)) (more (omega arith))

  enough : (b c : ℕ) (text : List ℕ) → length text < b → length text < c → cut_within stop put b text ≡ cut_within stop put c text
  enough zero c text h k = absurd (omega arith)
  enough (suc b) zero text h k = absurd (omega arith)
  enough (suc b) (suc c) text h k =
      let ahead = after_gap false text in
      let first = first_token ahead in
      enough_at ahead first.0 first.1 (cut_within stop put b (drop first.1 ahead)) (cut_within stop put c (drop first.1 ahead)) (λ some. let s = behind_shorter text some in enough b c (drop first.1 ahead) (omega arith) (omega arith))

  -- the first token of a cut
  cut_step : (text : List ℕ) → cut stop put text ≡ cond (eqb (first_token (after_gap false text)).1 0) (stop (after_gap false text)) (put (meaning (first_token (after_gap false text)).0 (take (first_token (after_gap false text)).1 (after_gap false text))) (cut stop put (drop (first_token (after_gap false text)).1 (after_gap false text))))
  unfolding cut
  cut_step text =
      let ahead = after_gap false text in
      let first = first_token ahead in
      enough_at ahead first.0 first.1 (cut_within stop put (length text) (drop first.1 ahead)) (cut_within stop put (suc (length (drop first.1 ahead))) (drop first.1 ahead)) (λ some. let s = behind_shorter text some in enough (length text) (suc (length (drop first.1 ahead))) (drop first.1 ahead) s (omega arith))

  put_at : (ahead : List ℕ) (k kind : TokenKind) (m n : ℕ) → 0 < n → m ≡ n → k ≡ kind → cond (eqb m 0) (stop ahead) (put (meaning k (take m ahead)) (cut stop put (drop m ahead))) ≡ put (meaning kind (take n ahead)) (cut stop put (drop n ahead))
  put_at ahead k kind m n some em ek =
      ap (λ x. cond (eqb x 0) (stop ahead) (put (meaning k (take x ahead)) (cut stop put (drop x ahead)))) em ∙ ap (λ x. cond (eqb n 0) (stop ahead) (put (meaning x (take n ahead)) (cut stop put (drop n ahead)))) ek ∙ some_at n some
    where
      some_at : (i : ℕ) → 0 < i → cond (eqb i 0) (stop ahead) (put (meaning kind (take i ahead)) (cut stop put (drop i ahead))) ≡ put (meaning kind (take i ahead)) (cut stop put (drop i ahead))
      some_at zero h = absurd (omega arith)
      some_at (suc i) h =
          ap (λ b. cond b (stop ahead) (put (meaning kind (take (suc i) ahead)) (cut stop put (drop (suc i) ahead)))) (not_zero i)

  pub cut_longest : (text : List ℕ) (kind : TokenKind) (n : ℕ) → IsLongest (after_gap false text) kind n → cut stop put text ≡ put (meaning kind (take n (after_gap false text))) (cut stop put (drop n (after_gap false text)))
  cut_longest text kind n l =
      let ahead = after_gap false text in
      cut_step text ∙ put_at ahead (first_token ahead).0 kind (first_token ahead).1 n l.some (first_length ahead kind n l) (first_kind ahead kind n l)

  stop_at : (ahead : List ℕ) (k : TokenKind) (m : ℕ) → m ≡ 0 → cond (eqb m 0) (stop ahead) (put (meaning k (take m ahead)) (cut stop put (drop m ahead))) ≡ stop ahead
  stop_at ahead k m e =
      ap (λ x. cond (eqb x 0) (stop ahead) (put (meaning k (take x ahead)) (cut stop put (drop x ahead)))) e

  pub cut_none : (text : List ℕ) → NoneLonger (after_gap false text) 0 → cut stop put text ≡ stop (after_gap false text)
  cut_none text none =
      let ahead = after_gap false text in
      cut_step text ∙ stop_at ahead (first_token ahead).0 (first_token ahead).1 (first_none ahead none)

-- ---- a text that is cut up to its end is spelled by its tokens

pub none_at_end : (s : List ℕ) → s ≡ [] → NoneLonger s 0
none_at_end s e kind m h k = let l = ap length e in absurd (omega arith)

pub end_tokens : (text : List ℕ) → after_gap false text ≡ [] → tokens_of text ≡ []
end_tokens text e = cut_none (λ _. []) (λ t ts. t ∷ ts) text (none_at_end (after_gap false text) e)

pub end_whole : (text : List ℕ) → after_gap false text ≡ [] → is_whole text ≡ true
end_whole text e =
    cut_none ends (λ _ whole. whole) text (none_at_end (after_gap false text) e) ∙ ap ends e

-- the tokens that spell a text are those that it is cut into
pub lexes_tokens : (ts : List Token) (text : List ℕ) → Lexes text ts → tokens_of text ≡ ts
lexes_tokens [] text l = end_tokens text l
lexes_tokens (t ∷ ts) text l =
    let ahead = after_gap false text in
    cut_longest (λ _. []) (λ u us. u ∷ us) text l.0 l.1.0 l.1.1.0 ∙ ap (λ x. x ∷ tokens_of (drop l.1.0 ahead)) (sym l.1.1.1) ∙ ap (λ x. t ∷ x) (lexes_tokens ts (drop l.1.0 ahead) l.1.1.2)

pub lexes_whole : (ts : List Token) (text : List ℕ) → Lexes text ts → is_whole text ≡ true
lexes_whole [] text l = end_whole text l
lexes_whole (t ∷ ts) text l =
    cut_longest ends (λ _ whole. whole) text l.0 l.1.0 l.1.1.0 ∙ lexes_whole ts (drop l.1.0 (after_gap false text)) l.1.1.2

ends_nil : (s : List ℕ) → ends s ≡ true → s ≡ []
ends_nil [] e = refl
ends_nil (b ∷ bs) e = absurd (false≢true e)

module _ (text : List ℕ) (whole : is_whole text ≡ true) where
  whole_end : (first_token (after_gap false text)).1 ≡ 0 → Lexes text (tokens_of text)
  whole_end none =
      let ahead = after_gap false text in
      let longer = subst (NoneLonger ahead) none (best_none_longer ahead (first_token ahead).0 (first_token ahead).1 (first_is_best ahead)) in
      let nil = ends_nil ahead (sym (cut_none ends (λ _ rest. rest) text longer) ∙ whole) in
      subst (Lexes text) (sym (end_tokens text nil)) nil

  whole_more : ((rest : List ℕ) → length rest < length text → is_whole rest ≡ true → Lexes rest (tokens_of rest)) → 0 < (first_token (after_gap false text)).1 → Lexes text (tokens_of text)
  whole_more more some =
      let ahead = after_gap false text in
      let first = first_token ahead in
      let longest = best_is_longest ahead first.0 first.1 some (first_is_best ahead) in
      let rest_whole = sym (cut_longest ends (λ _ rest. rest) text first.0 first.1 longest) ∙ whole in
      let rest = more (drop first.1 ahead) (behind_shorter text some) rest_whole in
      subst (Lexes text) (sym (cut_longest (λ _. []) (λ t ts. t ∷ ts) text first.0 first.1 longest)) (first.0, (first.1, (longest, refl, rest)))

whole_lexes_within : (budget : ℕ) (text : List ℕ) → length text < budget → is_whole text ≡ true → Lexes text (tokens_of text)
whole_lexes_within zero text h whole = absurd (omega arith)
whole_lexes_within (suc budget) text h whole =
    elim (cases_lt 0 (first_token (after_gap false text)).1) [ inl some ↦ whole_more text whole (λ rest less. whole_lexes_within budget rest (omega arith)) some | inr none ↦ whole_end text whole (omega arith) ]

pub whole_lexes : (text : List ℕ) → is_whole text ≡ true → Lexes text (tokens_of text)
whole_lexes text whole = whole_lexes_within (suc (length text)) text (omega arith) whole

-- ---- there are no more tokens than bytes

tokens_at : (n most : ℕ) (t : Token) (rest : List Token) (h : Bool) → eqb n 0 ≡ h → (0 < n → suc (length rest) ≤ most) → length (cond h [] (t ∷ rest)) ≤ most
tokens_at n most t rest true e more = omega arith
tokens_at n most t rest false e more =
    let some : 0 < n = grind (arith, nat_tests) in
    more some

tokens_fit : (budget : ℕ) (text : List ℕ) → length (cut_within (λ _. []) (λ t ts. t ∷ ts) budget text) ≤ length text
tokens_fit zero text = omega arith
tokens_fit (suc budget) text =
    let ahead = after_gap false text in
    let first = first_token ahead in
    let rest = cut_within (λ _. []) (λ t ts. t ∷ ts) budget (drop first.1 ahead) in
    let fits = tokens_fit budget (drop first.1 ahead) in
    tokens_at first.1 (length text) (meaning first.0 (take first.1 ahead)) rest (eqb first.1 0) refl (λ some. let s = behind_shorter text some in omega arith)

pub tokens-le : (text : List ℕ) → length (tokens_of text) ≤ length text
unfolding cut
tokens-le text = tokens_fit (suc (length text)) text
