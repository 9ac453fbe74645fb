use Rattle.std.proofs.Common.{◌≡◌, ℕ, ◌+◌, ◌-◌, ◌<◌, ◌≤◌, true, false, List, [], ◌∷◌, length, take, drop, refl, sym, ap, ◌∙◌, subst, arith, length-drop, drop-drop}
use Rattle.ir_lex.specs.declared.token.TokenKind.{TokenKind}
use Rattle.ir_lex.specs.Tokens.{Token}
use Rattle.ir_lex.specs.Spelling.{ends, after_gap, NoneLonger, IsLongest}
use Rattle.ir_lex.specs.Next.{Place, IsNext, IsAtEnd, NothingNext}
use Rattle.ir_lex.specs.Meaning.{meaning}
use Rattle.ir_lex.specs.Cut.{tokens_of, is_whole}
use Rattle.ir_lex.specs.Laws.{TokensAreCut, CutIsSpelled}
use Rattle.ir_read.specs.Ahead.{behind}

behind_at : (old new : Place) (end : ℕ) → new.text ≡ old.text → new.at ≡ end → drop end old.text ≡ behind new
behind_at old new end e f =
    ap (λ x. drop x old.text) (sym f) ∙ ap (λ x. drop new.at x) (sym e)

-- the tokens behind a place, where the next one was found
module _ (cuts : TokensAreCut) (old new : Place) (kind : TokenKind) (start end : ℕ) (bytes : List ℕ) (next : IsNext old kind start end bytes) (same_text : new.text ≡ old.text) (after : new.at ≡ end) where
  ahead_is : after_gap false (behind old) ≡ drop start old.text
  ahead_is = sym next.behind_gap

  bytes_same : take (end - start) (after_gap false (behind old)) ≡ bytes
  bytes_same = ap (λ x. take (end - start) x) ahead_is ∙ sym next.slice

  rest_same : drop (end - start) (after_gap false (behind old)) ≡ behind new
  rest_same =
      let n = next.nonempty in
      let there : start + (end - start) ≡ end = omega arith in
      ap (λ x. drop (end - start) x) ahead_is ∙ drop-drop (end - start) start old.text ∙ ap (λ x. drop x old.text) there ∙ behind_at old new end same_text after

  longest : IsLongest (after_gap false (behind old)) kind (end - start)
  longest = subst (λ x. IsLongest x kind (end - start)) next.behind_gap next.longest

  pub next_tokens : (t : Token) → t ≡ meaning kind bytes → t ∷ tokens_of (behind new) ≡ tokens_of (behind old)
  next_tokens t e =
      let means : meaning kind (take (end - start) (after_gap false (behind old))) ≡ t =
      ap (λ x. meaning kind x) bytes_same ∙ sym e in
      sym (cuts.first (behind old) kind (end - start) longest ∙ ap (λ x. x ∷ tokens_of (drop (end - start) (after_gap false (behind old)))) means ∙ ap (λ x. t ∷ tokens_of x) rest_same)

  pub next_whole : is_whole (behind new) ≡ is_whole (behind old)
  next_whole = sym (cuts.first_whole (behind old) kind (end - start) longest ∙ ap is_whole rest_same)

pub at_end_tokens : CutIsSpelled → (place : Place) → IsAtEnd place → [] ≡ tokens_of (behind place)
at_end_tokens spelled place h = sym (spelled.cut (behind place) [] h)

pub at_end_whole : CutIsSpelled → (place : Place) → IsAtEnd place → true ≡ is_whole (behind place)
at_end_whole spelled place h = sym (spelled.whole (behind place) [] h)

none_behind : (place : Place) (at : ℕ) → NothingNext place at → NoneLonger (after_gap false (behind place)) 0
none_behind place at none = subst (λ x. NoneLonger x 0) none.behind_gap none.none

pub none_tokens : TokensAreCut → (place : Place) (at : ℕ) → NothingNext place at → [] ≡ tokens_of (behind place)
none_tokens cuts place at none = sym (cuts.none (behind place) (none_behind place at none))

ends_some : (s : List ℕ) → 0 < length s → ends s ≡ false
ends_some [] h = absurd (omega arith)
ends_some (b ∷ bs) h = refl

pub none_whole : TokensAreCut → (place : Place) (at : ℕ) → NothingNext place at → false ≡ is_whole (behind place)
none_whole cuts place at none =
    let l = ap length (sym none.behind_gap) ∙ length-drop at place.text in
    let w = none.within in
    let some : 0 < length (after_gap false (behind place)) = omega arith in
    sym (cuts.none_whole (behind place) (none_behind place at none) ∙ ends_some (after_gap false (behind place)) some)

behind_start : (place : Place) (text : List ℕ) → place.text ≡ text → place.at ≡ 0 → behind place ≡ text
behind_start place text e f = ap (λ x. drop x place.text) f ∙ e

pub start_tokens : (place : Place) (text : List ℕ) → place.text ≡ text → place.at ≡ 0 → tokens_of (behind place) ≡ tokens_of text
start_tokens place text e f = ap tokens_of (behind_start place text e f)

pub start_tokens-le : TokensAreCut → (place : Place) (text : List ℕ) → place.text ≡ text → place.at ≡ 0 → (ts : List Token) → ts ≡ tokens_of (behind place) → length ts ≤ length text
start_tokens-le cuts place text e f ts same =
    subst (λ x. length x ≤ length text) (sym (same ∙ start_tokens place text e f)) (cuts.few text)
