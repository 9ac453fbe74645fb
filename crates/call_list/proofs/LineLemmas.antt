-- A text is its first line, and the lines behind the first line feed.
use Rattle.std.proofs.Common.{◌≡◌, ℕ, ◌+◌, ◌<◌, ◌≤◌, Bool, true, false, List, [], ◌∷◌, length, take, drop, refl, sym, ◌∙◌, ap, arith}
use Rattle.std.specs.List.{slice_split, position_or_len}
use Rattle.std.proofs.lemmas.List.Sums.{position_or_len_is}
use Rattle.std.proofs.lemmas.List.Elements.{All-from_get_or}
use Rattle.std.proofs.lemmas.List.Splits.{slice_split_first, slice_split_none}
use Rattle.memchr.specs.Find.{Nowhere, NoneBefore, Passes}
use Rattle.call_list.specs.Lines.{is_line_feed, lines_of}

false_where_not_true : (b : Bool) → ¬ (b ≡ true) → b ≡ false
false_where_not_true true h = absurd (h refl)
false_where_not_true false h = refl

pub lines_of-cut : (text : List ℕ) (k : ℕ) → NoneBefore (Passes is_line_feed text) 0 (length text) k → Passes is_line_feed text k → lines_of text ≡ take k text ∷ lines_of (drop (k + 1) text)
unfolding lines_of
lines_of-cut text k none here =
    let high = none.high in
    let e : position_or_len is_line_feed text ≡ k = position_or_len_is is_line_feed text k 0 (omega arith) (λ j h. false_where_not_true _ (none.before j (omega arith) h)) (λ _. here) in
    slice_split_first is_line_feed text 0 (omega arith) ∙ ap (λ n. take n text ∷ slice_split is_line_feed (drop (n + 1) text)) e

pub lines_of-none : (text : List ℕ) → Nowhere (Passes is_line_feed text) 0 (length text) → lines_of text ≡ text ∷ []
unfolding lines_of
lines_of-none text none = slice_split_none is_line_feed text (All-from_get_or (λ b. is_line_feed b ≡ false) text 0 (λ i h. false_where_not_true _ (none i (omega arith) h)))
