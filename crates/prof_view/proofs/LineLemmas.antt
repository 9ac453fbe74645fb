-- The lines of a text that count are its first line, if that counts, and those of what stands behind it.
use Rattle.std.proofs.Common.{◌≡◌, ℕ, ◌+◌, Bool, true, false, List, [], ◌∷◌, length, take, drop, map, filter, refl, ◌∙◌, ap, arith}
use Rattle.std.specs.List.{slice_split, position_or_len}
use Rattle.std.proofs.lemmas.List.Sums.{position_or_len_is}
use Rattle.std.proofs.lemmas.List.Elements.{All-from_get_or}
use Rattle.std.proofs.lemmas.List.Splits.{slice_split_first, slice_split_none}
use Rattle.memchr.specs.Find.{Nowhere, NoneBefore, Passes}
use Rattle.prof_view.specs.Lines.{is_line_feed, trim, counts, content, with_line, Lines}

false_where_not_true : (b : Bool) → ¬ (b ≡ true) → b ≡ false
false_where_not_true true h = absurd (h refl)
false_where_not_true false h = refl

abbrev of_lines : Lines → Lines
of_lines lines = filter counts (map trim lines)

pub content_cut : (text : List ℕ) (k : ℕ) → NoneBefore (Passes is_line_feed text) 0 (length text) k → Passes is_line_feed text k → content text ≡ with_line (trim (take k text)) (content (drop (k + 1) text))
unfolding content
content_cut text k none here =
    let high = none.high in
    let e : position_or_len is_line_feed text ≡ k = position_or_len_is is_line_feed text k 0 (omega arith) (λ j h. false_where_not_true _ (none.before j (omega arith) h)) (λ _. here) in
    ap of_lines (slice_split_first is_line_feed text 0 (omega arith) ∙ ap (λ n. take n text ∷ slice_split is_line_feed (drop (n + 1) text)) e)

pub content_of_empty : (text : List ℕ) → length text ≡ 0 → content text ≡ []
unfolding content trim
content_of_empty [] h = refl
content_of_empty (b ∷ bs) h = absurd (omega arith)

pub content_none : (text : List ℕ) → Nowhere (Passes is_line_feed text) 0 (length text) → content text ≡ with_line (trim text) (content [])
unfolding content trim
content_none text none = ap of_lines (slice_split_none is_line_feed text (All-from_get_or (λ b. is_line_feed b ≡ false) text 0 (λ i h. false_where_not_true _ (none i (omega arith) h))))
