-- The front of a text: a line feed begins no line that counts, and a byte that is no blank begins the next one.
use Rattle.std.proofs.Common.{◌≡◌, ℕ, ◌<◌, Bool, true, false, cond, List, [], ◌∷◌, ◌++◌, length, get_or, drop, map, filter, reverse, refl, sym, ap, ◌∙◌, arith}
use Rattle.std.specs.Prelude.{◌==◌, codes, not}
use Rattle.std.specs.List.{onto_first, slice_split}
use Rattle.std.proofs.lemmas.List.{reverse-append}
use Rattle.prof_view.specs.Grammar.{any_line, next_is}
use Rattle.prof_view.specs.Lines.{Lines, content, counts, is_blank, is_line_feed, skip_blanks, trim}
use Rattle.prof_view.specs.Reads.{BeginsWith}
use Rattle.prof_view.specs.Words.{begins_colon, is_colon}

content_feed : (bs : List ℕ) → content (10 ∷ bs) ≡ content bs
unfolding content trim
content_feed bs = refl

pub feed_skipped : (text : List ℕ) → 0 < length text → get_or text 0 0 ≡ 10 → content (drop 1 text) ≡ content text
feed_skipped [] some feed = absurd (omega arith)
feed_skipped (b ∷ bs) some feed = sym (ap (λ (c : ℕ). content (c ∷ bs)) feed ∙ content_feed bs)

-- # The comments that profiles are written with

pub hash_comment : (rest : List ℕ) → content (codes "# Func Hash:\n" ++ rest) ≡ content rest
unfolding content trim
hash_comment rest = refl

pub number_comment : (rest : List ℕ) → content (codes "# Num Counters:\n" ++ rest) ≡ content rest
unfolding content trim
number_comment rest = refl

pub counters_comment : (rest : List ℕ) → content (codes "# Counter Values:\n" ++ rest) ≡ content rest
unfolding content trim
counters_comment rest = refl

-- # A byte that is no blank

last_kept : (b : ℕ) (ys : List ℕ) → is_blank b ≡ false → (zs : List ℕ) × (skip_blanks (ys ++ b ∷ []) ≡ zs ++ b ∷ [])
last_kept b [] other = ([], ap (λ t. cond t [] (b ∷ [])) other)
last_kept b (y ∷ ys) other = test (is_blank y) (last_kept b ys other)
  where
    test : (t : Bool) → ((zs : List ℕ) × (skip_blanks (ys ++ b ∷ []) ≡ zs ++ b ∷ [])) → (zs : List ℕ) × (cond t (skip_blanks (ys ++ b ∷ [])) (y ∷ (ys ++ b ∷ [])) ≡ zs ++ b ∷ [])
    test true more = more
    test false more = (y ∷ ys, refl)

trim_front : (b : ℕ) (bs : List ℕ) → is_blank b ≡ false → (more : List ℕ) × (trim (b ∷ bs) ≡ b ∷ more)
unfolding trim
trim_front b bs other =
    let (zs, is) = last_kept b (reverse bs) other in (
      reverse zs,
      ap (λ t. reverse (skip_blanks (reverse (cond t (skip_blanks bs) (b ∷ bs))))) other
          ∙ (ap (λ (x : List ℕ). reverse (skip_blanks x)) (reverse-append (b ∷ []) bs) ∙ (ap (λ (x : List ℕ). reverse x) is ∙ reverse-append zs (b ∷ []))),
    )

counted_front : (b : ℕ) (line more : List ℕ) (lines : Lines) → (b == 35) ≡ false → line ≡ b ∷ more → filter counts (line ∷ lines) ≡ (b ∷ more) ∷ filter counts lines
counted_front b line more lines other is =
    ap (λ (l : List ℕ). filter counts (l ∷ lines)) is ∙ ap (λ t. cond (not t) ((b ∷ more) ∷ filter counts lines) (filter counts lines)) other

pub content_front : (b : ℕ) (bs : List ℕ) → is_blank b ≡ false → is_line_feed b ≡ false → (b == 35) ≡ false → BeginsWith b (content (b ∷ bs))
unfolding content
content_front b bs blank feed mark = split_front (is_line_feed b) feed (slice_split is_line_feed bs)
  where
    line_front : (line : List ℕ) (lines : Lines) → BeginsWith b (filter counts (map trim ((b ∷ line) ∷ lines)))
    line_front line lines =
        let (more, is) = trim_front b line blank in
        (more, filter counts (map trim lines), counted_front b (trim (b ∷ line)) more (map trim lines) mark is)

    onto : (parts : Lines) → BeginsWith b (filter counts (map trim (onto_first b parts)))
    onto [] = line_front [] []
    onto (part ∷ parts) = line_front part parts

    split_front : (t : Bool) → t ≡ false → (parts : Lines) → BeginsWith b (filter counts (map trim (cond t ([] ∷ parts) (onto_first b parts))))
    split_front true e parts = cc
    split_front false e parts = onto parts

pub content_begins : (text : List ℕ) → 0 < length text → is_blank (get_or text 0 0) ≡ false → is_line_feed (get_or text 0 0) ≡ false → (get_or text 0 0 == 35) ≡ false →
    BeginsWith (get_or text 0 0) (content text)
content_begins [] some blank feed mark = absurd (omega arith)
content_begins (b ∷ bs) some blank feed mark = content_front b bs blank feed mark

-- # What it shows of the line

pub front_counts : (b : ℕ) (lines : Lines) → BeginsWith b lines → any_line lines ≡ true
front_counts b lines (more, rest, is) = ap any_line is

pub front_colon : (b : ℕ) (lines : Lines) → BeginsWith b lines → next_is begins_colon lines ≡ is_colon b
front_colon b lines (more, rest, is) = ap (next_is begins_colon) is
