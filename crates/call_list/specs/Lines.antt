-- The lines of a calls text, and the words of a line.
use Rattle.std.specs.Prelude.{ℕ, Bool, not, ◌||◌, List, length, filter, ◌==◌}
use Rattle.std.specs.List.{slice_split}

abbrev pub is_blank : ℕ → Bool
is_blank b = (b == 32) || (b == 9)

abbrev pub is_line_feed : ℕ → Bool
is_line_feed b = b == 10

-- the parts between the line feeds
unfoldable pub lines_of : List ℕ → List (List ℕ)
lines_of text = slice_split is_line_feed text

-- the parts between the blanks that aren't empty
unfoldable pub words_of : List ℕ → List (List ℕ)
words_of line = filter (λ w. not (length w == 0)) (slice_split is_blank line)
